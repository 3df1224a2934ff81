-- Who catches a thrown object, and the frames that are left.
use Rattle.std.specs.Prelude.{◌≡◌, ◌≢◌, ℕ, true, false, List, [], ◌∷◌}
use Rattle.jx_base.specs.declared.frame.Frame.{Frame}
use Rattle.jx_base.specs.declared.program.System.{System}
use Rattle.jx_base.specs.declared.value.Value.TheVariants as value
use Rattle.machine_model.specs.State.{is_overfull, with_values}
use Rattle.interp_frames.specs.declared.throwing.Caught.{Caught}
use Rattle.interp_frames.specs.declared.throwing.Caught.TheVariants as caught

-- the frame at a handler, with the object alone on its stack
abbrev pub at_handler : ℕ → ℕ → Frame → Frame
at_handler handler r f = record (with_values (value.Ref r ∷ []) f) { pc = handler }

-- the frames are those from the catching one on, and its stack is not deeper than it may be
pub record IsCaught (s : System) (new after : List Frame) : Type 0 where
  pub frames : new ≡ after
  pub some : after ≢ []
  pub fits : is_overfull s after ≡ false

-- the answer and the frames that are left, where `after` are those from the catching one on; where its stack is too deep, what is left is open
abbrev pub Catches : System → Caught → List Frame → List Frame → Type 0
Catches s caught.Here new after = IsCaught s new after
Catches s caught.Overfull new after = is_overfull s after ≡ true
Catches s caught.Nowhere new after = (after ≡ []) × (new ≡ [])
