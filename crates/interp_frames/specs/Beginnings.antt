-- How a method begins in a thread without frames.
use Rattle.std.specs.Prelude.{◌≡◌, ℕ, true, false, List, [], ◌∷◌, Some, None}
use Rattle.jx_base.specs.declared.frame.Frame.{Frame}
use Rattle.jx_base.specs.declared.program.System.{System}
use Rattle.jx_base.specs.declared.value.Value.{Value}
use Rattle.machine_model.specs.State.{Core, frame_of, is_overflow, is_overfull}
use Rattle.interp_frames.specs.declared.beginning.Begun.{Begun}
use Rattle.interp_frames.specs.declared.beginning.Begun.TheVariants as begun

-- a frame of the method is there, alone and within all limits, and the store is as it was
pub record IsGoing (s : System) (m : ℕ) (arguments : List Value) (old new : Core) : Type 0 where
  pub within : is_overflow s m [] ≡ false
  pub frame : Frame
  pub first : frame_of s m arguments ≡ Some frame
  pub frames : new.frames ≡ frame ∷ []
  pub fits : is_overfull s new.frames ≡ false
  pub store : new.store ≡ old.store

-- the method has no code, or its arguments no room in its locals
pub record HasNoPlace (s : System) (m : ℕ) (arguments : List Value) (old new : Core) : Type 0 where
  pub within : is_overflow s m [] ≡ false
  pub none : frame_of s m arguments ≡ None
  pub same : new ≡ old

-- the answer and the core that is left are how the method begins
abbrev pub Begins : System → ℕ → List Value → Begun → Core → Core → Type 0
Begins s m arguments begun.Going old new = IsGoing s m arguments old new
Begins s m arguments begun.Overflow old new = (is_overflow s m [] ≡ true) × (new ≡ old)
Begins s m arguments begun.NoPlace old new = HasNoPlace s m arguments old new
