-- The first frame of a thread.
use Rattle.std.proofs.Common.{◌≡◌, ℕ, false, List, [], ◌∷◌, Some, None, sym, ap, ◌∙◌, arith}
use Rattle.std.specs.Prelude.{nat_lt, replicate}
use Rattle.std.specs.Option.{option_map}
use Rattle.jx_base.specs.declared.frame.Frame.{Frame}
use Rattle.jx_base.specs.declared.program.System.{System}
use Rattle.jx_base.specs.declared.value.Value.{Value}
use Rattle.jx_base.specs.Basics.{passes}
use Rattle.machine_laws.proofs.NumericValues.{then_some, mapped_some}
use Rattle.machine_model.specs.NumericRows.{Stack, depth_of}
use Rattle.machine_model.specs.State.{code_of, frame_of, frame_with, is_overfull, locals_with, stack_limit}

module _ (s : System) (m : ℕ) (arguments : List Value) (f : Frame) (first : frame_of s m arguments ≡ Some f) where
  empty_stack : f.stack.values ≡ []
  unfolding frame_of frame_with
  empty_stack =
      let c = then_some (code_of s m) (λ c. option_map (frame_with m c) (locals_with (replicate c.max_locals None) 0 arguments)) f first in
      let l = mapped_some (frame_with m c.0) (locals_with (replicate c.0.max_locals None) 0 arguments) f c.2 in
      ap (λ (f : Frame). f.stack.values) (sym l.2)

  pub first_fits : (frames : List Frame) → frames ≡ f ∷ [] → is_overfull s frames ≡ false
  unfolding is_overfull passes depth_of
  first_fits frames e = ap (is_overfull s) e ∙ ap (λ (k : Stack). nat_lt (stack_limit s f) (depth_of k)) empty_stack ∙ none (stack_limit s f)
    where
      none : (n : ℕ) → nat_lt n 0 ≡ false
      none n = grind arith
