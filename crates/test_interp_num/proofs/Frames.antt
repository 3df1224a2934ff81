-- A frame within the limits of its method.
use Rattle.std.proofs.Common.{◌≡◌, ℕ, ◌∙◌, refl, sym, ap, subst, Option, Some, None, arith}
use Rattle.std.specs.Prelude.{IsSome, IsSomeAnd}
use Rattle.std.specs.Option.{option_map, unwrap_or}
use Rattle.jx_base.specs.declared.class_file.Code.{Code}
use Rattle.jx_base.specs.declared.program.System.{System}
use Rattle.jx_base.specs.declared.frame.Frame.{Frame}
use Rattle.machine_model.specs.State.{code_of, stack_limit}
use Rattle.machine_model.specs.Conditions.{IsFrameOf, local_count}
use Rattle.test_interp_num.specs.Small.{HasLimits, IsFrameWithin}

code_is : (o : Option Code) (stack locals : ℕ) → IsSomeAnd o (λ c. (c.max_stack ≡ stack) × (c.max_locals ≡ locals)) → IsSome o × (unwrap_or (option_map (λ c. c.max_stack) o) 0 ≡ stack) × (unwrap_or (option_map (λ c. c.max_locals) o) 0 ≡ locals)
code_is (Some c) stack locals h = (refl, h.0, h.1)
code_is None stack locals h = absurd h

pub is_frame : (s : System) (f : Frame) (stack locals : ℕ) → HasLimits stack locals s → IsFrameWithin stack locals f → IsFrameOf s f
unfolding stack_limit local_count
is_frame s f stack locals h k =
    let code = code_is (code_of s 0) stack locals h in
    let here : code_of s f.method ≡ code_of s 0 = ap (λ n. code_of s n) k.method in
    let most : stack_limit s f ≡ stack = ap (λ (o : Option Code). unwrap_or (option_map (λ c. c.max_stack) o) 0) here ∙ code.1 in
    let count : local_count s f ≡ locals = ap (λ (o : Option Code). unwrap_or (option_map (λ c. c.max_locals) o) 0) here ∙ code.2 in
    record {
      method = subst (λ (o : Option Code). IsSome o) (sym here) code.0;
      locals = k.count ∙ sym count;
      depth = omega (arith, most, k.depth);
      room = omega (arith, most, k.room);
    }

pub ruleset frames = (is_frame)
