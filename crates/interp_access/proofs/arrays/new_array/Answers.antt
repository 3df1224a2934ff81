use Rattle.std.proofs.Common.{rules, to_z, of_z, ◌≡◌, ◌∙◌, ℕ, Option, Some, None, refl, sym, ap, drop}
use Rattle.std.proofs.lemmas.Int.{to_z-of_z}
use Rattle.std.specs.Int.{w32}
use Rattle.std.specs.Option.{option_map}
use Rattle.std.specs.Prelude.{FitsSigned, ℤ}
use Rattle.jx_base.specs.declared.ids.ClassId.{ClassId}
use Rattle.program_model.specs.BuiltIn.{negative_size_exception}
use Rattle.machine_model.specs.ObjectRows.{given, leaves_new}
use Rattle.machine_model.specs.State.{new_array}
use Rattle.interp_core.specs.Cores.{core_state, running_stack}
use Rattle.interp_access.proofs.RowForms.{as_length_of, new_array_is, or_negative}
use Rattle.interp_access.proofs.Tops.{same_frames, same_step}
use Rattle.interp_access.proofs.arrays.new_array.Goals as goal

length : (n : ℤ) → FitsSigned w32 n → as_length_of n ≡ as_length_of (to_z w32 (of_z w32 n))
length n fits = ap as_length_of (sym (to_z-of_z w32 n fits))

pub returns-in_default : goal.returns-in_default
unfolding given
returns-in_default c kind e f = new_array_is c.args.system.now (core_state c.args.core.now) kind (running_stack (core_state c.args.core.now)) None _ c.args.element c.in_default.ensures e f

pub returns-in_default-as_length : goal.returns-in_default-as_length
unfolding given negative_size_exception
returns-in_default-as_length c kind e f =
    let fits : FitsSigned w32 c.in-Some.count = search rules in
    let s = c.args.system.now in let core = core_state c.args.core.now in
    let found = option_map (λ (x : ClassId). x.0) c.args.class in (
      new_array_is s core kind (running_stack core) (Some c.in-Some.count) found c.args.element c.in-Some.ensures e f
          ∙ ap (λ (o : Option ℕ). or_negative o (λ k. given found (λ x. leaves_new s core (drop 1 (running_stack core)) (new_array core.store x k c.args.element)))) (length c.in-Some.count fits ∙ sym c.in_default-as_length.ensures),
      refl,
    )

pub returns-in_default-class : goal.returns-in_default-class
unfolding given
returns-in_default-class c kind e f =
    let fits : FitsSigned w32 c.in-Some.count = search rules in
    let s = c.args.system.now in let core = core_state c.args.core.now in
    let none = ap (option_map (λ (x : ClassId). x.0)) (sym c.in_default-class.is) ∙ e in
    new_array_is s core kind (running_stack core) (Some c.in-Some.count) None c.args.element c.in-Some.ensures none f
    ∙ ap (λ (o : Option ℕ). or_negative o (λ k. given None (λ x. leaves_new s core (drop 1 (running_stack core)) (new_array core.store x k c.args.element)))) (length c.in-Some.count fits ∙ sym c.in-Some-as_length.ensures)

pub returns : goal.returns
unfolding given
returns c kind e f =
    let fits : FitsSigned w32 c.in-Some.count = search rules in
    let s = c.args.system.now in let core = core_state c.args.core.now in
    let class = c.in-Some-class.class.0 in let n = c.in-Some-as_length.count in
    let some = ap (option_map (λ (x : ClassId). x.0)) (sym c.in-Some-class.is) ∙ e in
    let row =
    new_array_is s core kind (running_stack core) (Some c.in-Some.count) (Some class) c.args.element c.in-Some.ensures some f
    ∙ ap (λ (o : Option ℕ). or_negative o (λ k. given (Some class) (λ x. leaves_new s core (drop 1 (running_stack core)) (new_array core.store x k c.args.element)))) (length c.in-Some.count fits ∙ sym c.in-Some-as_length.ensures) in
    same_step c.leave_new.result core (core_state c.leave_new.new.core) _ (leaves_new s core (drop 1 (running_stack core)) (new_array core.store class n c.args.element)) row
    (c.leave_new.ensures core (new_array core.store class n c.args.element) (same_frames c.args.core.now c.make_array-made.new.core c.make_array-made.ensures.frames) c.make_array-made.ensures.made)
