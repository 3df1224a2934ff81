use Rattle.std.proofs.Common.{◌∙◌, ap, sym, subst, ℕ, Some}
use Rattle.std.specs.Prelude.{IfOk}
use Rattle.machine_model.specs.ObjectRows.{ObjectOutcome}
use Rattle.machine_model.specs.State.{class_of_shape}
use Rattle.interp_core.specs.Cores.{core_state, running_stack, store_of}
use Rattle.interp_core.specs.Steps.{Gives}
use Rattle.interp_obj.specs.Calls.{taken}
use Rattle.interp_obj.proofs.Invocations.{no_class, none_selected, one_selected, selected_calls}
use Rattle.interp_obj.proofs.calls.call_selected.Goals as goal

pub returns-in_default : goal.returns-in_default
returns-in_default c =
    let core = core_state c.args.core.now in
    no_class c.args.system.now core c.args.method.now c.args.object (taken c.args.arguments.now (running_stack core))
    (ap class_of_shape (sym c.shape_of.ensures) ∙ sym c.in_default.ensures)

pub returns-in_default-selected_method : goal.returns-in_default-selected_method
returns-in_default-selected_method c =
    let core = core_state c.args.core.now in
    none_selected c.args.system.now core c.args.method.now c.args.object (taken c.args.arguments.now (running_stack core)) c.in-Some.class
    (ap class_of_shape (sym c.shape_of.ensures) ∙ sym c.in-Some.ensures) (sym c.in_default-selected_method.ensures)

pub run_method-requires-clause-call : goal.run_method-requires-clause-call
run_method-requires-clause-call c =
    selected_calls c.args.system.now (store_of c.args.core.now) c.args.method.now c.args.object c.args.arguments.now c.requires.call c.in-Some.class c.in_ok-place.place
    (ap class_of_shape (sym c.shape_of.ensures) ∙ sym c.in-Some.ensures) (sym c.in-Some-selected_method.ensures ∙ ap (λ (n : ℕ). Some n) (sym c.in_ok-place.ensures))

pub returns : goal.returns
returns c =
    let core = core_state c.args.core.now in
    let row = one_selected c.args.system.now core c.args.method.now c.args.object (taken c.args.arguments.now (running_stack core)) c.in-Some.class c.in_ok-place.place
    (ap class_of_shape (sym c.shape_of.ensures) ∙ sym c.in-Some.ensures) (sym c.in-Some-selected_method.ensures ∙ ap (λ (n : ℕ). Some n) (sym c.in_ok-place.ensures)) in
    subst (λ (r : ObjectOutcome). IfOk c.run_method.result (λ x. Gives x core (core_state c.run_method.new.core) r)) (sym row) c.run_method.ensures
