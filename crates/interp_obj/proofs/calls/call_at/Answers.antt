use Rattle.std.proofs.Common.{◌∙◌, ap, sym, subst, drop, List}
use Rattle.std.specs.Prelude.{IfOk}
use Rattle.std.proofs.lemmas.List.Elements.{All-drop, All-same}
use Rattle.machine_model.specs.Conditions.{IsHeldBy}
use Rattle.jx_base.specs.declared.row.Invocation.{Invocation}
use Rattle.interp_core.specs.Cores.{core_state, running_stack, store_of}
use Rattle.interp_core.specs.Steps.{Gives}
use Rattle.machine_model.specs.ObjectRows.{ObjectOutcome, invoke_at, portal_row}
use Rattle.jx_base.specs.declared.row.Invocation.TheVariants as invocation
use Rattle.jx_base.specs.declared.value.Value.{Value}
use Rattle.interp_obj.specs.Calls.{taken}
use Rattle.interp_obj.proofs.Held.{objects_closed}
use Rattle.interp_obj.proofs.Invocations.{class_selects, others_select, portal_asks, special_calls, special_runs, without_object}
use Rattle.interp_obj.proofs.calls.call_at.Goals as goal

pub run_method-requires-clause-call : goal.run_method-requires-clause-call
run_method-requires-clause-call c =
    special_calls c.args.system.now (store_of c.args.core.now) c.args.method.now c.args.object c.args.arguments.now c.requires.call c.requires.system c.args.place c.requires.method
    c.requires.fit

pub call_portal-requires-clause-objects : goal.call_portal-requires-clause-objects
call_portal-requires-clause-objects c = objects_closed (core_state c.args.core.now) c.requires.core.core.references

pub call_portal-requires-clause-arguments : goal.call_portal-requires-clause-arguments
call_portal-requires-clause-arguments c =
    let P = IsHeldBy (store_of c.args.core.now) in
    let args = c.args.arguments.now in
    All-same P _ (drop 1 args) (without_object args) (All-drop P 1 args c.requires.call.held)

pub returns-in-Special : goal.returns-in-Special
returns-in-Special c =
    let s = c.args.system.now in let core = core_state c.args.core.now in let k = c.args.method.now in let x = taken c.args.arguments.now (running_stack core) in
    let row = ap (λ (kind : Invocation). invoke_at s core kind c.args.place k c.args.object x) c.in-Special.is ∙ special_runs s core c.args.place k c.args.object x in
    subst (λ (r : ObjectOutcome). IfOk c.run_method.result (λ x. Gives x core (core_state c.run_method.new.core) r)) (sym row) c.run_method.ensures

pub returns-in-Portal : goal.returns-in-Portal
returns-in-Portal c =
    let s = c.args.system.now in let core = core_state c.args.core.now in let k = c.args.method.now in let x = taken c.args.arguments.now (running_stack core) in
    let row = ap (λ (kind : Invocation). invoke_at s core kind c.args.place k c.args.object x) c.in-Interface.is
    ∙ ap (λ (o : Value). invoke_at s core invocation.Interface c.args.place k o x) c.in-Portal.is
    ∙ portal_asks s core c.args.place k c.in-Portal.service c.in-Portal.field-1 x
    ∙ ap (λ (args : List Value). portal_row core c.in-Portal.service k args) (sym (without_object c.args.arguments.now)) in
    subst (λ (r : ObjectOutcome). IfOk c.call_portal.result (λ x. Gives x core core r)) (sym row) c.call_portal.ensures

pub returns-in_default : goal.returns-in_default
returns-in_default c =
    let s = c.args.system.now in let core = core_state c.args.core.now in let k = c.args.method.now in let x = taken c.args.arguments.now (running_stack core) in
    let row = ap (λ (kind : Invocation). invoke_at s core kind c.args.place k c.args.object x) c.in-Interface.is ∙ others_select s core c.args.place k c.args.object x c.in_default.not-Portal in
    subst (λ (r : ObjectOutcome). IfOk c.call_selected.result (λ x. Gives x core (core_state c.call_selected.new.core) r)) (sym row) c.call_selected.ensures

pub returns-in-Virtual : goal.returns-in-Virtual
returns-in-Virtual c =
    let s = c.args.system.now in let core = core_state c.args.core.now in let k = c.args.method.now in let x = taken c.args.arguments.now (running_stack core) in
    let row = class_selects s core c.args.place k c.args.object x c.args.kind c.in-Virtual.is in
    subst (λ (r : ObjectOutcome). IfOk c.call_selected-in-Virtual.result (λ x. Gives x core (core_state c.call_selected-in-Virtual.new.core) r)) (sym row) c.call_selected-in-Virtual.ensures
