use Rattle.std.proofs.Common.{◌∙◌, ap, sym, subst}
use Rattle.std.specs.Prelude.{IfOk}
use Rattle.jx_base.specs.declared.row.Invocation.{Invocation}
use Rattle.machine_model.specs.ObjectRows.{ObjectOutcome, invoke_row}
use Rattle.interp_core.specs.Cores.{core_state, running_stack}
use Rattle.interp_core.specs.Steps.{Gives}
use Rattle.interp_obj.proofs.Invocations.{calls_instance, calls_static, no_called, no_selector}
use Rattle.interp_obj.proofs.calls.invoke.Goals as goal

pub returns-in_default : goal.returns-in_default
returns-in_default c =
    let core = core_state c.args.core.now in
    no_called c.args.system.now core c.args.place (running_stack core) c.args.kind (sym c.in_default.ensures)

pub returns-in_default-selector_at : goal.returns-in_default-selector_at
returns-in_default-selector_at c =
    let core = core_state c.args.core.now in
    no_selector c.args.system.now core c.args.place (running_stack core) c.args.kind c.in-Some.method.now (sym c.in-Some.ensures) (sym c.in_default-selector_at.ensures)

pub returns-in-Static : goal.returns-in-Static
returns-in-Static c =
    let s = c.args.system.now in let core = core_state c.args.core.now in
    let row = ap (λ (kind : Invocation). invoke_row s core kind c.args.place (running_stack core)) c.in-Static.is
    ∙ calls_static s core c.args.place c.in-Some.method.now c.in-Some-selector_at.selector.now (sym c.in-Some.ensures) (sym c.in-Some-selector_at.ensures) in
    subst (λ (r : ObjectOutcome). IfOk c.call_static.result (λ x. Gives x core (core_state c.call_static.new.core) r)) (sym row) c.call_static.ensures

pub returns-in_default-kind : goal.returns-in_default-kind
returns-in_default-kind c =
    let s = c.args.system.now in let core = core_state c.args.core.now in
    let row = calls_instance s core c.args.place c.in-Some.method.now c.in-Some-selector_at.selector.now (sym c.in-Some.ensures) (sym c.in-Some-selector_at.ensures) c.args.kind c.in_default-kind.not-Static in
    subst (λ (r : ObjectOutcome). IfOk c.call_instance.result (λ x. Gives x core (core_state c.call_instance.new.core) r)) (sym row) c.call_instance.ensures
