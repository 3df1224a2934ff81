use Rattle.std.proofs.Common.{◌∙◌, sym, subst}
use Rattle.std.specs.Prelude.{IfOk}
use Rattle.machine_model.specs.ObjectRows.{ObjectOutcome}
use Rattle.program_model.specs.BuiltIn.{built_in_count}
use Rattle.program_model.specs.Lookup.{method_at}
use Rattle.interp_core.specs.Cores.{core_state, running_stack, store_of}
use Rattle.interp_core.specs.Steps.{Gives}
use Rattle.interp_obj.specs.Calls.{CallsBuiltIn, taken}
use Rattle.interp_obj.proofs.Invocations.{if_found, no_method, run_abstract, run_built_in, run_entered}
use Rattle.interp_obj.proofs.running.run_method.Goals as goal

pub returns-in_default : goal.returns-in_default
returns-in_default c =
    let core = core_state c.args.core.now in
    no_method c.args.system.now core c.args.place (taken c.args.arguments.now (running_stack core)) (sym c.in_default.ensures)

pub call_built_in-requires-clause-call : goal.call_built_in-requires-clause-call
call_built_in-requires-clause-call c =
    if_found (method_at c.args.system.now c.args.place) c.in-Some.method.now (CallsBuiltIn c.args.system.now (store_of c.args.core.now) c.args.arguments.now) (sym c.in-Some.ensures)
    c.requires.call

pub returns-then-is_abstract : goal.returns-then-is_abstract
returns-then-is_abstract c =
    let core = core_state c.args.core.now in
    run_abstract c.args.system.now core c.args.place (taken c.args.arguments.now (running_stack core)) c.in-Some.method.now (sym c.in-Some.ensures)
    (sym c.is_abstract.ensures ∙ c.if-is_abstract.true)

pub returns-then-method-lt-BUILT_IN_COUNT : goal.returns-then-method-lt-BUILT_IN_COUNT
unfolding built_in_count
returns-then-method-lt-BUILT_IN_COUNT c =
    let core = core_state c.args.core.now in
    let row = run_built_in c.args.system.now core c.args.place (taken c.args.arguments.now (running_stack core)) c.in-Some.method.now (sym c.in-Some.ensures)
    (sym c.is_abstract.ensures ∙ c.if-is_abstract.false) c.if-method-lt-BUILT_IN_COUNT.true in
    subst (λ (r : ObjectOutcome). IfOk c.call_built_in.result (λ x. Gives x core (core_state c.call_built_in.new.core) r)) (sym row) c.call_built_in.ensures

pub returns-else-method-lt-BUILT_IN_COUNT : goal.returns-else-method-lt-BUILT_IN_COUNT
unfolding built_in_count
returns-else-method-lt-BUILT_IN_COUNT c =
    let core = core_state c.args.core.now in
    let row = run_entered c.args.system.now core c.args.place (taken c.args.arguments.now (running_stack core)) c.in-Some.method.now (sym c.in-Some.ensures)
    (sym c.is_abstract.ensures ∙ c.if-is_abstract.false) c.if-method-lt-BUILT_IN_COUNT.false in
    subst (λ (r : ObjectOutcome). IfOk c.enter.result (λ x. Gives x core (core_state c.enter.new.core) r)) (sym row) c.enter.ensures

pub call_built_in-requires-clause-built_in : goal.call_built_in-requires-clause-built_in
unfolding built_in_count
call_built_in-requires-clause-built_in c = c.if-method-lt-BUILT_IN_COUNT.true
