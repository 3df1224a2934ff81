use Rattle.std.proofs.Common.{◌∙◌, sym}
use Rattle.interp_core.specs.Cores.{core_state}
use Rattle.program_model.specs.BuiltIn.{built_in_count}
use Rattle.std.proofs.lemmas.Result.{IfOk-weaker}
use Rattle.machine_calls.proofs.Selection.{abstract_comes, begun_comes, built_in_comes, none_comes}
use Rattle.machine_calls.proofs.selected.begin_selected.Goals as goal

pub returns-in_default : goal.returns-in_default
returns-in_default c =
    let old = core_state c.args.core.now in none_comes c.args.system.now old old c.args.place c.args.arguments.now (sym c.in_default.ensures)

pub returns-then-is_abstract : goal.returns-then-is_abstract
returns-then-is_abstract c =
    let old = core_state c.args.core.now in
    abstract_comes c.args.system.now old old c.args.place c.args.arguments.now c.in-Some.method.now (sym c.in-Some.ensures) (sym c.is_abstract.ensures ∙ c.if-is_abstract.true)

pub returns-then-method-lt-BUILT_IN_COUNT : goal.returns-then-method-lt-BUILT_IN_COUNT
unfolding built_in_count
returns-then-method-lt-BUILT_IN_COUNT c =
    let old = core_state c.args.core.now in let new = core_state c.run_selected.new.core in
    IfOk-weaker c.run_selected.result _ _ (λ g h. built_in_comes c.args.system.now old new c.args.place c.args.arguments.now c.in-Some.method.now (sym c.in-Some.ensures) g
    (sym c.is_abstract.ensures ∙ c.if-is_abstract.false) c.if-method-lt-BUILT_IN_COUNT.true h) c.run_selected.ensures

pub returns-else-method-lt-BUILT_IN_COUNT : goal.returns-else-method-lt-BUILT_IN_COUNT
unfolding built_in_count
returns-else-method-lt-BUILT_IN_COUNT c =
    let old = core_state c.args.core.now in let new = core_state c.begin_method.new.core in
    IfOk-weaker c.begin_method.result _ _ (λ g h. begun_comes c.args.system.now old new c.args.place c.args.arguments.now c.in-Some.method.now (sym c.in-Some.ensures) g
    (sym c.is_abstract.ensures ∙ c.if-is_abstract.false) c.if-method-lt-BUILT_IN_COUNT.false h) c.begin_method.ensures
