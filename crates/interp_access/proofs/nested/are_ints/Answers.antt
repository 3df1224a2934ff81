use Rattle.std.proofs.Common.{◌∙◌, sym, ap}
use Rattle.jx_base.specs.declared.value.Value.{Value}
use Rattle.std.proofs.Common.{Option}
use Rattle.interp_core.specs.Cores.{core_state, running_stack}
use Rattle.interp_access.specs.Nested.{is_int}
use Rattle.interp_access.proofs.NestedLaws.{int_on, no_int, all_ints}
use Rattle.interp_access.proofs.nested.are_ints.Goals as goal

pub returns-then-not-is_int : goal.returns-then-not-is_int
returns-then-not-is_int c =
    let stack = running_stack (core_state c.args.core.now) in
    let no = c.if-not-is_int.ensures ∙ ap (λ (o : Option Value). is_int o) c.peek.ensures in
    sym (no_int stack c.args.count c.loop-above.above c.loop-above-test.true no) ∙ c.loop-above.invariant

pub loop-above-preserved : goal.loop-above-preserved
loop-above-preserved c =
    let stack = running_stack (core_state c.args.core.now) in
    let yes = c.if-not-is_int.ensures ∙ ap (λ (o : Option Value). is_int o) c.peek.ensures in
    sym (int_on stack c.args.count c.loop-above.above c.loop-above-test.true yes) ∙ c.loop-above.invariant

pub returns : goal.returns
returns c = sym (all_ints (running_stack (core_state c.args.core.now)) c.args.count c.loop-above.above c.loop-above-test.false) ∙ c.loop-above.invariant
