use Rattle.std.proofs.Common.{◌∙◌, Option, sym, ap}
use Rattle.jx_base.specs.declared.value.Value.{Value}
use Rattle.interp_core.specs.Cores.{core_state, running_stack}
use Rattle.interp_access.specs.Nested.{is_negative}
use Rattle.interp_access.proofs.NestedLaws.{negative_on, negative_at, none_negative}
use Rattle.interp_access.proofs.nested.has_negative.Goals as goal

pub returns-then-is_negative : goal.returns-then-is_negative
returns-then-is_negative c =
    let stack = running_stack (core_state c.args.core.now) in
    let yes = c.if-is_negative.ensures ∙ ap (λ (o : Option Value). is_negative o) c.peek.ensures in
    sym (negative_at stack c.args.count c.loop-above.above c.loop-above-test.true yes) ∙ c.loop-above.invariant

pub loop-above-preserved : goal.loop-above-preserved
loop-above-preserved c =
    let stack = running_stack (core_state c.args.core.now) in
    let no = c.if-is_negative.ensures ∙ ap (λ (o : Option Value). is_negative o) c.peek.ensures in
    sym (negative_on stack c.args.count c.loop-above.above c.loop-above-test.true no) ∙ c.loop-above.invariant

pub returns : goal.returns
returns c = sym (none_negative (running_stack (core_state c.args.core.now)) c.args.count c.loop-above.above c.loop-above-test.false) ∙ c.loop-above.invariant
