-- A value fills a slot at least, so there is room for it.
use Rattle.std.proofs.Common.{arith, ap, ◌≡◌, ◌+◌, ◌≤◌, ◌<◌, length}
use Rattle.jx_base.specs.Stacks.{StackState}
use Rattle.machine_model.specs.NumericRows.{depth_of}
use Rattle.interp_num.proofs.Depths.{depth_cons, some_slot, length_within}
use Rattle.test_interp_num.proofs.running.pushed.Goals as goal

pub push-requires : goal.push-requires
push-requires c =
    omega (arith, length_within c.args.operands.now.values, some_slot c.args.value)

pub returns-clause-left : goal.returns-clause-left
returns-clause-left c =
    let depth = ap (λ (s : StackState). depth_of s.values) c.push.ensures in
    omega (arith, depth_cons c.args.value c.args.operands.now.values)
