use Rattle.std.proofs.Common.{arith, ap, ◌<◌, length, sum_by}
use Rattle.std.proofs.lemmas.Bool.Decides.{nat_tests}
use Rattle.std.proofs.lemmas.List.Sums.{sum_by_more_le, sum_by_more}
use Rattle.program_model.specs.ParcelParts.{node_size}
use Rattle.param_copy.proofs.unpacking.have_room.Goals as goal

pub returns-then-size-left : goal.returns-then-size-left
unfolding node_size
returns-then-size-left c =
    let nodes = c.args.nodes.now in let item = c.node-item.result in
    let more = sum_by_more_le node_size nodes c.loop-node.node-index item c.loop-node-test.true in
    let same = ap node_size c.node-item.is in
    let n = ap length c.as_slice.ensures in
    let l : c.args.cells < sum_by node_size nodes = omega (arith, more, same, n, c.loop-node.invariant) in
    grind (arith, nat_tests)

pub loop-node-preserved : goal.loop-node-preserved
unfolding node_size
loop-node-preserved c =
    let nodes = c.args.nodes.now in let item = c.node-item.result in
    let more = sum_by_more node_size nodes c.loop-node.node-index item c.loop-node-test.true in
    let same = ap node_size c.node-item.is in
    let n = ap length c.as_slice.ensures in
    omega (arith, more, same, n, c.loop-node.invariant)
