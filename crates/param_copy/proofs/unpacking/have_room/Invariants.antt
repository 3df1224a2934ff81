use Rattle.std.proofs.Common.{◌≡◌, ◌+◌, take, sum_by}
use Rattle.program_model.specs.ParcelParts.{node_size}
use Rattle.param_copy.proofs.unpacking.have_room.Given as goal

abbrev pub invariant-loop-node : goal.invariant-loop-node
invariant-loop-node l = l.left + sum_by node_size (take l.node-index l.nodes) ≡ l.cells
