use Rattle.std.proofs.Common.{◌≡◌, take}
use Rattle.program_model.specs.Parcels.{nodes_of}
use Rattle.param_copy.proofs.packing.nodes_of.Given as goal

abbrev pub invariant-loop-object : goal.invariant-loop-object
invariant-loop-object l = l.nodes.items ≡ nodes_of l.heap.objects l.exports l.walk.keys (take l.object-index l.walk.keys)
