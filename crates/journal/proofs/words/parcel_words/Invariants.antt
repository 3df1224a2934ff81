use Rattle.std.proofs.Common.{◌≡◌, ◌+◌, length, take, sum_by}
use Rattle.program_model.specs.ParcelParts.{node_size}
use Rattle.journal.proofs.words.parcel_words.Given as goal

abbrev pub invariant-loop-node : goal.invariant-loop-node
invariant-loop-node l = l.words ≡ length l.parcel.roots + sum_by node_size (take l.node-index l.node-items)
