use Rattle.std.proofs.Common.{arith, ap, ◌<◌, ◌+◌, ◌^◌, length, sum_by}
use Rattle.std.proofs.lemmas.List.Sums.{sum_by_more_le, sum_by_more}
use Rattle.program_model.specs.ParcelParts.{node_size, parcel_words, node_cells}
use Rattle.journal.proofs.words.parcel_words.Goals as goal

-- the words so far and those of the next node are within the whole
within : (c : goal.After-as_slice-in-loop-node) → c.loop-node.words + (2 + length c.as_slice-in-loop-node.result.now) < 2 ^ 32
unfolding node_size parcel_words node_cells
within c =
    let nodes = c.as_slice-node-items.result.now in let item = c.node-item.result in
    let more = sum_by_more_le node_size nodes c.loop-node.node-index item c.loop-node-test.true in
    let same = ap node_size c.node-item.is in
    let n = ap length c.as_slice-in-loop-node.ensures in
    let whole = ap (sum_by node_size) c.as_slice-node-items.ensures in
    omega (arith, more, same, n, whole, c.requires, c.loop-node.invariant)

pub overflow_cast-words-in-loop-node : goal.overflow_cast-words-in-loop-node
overflow_cast-words-in-loop-node c = record { fits = omega (arith, within c) }

pub overflow_add-words : goal.overflow_add-words
overflow_add-words c = record { fits = omega (arith, within c) }

pub overflow_add-words-in-loop-node : goal.overflow_add-words-in-loop-node
overflow_add-words-in-loop-node c = record { fits = omega (arith, within c) }

pub loop-node-preserved : goal.loop-node-preserved
unfolding node_size
loop-node-preserved c =
    let nodes = c.as_slice-node-items.result.now in let item = c.node-item.result in
    let more = sum_by_more node_size nodes c.loop-node.node-index item c.loop-node-test.true in
    let same = ap node_size c.node-item.is in
    let n = ap length c.as_slice-in-loop-node.ensures in
    omega (arith, more, same, n, c.loop-node.invariant)
