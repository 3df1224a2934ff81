use Rattle.std.proofs.Common.{sym, length, subst, All, ◌<◌}
use Rattle.program_model.specs.Limits.{node_limit}
use Rattle.param_copy.proofs.WalkSteps.{walk_placed, few_nodes}
use Rattle.param_copy.proofs.WordSteps.{small_enough}
use Rattle.param_copy.proofs.Placed.{packed_placed}
use Rattle.param_copy.proofs.packing.parcel_of.Goals as goal

pub words_of-requires : goal.words_of-requires
unfolding node_limit
words_of-requires c = few_nodes c.args.heap.now.objects (length c.args.roots.now) c.in_ok-walk.walk.keys c.in_ok-walk.ensures.small

pub nodes_of-requires-clause-small : goal.nodes_of-requires-clause-small
unfolding node_limit
nodes_of-requires-clause-small c = few_nodes c.args.heap.now.objects (length c.args.roots.now) c.in_ok-walk.walk.keys c.in_ok-walk.ensures.small

pub nodes_of-requires-clause-placed : goal.nodes_of-requires-clause-placed
nodes_of-requires-clause-placed c =
    let objects = c.args.heap.now.objects in
    subst (λ xs. All (λ r. r < length objects) xs) (sym c.in_ok-walk.ensures.walk) (walk_placed objects c.args.exports.now c.args.roots.now c.requires.objects c.requires.roots)

pub returns-clause-packed : goal.returns-clause-packed
returns-clause-packed c =
    small_enough c.args.heap.now.objects c.args.exports.now c.args.roots.now c.in_ok-walk.walk.keys c.in_ok-words.words c.in_ok-nodes.nodes
    c.requires.objects c.requires.roots c.in_ok-walk.ensures.walk c.in_ok-walk.ensures.small c.in_ok-words.ensures c.in_ok-nodes.ensures

pub returns-clause-places : goal.returns-clause-places
returns-clause-places c =
    let objects = c.args.heap.now.objects in let exports = c.args.exports.now in let roots = c.args.roots.now in
    packed_placed objects exports roots (record { roots = c.in_ok-words.words; nodes = c.in_ok-nodes.nodes }) c.requires.objects c.requires.roots
    (small_enough objects exports roots c.in_ok-walk.walk.keys c.in_ok-words.words c.in_ok-nodes.nodes
    c.requires.objects c.requires.roots c.in_ok-walk.ensures.walk c.in_ok-walk.ensures.small c.in_ok-words.ensures c.in_ok-nodes.ensures)
