use Rattle.std.proofs.Common.{arith, sym, ap, ◌∙◌, ◌≡◌, ◌∷◌, ◌++◌, [], take, get_or, length, map, option_map, slice_get, ◌<◌}
use Rattle.std.proofs.lemmas.List.{take_more}
use Rattle.program_model.specs.Parcels.{nodes_of, word_of, cells_at}
use Rattle.param_copy.proofs.WordSteps.{nodes_none, nodes_append, node_at}
use Rattle.param_copy.proofs.packing.nodes_of.Goals as goal

pub loop-object-init : goal.loop-object-init
loop-object-init c = c.in_ok-nodes.ensures.items ∙ sym (nodes_none c.args.heap.now.objects c.args.exports.now c.args.walk.now.keys)

pub loop-object-preserved : goal.loop-object-preserved
loop-object-preserved c =
    let objects = c.args.heap.now.objects in let walk = c.args.walk.now.keys in let i = c.loop-object.object-index in
    let l : i < length walk = omega (arith, c.loop-object-test.true, ap length c.as_slice-objects.ensures.keys) in
    let r = get_or walk i 0 in
    let same : get_or c.as_slice-objects.result.now i 0 ≡ r = ap (λ xs. get_or xs i 0) c.as_slice-objects.ensures.keys in
    let placed : r < length objects = c.requires.placed i 0 l in
    let node = node_at objects c.args.exports.now walk r c.class_of.result c.in_ok-cells.cells placed
    (ap (λ x. option_map (λ o. o.class) (slice_get objects x)) (sym same) ∙ c.class_of.ensures)
    (c.in_ok-cells.ensures ∙ ap (map (word_of c.args.exports.now walk)) (c.cells.ensures ∙ ap (cells_at objects) same)) in
    c.in_ok-push.ensures.items
    ∙ ap (λ ns. ns ++ record { class = c.class_of.result; cells = c.in_ok-cells.cells } ∷ []) c.loop-object.invariant
    ∙ ap (λ ns. nodes_of objects c.args.exports.now walk (take i walk) ++ ns) node
    ∙ sym (nodes_append objects c.args.exports.now walk (take i walk) (r ∷ []))
    ∙ ap (nodes_of objects c.args.exports.now walk) (sym (take_more walk i 0 l))
