use Rattle.std.proofs.Common.{arith, sym, ap, ◌∙◌, ◌≡◌, ◌+◌, Some, [], ◌++◌, take, length, slice_get, ◌≤◌}
use Rattle.std.proofs.lemmas.List.{take_all}
use Rattle.std.proofs.lemmas.Option.{slice_get_within}
use Rattle.jx_base.specs.Basics.{firsts, distinct, distinct_after}
use Rattle.program_model.specs.Limits.{node_limit, parcel_limit}
use Rattle.program_model.specs.Parcels.{references_of, object_references, walk_of}
use Rattle.param_copy.specs.Copies.{walk_words}
use Rattle.param_copy.proofs.WalkSteps.{starts, grows, ends, begins_walk, members_placed, too_many_nodes, too_many_words, few_enough, words_more, words_begin, length_begin, begins_along, take_begins, past_end}
use Rattle.param_copy.proofs.WordSteps.{too_large}
use Rattle.param_copy.proofs.walking.walk_of.Goals as goal
use Rattle.param_copy.proofs.walking.walk_of.Goals.{then-next-eq-NODE_LIMIT-via-then-next-eq-NODE_LIMIT, then-next-eq-NODE_LIMIT-via-else-next-eq-NODE_LIMIT+then-words-gt-PARCEL_LIMIT-2}

pub returns-then-words-gt-PARCEL_LIMIT-clause-walk : goal.returns-then-words-gt-PARCEL_LIMIT-clause-walk
unfolding parcel_limit
returns-then-words-gt-PARCEL_LIMIT-clause-walk c = λ _.
    too_large c.args.heap.now.objects c.args.exports.now c.args.roots.now c.requires.objects c.requires.roots
    (too_many_words c.args.heap.now.objects (length c.args.roots.now) (walk_of c.args.heap.now.objects c.args.exports.now (references_of c.args.exports.now c.args.roots.now)) (omega arith))

pub loop-object-init : goal.loop-object-init
unfolding distinct distinct_after
loop-object-init c =
    let exports = c.args.exports.now in let roots = c.args.roots.now in
    let first = starts c.args.heap.now.objects exports (references_of exports roots) c.add_references.new.walk.keys (c.in_ok-add_references.ensures [] c.new-walk.ensures.empty) in
    record { closed = first.0; begins = first.1; within = omega arith; few = omega arith; counted = omega arith; small = omega arith }

pub cells-cells-requires : goal.cells-cells-requires
cells-cells-requires c =
    members_placed c.args.heap.now.objects c.args.exports.now c.args.roots.now c.loop-object.walk.keys (take c.loop-object.next c.loop-object.walk.keys) c.loop-object.next c.in-Some.object
    c.requires.objects c.requires.roots c.loop-object.invariant.closed (sym c.get_index.ensures.key ∙ sym c.copied.ensures ∙ c.in-Some.is)

pub returns-then-next-eq-NODE_LIMIT-clause-walk : goal.returns-then-next-eq-NODE_LIMIT-clause-walk
unfolding node_limit parcel_limit
returns-then-next-eq-NODE_LIMIT-clause-walk c = λ _.
    let objects = c.args.heap.now.objects in let exports = c.args.exports.now in let keys = c.loop-object.walk.keys in let next = c.loop-object.next in
    let n = length c.args.roots.now in
    let walk = walk_of objects exports (references_of exports c.args.roots.now) in
    let at : slice_get keys next ≡ Some c.in-Some.object = sym c.get_index.ensures.key ∙ sym c.copied.ensures ∙ c.in-Some.is in
    let begins = c.loop-object.invariant.begins in
    elim c.then-next-eq-NODE_LIMIT.branch [
      | then-next-eq-NODE_LIMIT-via-then-next-eq-NODE_LIMIT w ↦
          too_large objects exports c.args.roots.now c.requires.objects c.requires.roots
          (too_many_nodes objects n walk (omega (arith, slice_get_within keys next c.in-Some.object at, length_begin keys walk begins, w.if-next-eq-NODE_LIMIT.true)))
      | then-next-eq-NODE_LIMIT-via-else-next-eq-NODE_LIMIT+then-words-gt-PARCEL_LIMIT-2 w ↦
          let more = words_more objects n keys next c.in-Some.object at in
          let all = words_begin objects n (take (next + 1) keys) walk (begins_along (take (next + 1) keys) keys walk (take_begins (next + 1) keys) begins) in
          too_large objects exports c.args.roots.now c.requires.objects c.requires.roots
          (too_many_words objects n walk (omega (arith, more, all, c.loop-object.invariant.counted, ap length c.cells-cells.ensures, w.if-words-gt-PARCEL_LIMIT-2.true)))
    ]

pub loop-object-preserved : goal.loop-object-preserved
loop-object-preserved c =
    let objects = c.args.heap.now.objects in let exports = c.args.exports.now in let keys = c.loop-object.walk.keys in let next = c.loop-object.next in
    let refs = references_of exports c.args.roots.now in let found = c.add_references-in-Some.new.walk.keys in
    let at : slice_get keys next ≡ Some c.in-Some.object = sym c.get_index.ensures.key ∙ sym c.copied.ensures ∙ c.in-Some.is in
    let h = c.in_ok-add_references-2.ensures (refs ++ object_references objects exports (take next keys)) c.loop-object.invariant.closed
    ∙ ap (λ xs. firsts (refs ++ object_references objects exports (take next keys) ++ references_of exports xs)) c.cells-cells.ensures in
    let step = grows objects exports refs keys found next c.in-Some.object at c.loop-object.invariant.closed h in
    let l = slice_get_within keys next c.in-Some.object at in
    let more = words_more objects (length c.args.roots.now) keys next c.in-Some.object at in
    let same = ap (walk_words objects (length c.args.roots.now)) step.2 in
    record {
      closed = step.0;
      begins = begins_walk objects exports refs keys found (next + 1) c.loop-object.invariant.begins (step.0 ∙ ap (λ xs. firsts (refs ++ object_references objects exports xs)) step.2);
      within = omega (arith, l, step.1);
      few = omega arith;
      counted = omega (arith, c.loop-object.invariant.counted, ap length c.cells-cells.ensures, more, same);
      small = omega arith;
    }

pub returns-clause-walk : goal.returns-clause-walk
returns-clause-walk c =
    let exports = c.args.exports.now in let keys = c.loop-object.walk.keys in
    let l : length keys ≤ c.loop-object.next = past_end keys c.loop-object.next (sym c.get_index.ensures.key ∙ sym c.copied.ensures ∙ c.in_default.is) in
    ends c.args.heap.now.objects exports (references_of exports c.args.roots.now) keys c.loop-object.next l c.loop-object.invariant.closed c.loop-object.invariant.begins

pub returns-clause-small : goal.returns-clause-small
unfolding node_limit parcel_limit
returns-clause-small c =
    let objects = c.args.heap.now.objects in let keys = c.loop-object.walk.keys in let n = length c.args.roots.now in
    let l : length keys ≤ c.loop-object.next = past_end keys c.loop-object.next (sym c.get_index.ensures.key ∙ sym c.copied.ensures ∙ c.in_default.is) in
    let same = ap (walk_words objects n) (take_all c.loop-object.next keys l) in
    few_enough objects n keys (omega (arith, l, c.loop-object.invariant.few)) (omega (arith, same, c.loop-object.invariant.counted, c.loop-object.invariant.small))
