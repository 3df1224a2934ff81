use Rattle.std.proofs.Common.{arith, refl, sym, ap, ◌∙◌, ◌≡◌, ◌+◌, ◌^◌, ◌<◌, ◌≤◌, Ok, Err, Result, length, get_or, subst, All}
use Rattle.std.specs.Result.{IsErrAnd}
use Rattle.param_copy.specs.declared.fault.UnpackFault.{UnpackFault}
use Rattle.jx_base.specs.declared.value.Node.{Node}
use Rattle.program_model.specs.ParcelParts.{node_cells}
use Rattle.param_copy.specs.Copies.{HasPlace}
use Rattle.param_copy.specs.declared.fault.UnpackFault.TheVariants.{NoRoom, OutOfMemory}
use Rattle.param_copy.proofs.NodeSteps.{places_of_words, two_each, room_of, no_room_of}
use Rattle.std.proofs.Common.{map, ◌++◌, ℕ, length-append}
use Rattle.std.proofs.lemmas.List.{take_all, length-map}
use Rattle.program_model.specs.Parcels.{unpacked_object, value_of}
use Rattle.domain_heap.specs.Heaps.{HeapState}
use Rattle.param_copy.specs.Copies.{IsPlaced, AreClosed}
use Rattle.param_copy.proofs.Placed.{values_placed, unpacked_closed}
use Rattle.param_copy.proofs.unpacking.unpack.Goals as goal

not_no_room : {A B : Type 0} (r : Result A UnpackFault) → IsErrAnd r (λ fault. fault ≡ OutOfMemory) → r ≡ Err NoRoom → B
not_no_room (Ok x) h e = absurd h
not_no_room (Err fault) h e = cc

pub returns-then-not-have_room-clause-room : goal.returns-then-not-have_room-clause-room
unfolding node_cells
returns-then-not-have_room-clause-room c =
    let few = no_room_of c.args.parcel.now.nodes c.as_slice-nodes.result.now c.args.heap.now.left c.left.result c.as_slice-nodes.ensures c.left.ensures.left (sym c.have_room.ensures ∙ c.if-not-have_room.true) in
    (λ _. few, λ _. refl)

pub values_of-requires : goal.values_of-requires
values_of-requires c =
    let nodes = c.args.parcel.now.nodes in
    let room = room_of nodes c.as_slice-nodes.result.now c.args.heap.now.left c.left.result c.as_slice-nodes.ensures c.left.ensures.left (sym c.have_room.ensures ∙ c.if-not-have_room.false) in
    let l : c.objects-first.result + length nodes ≤ 2 ^ 32 = omega (arith, room, two_each nodes, c.left.ensures.left, c.left.ensures.small, c.objects-first.ensures) in
    subst (λ ws. All (HasPlace c.objects-first.result) ws) (sym c.as_slice.ensures) (places_of_words c.objects-first.result (length nodes) c.args.parcel.now.roots l c.requires.roots)

pub returns-in_err-roots-clause-room : goal.returns-in_err-roots-clause-room
unfolding node_cells
returns-in_err-roots-clause-room c =
    let nodes = c.args.parcel.now.nodes in
    let room = room_of nodes c.as_slice-nodes.result.now c.args.heap.now.left c.left.result c.as_slice-nodes.ensures c.left.ensures.left (sym c.have_room.ensures ∙ c.if-not-have_room.false) in
    (λ e. not_no_room c.from_residual.result c.from_residual.ensures.1 e, λ l. absurd (omega (arith, l, room)))

pub add_node-requires-clause-places : goal.add_node-requires-clause-places
add_node-requires-clause-places c =
    let nodes = c.args.parcel.now.nodes in let i = c.loop-node.node-index in
    let room = room_of nodes c.as_slice-nodes.result.now c.args.heap.now.left c.left.result c.as_slice-nodes.ensures c.left.ensures.left (sym c.have_room.ensures ∙ c.if-not-have_room.false) in
    let l : c.objects-first.result + length nodes ≤ 2 ^ 32 = omega (arith, room, two_each nodes, c.left.ensures.left, c.left.ensures.small, c.objects-first.ensures) in
    let m : i < length nodes = omega (arith, c.loop-node-test.true, ap length c.as_slice-nodes.ensures) in
    let item : c.node-item.result ≡ get_or nodes i c.node-item.result = c.node-item.is ∙ ap (λ ns. get_or ns i c.node-item.result) c.as_slice-nodes.ensures in
    let placed = c.requires.nodes i c.node-item.result m in
    subst (λ (n : Node). All (HasPlace c.objects-first.result) n.cells) (sym item)
    (places_of_words c.objects-first.result (length nodes) (get_or nodes i c.node-item.result).cells l placed)

pub returns-clause-room : goal.returns-clause-room
unfolding node_cells
returns-clause-room c =
    let nodes = c.args.parcel.now.nodes in
    let room = room_of nodes c.as_slice-nodes.result.now c.args.heap.now.left c.left.result c.as_slice-nodes.ensures c.left.ensures.left (sym c.have_room.ensures ∙ c.if-not-have_room.false) in
    (λ e. cc e, λ l. absurd (omega (arith, l, room)))

pub returns-clause-places : goal.returns-clause-places
returns-clause-places c =
    let nodes = c.args.parcel.now.nodes in let objects = c.args.heap.now.objects in
    let l : length nodes ≤ c.loop-node.node-index = omega (arith, c.loop-node-test.false, ap length c.as_slice-nodes.ensures) in
    let whole : c.loop-node.heap.objects ≡ objects ++ map (unpacked_object (length objects)) nodes =
    ap (λ (s : HeapState). s.objects) c.loop-node.invariant
    ∙ ap (λ ns. objects ++ map (unpacked_object c.objects-first.result) ns) (take_all c.loop-node.node-index nodes l)
    ∙ ap (λ (n : ℕ). objects ++ map (unpacked_object n) nodes) c.objects-first.ensures in
    let m : length objects + length nodes ≡ length c.loop-node.heap.objects =
    sym (ap length whole ∙ length-append objects (map (unpacked_object (length objects)) nodes) ∙ ap (λ (k : ℕ). length objects + k) (length-map nodes (unpacked_object (length objects)))) in
    let values : c.in_ok-roots.roots.items ≡ map (value_of (length objects)) c.args.parcel.now.roots =
    c.in_ok-roots.ensures ∙ ap (map (value_of c.objects-first.result)) c.as_slice.ensures ∙ ap (λ (n : ℕ). map (value_of n) c.args.parcel.now.roots) c.objects-first.ensures in
    subst (λ (k : ℕ). All (IsPlaced k) c.in_ok-roots.roots.items) m
    (subst (λ vs. All (IsPlaced (length objects + length nodes)) vs) (sym values) (values_placed (length objects) (length nodes) c.args.parcel.now.roots c.requires.roots))

pub returns-clause-closed : goal.returns-clause-closed
returns-clause-closed c = λ closed.
    let nodes = c.args.parcel.now.nodes in let objects = c.args.heap.now.objects in
    let l : length nodes ≤ c.loop-node.node-index = omega (arith, c.loop-node-test.false, ap length c.as_slice-nodes.ensures) in
    let whole : c.loop-node.heap.objects ≡ objects ++ map (unpacked_object (length objects)) nodes =
    ap (λ (s : HeapState). s.objects) c.loop-node.invariant
    ∙ ap (λ ns. objects ++ map (unpacked_object c.objects-first.result) ns) (take_all c.loop-node.node-index nodes l)
    ∙ ap (λ (n : ℕ). objects ++ map (unpacked_object n) nodes) c.objects-first.ensures in
    subst AreClosed (sym whole) (unpacked_closed objects c.args.parcel.now c.requires closed)
