use Rattle.std.proofs.Common.{◌≡◌, ◌∙◌, ◌+◌, ◌<◌, ◌∷◌, [], ap, sym, length, arith}
use Rattle.std.proofs.lemmas.List.{length-append, length-map}
use Rattle.memory_objects.specs.ObjectLists.{ObjectsState, lacks_in}
use Rattle.memory_objects.specs.Rows.{part_of}
use Rattle.memory_objects.proofs.MadeParts.{has_room, room_for_one}
use Rattle.memory_objects.proofs.objects.Objects.root.Goals as goal

pub push_reserved-requires : goal.push_reserved-requires
push_reserved-requires c =
    let y = c.args.self.now in
    let room : length y.parts < 65536 = room_for_one y (has_room (lacks_in y 1) c.if-not-has_room.ensures.room) in
    let same : length c.self.inside.extents.items ≡ length y.extents = ap (λ (z : ObjectsState). length z.extents) (c.self.view_is ∙ c.add-object.ensures.after) in
    omega (arith, same, room, c.has_room.ensures.extents, c.self.invariant.extent_room, c.self.inside.extents.ok.0)

pub invariant_of-self : goal.invariant_of-self
invariant_of-self c =
    let y = c.args.self.now in
    let inv = c.self.invariant in
    let same : length c.self.inside.extents.items ≡ length y.extents = ap (λ (z : ObjectsState). length z.extents) (c.self.view_is ∙ c.add-object.ensures.after) in
    let parts : length c.self.inside.parts.items ≡ length y.parts + 1 =
    sym (length-map c.self.inside.parts.items part_of)
    ∙ ap (λ (z : ObjectsState). length z.parts) (c.self.view_is ∙ c.add-object.ensures.after)
    ∙ length-append y.parts (part_of c.whole.result ∷ [])
    in
    let one : length c.push_reserved.new.self.items ≡ length c.self.inside.extents.items + 1 = ap length c.push_reserved.ensures.items ∙ length-append c.self.inside.extents.items (c.args.extent ∷ []) in
    record {
      count = inv.count;
      few = inv.few;
      extents = omega (arith, one, same, parts, c.has_room.ensures.extents);
      part_room = inv.part_room;
      record_room = inv.record_room;
      extent_room = omega (arith, c.push_reserved.ensures.capacity, inv.extent_room);
      tree = inv.tree;
    }
