use Rattle.std.proofs.Common.{◌∙◌, refl, ap, [], ◌∷◌, true, false}
use Rattle.jx_base.specs.declared.act.Reply.TheVariants as reply
use Rattle.jx_model.specs.MemoryObjects.{new_parts}
use Rattle.memory_objects.specs.ObjectLists.{ObjectsState, lacks_in, next_object, with_parts, with_parts_for}
use Rattle.memory_objects.specs.Rows.{part_of}
use Rattle.memory_objects.proofs.MadeParts.{has_room, lacking, one_by, revoke_made}
use Rattle.memory_objects.proofs.objects.Objects.renew.Goals as goal

pub returns-then-not-has_room-clause-reply : goal.returns-then-not-has_room-clause-reply
returns-then-not-has_room-clause-reply c = one_by c.args.self.now true (lacking (lacks_in c.args.self.now 1) c.if-not-has_room.ensures.room)

pub returns-then-not-has_room-clause-after : goal.returns-then-not-has_room-clause-after
unfolding new_parts
returns-then-not-has_room-clause-after c = refl

pub add-requires-clause-joins : goal.add-requires-clause-joins
add-requires-clause-joins c = c.end_object.ensures.joins (part_of c.args.part) c.requires.part c.requires.joins

pub returns-clause-reply : goal.returns-clause-reply
returns-clause-reply c =
    let y = c.args.self.now in
    ap reply.Object (c.add.ensures.number ∙ ap (λ (z : ObjectsState). next_object z 1) c.end_object.ensures.after)
    ∙ one_by y false (has_room (lacks_in y 1) c.if-not-has_room.ensures.room)

pub returns-clause-after : goal.returns-clause-after
returns-clause-after c =
    let y = c.args.self.now in
    let d = c.args.domain.0 in
    c.add.ensures.after
    ∙ ap (λ (z : ObjectsState). with_parts z d (part_of c.args.part ∷ [])) c.end_object.ensures.after
    ∙ ap (with_parts_for y d c.args.object.0) (revoke_made y.parts c.args.object c.add.result (part_of c.args.part) c.requires.part)
