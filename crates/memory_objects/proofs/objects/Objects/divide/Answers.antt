use Rattle.std.proofs.Common.{◌∙◌, ◌-◌, refl, sym, ap, subst, [], ◌∷◌, true, false, arith}
use Rattle.jx_base.specs.declared.act.Reply.TheVariants as reply
use Rattle.jx_base.proofs.BasicLaws.{ap2}
use Rattle.jx_model.specs.MemoryObjects.{Part, new_parts, part_within}
use Rattle.memory_objects.specs.ObjectLists.{ObjectsState, CanJoin, lacks_in, next_object, with_parts, with_parts_for}
use Rattle.memory_objects.specs.Rows.{part_of}
use Rattle.memory_objects.proofs.Joins.{join_more, join_side}
use Rattle.memory_objects.proofs.MadeParts.{divided_else, divided_range, has_room, lacking, second_object, split_made, two_made}
use Rattle.memory_objects.proofs.RangeFacts.{same_side, side_is, side_none}
use Rattle.memory_objects.proofs.objects.Objects.divide.Goals as goal

pub returns-in_default-clause-reply : goal.returns-in_default-clause-reply
returns-in_default-clause-reply c =
    divided_range c.args.self.now c.args.at (part_of c.args.part) (side_none c.args.at c.args.part.size (c.in_default.ensures ∙ same_side c.args.at c.args.part.size c.ranges.at))

pub returns-in_default-clause-after : goal.returns-in_default-clause-after
unfolding new_parts
returns-in_default-clause-after c = refl

pub returns-then-not-has_room-clause-reply : goal.returns-then-not-has_room-clause-reply
returns-then-not-has_room-clause-reply c =
    let y = c.args.self.now in
    let s = side_is c.args.at c.args.part.size c.in-Some.at (c.in-Some.ensures ∙ same_side c.args.at c.args.part.size c.ranges.at) in
    divided_else y c.args.at (part_of c.args.part) true s.positive (lacking (lacks_in y 2) c.if-not-has_room.ensures.room)

pub returns-then-not-has_room-clause-after : goal.returns-then-not-has_room-clause-after
unfolding new_parts
returns-then-not-has_room-clause-after c = refl

pub add-left-requires-clause-joins : goal.add-left-requires-clause-joins
add-left-requires-clause-joins c =
    let o : Part = part_of c.args.part in
    let s = side_is c.args.at c.args.part.size c.in-Some.at (c.in-Some.ensures ∙ same_side c.args.at c.args.part.size c.ranges.at) in
    subst (λ (p : Part). CanJoin c.end_object.new.self p) (sym c.within.ensures)
    (join_side c.end_object.new.self o 0 c.in-Some.at (c.end_object.ensures.joins o c.requires.part c.requires.joins) (omega (arith, s.low)))

pub overflow_sub-part : goal.overflow_sub-part
overflow_sub-part c =
    let s = side_is c.args.at c.args.part.size c.in-Some.at (c.in-Some.ensures ∙ same_side c.args.at c.args.part.size c.ranges.at) in
    omega (arith, s.low)

pub within-requires-2 : goal.within-requires-2
within-requires-2 c =
    let s = side_is c.args.at c.args.part.size c.in-Some.at (c.in-Some.ensures ∙ same_side c.args.at c.args.part.size c.ranges.at) in
    let l = c.requires.joins.small in
    omega (arith, s.low, l)

pub add-right-requires-clause-joins : goal.add-right-requires-clause-joins
add-right-requires-clause-joins c =
    let o : Part = part_of c.args.part in
    let e = c.end_object.new.self in
    let s = side_is c.args.at c.args.part.size c.in-Some.at (c.in-Some.ensures ∙ same_side c.args.at c.args.part.size c.ranges.at) in
    let side : Part = part_within o.parent o c.in-Some.at (o.size - c.in-Some.at) in
    subst (λ (p : Part). CanJoin c.add-left.new.self p) (sym c.within-2.ensures)
    (subst (λ (z : ObjectsState). CanJoin z side) (sym c.add-left.ensures.after)
    (join_more e c.args.domain.0 side (part_of c.within.result ∷ []) (join_side e o c.in-Some.at (o.size - c.in-Some.at) (c.end_object.ensures.joins o c.requires.part c.requires.joins) (omega (arith, s.low)))))

pub returns-clause-reply : goal.returns-clause-reply
returns-clause-reply c =
    let y = c.args.self.now in
    let s = side_is c.args.at c.args.part.size c.in-Some.at (c.in-Some.ensures ∙ same_side c.args.at c.args.part.size c.ranges.at) in
    ap2 reply.Pair
    (c.add-left.ensures.number ∙ ap (λ (z : ObjectsState). next_object z 1) c.end_object.ensures.after)
    (c.add-right.ensures.number ∙ ap (λ (z : ObjectsState). next_object z 1) c.add-left.ensures.after ∙ second_object c.end_object.new.self c.args.domain.0 (part_of c.within.result) ∙ ap (λ (z : ObjectsState). next_object z 2) c.end_object.ensures.after)
    ∙ divided_else y c.args.at (part_of c.args.part) false s.positive (has_room (lacks_in y 2) c.if-not-has_room.ensures.room)

pub returns-clause-after : goal.returns-clause-after
returns-clause-after c =
    let y = c.args.self.now in
    let d = c.args.domain.0 in
    let s = side_is c.args.at c.args.part.size c.in-Some.at (c.in-Some.ensures ∙ same_side c.args.at c.args.part.size c.ranges.at) in
    let left : Part = part_of c.within.result in
    let right : Part = part_of c.within-2.result in
    c.add-right.ensures.after
    ∙ ap (λ (z : ObjectsState). with_parts z d (right ∷ [])) c.add-left.ensures.after
    ∙ two_made c.end_object.new.self d left right
    ∙ ap (λ (z : ObjectsState). with_parts z d (left ∷ right ∷ [])) c.end_object.ensures.after
    ∙ ap (with_parts_for y d c.args.object.0)
    (ap2 (λ (a b : Part). a ∷ b ∷ []) c.within.ensures c.within-2.ensures ∙ split_made y.parts c.args.object c.add-left.result c.add-right.result (part_of c.args.part) c.args.at c.in-Some.at c.requires.part s.at)
