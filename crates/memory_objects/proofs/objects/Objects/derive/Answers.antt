use Rattle.std.proofs.Common.{◌∙◌, ◌≤◌, ◌&&◌, sym, ap, subst, [], ◌∷◌, Bool, true, false, arith}
use Rattle.jx_base.specs.declared.act.Reply.TheVariants as reply
use Rattle.jx_base.proofs.BasicLaws.{ap2}
use Rattle.jx_model.specs.MemoryObjects.{Part, new_parts}
use Rattle.jx_model.specs.Replies.{is_positive_up_to}
use Rattle.memory_objects.specs.ObjectLists.{CanJoin, lacks_in, with_parts}
use Rattle.memory_objects.specs.Rows.{part_of}
use Rattle.memory_objects.proofs.Joins.{join_child}
use Rattle.memory_objects.proofs.MadeParts.{derived_else, derived_range, has_room, lacking, none_made, one_by, sub_made}
use Rattle.memory_objects.proofs.RangeFacts.{positive_count, positive_zero, same_span, span_is, span_none}
use Rattle.memory_objects.proofs.objects.Objects.derive.Goals as goal

pub returns-in_default-clause-reply : goal.returns-in_default-clause-reply
returns-in_default-clause-reply c =
    derived_range c.args.self.now c.args.at c.args.count (part_of c.args.part)
    (ap (λ (b : Bool). b && is_positive_up_to c.args.part.size c.args.count) (span_none c.args.at c.args.count c.args.part.size (c.in_default.ensures ∙ same_span c.args.at c.args.count c.args.part.size c.ranges.at c.ranges.count)))

pub returns-in_default-clause-after : goal.returns-in_default-clause-after
unfolding new_parts
returns-in_default-clause-after c = none_made c.args.self.now c.args.domain.0

pub returns-then-span-eq0-clause-reply : goal.returns-then-span-eq0-clause-reply
returns-then-span-eq0-clause-reply c =
    let s = span_is c.args.at c.args.count c.args.part.size c.in-Some.span (c.in-Some.ensures ∙ same_span c.args.at c.args.count c.args.part.size c.ranges.at c.ranges.count) in
    derived_range c.args.self.now c.args.at c.args.count (part_of c.args.part)
    (ap2 (λ (a b : Bool). a && b) s.within (positive_zero c.args.part.size c.args.count c.in-Some.span.count s.count c.if-span-eq0.true))

pub returns-then-span-eq0-clause-after : goal.returns-then-span-eq0-clause-after
unfolding new_parts
returns-then-span-eq0-clause-after c = none_made c.args.self.now c.args.domain.0

pub returns-then-not-has_room-clause-reply : goal.returns-then-not-has_room-clause-reply
returns-then-not-has_room-clause-reply c =
    let y = c.args.self.now in
    let s = span_is c.args.at c.args.count c.args.part.size c.in-Some.span (c.in-Some.ensures ∙ same_span c.args.at c.args.count c.args.part.size c.ranges.at c.ranges.count) in
    let one : 1 ≤ c.in-Some.span.count = omega (arith, c.if-span-eq0.false) in
    let low : c.in-Some.span.count ≤ c.args.part.size = omega (arith, s.low) in
    one_by y true (lacking (lacks_in y 1) c.if-not-has_room.ensures.room)
    ∙ derived_else y c.args.at c.args.count (part_of c.args.part) (ap2 (λ (a b : Bool). a && b) s.within (positive_count c.args.part.size c.args.count c.in-Some.span.count s.count one low))

pub returns-then-not-has_room-clause-after : goal.returns-then-not-has_room-clause-after
unfolding new_parts
returns-then-not-has_room-clause-after c = none_made c.args.self.now c.args.domain.0

pub within-requires : goal.within-requires
within-requires c =
    let s = span_is c.args.at c.args.count c.args.part.size c.in-Some.span (c.in-Some.ensures ∙ same_span c.args.at c.args.count c.args.part.size c.ranges.at c.ranges.count) in
    let l = c.requires.joins.small in
    omega (arith, s.low, l)

pub add-requires-clause-joins : goal.add-requires-clause-joins
add-requires-clause-joins c =
    let s = span_is c.args.at c.args.count c.args.part.size c.in-Some.span (c.in-Some.ensures ∙ same_span c.args.at c.args.count c.args.part.size c.ranges.at c.ranges.count) in
    subst (λ (p : Part). CanJoin c.args.self.now p) (sym c.within.ensures)
    (join_child c.args.self.now c.args.object.0 c.in-Some.span.at c.in-Some.span.count (part_of c.args.part) c.requires.part c.requires.valid c.requires.joins s.low)

pub returns-clause-reply : goal.returns-clause-reply
returns-clause-reply c =
    let y = c.args.self.now in
    let s = span_is c.args.at c.args.count c.args.part.size c.in-Some.span (c.in-Some.ensures ∙ same_span c.args.at c.args.count c.args.part.size c.ranges.at c.ranges.count) in
    let one : 1 ≤ c.in-Some.span.count = omega (arith, c.if-span-eq0.false) in
    let low : c.in-Some.span.count ≤ c.args.part.size = omega (arith, s.low) in
    ap reply.Object c.add.ensures.number
    ∙ one_by y false (has_room (lacks_in y 1) c.if-not-has_room.ensures.room)
    ∙ derived_else y c.args.at c.args.count (part_of c.args.part) (ap2 (λ (a b : Bool). a && b) s.within (positive_count c.args.part.size c.args.count c.in-Some.span.count s.count one low))

pub returns-clause-after : goal.returns-clause-after
returns-clause-after c =
    let y = c.args.self.now in
    let s = span_is c.args.at c.args.count c.args.part.size c.in-Some.span (c.in-Some.ensures ∙ same_span c.args.at c.args.count c.args.part.size c.ranges.at c.ranges.count) in
    c.add.ensures.after
    ∙ ap (with_parts y c.args.domain.0)
    (ap (λ (p : Part). p ∷ []) c.within.ensures ∙ sub_made y.parts c.args.object c.add.result (part_of c.args.part) c.args.at c.args.count c.in-Some.span.at c.in-Some.span.count c.requires.part s.at s.count)
