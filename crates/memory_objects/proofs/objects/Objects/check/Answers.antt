use Rattle.std.proofs.Common.{◌∙◌, ap, Result, arith}
use Rattle.jx_base.specs.declared.act.Refusal.{Refusal}
use Rattle.jx_model.specs.MemoryObjects.{Part}
use Rattle.memory_objects.specs.ObjectLists.{and_given, place_within}
use Rattle.memory_objects.specs.Rows.{part_of}
use Rattle.memory_objects.proofs.MadeParts.{place_past, place_there}
use Rattle.memory_objects.proofs.RangeFacts.{same_span, span_is, span_none}
use Rattle.memory_objects.proofs.objects.Objects.check.Goals as goal

pub overflow_add-result : goal.overflow_add-result
overflow_add-result c =
    let s = span_is c.args.at c.args.count c.in_ok-part.part.size c.in-Some.span (c.in-Some.ensures ∙ same_span c.args.at c.args.count c.in_ok-part.part.size c.ranges.at c.ranges.count) in
    let l = c.in_ok-part.ensures.joins.small in
    omega (arith, s.low, l)

pub returns-in-Some : goal.returns-in-Some
returns-in-Some c =
    let s = span_is c.args.at c.args.count c.in_ok-part.part.size c.in-Some.span (c.in-Some.ensures ∙ same_span c.args.at c.args.count c.in_ok-part.part.size c.ranges.at c.ranges.count) in
    place_there c.args.at c.args.count (part_of c.in_ok-part.part) c.in-Some.span.at s.within s.at
    ∙ ap (λ (r : Result Part Refusal). and_given r (place_within c.args.at c.args.count)) c.in_ok-part.ensures.part

pub returns-in-None : goal.returns-in-None
returns-in-None c =
    place_past c.args.at c.args.count (part_of c.in_ok-part.part) (span_none c.args.at c.args.count c.in_ok-part.part.size (c.in-None.ensures ∙ same_span c.args.at c.args.count c.in_ok-part.part.size c.ranges.at c.ranges.count))
    ∙ ap (λ (r : Result Part Refusal). and_given r (place_within c.args.at c.args.count)) c.in_ok-part.ensures.part
