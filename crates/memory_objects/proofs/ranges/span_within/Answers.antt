use Rattle.std.specs.Int.{w32}
use Rattle.std.proofs.lemmas.Int.{to_z-of_z}
use Rattle.memory_objects.specs.Ranges.{natural}
use Rattle.std.proofs.Common.{ap, ◌∙◌, sym, ◌≤◌, ◌<◌, ◌+◌, arith}
use Rattle.memory_objects.proofs.RangeFacts.{span_past, span_there}
use Rattle.memory_objects.proofs.ranges.span_within.Goals as goal

pub returns-in_err-rest : goal.returns-in_err-rest
returns-in_err-rest c =
    let h = c.in_err-rest.ensures in
    let past : c.args.size < c.in_ok-at.at + c.in_ok-count.count = omega (arith, h) in
    c.from_residual-in_err-rest.ensures ∙ span_past c.args.at c.args.count c.in_ok-at.at c.in_ok-count.count c.args.size (sym (c.in_ok-at.ensures ∙ ap natural (to_z-of_z w32 c.args.at c.ranges.at))) (sym (c.in_ok-count.ensures ∙ ap natural (to_z-of_z w32 c.args.count c.ranges.count))) past

pub returns-then-rest-count : goal.returns-then-rest-count
returns-then-rest-count c =
    let h = c.in_ok-rest.ensures in
    let past : c.args.size < c.in_ok-at.at + c.in_ok-count.count = omega (arith, h.0, h.1, c.if-rest-count.true) in
    span_past c.args.at c.args.count c.in_ok-at.at c.in_ok-count.count c.args.size (sym (c.in_ok-at.ensures ∙ ap natural (to_z-of_z w32 c.args.at c.ranges.at))) (sym (c.in_ok-count.ensures ∙ ap natural (to_z-of_z w32 c.args.count c.ranges.count))) past

pub returns : goal.returns
returns c =
    let h = c.in_ok-rest.ensures in
    let low : c.in_ok-at.at + c.in_ok-count.count ≤ c.args.size = omega (arith, h.0, h.1, c.if-rest-count.false) in
    span_there c.args.at c.args.count c.in_ok-at.at c.in_ok-count.count c.args.size (sym (c.in_ok-at.ensures ∙ ap natural (to_z-of_z w32 c.args.at c.ranges.at))) (sym (c.in_ok-count.ensures ∙ ap natural (to_z-of_z w32 c.args.count c.ranges.count))) low
