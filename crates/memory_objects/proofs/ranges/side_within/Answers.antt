use Rattle.std.specs.Int.{w32}
use Rattle.std.proofs.lemmas.Int.{to_z-of_z}
use Rattle.memory_objects.specs.Ranges.{natural}
use Rattle.std.proofs.Common.{ap, ◌∙◌, sym, ◌≤◌, arith}
use Rattle.memory_objects.proofs.RangeFacts.{side_past, side_there, side_zero}
use Rattle.memory_objects.proofs.ranges.side_within.Goals as goal

pub returns-then-at-eq0 : goal.returns-then-at-eq0
returns-then-at-eq0 c = side_zero c.args.at c.in_ok-at.at c.args.size (sym (c.in_ok-at.ensures ∙ ap natural (to_z-of_z w32 c.args.at c.ranges.at))) c.if-at-eq0.true

pub returns-then-at-size : goal.returns-then-at-size
returns-then-at-size c =
    let one : 1 ≤ c.in_ok-at.at = omega (arith, c.if-at-eq0.false) in
    side_past c.args.at c.in_ok-at.at c.args.size (sym (c.in_ok-at.ensures ∙ ap natural (to_z-of_z w32 c.args.at c.ranges.at))) one c.if-at-size.true

pub returns : goal.returns
returns c =
    let one : 1 ≤ c.in_ok-at.at = omega (arith, c.if-at-eq0.false) in
    side_there c.args.at c.in_ok-at.at c.args.size (sym (c.in_ok-at.ensures ∙ ap natural (to_z-of_z w32 c.args.at c.ranges.at))) one c.if-at-size.false
