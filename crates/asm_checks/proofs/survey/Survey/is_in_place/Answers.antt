use Rattle.std.proofs.Common.{◌∙◌, sym, ap}
use Rattle.asm_checks.specs.Faults.{is_in_place, may_come_next}
use Rattle.asm_checks.proofs.survey.Survey.is_in_place.Goals as goal

pub returns-then-is_skipped : goal.returns-then-is_skipped
unfolding is_in_place
returns-then-is_skipped c past after f = rw (sym c.is_skipped.ensures ∙ c.if-is_skipped.true) c.if-is_skipped.true

pub returns-else-is_skipped : goal.returns-else-is_skipped
unfolding is_in_place
returns-else-is_skipped c past after f =
    rw (sym c.is_skipped.ensures ∙ c.if-is_skipped.false) (c.may_come_next.ensures ∙ ap (λ last. may_come_next last c.args.line.now) f.last)
