use Rattle.std.proofs.Common.{◌∙◌}
use Rattle.interp_access.proofs.ArrayNames.{ended, not_ended}
use Rattle.interp_access.proofs.array_names.is_ended.Goals as goal

pub returns-then-last-eq-CLASS_END : goal.returns-then-last-eq-CLASS_END
returns-then-last-eq-CLASS_END c = c.eq.ensures ∙ ended c.args.units.now c.in-Some.front.now c.args.name.now c.in-Some.last.now c.in-Some.ensures.cases.0 c.if-last-eq-CLASS_END.true

pub returns-else-last-eq-CLASS_END : goal.returns-else-last-eq-CLASS_END
returns-else-last-eq-CLASS_END c = not_ended c.args.units.now c.in-Some.front.now c.args.name.now c.in-Some.last.now c.in-Some.ensures.cases.0 c.if-last-eq-CLASS_END.false
