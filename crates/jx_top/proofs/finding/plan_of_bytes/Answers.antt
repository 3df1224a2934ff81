use Rattle.system_text.proofs.InRange.{plan_in_range}
use Rattle.jx_top.proofs.finding.plan_of_bytes.Goals as goal

pub returns-in-Ok-clause-range : goal.returns-in-Ok-clause-range
returns-in-Ok-clause-range c = plan_in_range _ _ c.in-Ok.ensures.found
