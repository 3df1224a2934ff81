use Rattle.system_text.proofs.InRange.{plan_in_range}
use Rattle.system_text.proofs.laws.plan_is_in_range.Goals as goal

pub returns : goal.returns
returns c = plan_in_range
