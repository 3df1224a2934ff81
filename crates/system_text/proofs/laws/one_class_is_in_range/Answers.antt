use Rattle.system_text.proofs.OneClassPlan.{one_class_in_range}
use Rattle.system_text.proofs.laws.one_class_is_in_range.Goals as goal

pub returns : goal.returns
returns c = one_class_in_range
