use Rattle.jx_model.proofs.Reasons.{reasons_given}
use Rattle.jx_model.proofs.laws.reasons_are_given.Goals as goal

pub returns : goal.returns
returns c = reasons_given _ _ _ _ c.requires
