use Rattle.jx_laws.proofs.InOrder.{served_by_one}
use Rattle.jx_laws.proofs.Standing.{unanswered_holds}
use Rattle.jx_laws.proofs.laws.law_3.Goals as goal

pub returns : goal.returns
returns c = record { listed = unanswered_holds _ _ c.requires; served = served_by_one _ _ c.requires }
