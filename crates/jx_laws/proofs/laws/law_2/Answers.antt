use Rattle.jx_laws.proofs.InOrder.{calls_in_order}
use Rattle.jx_laws.proofs.OneAnswer.{one_answer}
use Rattle.jx_laws.proofs.laws.law_2.Goals as goal

pub returns : goal.returns
returns c = record { once = one_answer _ _ c.requires; in_order = calls_in_order _ _ c.requires }
