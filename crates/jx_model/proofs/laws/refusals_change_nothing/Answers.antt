use Rattle.jx_model.proofs.RefusedCarriage.{refusals_nothing}
use Rattle.jx_model.proofs.laws.refusals_change_nothing.Goals as goal

pub returns : goal.returns
returns c = refusals_nothing _ _ c.requires
