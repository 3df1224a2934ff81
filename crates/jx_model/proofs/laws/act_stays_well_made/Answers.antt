use Rattle.jx_model.proofs.Growing.{grown, stays_well_made}
use Rattle.jx_model.proofs.laws.act_stays_well_made.Goals as goal

pub returns : goal.returns
returns c = stays_well_made _ _ _ _ (grown _ _ c.requires.begins) c.requires.well_made
