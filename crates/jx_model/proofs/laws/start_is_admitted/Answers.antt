use Rattle.jx_model.proofs.Growing.{grown, grown_admitted}
use Rattle.jx_model.proofs.laws.start_is_admitted.Goals as goal

pub returns : goal.returns
returns c = grown_admitted _ _ _ (grown _ _ c.requires.begins) c.requires.admitted
