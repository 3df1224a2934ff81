use Rattle.jx_model.proofs.WellMadeTest.{well_made_test}
use Rattle.jx_model.proofs.laws.well_made_is_tested.Goals as goal

pub returns : goal.returns
returns c = well_made_test _ _ _
