use Rattle.jx_model.proofs.NumbersGiven.{numbers_once}
use Rattle.jx_model.proofs.laws.numbers_are_given_once.Goals as goal

pub returns : goal.returns
returns c = numbers_once _ _ c.requires
