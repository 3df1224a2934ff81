use Rattle.program_model.proofs.OneWalk.{only_walk}
use Rattle.program_model.proofs.laws.walks_end.Goals as goal

pub returns : goal.returns
returns c = only_walk
