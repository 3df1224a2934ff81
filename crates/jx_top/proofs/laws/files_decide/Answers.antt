use Rattle.jx_top.proofs.OneOutcome.{one_due}
use Rattle.jx_top.proofs.OneSystem.{one_system}
use Rattle.jx_top.proofs.laws.files_decide.Goals as goal

pub returns-clause-one_outcome : goal.returns-clause-one_outcome
returns-clause-one_outcome c = one_due

pub returns-clause-one_system : goal.returns-clause-one_system
returns-clause-one_system c = one_system
