use Rattle.thread_laws.proofs.PermittedActs.{code_may_perform}
use Rattle.thread_laws.proofs.laws.running_threads_may_perform.Goals as goal

pub returns : goal.returns
returns c = code_may_perform _ _ c.requires
