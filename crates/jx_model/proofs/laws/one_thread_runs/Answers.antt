use Rattle.jx_model.proofs.OneThread.{one_runner}
use Rattle.jx_model.proofs.laws.one_thread_runs.Goals as goal

pub returns : goal.returns
returns c = one_runner _ _ c.requires
