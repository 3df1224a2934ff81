use Rattle.thread_laws.proofs.ServedThreads.{calls_agree}
use Rattle.thread_laws.proofs.laws.threads_serve_their_calls.Goals as goal

pub returns : goal.returns
returns c = calls_agree _ _ c.requires
