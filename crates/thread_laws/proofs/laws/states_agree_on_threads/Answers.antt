use Rattle.thread_laws.proofs.Agreement.{agreement_stands}
use Rattle.thread_laws.proofs.laws.states_agree_on_threads.Goals as goal

pub returns : goal.returns
returns c = agreement_stands _ _ c.requires
