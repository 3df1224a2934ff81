use Rattle.thread_laws.proofs.Agreement.{entry_of_thread}
use Rattle.thread_laws.proofs.laws.entries_are_of_their_thread.Goals as goal

pub returns : goal.returns
returns c = entry_of_thread _ _ c.requires
