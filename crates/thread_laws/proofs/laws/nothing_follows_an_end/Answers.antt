use Rattle.thread_laws.proofs.AfterEnds.{none_after_end, none_after_exit}
use Rattle.thread_laws.proofs.laws.nothing_follows_an_end.Goals as goal

pub returns : goal.returns
returns c = record { end = none_after_end _ _ c.requires; exit = none_after_exit _ _ c.requires }
