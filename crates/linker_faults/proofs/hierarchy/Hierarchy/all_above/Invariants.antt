use Rattle.link_model.specs.LinkFaults.{next_above}
use Rattle.linker_faults.proofs.Rounds.{IsFollowed}
use Rattle.linker_faults.proofs.hierarchy.Hierarchy.all_above.Given as goal

abbrev pub invariant-loop-followed : goal.invariant-loop-followed
invariant-loop-followed l =
    IsFollowed (next_above l.self.plan l.self.files l.self.template) (next_above l.self.plan l.self.files l.self.template l.place) l.followed l.reached.keys
