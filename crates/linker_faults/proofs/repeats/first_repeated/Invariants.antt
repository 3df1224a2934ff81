use Rattle.linker_faults.proofs.Repeated.{IsSeen}
use Rattle.linker_faults.proofs.repeats.first_repeated.Given as goal

abbrev pub invariant-loop-member : goal.invariant-loop-member
invariant-loop-member l = IsSeen l.members l.member-index l.seen.keys
