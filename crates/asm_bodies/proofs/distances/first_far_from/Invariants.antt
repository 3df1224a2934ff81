use Rattle.asm_bodies.proofs.FarLines.{Seen}
use Rattle.asm_bodies.proofs.distances.first_far_from.Given as goal

abbrev pub invariant-loop-i : goal.invariant-loop-i
invariant-loop-i l = Seen l.marks l.pc l.body l.i
