use Rattle.asm_bodies.proofs.FarLines.{Passed}
use Rattle.asm_bodies.proofs.distances.first_far.Given as goal

abbrev pub invariant-loop-i : goal.invariant-loop-i
invariant-loop-i l = Passed l.lines l.i
