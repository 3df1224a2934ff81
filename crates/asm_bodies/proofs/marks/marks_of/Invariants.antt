use Rattle.asm_bodies.proofs.MarkLaws.{Read}
use Rattle.asm_bodies.proofs.marks.marks_of.Given as goal

abbrev pub invariant-loop-line : goal.invariant-loop-line
invariant-loop-line l = Read l.marks l.pc l.body l.line-index
