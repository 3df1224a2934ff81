use Rattle.asm_bytes.proofs.CodeOn.{Coded}
use Rattle.asm_bytes.proofs.code.code_of.Given as goal

abbrev pub invariant-loop-line : goal.invariant-loop-line
invariant-loop-line l = Coded l.pool l.marks l.body l.line-index l.pc l.bytes.items
