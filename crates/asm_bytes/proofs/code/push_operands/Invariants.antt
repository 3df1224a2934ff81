use Rattle.asm_bytes.specs.Files.{operand_bytes}
use Rattle.asm_bytes.proofs.Appended.{Put}
use Rattle.asm_bytes.proofs.code.push_operands.Given as goal

abbrev pub invariant-loop-operand : goal.invariant-loop-operand
invariant-loop-operand l = Put (operand_bytes l.pool l.marks l.pc) l.operands l.operand-index l.bytes.items l.initial.bytes.items
