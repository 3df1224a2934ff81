use Rattle.std.proofs.Common.{◌≡◌, ◌+◌, sum_by, take}
use Rattle.asm_bodies.specs.Needs.{opcode_length, operand_length}
use Rattle.asm_bodies.proofs.lengths.instruction_length.Given as goal

abbrev pub invariant-loop-operand : goal.invariant-loop-operand
invariant-loop-operand l =
    l.length ≡ opcode_length l.instruction.wide + sum_by (operand_length l.pc) (take l.operand-index l.operand-items)
