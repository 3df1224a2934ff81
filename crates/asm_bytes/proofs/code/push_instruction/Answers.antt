use Rattle.std.proofs.Common.{◌≡◌, subst, ◌++◌, List}
use Rattle.std.specs.Prelude.{flat_map, OnOk}
use Rattle.asm_lines.specs.declared.line.Operand.{Operand}
use Rattle.asm_bytes.specs.Files.{opcode_bytes, operand_bytes, instruction_bytes}
use Rattle.asm_bytes.proofs.Appended.{two_parts}
use Rattle.asm_bytes.proofs.code.push_instruction.Goals as goal

pub returns : goal.returns
unfolding instruction_bytes
returns c =
    let old = c.args.bytes.now.items in
    let opcode = opcode_bytes c.args.instruction.now in
    let operands = operand_bytes c.args.pool.now c.args.marks.now c.args.pc in
    subst (λ (os : List Operand). OnOk c.push_operands.result (c.push_operands.new.bytes.items ≡ old ++ (opcode ++ flat_map operands os))) c.as_slice.ensures
    (two_parts c.push_operands.result old c.push_opcode.new.bytes.items c.push_operands.new.bytes.items opcode (flat_map operands c.as_slice.result.now) c.in_ok-push_opcode.ensures c.push_operands.ensures)
