-- What the instructions and the catches of a body are when they are read again.
use Rattle.std.specs.Prelude.{ℕ, ◌+◌, ℤ, pos, List, [], ◌∷◌, ◌++◌, flat_map, if◌then◌else◌}
use Rattle.std.specs.Int.{cast_signed, w8, w16}
use Rattle.class_grammar.specs.Opcodes.{form_at, wide_form_at}
use Rattle.jx_base.specs.declared.class_file.Instr.{Instr}
use Rattle.jx_base.specs.declared.class_file.Range.{Range}
use Rattle.jx_base.specs.declared.row.Form.{Form}
use Rattle.jx_base.specs.declared.row.Form.TheVariants as form
use Rattle.asm_constants.specs.declared.content.Content.{Content}
use Rattle.asm_constants.specs.Pools.{index_of}
use Rattle.asm_lines.specs.declared.line.Instruction.{Instruction}
use Rattle.asm_lines.specs.declared.line.Line.{Line}
use Rattle.asm_lines.specs.declared.line.Line.TheVariants as line
use Rattle.asm_lines.specs.declared.line.Operand.{Operand}
use Rattle.asm_lines.specs.declared.line.Operand.TheVariants as operand
use Rattle.asm_bodies.specs.Bodies.{Mark}
use Rattle.asm_bodies.specs.Needs.{line_length}
use Rattle.asm_bytes.specs.Files.{pc_of, class_index}

-- the numbers that an operand is read as: an index, the pc of a label, or the number itself; padding is none
unfoldable pub operand_numbers : List Content → List Mark → Operand → List ℤ
operand_numbers pool marks (operand.Byte n) = pos n ∷ []
operand_numbers pool marks (operand.Short n) = pos n ∷ []
operand_numbers pool marks (operand.Int z) = z ∷ []
operand_numbers pool marks (operand.ByteIndex c) = pos (index_of pool c) ∷ []
operand_numbers pool marks (operand.Index c) = pos (index_of pool c) ∷ []
operand_numbers pool marks (operand.Target label) = pos (pc_of marks label) ∷ []
operand_numbers pool marks (operand.FarTarget label) = pos (pc_of marks label) ∷ []
operand_numbers pool marks operand.Padding = []

-- a number with a sign
unfoldable pub signed_numbers : Operand → List ℤ
signed_numbers (operand.Byte n) = cast_signed w8 n ∷ []
signed_numbers (operand.Short n) = cast_signed w16 n ∷ []
signed_numbers _ = []

-- the numbers of operands of a form: constants and what is added have a sign, and behind the index of an interface's method nothing is read
unfoldable pub form_numbers : Form → List Content → List Mark → List Operand → List ℤ
form_numbers form.SignedByte pool marks operands = flat_map signed_numbers operands
form_numbers form.SignedShort pool marks operands = flat_map signed_numbers operands
form_numbers form.Increment pool marks (local ∷ by) = operand_numbers pool marks local ++ flat_map signed_numbers by
form_numbers form.WideIncrement pool marks (local ∷ by) = operand_numbers pool marks local ++ flat_map signed_numbers by
form_numbers form.Interface pool marks (index ∷ counts) = operand_numbers pool marks index
form_numbers f pool marks operands = flat_map (operand_numbers pool marks) operands

unfoldable pub form_of : Instruction → Form
form_of i = if i.wide then wide_form_at i.opcode else form_at i.opcode

-- the instruction at pc
unfoldable pub written_instr : List Content → List Mark → ℕ → Instruction → Instr
written_instr pool marks pc i =
    record { pc = pc; opcode = i.opcode; wide = i.wide; operands = form_numbers (form_of i) pool marks i.operands }

unfoldable pub line_instrs : List Content → List Mark → ℕ → Line → List Instr
line_instrs pool marks pc (line.Instruction i) = written_instr pool marks pc i ∷ []
line_instrs pool marks pc _ = []

-- the instructions of lines of a body, which begin at that pc
unfoldable pub instrs_from : List Content → List Mark → ℕ → List Line → List Instr
instrs_from pool marks pc [] = []
instrs_from pool marks pc (l ∷ lines) = line_instrs pool marks pc l ++ instrs_from pool marks (pc + line_length pc l) lines

-- the entry of the exception table that a line says
unfoldable pub line_ranges : List Content → List Mark → Line → List Range
line_ranges pool marks (line.Catch c) =
    record { start = pc_of marks c.start; end = pc_of marks c.end; handler = pc_of marks c.handler; catch_type = class_index pool c.class } ∷ []
line_ranges pool marks _ = []
