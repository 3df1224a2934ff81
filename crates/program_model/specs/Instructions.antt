-- Reading instructions from the bytes of a method's code.
use Rattle.std.specs.Prelude.{ℕ, ◌-◌, ℤ, pos, List, [], length, drop, Option, Some, None, Result, Ok, Err, slice_index_or}
use Rattle.std.specs.Int.{w32, cast_unsigned}
use Rattle.class_grammar.specs.Parts.{Part, opened_parts}
use Rattle.class_grammar.specs.CodeGrammar.{instruction_part, instructions_reading, opened_code_grammar}
use Rattle.jx_base.specs.declared.class_file.Instr.{Instr}
use Rattle.jx_base.specs.declared.fault.CodeFault.{CodeFault}

-- an instruction that was read, and the place behind it
pub record Reading : Type 0 where
  pub instr : Instr
  pub next : ℕ

-- what was read, of code of that length
unfoldable pub reading_of : ℕ → Result (Instr × List ℕ) CodeFault → Option Reading
reading_of size (Ok x) = Some (record { instr = x.0; next = size - length x.1 })
reading_of size (Err f) = None

-- the instruction at pc: none past the code, nor where there is a fault
unfoldable pub instruction_at : List ℕ → ℕ → Option Reading
instruction_at code pc = reading_of (length code) ((instruction_part pc).reads (drop pc code))

-- the instructions that were read
unfoldable pub instructions_in : Result (List Instr) CodeFault → List Instr
instructions_in (Ok instrs) = instrs
instructions_in (Err f) = []

-- all instructions of a method's code
unfoldable pub instructions_of : List ℕ → List Instr
instructions_of code = instructions_in (instructions_reading (length code) (length code) code)

-- ---- the operands of a row

-- operand k of an instruction
unfoldable pub operand : Instr → ℕ → ℤ
operand i k = slice_index_or i.operands k (pos 0)

-- operand k as an index or a place in the code
unfoldable pub index_operand : Instr → ℕ → ℕ
index_operand i k = cast_unsigned w32 (operand i k)

-- what a computed case opens
unfoldable pub opened_instructions : Unit {0}
unfolding opened_parts opened_code_grammar reading_of instruction_at instructions_in instructions_of operand index_operand
opened_instructions = tt
