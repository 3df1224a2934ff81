-- The constants that lines need, and the lengths of instructions.
use Rattle.std.specs.Prelude.{ℕ, ◌+◌, Bool, List, [], ◌∷◌, flat_map, Option, Some, None, codes, sum_by, if◌then◌else◌}
use Rattle.class_grammar.specs.CodeGrammar.{padding_length}
use Rattle.asm_constants.specs.declared.content.Content.{Content}
use Rattle.asm_constants.specs.declared.content.Content.TheVariants as content
use Rattle.asm_constants.specs.Pools.{with_needed}
use Rattle.asm_lines.specs.declared.line.Instruction.{Instruction}
use Rattle.asm_lines.specs.declared.line.Line.{Line}
use Rattle.asm_lines.specs.declared.line.Line.TheVariants as line
use Rattle.asm_lines.specs.declared.line.Member.{Member}
use Rattle.asm_lines.specs.declared.line.Operand.{Operand}
use Rattle.asm_lines.specs.declared.line.Operand.TheVariants as operand

-- ---- constants

unfoldable pub operand_contents : Operand → List Content
operand_contents (operand.ByteIndex c) = c ∷ []
operand_contents (operand.Index c) = c ∷ []
operand_contents _ = []

unfoldable pub member_contents : Member → List Content
member_contents m = content.Utf8 m.name ∷ content.Utf8 m.descriptor ∷ []

-- the name of the attribute that holds a method's code
abbrev pub code_name : List ℕ
code_name = codes "Code"

-- a method with code, and the attribute that it has
unfoldable pub method_contents : Member → List Content
method_contents m = content.Utf8 m.name ∷ content.Utf8 m.descriptor ∷ content.Utf8 code_name ∷ []

-- the class that a catch names
unfoldable pub caught_contents : Option (List ℕ) → List Content
caught_contents None = []
caught_contents (Some class) = content.Class class ∷ []

-- the constants that a line needs, in order
unfoldable pub line_contents : Line → List Content
line_contents (line.Class flags name super) = content.Class name ∷ content.Class super ∷ []
line_contents (line.Implements name) = content.Class name ∷ []
line_contents (line.Field m) = member_contents m
line_contents (line.Abstract m) = member_contents m
line_contents (line.Method m max_stack max_locals) = method_contents m
line_contents (line.Instruction i) = flat_map operand_contents i.operands
line_contents (line.Catch c) = caught_contents c.class
line_contents _ = []

-- constants with others, each with those that it names
unfoldable pub with_all_needed : List Content → List Content → List Content
with_all_needed pool [] = pool
with_all_needed pool (c ∷ contents) = with_all_needed (with_needed pool c) contents

-- the constants of the lines before, the latest one first
unfoldable pub pool_of : List Line → List Content
pool_of [] = []
pool_of (l ∷ past) = with_all_needed (pool_of past) (line_contents l)

-- ---- lengths

-- the bytes of an operand of the instruction at pc
unfoldable pub operand_length : ℕ → Operand → ℕ
operand_length pc (operand.Byte n) = 1
operand_length pc (operand.Short n) = 2
operand_length pc (operand.Int z) = 4
operand_length pc (operand.ByteIndex c) = 1
operand_length pc (operand.Index c) = 2
operand_length pc (operand.Target label) = 2
operand_length pc (operand.FarTarget label) = 4
operand_length pc operand.Padding = padding_length pc

-- the bytes of an opcode, with wide in front of it where it is a wide one
unfoldable pub opcode_length : Bool → ℕ
opcode_length wide = if wide then 2 else 1

unfoldable pub instruction_length : ℕ → Instruction → ℕ
instruction_length pc i = opcode_length i.wide + sum_by (operand_length pc) i.operands

-- the bytes of code that a line says at pc
unfoldable pub line_length : ℕ → Line → ℕ
line_length pc (line.Instruction i) = instruction_length pc i
line_length pc _ = 0
