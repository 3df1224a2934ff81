-- The bytes of the class file that lines say.
use Rattle.std.specs.Prelude.{ℕ, suc, ◌+◌, ◌-◌, ◌^◌, ◌%◌, List, [], ◌∷◌, ◌++◌, flat_map, reverse, replicate, length, Option, Some, None, sum_by, unwrap_or, if◌then◌else◌}
use Rattle.std.specs.Int.{to_be_bytes, cast_unsigned, w32}
use Rattle.class_grammar.specs.CodeGrammar.{padding_length}
use Rattle.asm_constants.specs.declared.content.Content.{Content}
use Rattle.asm_constants.specs.declared.content.Content.TheVariants as content
use Rattle.asm_constants.specs.Pools.{index_of, places, pool_bytes, two_bytes}
use Rattle.asm_lines.specs.declared.line.Instruction.{Instruction}
use Rattle.asm_lines.specs.declared.line.Line.{Line}
use Rattle.asm_lines.specs.declared.line.Line.TheVariants as line
use Rattle.asm_lines.specs.declared.line.Member.{Member}
use Rattle.asm_lines.specs.declared.line.Operand.{Operand}
use Rattle.asm_lines.specs.declared.line.Operand.TheVariants as operand
use Rattle.asm_bodies.specs.Needs.{code_name, pool_of, line_length}
use Rattle.asm_bodies.specs.Bodies.{Mark, body_of, marks_of, mark_of}
use Rattle.asm_bodies.specs.Lines.{count_of, is_implements, is_field, is_member, is_catch}

abbrev pub four_bytes : ℕ → List ℕ
four_bytes n = to_be_bytes w32 n

-- ---- code

-- the pc of a label, and 0 where it isn't there
unfoldable pub pc_of : List Mark → List ℕ → ℕ
pc_of marks label = unwrap_or (mark_of marks label) 0

-- the distance from one pc to another, in two's complement
unfoldable pub distance : ℕ → ℕ → ℕ
distance pc to = (to + (2 ^ 64 - pc)) % 2 ^ 64

-- the bytes of an operand of the instruction at pc
unfoldable pub operand_bytes : List Content → List Mark → ℕ → Operand → List ℕ
operand_bytes pool marks pc (operand.Byte n) = n ∷ []
operand_bytes pool marks pc (operand.Short n) = two_bytes n
operand_bytes pool marks pc (operand.Int z) = four_bytes (cast_unsigned w32 z)
operand_bytes pool marks pc (operand.ByteIndex c) = index_of pool c % 256 ∷ []
operand_bytes pool marks pc (operand.Index c) = two_bytes (index_of pool c)
operand_bytes pool marks pc (operand.Target label) = two_bytes (distance pc (pc_of marks label))
operand_bytes pool marks pc (operand.FarTarget label) = four_bytes (distance pc (pc_of marks label))
operand_bytes pool marks pc operand.Padding = replicate (padding_length pc) 0

-- an opcode, with wide in front of it where it is a wide one
unfoldable pub opcode_bytes : Instruction → List ℕ
opcode_bytes i = if i.wide then 0xc4 ∷ i.opcode ∷ [] else i.opcode ∷ []

unfoldable pub instruction_bytes : List Content → List Mark → ℕ → Instruction → List ℕ
instruction_bytes pool marks pc i = opcode_bytes i ++ flat_map (operand_bytes pool marks pc) i.operands

unfoldable pub line_bytes : List Content → List Mark → ℕ → Line → List ℕ
line_bytes pool marks pc (line.Instruction i) = instruction_bytes pool marks pc i
line_bytes pool marks pc _ = []

-- the code of lines of a body, which begin at that pc
unfoldable pub code_from : List Content → List Mark → ℕ → List Line → List ℕ
code_from pool marks pc [] = []
code_from pool marks pc (l ∷ lines) = line_bytes pool marks pc l ++ code_from pool marks (pc + line_length pc l) lines

-- ---- exception tables

unfoldable pub class_index : List Content → Option (List ℕ) → ℕ
class_index pool None = 0
class_index pool (Some class) = index_of pool (content.Class class)

unfoldable pub catch_bytes : List Content → List Mark → Line → List ℕ
catch_bytes pool marks (line.Catch c) =
    two_bytes (pc_of marks c.start) ++ two_bytes (pc_of marks c.end) ++ two_bytes (pc_of marks c.handler) ++ two_bytes (class_index pool c.class)
catch_bytes pool marks _ = []

-- ---- members

-- what Code holds: the greatest stack, the locals, the code and its exception table
unfoldable pub code_attribute : List Content → ℕ → ℕ → List Line → List ℕ
code_attribute pool max_stack max_locals body =
    let marks : List Mark = marks_of body in
    let code : List ℕ = code_from pool marks 0 body in
    two_bytes max_stack ++ two_bytes max_locals ++ four_bytes (length code) ++ code
    ++ two_bytes (count_of is_catch body) ++ flat_map (catch_bytes pool marks) body ++ two_bytes 0

-- one attribute, which is Code
unfoldable pub code_bytes : List Content → List ℕ → List ℕ
code_bytes pool attribute = two_bytes 1 ++ two_bytes (index_of pool (content.Utf8 code_name)) ++ four_bytes (length attribute) ++ attribute

unfoldable pub member_bytes : List Content → Member → List ℕ
member_bytes pool m = two_bytes m.flags ++ two_bytes (index_of pool (content.Utf8 m.name)) ++ two_bytes (index_of pool (content.Utf8 m.descriptor))

unfoldable pub field_bytes : List Content → Line → List ℕ
field_bytes pool (line.Field m) = member_bytes pool m ++ two_bytes 0
field_bytes pool _ = []

-- a method, with the lines behind its first one
unfoldable pub method_bytes : List Content → Line → List Line → List ℕ
method_bytes pool (line.Abstract m) after = member_bytes pool m ++ two_bytes 0
method_bytes pool (line.Method m max_stack max_locals) after =
    member_bytes pool m ++ code_bytes pool (code_attribute pool max_stack max_locals (body_of after))
method_bytes pool _ after = []

unfoldable pub methods_bytes : List Content → List Line → List ℕ
methods_bytes pool [] = []
methods_bytes pool (l ∷ lines) = method_bytes pool l lines ++ methods_bytes pool lines

-- ---- the file

unfoldable pub heading_bytes : List Content → Line → List ℕ
heading_bytes pool (line.Class flags name super) =
    two_bytes flags ++ two_bytes (index_of pool (content.Class name)) ++ two_bytes (index_of pool (content.Class super))
heading_bytes pool _ = []

unfoldable pub interface_bytes : List Content → Line → List ℕ
interface_bytes pool (line.Implements name) = two_bytes (index_of pool (content.Class name))
interface_bytes pool _ = []

-- the magic number, and version 52.0
unfoldable pub version_bytes : List ℕ
version_bytes = four_bytes 0xcafebabe ++ two_bytes 0 ++ two_bytes 52

-- the constants, with what stands in front of them
unfoldable pub constants_bytes : List Content → List ℕ
constants_bytes pool = two_bytes (suc (sum_by places pool)) ++ pool_bytes pool

-- a class file with those constants, which has no attributes
unfoldable pub file_with : List Content → List Line → List ℕ
file_with pool lines =
    version_bytes ++ constants_bytes pool ++ flat_map (heading_bytes pool) lines
    ++ two_bytes (count_of is_implements lines) ++ flat_map (interface_bytes pool) lines
    ++ two_bytes (count_of is_field lines) ++ flat_map (field_bytes pool) lines
    ++ two_bytes (count_of is_member lines) ++ methods_bytes pool lines ++ two_bytes 0

-- the class file of all lines
unfoldable pub file_bytes : List Line → List ℕ
file_bytes lines = file_with (pool_of (reverse lines)) lines
