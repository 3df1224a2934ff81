-- Counts, pcs and bytes of code, line by line.
use Rattle.std.proofs.Common.{◌≡◌, ◌∙◌, refl, ap, ℕ, ◌+◌, Bool, true, false, List, [], ◌∷◌, ◌++◌, length, length-append, arith}
use Rattle.std.specs.Prelude.{if◌then◌else◌, filter, flat_map, fold}
use Rattle.std.proofs.lemmas.List.{length-replicate}
use Rattle.std.proofs.lemmas.List.Concat.{length-flat_map}
use Rattle.asm_constants.specs.declared.content.Content.{Content}
use Rattle.asm_lines.specs.declared.line.Instruction.{Instruction}
use Rattle.asm_lines.specs.declared.line.Line.{Line}
use Rattle.asm_lines.specs.declared.line.Line.TheVariants as line
use Rattle.asm_lines.specs.declared.line.Operand.{Operand}
use Rattle.asm_lines.specs.declared.line.Operand.TheVariants as operand
use Rattle.asm_bodies.specs.Needs.{line_length, operand_length, opcode_length, instruction_length}
use Rattle.asm_bodies.specs.Lines.{count_of}
use Rattle.asm_bodies.specs.Bodies.{Mark, pc_behind}
use Rattle.asm_bytes.specs.Files.{operand_bytes, opcode_bytes, instruction_bytes, line_bytes, code_from}

pub pc_last : (pc : ℕ) (lines : List Line) (l : Line) → pc_behind pc (lines ++ l ∷ []) ≡ pc_behind pc lines + line_length (pc_behind pc lines) l
unfolding pc_behind
pc_last pc [] l = refl
pc_last pc (m ∷ lines) l = pc_last (pc + line_length pc m) lines l

pub count_last : (test : Line → Bool) (lines : List Line) (l : Line) → count_of test (lines ++ l ∷ []) ≡ count_of test lines + (if test l then 1 else 0)
unfolding count_of
count_last test [] l = elim (test l) as (λ b. length (if b then l ∷ [] else []) ≡ 0 + (if b then 1 else 0)) [ true ↦ refl | false ↦ refl ]
count_last test (m ∷ lines) l =
    elim (test m) as (λ b. length (if b then m ∷ filter test (lines ++ l ∷ []) else filter test (lines ++ l ∷ [])) ≡ length (if b then m ∷ filter test lines else filter test lines) + (if test l then 1 else 0)) [
      | true ↦ omega (arith, count_last test lines l)
      | false ↦ count_last test lines l
    ]

pub count_first : (test : Line → Bool) (l : Line) (past : List Line) → count_of test (l ∷ past) ≡ count_of test past + (if test l then 1 else 0)
unfolding count_of
count_first test l past =
    elim (test l) as (λ b. length (if b then l ∷ filter test past else filter test past) ≡ length (filter test past) + (if b then 1 else 0)) [
      | true ↦ omega arith
      | false ↦ omega arith
    ]

-- ---- bytes of code

operand_bytes_length : (pool : List Content) (marks : List Mark) (pc : ℕ) (o : Operand) → length (operand_bytes pool marks pc o) ≡ operand_length pc o
unfolding operand_bytes operand_length
operand_bytes_length pool marks pc (operand.Byte n) = refl
operand_bytes_length pool marks pc (operand.Short n) = refl
operand_bytes_length pool marks pc (operand.Int z) = refl
operand_bytes_length pool marks pc (operand.ByteIndex c) = refl
operand_bytes_length pool marks pc (operand.Index c) = refl
operand_bytes_length pool marks pc (operand.Target label) = refl
operand_bytes_length pool marks pc (operand.FarTarget label) = refl
operand_bytes_length pool marks pc operand.Padding = length-replicate _ 0

summed_alike : {X : Type 0} (f g : X → ℕ) → ((x : X) → f x ≡ g x) → (n : ℕ) (xs : List X) → fold (λ a x. a + f x) n xs ≡ fold (λ a x. a + g x) n xs
summed_alike f g h n [] = refl
summed_alike f g h n (x ∷ xs) = ap (λ m. fold (λ a x. a + f x) (n + m) xs) (h x) ∙ summed_alike f g h (n + g x) xs

opcode_bytes_length : (i : Instruction) → length (opcode_bytes i) ≡ opcode_length i.wide
unfolding opcode_bytes opcode_length
opcode_bytes_length i = elim i.wide as (λ w. length (if w then 0xc4 ∷ i.opcode ∷ [] else i.opcode ∷ []) ≡ (if w then 2 else 1)) [ true ↦ refl | false ↦ refl ]

pub line_bytes_length : (pool : List Content) (marks : List Mark) (pc : ℕ) (l : Line) → length (line_bytes pool marks pc l) ≡ line_length pc l
unfolding line_bytes line_length instruction_bytes instruction_length
line_bytes_length pool marks pc (line.Instruction i) =
    length-append (opcode_bytes i) (flat_map (operand_bytes pool marks pc) i.operands)
    ∙ (ap (λ n. n + length (flat_map (operand_bytes pool marks pc) i.operands)) (opcode_bytes_length i)
    ∙ ap (λ n. opcode_length i.wide + n) (length-flat_map (operand_bytes pool marks pc) i.operands
    ∙ summed_alike (λ o. length (operand_bytes pool marks pc o)) (operand_length pc) (operand_bytes_length pool marks pc) 0 i.operands))
line_bytes_length pool marks pc _ = refl

-- the pc behind lines is that of the bytes of their code
pub code_length : (pool : List Content) (marks : List Mark) (pc : ℕ) (lines : List Line) → pc + length (code_from pool marks pc lines) ≡ pc_behind pc lines
unfolding code_from pc_behind
code_length pool marks pc [] = omega arith
code_length pool marks pc (l ∷ lines) =
    let n = line_bytes_length pool marks pc l in
    let more = code_length pool marks (pc + line_length pc l) lines in
    let joined = length-append (line_bytes pool marks pc l) (code_from pool marks (pc + line_length pc l) lines) in omega arith
