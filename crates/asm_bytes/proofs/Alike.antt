-- Marks that give the same pcs give the same bytes.
use Rattle.std.proofs.Common.{◌≡◌, ◌∙◌, ℕ, ◌+◌, refl, sym, ap, List, [], ◌∷◌, ◌++◌, Option}
use Rattle.std.specs.Prelude.{flat_map, unwrap_or}
use Rattle.std.proofs.lemmas.List.Concat.{flat_map-cons}
use Rattle.asm_constants.specs.declared.content.Content.{Content}
use Rattle.asm_constants.specs.Pools.{two_bytes}
use Rattle.asm_lines.specs.declared.line.Line.{Line}
use Rattle.asm_lines.specs.declared.line.Line.TheVariants as line
use Rattle.asm_lines.specs.declared.line.Operand.{Operand}
use Rattle.asm_lines.specs.declared.line.Operand.TheVariants as operand
use Rattle.asm_bodies.specs.Bodies.{Mark, mark_of}
use Rattle.asm_bodies.specs.Needs.{line_length}
use Rattle.asm_bytes.specs.Files.{pc_of, distance, operand_bytes, opcode_bytes, instruction_bytes, line_bytes, code_from, catch_bytes, four_bytes}

abbrev pub Alike : List Mark → List Mark → Type 0
Alike marks others = (name : List ℕ) → mark_of marks name ≡ mark_of others name

flat_same : {X : Type 0} (f g : X → List ℕ) (xs : List X) → ((x : X) → f x ≡ g x) → flat_map f xs ≡ flat_map g xs
flat_same f g [] h = refl
flat_same f g (x ∷ xs) h =
    flat_map-cons f x xs ∙ (ap (λ (a : List ℕ). a ++ flat_map f xs) (h x) ∙ (ap (λ (b : List ℕ). g x ++ b) (flat_same f g xs h) ∙ sym (flat_map-cons g x xs)))

same_pc : (marks others : List Mark) (label : List ℕ) → Alike marks others → pc_of marks label ≡ pc_of others label
unfolding pc_of
same_pc marks others label h = ap (λ (found : Option ℕ). unwrap_or found 0) (h label)

same_operand : (pool : List Content) (marks others : List Mark) (pc : ℕ) (o : Operand) → Alike marks others → operand_bytes pool marks pc o ≡ operand_bytes pool others pc o
unfolding operand_bytes
same_operand pool marks others pc (operand.Target label) h = ap (λ to. two_bytes (distance pc to)) (same_pc marks others label h)
same_operand pool marks others pc (operand.FarTarget label) h = ap (λ to. four_bytes (distance pc to)) (same_pc marks others label h)
same_operand pool marks others pc _ h = refl

same_line : (pool : List Content) (marks others : List Mark) (pc : ℕ) (l : Line) → Alike marks others → line_bytes pool marks pc l ≡ line_bytes pool others pc l
unfolding line_bytes instruction_bytes
same_line pool marks others pc (line.Instruction i) h =
    ap (λ (operands : List ℕ). opcode_bytes i ++ operands) (flat_same (operand_bytes pool marks pc) (operand_bytes pool others pc) i.operands (λ o. same_operand pool marks others pc o h))
same_line pool marks others pc _ h = refl

pub same_code : (pool : List Content) (marks others : List Mark) (pc : ℕ) (lines : List Line) → Alike marks others → code_from pool marks pc lines ≡ code_from pool others pc lines
unfolding code_from
same_code pool marks others pc [] h = refl
same_code pool marks others pc (l ∷ lines) h =
    ap (λ (a : List ℕ). a ++ code_from pool marks (pc + line_length pc l) lines) (same_line pool marks others pc l h)
    ∙ ap (λ (b : List ℕ). line_bytes pool others pc l ++ b) (same_code pool marks others (pc + line_length pc l) lines h)

same_catch : (pool : List Content) (marks others : List Mark) (l : Line) → Alike marks others → catch_bytes pool marks l ≡ catch_bytes pool others l
unfolding catch_bytes
same_catch pool marks others (line.Catch c) h = rw (same_pc marks others c.start h, same_pc marks others c.end h, same_pc marks others c.handler h) refl
same_catch pool marks others _ h = refl

pub same_catches : (pool : List Content) (marks others : List Mark) (lines : List Line) → Alike marks others
    → flat_map (catch_bytes pool marks) lines ≡ flat_map (catch_bytes pool others) lines
same_catches pool marks others lines h = flat_same (catch_bytes pool marks) (catch_bytes pool others) lines (λ l. same_catch pool marks others l h)
