-- The lengths of instructions, operand by operand, and of bodies, line by line.
use Rattle.std.proofs.Common.{◌≡◌, ◌∙◌, ℕ, suc, ◌+◌, ◌≤◌, ◌<◌, refl, sym, ap, List, [], ◌∷◌, ◌++◌, length, take, drop, get_or, true, false, append_assoc, append-nil, add-one}
use Rattle.std.specs.Prelude.{sum_by}
use Rattle.std.proofs.Math.Seq.{drop-cons}
use Rattle.std.proofs.lemmas.List.{take_more, take_all, drop_all}
use Rattle.asm_lines.specs.declared.line.Instruction.{Instruction}
use Rattle.asm_lines.specs.declared.line.Line.{Line}
use Rattle.asm_lines.specs.declared.line.Operand.{Operand}
use Rattle.asm_bodies.specs.Needs.{opcode_length, operand_length, instruction_length}
use Rattle.asm_bodies.specs.Bodies.{body_of, ends}

-- an item and those behind it
pub at_front : {A : Type 0} (xs : List A) (i : ℕ) (x : A) → i < length xs → x ≡ get_or xs i x → drop i xs ≡ x ∷ drop (i + 1) xs
at_front xs i x lt is = rw add-one (drop-cons xs i x lt ∙ ap (λ y. y ∷ drop (suc i) xs) (sym is))

-- ---- instructions

pub length_at_end : (pc : ℕ) (i : Instruction) (operands : List Operand) (k n : ℕ) → operands ≡ i.operands → length operands ≤ k
    → n ≡ opcode_length i.wide + sum_by (operand_length pc) (take k operands) → n ≡ instruction_length pc i
unfolding instruction_length
length_at_end pc i operands k n same le so_far =
    so_far ∙ ap (λ (os : List Operand). opcode_length i.wide + sum_by (operand_length pc) os) (take_all k operands le ∙ same)

-- ---- the lines up to the next `end`

pub none_read : (lines : List Line) → take 0 lines ++ body_of (drop 0 lines) ≡ body_of lines
none_read lines = refl

pub ends_here : (lines : List Line) (i : ℕ) (l : Line) → i < length lines → l ≡ get_or lines i l → ends l ≡ true
    → take i lines ++ body_of (drop i lines) ≡ body_of lines → take i lines ≡ body_of lines
unfolding body_of
ends_here lines i l lt is e so_far =
    let none : body_of (drop i lines) ≡ [] = ap body_of (at_front lines i l lt is) ∙ rw e refl in
    sym (append-nil (take i lines)) ∙ (ap (λ rest. take i lines ++ rest) (sym none) ∙ so_far)

pub one_more : (lines : List Line) (i : ℕ) (l : Line) → i < length lines → l ≡ get_or lines i l → ends l ≡ false
    → take i lines ++ body_of (drop i lines) ≡ body_of lines → take (i + 1) lines ++ body_of (drop (i + 1) lines) ≡ body_of lines
unfolding body_of
one_more lines i l lt is e so_far =
    let rest : body_of (drop i lines) ≡ l ∷ body_of (drop (i + 1) lines) = ap body_of (at_front lines i l lt is) ∙ rw e refl in
    ap (λ front. front ++ body_of (drop (i + 1) lines)) (take_more lines i l lt ∙ ap (λ x. take i lines ++ x ∷ []) (sym is))
    ∙ (append_assoc (take i lines) (l ∷ []) (body_of (drop (i + 1) lines)) ∙ (ap (λ rest. take i lines ++ rest) (sym rest) ∙ so_far))

pub all_read : (lines : List Line) (i : ℕ) → length lines ≤ i → take i lines ++ body_of (drop i lines) ≡ body_of lines → lines ≡ body_of lines
unfolding body_of
all_read lines i le so_far =
    let none : body_of (drop i lines) ≡ [] = ap body_of (drop_all i lines le) in
    sym (take_all i lines le) ∙ (sym (append-nil (take i lines)) ∙ (ap (λ rest. take i lines ++ rest) (sym none) ∙ so_far))
