-- Lines that are too far from their labels, line by line.
use Rattle.std.specs.Option.{option_or}
use Rattle.std.proofs.Common.{◌≡◌, ◌∙◌, ℕ, suc, ◌+◌, ◌≤◌, ◌<◌, refl, sym, ap, List, [], ◌∷◌, length, drop, get_or, true, false, Option, Some, None, arith}
use Rattle.std.specs.Prelude.{option_map, not}
use Rattle.std.specs.List.{list_any}
use Rattle.std.proofs.lemmas.List.{drop_all}
use Rattle.asm_lines.specs.declared.line.Line.{Line}
use Rattle.asm_lines.specs.declared.line.Line.TheVariants as line
use Rattle.asm_lines.specs.declared.line.Operand.{Operand}
use Rattle.asm_lines.specs.declared.line.Operand.TheVariants as operand
use Rattle.asm_bodies.specs.Needs.{line_length}
use Rattle.asm_bodies.specs.Lines.{is_method}
use Rattle.asm_bodies.specs.Bodies.{Mark, body_of, marks_of, is_near, is_far_operand, is_far, first_far_from, first_far_in, first_far}
use Rattle.asm_bodies.proofs.LineByLine.{at_front}
use Rattle.asm_bodies.proofs.MarkLaws.{Alike}

-- a place among lines, of which so many were read
abbrev pub behind : ℕ → Option ℕ → Option ℕ
behind i place = option_map (λ n. i + n) place

pub behind_none : (place : Option ℕ) → behind 0 place ≡ place
behind_none None = refl
behind_none (Some n) = ap Some (omega arith)

behind_suc : (i : ℕ) (place : Option ℕ) → behind i (option_map suc place) ≡ behind (i + 1) place
behind_suc i None = refl
behind_suc i (Some n) = ap Some (omega arith)

-- ---- marks that give the same pcs

far_operand_alike : (marks others : List Mark) (pc : ℕ) (o : Operand) → Alike marks others → is_far_operand marks pc o ≡ is_far_operand others pc o
unfolding is_far_operand
far_operand_alike marks others pc (operand.Target label) h =
    ap (λ (found : Option ℕ). elim found [ None ↦ false | Some to ↦ not (is_near pc to) ]) (h label)
far_operand_alike marks others pc _ h = refl

any_alike : (marks others : List Mark) (pc : ℕ) (os : List Operand) → Alike marks others → list_any (is_far_operand marks pc) os ≡ list_any (is_far_operand others pc) os
any_alike marks others pc [] h = refl
any_alike marks others pc (o ∷ os) h = rw (far_operand_alike marks others pc o h, any_alike marks others pc os h) refl

far_alike : (marks others : List Mark) (pc : ℕ) (l : Line) → Alike marks others → is_far marks pc l ≡ is_far others pc l
unfolding is_far
far_alike marks others pc (line.Instruction i) h = any_alike marks others pc i.operands h
far_alike marks others pc _ h = refl

pub first_alike : (marks others : List Mark) (pc : ℕ) (lines : List Line) → Alike marks others → first_far_from marks pc lines ≡ first_far_from others pc lines
unfolding first_far_from
first_alike marks others pc [] h = refl
first_alike marks others pc (l ∷ lines) h = rw (far_alike marks others pc l h, first_alike marks others (pc + line_length pc l) lines h) refl

pub in_body : (marks : List Mark) (body : List Line) → Alike marks (marks_of body) → first_far_from marks 0 body ≡ first_far_in body
unfolding first_far_in
in_body marks body h = first_alike marks (marks_of body) 0 body h

-- ---- the lines of a body

abbrev pub Seen : List Mark → ℕ → List Line → ℕ → Type 0
Seen marks pc body i = behind i (first_far_from marks pc (drop i body)) ≡ first_far_from marks 0 body

pub none_seen : (marks : List Mark) (body : List Line) → Seen marks 0 body 0
none_seen marks body = behind_none (first_far_from marks 0 body)

pub far_here : (marks : List Mark) (pc : ℕ) (body : List Line) (i : ℕ) (l : Line) → i < length body → l ≡ get_or body i l → is_far marks pc l ≡ true
    → Seen marks pc body i → Some i ≡ first_far_from marks 0 body
unfolding first_far_from
far_here marks pc body i l lt is far so_far =
    let here : first_far_from marks pc (drop i body) ≡ Some 0 = ap (first_far_from marks pc) (at_front body i l lt is) ∙ rw far refl in
    let place : i ≡ i + 0 = omega arith in
    ap Some place ∙ (ap (behind i) (sym here) ∙ so_far)

pub near_here : (marks : List Mark) (pc : ℕ) (body : List Line) (i : ℕ) (l : Line) → i < length body → l ≡ get_or body i l → is_far marks pc l ≡ false
    → Seen marks pc body i → Seen marks (pc + line_length pc l) body (i + 1)
unfolding first_far_from
near_here marks pc body i l lt is near so_far =
    let next : first_far_from marks pc (drop i body) ≡ option_map suc (first_far_from marks (pc + line_length pc l) (drop (i + 1) body)) =
    ap (first_far_from marks pc) (at_front body i l lt is) ∙ rw near refl in
    sym (behind_suc i (first_far_from marks (pc + line_length pc l) (drop (i + 1) body))) ∙ (ap (behind i) (sym next) ∙ so_far)

pub all_near : (marks : List Mark) (pc : ℕ) (body : List Line) (i : ℕ) → length body ≤ i → Seen marks pc body i → None ≡ first_far_from marks 0 body
unfolding first_far_from
all_near marks pc body i le so_far = ap (λ lines. behind i (first_far_from marks pc lines)) (sym (drop_all i body le)) ∙ so_far

-- ---- the lines of a text

abbrev pub Passed : List Line → ℕ → Type 0
Passed lines i = behind i (first_far (drop i lines)) ≡ first_far lines

pub none_passed : (lines : List Line) → Passed lines 0
none_passed lines = behind_none (first_far lines)

or_none : (place : Option ℕ) → option_or None place ≡ place
or_none place = refl

or_some : (n : ℕ) (place : Option ℕ) → option_or (Some n) place ≡ Some n
or_some n place = refl

pub no_method : (lines : List Line) (i : ℕ) (l : Line) → i < length lines → l ≡ get_or lines i l → is_method l ≡ false → Passed lines i → Passed lines (i + 1)
unfolding first_far
no_method lines i l lt is none so_far =
    let next : first_far (drop i lines) ≡ option_map suc (first_far (drop (i + 1) lines)) = ap first_far (at_front lines i l lt is) ∙ rw none refl in
    sym (behind_suc i (first_far (drop (i + 1) lines))) ∙ (ap (behind i) (sym next) ∙ so_far)

pub near_body : (lines : List Line) (i : ℕ) (l : Line) → i < length lines → l ≡ get_or lines i l → is_method l ≡ true
    → None ≡ first_far_in (body_of (drop (i + 1) lines)) → Passed lines i → Passed lines (i + 1)
unfolding first_far
near_body lines i l lt is method near so_far =
    let rest : List Line = drop (i + 1) lines in
    let next : first_far (drop i lines) ≡ option_map suc (first_far rest) =
    ap first_far (at_front lines i l lt is) ∙ rw (method, ← near) (ap (option_map suc) (or_none (first_far rest))) in
    sym (behind_suc i (first_far rest)) ∙ (ap (behind i) (sym next) ∙ so_far)

pub far_body : (lines : List Line) (i : ℕ) (l : Line) (n : ℕ) → i < length lines → l ≡ get_or lines i l → is_method l ≡ true
    → Some n ≡ first_far_in (body_of (drop (i + 1) lines)) → Passed lines i → Some ((i + 1) + n) ≡ first_far lines
unfolding first_far
far_body lines i l n lt is method far so_far =
    let rest : List Line = drop (i + 1) lines in
    let here : first_far (drop i lines) ≡ Some (suc n) =
    ap first_far (at_front lines i l lt is) ∙ rw (method, ← far) (ap (option_map suc) (or_some n (first_far rest))) in
    let place : (i + 1) + n ≡ i + suc n = omega arith in
    ap Some place ∙ (ap (behind i) (sym here) ∙ so_far)

pub all_passed : (lines : List Line) (i : ℕ) → length lines ≤ i → Passed lines i → None ≡ first_far lines
unfolding first_far
all_passed lines i le so_far = ap (λ rest. behind i (first_far rest)) (sym (drop_all i lines le)) ∙ so_far
