-- What is kept of a body, line by line.
use Rattle.std.proofs.Common.{◌≡◌, ◌∙◌, refl, sym, ap, ℕ, ◌+◌, Bool, true, false, List, [], ◌∷◌, ◌++◌, length, arith}
use Rattle.std.specs.Prelude.{◌||◌, if◌then◌else◌, filter}
use Rattle.std.specs.List.{list_any}
use Rattle.std.proofs.lemmas.List.Folds.{list_any-append}
use Rattle.asm_lines.specs.declared.line.Line.{Line}
use Rattle.asm_lines.specs.declared.line.Line.TheVariants as line
use Rattle.asm_bodies.specs.Needs.{line_length}
use Rattle.asm_bodies.specs.Lines.{count_of}
use Rattle.asm_bodies.specs.Bodies.{body_of, ends, goes_on, has_label, is_label, pc_behind}
use Rattle.std.proofs.Math.Bool.{or-false}

-- ---- the labels of lines and one more

pub label_last : (name : List ℕ) (lines : List Line) (l : Line) → has_label name (lines ++ l ∷ []) ≡ (has_label name lines || is_label name l)
unfolding has_label
label_last name lines l = list_any-append (is_label name) lines (l ∷ []) ∙ ap (λ b. list_any (is_label name) lines || b) (or-false (is_label name l))

-- a line behind which a body goes on isn't its end
pub body_goes_on : (l : Line) (after : List Line) → goes_on l ≡ true → body_of (l ∷ after) ≡ l ∷ body_of after
unfolding body_of goes_on ends
body_goes_on line.Skipped after h = refl
body_goes_on (line.Label name) after h = refl
body_goes_on (line.Instruction i) after h = refl
body_goes_on (line.Catch c) after h = refl
body_goes_on _ after h = cc

regrouped : (a b c : Bool) → ((a || b) || c) ≡ (a || (b || c))
regrouped true b c = refl
regrouped false b c = refl

-- the labels up to the end of the body stay the same
pub whole_stays : (name : List ℕ) (lines : List Line) (l : Line) (after : List Line) → goes_on l ≡ true
    → (has_label name (lines ++ l ∷ []) || has_label name (body_of after)) ≡ (has_label name lines || has_label name (body_of (l ∷ after)))
unfolding has_label
whole_stays name lines l after h =
    ap (λ b. b || has_label name (body_of after)) (label_last name lines l)
    ∙ (regrouped (has_label name lines) (is_label name l) (has_label name (body_of after))
    ∙ sym (ap (λ (ls : List Line). has_label name lines || has_label name ls) (body_goes_on l after h)))

-- ---- pcs and counts of lines and one more

pub pc_last : (pc : ℕ) (lines : List Line) (l : Line) → pc_behind pc (lines ++ l ∷ []) ≡ pc_behind pc lines + line_length (pc_behind pc lines) l
unfolding pc_behind
pc_last pc [] l = refl
pc_last pc (m ∷ lines) l = pc_last (pc + line_length pc m) lines l

pub count_last : (test : Line → Bool) (lines : List Line) (l : Line) → count_of test (lines ++ l ∷ []) ≡ count_of test lines + (if test l then 1 else 0)
unfolding count_of
count_last test [] l = elim (test l) as (λ b. length (if b then l ∷ [] else []) ≡ 0 + (if b then 1 else 0)) [ true ↦ refl | false ↦ refl ]
count_last test (m ∷ lines) l =
    elim (test m) as (λ b. length (if b then m ∷ filter test (lines ++ l ∷ []) else filter test (lines ++ l ∷ [])) ≡ length (if b then m ∷ filter test lines else filter test lines) + (if test l then 1 else 0)) [
      | true ↦ omega (arith, count_last test lines l)
      | false ↦ count_last test lines l
    ]

pub count_first : (test : Line → Bool) (l : Line) (past : List Line) → count_of test (l ∷ past) ≡ count_of test past + (if test l then 1 else 0)
unfolding count_of
count_first test l past =
    elim (test l) as (λ b. length (if b then l ∷ filter test past else filter test past) ≡ length (filter test past) + (if b then 1 else 0)) [
      | true ↦ omega arith
      | false ↦ omega arith
    ]
