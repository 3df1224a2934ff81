-- How far places lie: within the lines, which are no more than the bytes of their text.
use Rattle.std.specs.Option.{option_or}
use Rattle.std.proofs.Common.{◌≡◌, ◌∙◌, sym, subst, ℕ, ◌+◌, ◌≤◌, true, false, List, [], ◌∷◌, Option, Some, None, length, arith}
use Rattle.std.specs.Prelude.{suc, ◌==◌, if◌then◌else◌, option_map}
use Rattle.std.proofs.lemmas.List.{length-map}
use Rattle.asm_words.specs.Words.{lines_of, begun, feed}
use Rattle.asm_lines.specs.Lines.{meaning, meanings}
use Rattle.asm_lines.specs.declared.line.AsmKind.{AsmKind}
use Rattle.asm_lines.specs.declared.line.Line.{Line}
use Rattle.asm_bodies.specs.Bodies.{Mark, first_far, first_far_in, first_far_from, is_far, body_of, ends, marks_of}
use Rattle.asm_bodies.specs.Lines.{is_method}
use Rattle.asm_bodies.specs.Needs.{line_length}
use Rattle.asm_checks.specs.Faults.{first_fault, fault_or, kind_at, end_fault}

begun_length : (b : ℕ) (lines : List (List ℕ)) → length (begun b lines) ≤ suc (length lines)
unfolding begun
begun_length b [] = omega arith
begun_length b (line ∷ lines) = omega arith

lines_length : (text : List ℕ) → length (lines_of text) ≤ length text
unfolding lines_of
lines_length [] = omega arith
lines_length (b ∷ text) =
    elim (b == feed) as (λ c. length (if c then [] ∷ lines_of text else begun b (lines_of text)) ≤ suc (length text)) [
      | true ↦ omega (arith, lines_length text)
      | false ↦ omega (arith, lines_length text, begun_length b (lines_of text))
    ]

pub meanings_length : (text : List ℕ) → length (meanings text) ≤ length text
unfolding meanings
meanings_length text = omega (arith, length-map (lines_of text) meaning, lines_length text)

-- ---- the place of the first fault

pub AtMost : ℕ → Option ℕ → Type 0
AtMost n None = Unit {0}
AtMost n (Some i) = i ≤ n

pub FaultAtMost : ℕ → Option (ℕ × AsmKind) → Type 0
FaultAtMost n None = Unit {0}
FaultAtMost n (Some found) = found.0 ≤ n

or_later : (before n : ℕ) (k : Option AsmKind) (later : Option (ℕ × AsmKind)) → before ≤ n → FaultAtMost n later → FaultAtMost n (fault_or before k later)
unfolding fault_or FaultAtMost
or_later before n None later h l = l
or_later before n (Some kind) later h l = h

pub fault_within : (past lines : List Line) → FaultAtMost (length past + length lines) (first_fault past lines)
unfolding first_fault FaultAtMost
fault_within past [] = or_later (length past) (length past + 0) (end_fault past) None (omega arith) tt
fault_within past (l ∷ lines) =
    or_later (length past) (length past + suc (length lines)) (kind_at past l lines) (first_fault (l ∷ past) lines) (omega arith)
    (subst (λ n. FaultAtMost n (first_fault (l ∷ past) lines)) (omega arith) (fault_within (l ∷ past) lines))

-- ---- the place of the first line that is too far

one_more : (n : ℕ) (o : Option ℕ) → AtMost n o → AtMost (suc n) (option_map suc o)
unfolding AtMost
one_more n None h = tt
one_more n (Some i) h = omega (arith, h)

looser : (n m : ℕ) (o : Option ℕ) → n ≤ m → AtMost n o → AtMost m o
unfolding AtMost
looser n m None le h = tt
looser n m (Some i) le h = omega (arith, h)

either_way : (n : ℕ) (a b : Option ℕ) → AtMost n a → AtMost n b → AtMost n (option_or a b)
unfolding AtMost
either_way n None b h k = k
either_way n (Some i) b h k = h

far_from_within : (marks : List Mark) (pc : ℕ) (lines : List Line) → AtMost (length lines) (first_far_from marks pc lines)
unfolding first_far_from AtMost
far_from_within marks pc [] = tt
far_from_within marks pc (l ∷ lines) =
    elim (is_far marks pc l) as (λ b. AtMost (suc (length lines)) (if b then Some 0 else option_map suc (first_far_from marks (pc + line_length pc l) lines))) [
      | true ↦ omega arith
      | false ↦ one_more (length lines) (first_far_from marks (pc + line_length pc l) lines) (far_from_within marks (pc + line_length pc l) lines)
    ]

body_length : (lines : List Line) → length (body_of lines) ≤ length lines
unfolding body_of
body_length [] = omega arith
body_length (l ∷ lines) =
    elim (ends l) as (λ b. length (if b then [] else l ∷ body_of lines) ≤ suc (length lines)) [
      | true ↦ omega arith
      | false ↦ omega (arith, body_length lines)
    ]

far_in_within : (lines : List Line) → AtMost (length lines) (first_far_in (body_of lines))
unfolding first_far_in
far_in_within lines =
    looser (length (body_of lines)) (length lines) (first_far_from (marks_of (body_of lines)) 0 (body_of lines)) (body_length lines)
    (far_from_within (marks_of (body_of lines)) 0 (body_of lines))

pub far_within : (lines : List Line) → AtMost (length lines) (first_far lines)
unfolding first_far AtMost
far_within [] = tt
far_within (l ∷ lines) =
    one_more (length lines) (if is_method l then option_or (first_far_in (body_of lines)) (first_far lines) else first_far lines)
    (elim (is_method l) as (λ b. AtMost (length lines) (if b then option_or (first_far_in (body_of lines)) (first_far lines) else first_far lines)) [
      | true ↦ either_way (length lines) (first_far_in (body_of lines)) (first_far lines) (far_in_within lines) (far_within lines)
      | false ↦ far_within lines
    ])

-- a place that was found
pub far_at : (lines : List Line) (o : Option ℕ) (i : ℕ) → o ≡ first_far lines → o ≡ Some i → i ≤ length lines
unfolding AtMost
far_at lines o i is some = subst (AtMost (length lines)) (sym is ∙ some) (far_within lines)

pub fault_at_place : (lines : List Line) (i : ℕ) (k : AsmKind) → first_fault [] lines ≡ Some (i, k) → i ≤ length lines
unfolding FaultAtMost
fault_at_place lines i k is = subst (FaultAtMost (length lines)) is (subst (λ n. FaultAtMost n (first_fault [] lines)) (omega arith) (fault_within [] lines))
