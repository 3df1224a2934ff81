-- A walk over lines that finds their first fault.
use Rattle.std.proofs.Common.{◌≡◌, ◌∙◌, sym, ap, ℕ, ◌+◌, ◌-◌, ◌≤◌, ◌<◌, Bool, List, [], ◌∷◌, ◌++◌, Option, Some, None, length, take, drop, get_or, reverse, arith}
use Rattle.std.specs.Prelude.{if◌then◌else◌}
use Rattle.std.proofs.lemmas.List.{take_more, drop_more, take_all, reverse-append, length-reverse, length-take-le, length-drop}
use Rattle.asm_lines.specs.declared.line.AsmKind.{AsmKind}
use Rattle.asm_lines.specs.declared.line.AsmKind.TheVariants as kind
use Rattle.asm_lines.specs.declared.line.Line.{Line}
use Rattle.asm_constants.specs.declared.content.Content.{Content}
use Rattle.asm_bodies.specs.Needs.{pool_of, line_contents, with_all_needed}
use Rattle.asm_checks.specs.Faults.{kind_at, fault_or, first_fault, end_fault, last_said, may_end, is_complete}

-- the lines before a place, the latest one first
abbrev pub past_at : List Line → ℕ → List Line
past_at lines i = reverse (take i lines)

pub front : (lines : List Line) (i : ℕ) (l : Line) → i < length lines → l ≡ get_or lines i l → drop i lines ≡ l ∷ drop (i + 1) lines
front lines i l lt is = drop_more lines i l lt ∙ ap (λ x. x ∷ drop (i + 1) lines) (sym is)

pub back : (lines : List Line) (i : ℕ) (l : Line) → i < length lines → l ≡ get_or lines i l → past_at lines (i + 1) ≡ l ∷ past_at lines i
back lines i l lt is =
    ap reverse (take_more lines i l lt ∙ ap (λ x. take i lines ++ x ∷ []) (sym is)) ∙ reverse-append (take i lines) (l ∷ [])

-- the lines behind a place, cut at their end
pub behind : (lines : List Line) (i : ℕ) → take (length lines - (i + 1)) (drop (i + 1) lines) ≡ drop (i + 1) lines
behind lines i = take_all (length lines - (i + 1)) (drop (i + 1) lines) (omega (arith, length-drop (i + 1) lines))

pub past_length : (lines : List Line) (i : ℕ) → i ≤ length lines → length (past_at lines i) ≡ i
past_length lines i le = length-reverse (take i lines) ∙ length-take-le i lines le

pub pool_grows : (past : List Line) (l : Line) (old new : List Content) → old ≡ pool_of past → new ≡ with_all_needed old (line_contents l) → new ≡ pool_of (l ∷ past)
unfolding pool_of
pool_grows past l old new so_far is = is ∙ ap (λ p. with_all_needed p (line_contents l)) so_far

pub found : (past : List Line) (l : Line) (after : List Line) (k : Option AsmKind) → k ≡ kind_at past l after
    → first_fault past (l ∷ after) ≡ fault_or (length past) k (first_fault (l ∷ past) after)
unfolding first_fault
found past l after k is = ap (λ o. fault_or (length past) o (first_fault (l ∷ past) after)) (sym is)

pub passed : (past : List Line) (l : Line) (after : List Line) (k : Option AsmKind) → k ≡ kind_at past l after → k ≡ None
    → first_fault past (l ∷ after) ≡ first_fault (l ∷ past) after
unfolding fault_or
passed past l after k is none = found past l after k is ∙ ap (λ o. fault_or (length past) o (first_fault (l ∷ past) after)) none

pub stopped : (past : List Line) (l : Line) (after : List Line) (k : Option AsmKind) (kind : AsmKind) (n : ℕ) → k ≡ kind_at past l after → k ≡ Some kind → length past ≡ n
    → first_fault past (l ∷ after) ≡ Some (n, kind)
unfolding fault_or
stopped past l after k kind n is some at =
    found past l after k is
    ∙ (ap (λ o. fault_or (length past) o (first_fault (l ∷ past) after)) some ∙ ap (λ m. Some (m, kind)) at)

-- the end of the text
pub ends_so : (past : List Line) (last : Option Line) (b : Bool) → last ≡ last_said past → b ≡ is_complete last
    → first_fault past [] ≡ fault_or (length past) (if b then None else Some kind.Place) None
unfolding first_fault end_fault may_end
ends_so past last b is e = ap (λ c. fault_or (length past) (if c then None else Some kind.Place) None) (sym (e ∙ ap is_complete is))
