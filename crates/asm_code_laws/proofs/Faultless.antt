-- What lines without a fault are, up to the end of each body.
use Rattle.std.proofs.Common.{◌≡◌, ◌∙◌, refl, sym, ap, subst, ℕ, ◌+◌, ◌<◌, List, [], ◌∷◌, ◌++◌, Bool, true, false, Some, None, length, reverse, append_assoc, arith}
use Rattle.std.specs.Prelude.{◌||◌}
use Rattle.std.specs.List.{list_all, AllByRecursion}
use Rattle.std.proofs.lemmas.List.Folds.{list_any-append}
use Rattle.asm_lines.specs.declared.line.AsmKind.TheVariants as kind
use Rattle.asm_lines.specs.declared.line.Line.{Line}
use Rattle.asm_lines.specs.declared.line.Line.TheVariants as line
use Rattle.asm_lines.specs.declared.line.Member.{Member}
use Rattle.asm_bodies.specs.Bodies.{open_body, body_of, ends, goes_on, pc_behind, is_label, has_label}
use Rattle.asm_bodies.specs.Needs.{line_length, pool_of}
use Rattle.asm_bodies.specs.Lines.{is_method}
use Rattle.asm_checks.specs.Faults.{own_fault, kind_at, is_over, is_lost, is_there, stands_in, has_index_over, used_labels, first_fault}
use Rattle.asm_laws.proofs.Constants.{needed_here}
use Rattle.asm_laws.proofs.Growth.{tested_since}
use Rattle.asm_laws.proofs.Counts.{pc_last}
use Rattle.asm_laws.proofs.Soundness.{IsSoundLine, unless, own_none, is_so, sound_line, none_here, onto}
use Rattle.asm_laws.proofs.Ended.{is_outside, not_in_body, IsWithin, stays_open, longer, opened, nothing_read}
use Rattle.asm_code_laws.proofs.Indices.{index_later}

-- a line without a fault, behind those and before the others
pub record IsFine (past : List Line) (l : Line) (after : List Line) : Type 0 where
  pub sound : IsSoundLine past l
  pub small : has_index_over (pool_of (l ∷ past)) l ≡ false
  pub labelled : is_lost past l after ≡ false

abbrev pub AreFine : List Line → List Line → Type 0
AreFine past [] = Unit {0}
AreFine past (l ∷ after) = IsFine past l after × AreFine (l ∷ past) after

-- ---- what no fault says

fine_line : (past : List Line) (l : Line) (after : List Line) → kind_at past l after ≡ None → IsFine past l after
unfolding kind_at is_over
fine_line past l after e =
    let a = own_none (own_fault l) _ e in
    let b = unless (has_index_over (pool_of (l ∷ past)) l) kind.Operand _ a.1 in
    let c = unless (is_lost past l after) kind.Label _ b.1 in
    record { sound = sound_line past l after e; small = b.0; labelled = c.0 }

pub no_fault : (past lines : List Line) → first_fault past lines ≡ None → AreFine past lines
unfolding first_fault
no_fault past [] e = tt
no_fault past (l ∷ after) e =
    let k = none_here (length past) (kind_at past l after) (first_fault (l ∷ past) after) e in
    (fine_line past l after k.0, no_fault (l ∷ past) after k.1)

-- ---- constants

-- the indices in a byte are small among all constants
pub all_small : (past lines : List Line) → AreFine past lines → AllByRecursion (λ l. has_index_over (pool_of (reverse lines ++ past)) l ≡ false) lines
all_small past [] fine = tt
all_small past (l ∷ lines) fine =
    subst (λ (all : List Line). AllByRecursion (λ k. has_index_over (pool_of all) k ≡ false) (l ∷ lines)) (sym (onto l lines past))
    (index_later (reverse lines) (l ∷ past) l (needed_here past l) fine.0.small, all_small (l ∷ past) lines fine.1)

-- ---- bodies

there : (past after : List Line) (label : List ℕ) (front : List Line) → open_body past ≡ Some front → is_there past after label ≡ true
    → (has_label label front || has_label label (body_of after)) ≡ true
unfolding is_there stands_in
there past after label front e k = sym (ap (λ o. stands_in o after label) e) ∙ k

joined : (label : List ℕ) (front : List Line) (l : Line) (rest : List Line) → has_label label (front ++ l ∷ rest) ≡ (has_label label front || (is_label label l || has_label label rest))
unfolding has_label
joined label front l rest = list_any-append (is_label label) front (l ∷ rest)

-- the labels that a line uses stand in the body
are_there : (past front after whole : List Line) (l : Line) → open_body past ≡ Some front → whole ≡ front ++ l ∷ body_of after → is_lost past l after ≡ false
    → list_all (λ label. has_label label whole) (used_labels l) ≡ true
unfolding is_lost
are_there past front after whole l e w h =
    tested_since (is_there past after) (λ label. has_label label whole) one (used_labels l) (is_so (list_all (is_there past after) (used_labels l)) h) where
      either : (label : List ℕ) (a b : Bool) (m : Bool) → (a || b) ≡ true → (a || (m || b)) ≡ true
      either label true b m k = refl
      either label false true true k = refl
      either label false true false k = refl
      either label false false m k = absurd (cc)

      stands : (label : List ℕ) → is_there past after label ≡ true → (has_label label front || has_label label (body_of after)) ≡ true
      stands label k = there past after label front e k

      one : (label : List ℕ) → is_there past after label ≡ true → has_label label whole ≡ true
      one label k =
          ap (has_label label) w ∙ joined label front l (body_of after)
          ∙ either label (has_label label front) (has_label label (body_of after)) (is_label label l) (stands label k)

-- each line of a body begins at a pc of 16 bits, and uses labels of the body
abbrev pub AreInBody : List Line → ℕ → List Line → Type 0
AreInBody whole pc [] = Unit {0}
AreInBody whole pc (l ∷ lines) = ((pc < 65536) × (list_all (λ label. has_label label whole) (used_labels l) ≡ true)) × AreInBody whole (pc + line_length pc l) lines

-- the body behind one more line
further : (whole front : List Line) (l : Line) (after : List Line) → whole ≡ front ++ l ∷ body_of after → whole ≡ (front ++ l ∷ []) ++ body_of after
further whole front l after w = w ∙ sym (append_assoc front (l ∷ []) (body_of after))

step : (whole past front : List Line) (l : Line) (after : List Line) → open_body past ≡ Some front → whole ≡ front ++ l ∷ body_of after → IsWithin front → IsFine past l after
    → AreInBody whole (pc_behind 0 (front ++ l ∷ [])) (body_of after) → AreInBody whole (pc_behind 0 front) (l ∷ body_of after)
step whole past front l after e w s fine more = (
  (omega (arith, s.short), are_there past front after whole l e w fine.labelled),
  subst (λ pc. AreInBody whole pc (body_of after)) (pc_last 0 front l) more,
)

in_body : (whole past front lines : List Line) → open_body past ≡ Some front → whole ≡ front ++ body_of lines → IsWithin front → AreFine past lines
    → AreInBody whole (pc_behind 0 front) (body_of lines)
unfolding body_of ends goes_on is_method is_outside own_fault
in_body whole past front [] e w s fine = tt
in_body whole past front (line.Skipped ∷ after) e w s fine = step whole past front line.Skipped after e w s fine.0
    (in_body whole (line.Skipped ∷ past) (front ++ line.Skipped ∷ []) after (stays_open past front line.Skipped e refl refl) (further whole front line.Skipped after w) (longer past front line.Skipped e refl fine.0.sound s) fine.1)
in_body whole past front (line.Label name ∷ after) e w s fine = step whole past front (line.Label name) after e w s fine.0
    (in_body whole (line.Label name ∷ past) (front ++ line.Label name ∷ []) after (stays_open past front (line.Label name) e refl refl) (further whole front (line.Label name) after w) (longer past front (line.Label name) e refl fine.0.sound s) fine.1)
in_body whole past front (line.Instruction i ∷ after) e w s fine = step whole past front (line.Instruction i) after e w s fine.0
    (in_body whole (line.Instruction i ∷ past) (front ++ line.Instruction i ∷ []) after (stays_open past front (line.Instruction i) e refl refl) (further whole front (line.Instruction i) after w) (longer past front (line.Instruction i) e refl fine.0.sound s) fine.1)
in_body whole past front (line.Catch c ∷ after) e w s fine = step whole past front (line.Catch c) after e w s fine.0
    (in_body whole (line.Catch c ∷ past) (front ++ line.Catch c ∷ []) after (stays_open past front (line.Catch c) e refl refl) (further whole front (line.Catch c) after w) (longer past front (line.Catch c) e refl fine.0.sound s) fine.1)
in_body whole past front (line.End ∷ after) e w s fine = tt
in_body whole past front (line.Faulty kind f ∷ after) e w s fine = let k = fine.0.sound.own in absurd (cc)
in_body whole past front (l ∷ after) e w s fine = absurd (not_in_body past front l e fine.0.sound.placed refl)

pub body_lines : (past : List Line) (m : Member) (max_stack max_locals : ℕ) (after : List Line) → AreFine (line.Method m max_stack max_locals ∷ past) after
    → AreInBody (body_of after) 0 (body_of after)
unfolding pc_behind
body_lines past m max_stack max_locals after fine =
    in_body (body_of after) (line.Method m max_stack max_locals ∷ past) [] after (opened past m max_stack max_locals) refl nothing_read fine

-- the lines behind others have no fault either
pub fine_behind : (past before after : List Line) (l : Line) → AreFine past (before ++ l ∷ after) → (more : List Line) × AreFine (l ∷ more) after
fine_behind past [] after l fine = (past, fine.1)
fine_behind past (b ∷ before) after l fine = fine_behind (b ∷ past) before after l fine.1
