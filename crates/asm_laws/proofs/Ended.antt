-- Each body without a fault ends, and has code that is neither empty nor too long.
use Rattle.std.proofs.Common.{◌≡◌, ◌∙◌, refl, sym, ap, subst, ℕ, ◌+◌, ◌≤◌, List, [], ◌∷◌, ◌++◌, Bool, true, false, Some, append_assoc, append-nil, arith}
use Rattle.std.specs.Prelude.{not, ◌==◌, nat_lt, nat_le, if◌then◌else◌}
use Rattle.std.specs.List.{AllByRecursion}
use Rattle.std.proofs.lemmas.Bool.Decides.{nat_tests}
use Rattle.asm_constants.specs.declared.content.Content.{Content}
use Rattle.asm_lines.specs.declared.line.Line.{Line}
use Rattle.asm_lines.specs.declared.line.Line.TheVariants as line
use Rattle.asm_lines.specs.declared.line.Member.{Member}
use Rattle.asm_bodies.specs.Bodies.{open_body, body_of, ends, goes_on, pc_behind, marks_of}
use Rattle.asm_bodies.specs.Needs.{line_length}
use Rattle.asm_bodies.specs.Lines.{count_of, is_class, is_implements, is_field, is_method, is_step, is_catch}
use Rattle.asm_checks.specs.Faults.{own_fault, is_skipped, is_inside, may_follow, may_come_next, is_in_place, is_complete, may_end, is_too_much, counts_after, body_behind, lines_in}
use Rattle.asm_laws.proofs.Codes.{IsFound}
use Rattle.asm_laws.proofs.Counts.{pc_last, count_last, code_length}
use Rattle.asm_laws.proofs.Methods.{IsSoundBody}
use Rattle.asm_laws.proofs.Orders.{inside_last}
use Rattle.asm_laws.proofs.Soundness.{IsSoundLine, AreSound}

-- ---- which lines can't stand in a body

-- whether a line stands outside of bodies
unfoldable pub is_outside : Line → Bool
is_outside (line.Class flags name super) = true
is_outside (line.Implements name) = true
is_outside (line.Field m) = true
is_outside (line.Abstract m) = true
is_outside (line.Method m max_stack max_locals) = true
is_outside _ = false

is_no_head : (b : Line) → is_inside b ≡ true → (is_class b ≡ false) × (is_implements b ≡ false) × (is_field b ≡ false)
unfolding is_inside is_class is_implements is_field is_method is_step is_catch
is_no_head line.Skipped h = absurd (cc)
is_no_head (line.Class flags name super) h = absurd (cc)
is_no_head (line.Implements name) h = absurd (cc)
is_no_head (line.Field m) h = absurd (cc)
is_no_head _ h = (refl, refl, refl)

may_not_follow : (b l : Line) → is_inside b ≡ true → is_outside l ≡ true → may_follow b l ≡ false
unfolding may_follow is_outside
may_not_follow b (line.Class flags name super) h o = refl
may_not_follow b (line.Implements name) h o = let k = is_no_head b h in rw (k.0, k.1) refl
may_not_follow b (line.Field m) h o = let k = is_no_head b h in rw (k.0, k.1, k.2) refl
may_not_follow b (line.Abstract m) h o = rw h refl
may_not_follow b (line.Method m max_stack max_locals) h o = rw h refl
may_not_follow b _ h o = absurd (cc)

said_outside : (l : Line) → is_outside l ≡ true → is_skipped l ≡ false
unfolding is_outside is_skipped
said_outside line.Skipped h = absurd (cc)
said_outside _ h = refl

pub not_in_body : (past body : List Line) (l : Line) → open_body past ≡ Some body → is_in_place past l ≡ true → is_outside l ≡ true → ⊥
unfolding is_in_place may_come_next
not_in_body past body l e h o =
    let i = inside_last past body e in
    let no : may_follow i.0 l ≡ false = may_not_follow i.0 l i.2 o in
    let skipped : is_skipped l ≡ false = said_outside l o in
    let k : is_in_place past l ≡ false = rw (skipped, i.1) no in absurd (cc)

-- ---- bodies

-- code that is neither empty nor too long, and not too many catches
record IsEnded (body : List Line) : Type 0 where
  some : 1 ≤ pc_behind 0 body
  short : pc_behind 0 body ≤ 65535
  few : count_of is_catch body ≤ 65535

-- the lines of an open body, which aren't too many
pub record IsWithin (body : List Line) : Type 0 where
  pub short : pc_behind 0 body ≤ 65535
  few : count_of is_catch body ≤ 65535

open_lines : (past body : List Line) → open_body past ≡ Some body → body_behind past ≡ body
unfolding body_behind lines_in
open_lines past body e = ap lines_in e

pub stays_open : (past body : List Line) (l : Line) → open_body past ≡ Some body → is_method l ≡ false → goes_on l ≡ true → open_body (l ∷ past) ≡ Some (body ++ l ∷ [])
unfolding open_body
stays_open past body l e m g = rw (m, g, e) refl

goes_further : (l : Line) (after : List Line) → ends l ≡ false → body_of (l ∷ after) ≡ l ∷ body_of after
unfolding body_of
goes_further l after e = rw e refl

pub longer : (past body : List Line) (l : Line) → open_body past ≡ Some body → goes_on l ≡ true → IsSoundLine past l → IsWithin body → IsWithin (body ++ l ∷ [])
unfolding is_too_much counts_after line_length is_catch goes_on
longer past body line.Skipped e g s w = let p = pc_last 0 body line.Skipped in let c = count_last is_catch body line.Skipped in record { short = omega (arith, w.short); few = omega (arith, w.few) }
longer past body (line.Label name) e g s w = let p = pc_last 0 body (line.Label name) in let c = count_last is_catch body (line.Label name) in record { short = omega (arith, w.short); few = omega (arith, w.few) }
longer past body (line.Instruction i) e g s w =
    let p = pc_last 0 body (line.Instruction i) in let c = count_last is_catch body (line.Instruction i) in
    let k = ap (λ (ls : List Line). not (nat_le (pc_behind 0 ls + line_length (pc_behind 0 ls) (line.Instruction i)) 65535)) (sym (open_lines past body e)) ∙ s.within in
    record { short = grind (arith, nat_tests); few = omega (arith, w.few) }
longer past body (line.Catch d) e g s w =
    let p = pc_last 0 body (line.Catch d) in let c = count_last is_catch body (line.Catch d) in
    let k = ap (λ (ls : List Line). not (nat_lt (count_of is_catch ls) 65535)) (sym (open_lines past body e)) ∙ s.within in
    record { short = omega (arith, w.short); few = grind (arith, nat_tests) }
longer past body _ e g s w = absurd (cc)

has_code : (past body : List Line) → open_body past ≡ Some body → is_too_much (counts_after past) line.End ≡ false → 1 ≤ pc_behind 0 body
unfolding is_too_much counts_after
has_code past body e h =
    let k = ap (λ (ls : List Line). pc_behind 0 ls == 0) (sym (open_lines past body e)) ∙ h in grind (arith, nat_tests)

not_over : (past body : List Line) → open_body past ≡ Some body → may_end past ≡ true → ⊥
unfolding may_end is_complete
not_over past body e h =
    let i = inside_last past body e in
    let k : may_end past ≡ false = rw (i.1, i.2) refl in absurd (cc)

ended_here : (past body after : List Line) → open_body past ≡ Some body → IsWithin body → IsSoundLine past line.End → IsEnded (body ++ body_of (line.End ∷ after))
unfolding body_of ends
ended_here past body after e w s = rw (append-nil body) (record { some = has_code past body e s.within; short = w.short; few = w.few })

-- the body with one more line, and those behind it
moved : (body after : List Line) (l : Line) → ends l ≡ false → IsEnded ((body ++ l ∷ []) ++ body_of after) → IsEnded (body ++ body_of (l ∷ after))
moved body after l n h = subst IsEnded (append_assoc body (l ∷ []) (body_of after) ∙ ap (λ (ls : List Line). body ++ ls) (sym (goes_further l after n))) h

body_ends : (past body lines : List Line) → open_body past ≡ Some body → IsWithin body → AreSound past lines → IsEnded (body ++ body_of lines)
unfolding goes_on is_method ends is_outside own_fault
body_ends past body [] e w sound = absurd (not_over past body e sound)
body_ends past body (line.Skipped ∷ after) e w sound =
    let l : Line = line.Skipped in
    moved body after l refl (body_ends (l ∷ past) (body ++ l ∷ []) after (stays_open past body l e refl refl) (longer past body l e refl sound.0 w) sound.1)
body_ends past body (line.Label name ∷ after) e w sound =
    let l : Line = line.Label name in
    moved body after l refl (body_ends (l ∷ past) (body ++ l ∷ []) after (stays_open past body l e refl refl) (longer past body l e refl sound.0 w) sound.1)
body_ends past body (line.Instruction i ∷ after) e w sound =
    let l : Line = line.Instruction i in
    moved body after l refl (body_ends (l ∷ past) (body ++ l ∷ []) after (stays_open past body l e refl refl) (longer past body l e refl sound.0 w) sound.1)
body_ends past body (line.Catch c ∷ after) e w sound =
    let l : Line = line.Catch c in
    moved body after l refl (body_ends (l ∷ past) (body ++ l ∷ []) after (stays_open past body l e refl refl) (longer past body l e refl sound.0 w) sound.1)
body_ends past body (line.End ∷ after) e w sound = ended_here past body after e w sound.0
body_ends past body (line.Faulty kind f ∷ after) e w sound = let k = sound.0.own in absurd (cc)
body_ends past body (l ∷ after) e w sound = absurd (not_in_body past body l e sound.0.placed refl)

-- ---- bodies of methods

pub opened : (past : List Line) (m : Member) (max_stack max_locals : ℕ) → open_body (line.Method m max_stack max_locals ∷ past) ≡ Some []
unfolding open_body is_method
opened past m max_stack max_locals = refl

pub nothing_read : IsWithin []
unfolding pc_behind count_of
nothing_read = record { short = omega arith; few = omega arith }

found_in_body : (pool : List Content) (lines : List Line) → AllByRecursion (IsFound pool) lines → AllByRecursion (IsFound pool) (body_of lines)
unfolding body_of
found_in_body pool [] h = tt
found_in_body pool (l ∷ lines) h =
    elim (ends l) as (λ b. AllByRecursion (IsFound pool) (if b then [] else l ∷ body_of lines)) [ true ↦ tt | false ↦ (h.0, found_in_body pool lines h.1) ]

pub sound_body : (pool : List Content) (past : List Line) (m : Member) (max_stack max_locals : ℕ) (after : List Line)
    → AreSound (line.Method m max_stack max_locals ∷ past) after → AllByRecursion (IsFound pool) after → IsSoundBody pool (body_of after)
sound_body pool past m max_stack max_locals after sound found =
    let e : IsEnded (body_of after) = body_ends (line.Method m max_stack max_locals ∷ past) [] after (opened past m max_stack max_locals) nothing_read sound in
    let n = code_length pool (marks_of (body_of after)) 0 (body_of after) in
    record { found = found_in_body pool after found; few = e.few; some = omega (arith, e.some); short = omega (arith, e.short) }
