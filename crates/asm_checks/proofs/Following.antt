-- What follows from what is kept following the lines.
use Rattle.std.proofs.Common.{◌≡◌, ◌∙◌, refl, sym, ap, subst, ℕ, Bool, true, false, List, [], ◌∷◌, ◌++◌, Option, Some, None}
use Rattle.std.specs.Prelude.{◌||◌, ◌&&◌, flat_map, option_map, if◌then◌else◌}
use Rattle.std.specs.HashSet.{contains}
use Rattle.std.specs.List.{list_all}
use Rattle.std.specs.Str.{bytes_eq}
use Rattle.asm_lines.specs.declared.line.Line.{Line}
use Rattle.asm_lines.specs.declared.line.Line.TheVariants as line
use Rattle.asm_bodies.specs.Bodies.{open_body, body_of, goes_on, has_label, is_label}
use Rattle.asm_bodies.specs.Lines.{is_method}
use Rattle.asm_checks.specs.Faults.{used_labels, target_labels, stands_in, is_there, lines_in, body_behind, is_twice}
use Rattle.asm_checks.specs.Following.{IsBodyOf, FollowsBody}
use Rattle.asm_checks.specs.declared.body.Body.{Body}
use Rattle.asm_checks.proofs.Bodies.{body_goes_on}

-- the body that is open, where one is kept
pub open_of : (o : Option Body) (b : Body) (past after : List Line) → o ≡ Some b → FollowsBody o (open_body past) after
    → (lines : List Line) × (open_body past ≡ Some lines) × IsBodyOf b lines after
open_of o b past after is f = subst (λ (p : Option Body). FollowsBody p (open_body past) after) is f

-- none is open, where none is kept
pub none_of : (o : Option Body) (past after : List Line) → o ≡ None → FollowsBody o (open_body past) after → open_body past ≡ None
none_of o past after is f = subst (λ (p : Option Body). FollowsBody p (open_body past) after) is f

pub same_all : {X : Type 0} (p q : X → Bool) → ((x : X) → p x ≡ q x) → (xs : List X) → list_all p xs ≡ list_all q xs
same_all p q h [] = refl
same_all p q h (x ∷ xs) = ap (λ b. b && list_all p xs) (h x) ∙ ap (λ b. q x && b) (same_all p q h xs)

-- a line that is no label has the labels ahead behind it
pub there_ahead : (b : Body) (past lines : List Line) (l : Line) (after : List Line) (name : List ℕ)
    → open_body past ≡ Some lines → IsBodyOf b lines (l ∷ after) → goes_on l ≡ true → is_label name l ≡ false
    → contains bytes_eq b.whole name ≡ is_there past after name
unfolding is_there stands_in has_label
there_ahead b past lines l after name opened kept on plain =
    kept.whole name
    ∙ (ap (λ (ls : List Line). has_label name lines || has_label name ls) (body_goes_on l after on)
    ∙ (ap (λ c. has_label name lines || (c || has_label name (body_of after))) plain ∙ sym (ap (λ o. stands_in o after name) opened)))

-- whether the labels that a line uses are among those that are kept
pub used_in : (b : Body) (past lines : List Line) (l : Line) (after : List Line) → open_body past ≡ Some lines → IsBodyOf b lines (l ∷ after)
    → list_all (contains bytes_eq b.whole) (used_labels l) ≡ list_all (is_there past after) (used_labels l)
unfolding used_labels goes_on is_label
used_in b past lines (line.Instruction i) after opened kept =
    same_all (contains bytes_eq b.whole) (is_there past after) (λ name. there_ahead b past lines (line.Instruction i) after name opened kept refl refl) (flat_map target_labels i.operands)
used_in b past lines (line.Catch c) after opened kept =
    same_all (contains bytes_eq b.whole) (is_there past after) (λ name. there_ahead b past lines (line.Catch c) after name opened kept refl refl) (c.start ∷ c.end ∷ c.handler ∷ [])
used_in b past lines _ after opened kept = refl

pub nowhere : (past after : List Line) (name : List ℕ) → open_body past ≡ None → is_there past after name ≡ false
unfolding is_there stands_in
nowhere past after name none = ap (λ o. stands_in o after name) none

-- the lines of the open body
pub lines_of : (past lines : List Line) → open_body past ≡ Some lines → body_behind past ≡ lines
unfolding body_behind lines_in
lines_of past lines opened = ap lines_in opened

pub no_lines : (past : List Line) → open_body past ≡ None → body_behind past ≡ []
unfolding body_behind lines_in
no_lines past none = ap lines_in none

-- no body opens but by a method
pub stays_closed : (past : List Line) (l : Line) → open_body past ≡ None → is_method l ≡ false → open_body (l ∷ past) ≡ None
unfolding open_body
stays_closed past l none plain =
    elim (goes_on l) as (λ b. (if is_method l then Some [] else if b then option_map (λ (body : List Line). body ++ l ∷ []) (open_body past) else None) ≡ None) [
      | true ↦ rw (plain, none) refl
      | false ↦ rw plain refl
    ]

-- what is no label doesn't stand twice
pub no_label : (past : List Line) (l : Line) → ((name : List ℕ) → l ≡ line.Label name → ⊥) → is_twice past l ≡ false
unfolding is_twice
no_label past (line.Label name) h = absurd (h name refl)
no_label past _ h = refl
