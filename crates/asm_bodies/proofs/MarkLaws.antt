-- Labels by their names.
use Rattle.std.specs.Option.{option_or}
use Rattle.std.proofs.Common.{◌≡◌, ◌∙◌, ℕ, ◌+◌, ◌≤◌, ◌<◌, refl, sym, ap, map, List, [], ◌∷◌, ◌++◌, length, drop, get_or, true, false, Option, Some, None, is_some, append_assoc, append-nil}
use Rattle.std.specs.Prelude.{if◌then◌else◌, cond}
use Rattle.std.specs.Map.{lookup}
use Rattle.std.specs.Str.{bytes_eq}
use Rattle.indexmap.specs.IndexMap.{insert_entry}
use Rattle.std.proofs.lemmas.List.{map-append, drop_all}
use Rattle.std.proofs.lemmas.Slice.Eq.{bytes_eq-Decides}
use Rattle.asm_lines.specs.declared.line.Line.{Line}
use Rattle.asm_lines.specs.declared.line.Line.TheVariants as line
use Rattle.asm_bodies.specs.Needs.{line_length}
use Rattle.asm_bodies.specs.Bodies.{Mark, line_marks, marks_from, marks_of, mark_of}
use Rattle.asm_bodies.proofs.LineByLine.{at_front}

abbrev pub mark : List ℕ → ℕ → Mark
mark name pc = record { name = name; pc = pc }

abbrev pub marks_in : List (List ℕ × ℕ) → List Mark
marks_in entries = map (λ entry. mark entry.0 entry.1) entries

-- the marks give the same pcs
abbrev pub Alike : List Mark → List Mark → Type 0
Alike marks others = (name : List ℕ) → mark_of marks name ≡ mark_of others name

-- ---- look-ups

pub mark_found : (es : List (List ℕ × ℕ)) (name : List ℕ) → lookup (bytes_eq name) es ≡ mark_of (marks_in es) name
unfolding mark_of
mark_found [] name = refl
mark_found (e ∷ es) name = ap (λ o. if bytes_eq name e.0 then Some e.1 else o) (mark_found es name)

mark_append : (marks more : List Mark) (name : List ℕ) → mark_of (marks ++ more) name ≡ option_or (mark_of marks name) (mark_of more name)
unfolding mark_of
mark_append [] more name = refl
mark_append (m ∷ marks) more name =
    elim (bytes_eq name m.name) as (λ b. (if b then Some m.pc else mark_of (marks ++ more) name) ≡ option_or (if b then Some m.pc else mark_of marks name) (mark_of more name)) [
      | true ↦ refl
      | false ↦ mark_append marks more name
    ]

pub alike_append : (marks others more : List Mark) → Alike marks others → Alike (marks ++ more) (others ++ more)
alike_append marks others more h name =
    mark_append marks more name ∙ (ap (λ o. option_or o (mark_of more name)) (h name) ∙ sym (mark_append others more name))

-- ---- one label more

or_none : (o : Option ℕ) → o ≡ option_or o None
or_none None = refl
or_none (Some n) = refl

or_known : (o p : Option ℕ) → is_some o ≡ true → o ≡ option_or o p
or_known None p h = absurd (cc)
or_known (Some n) p h = refl

one_mark : (m : Mark) (name : List ℕ) → mark_of (m ∷ []) name ≡ (if bytes_eq name m.name then Some m.pc else None)
unfolding mark_of
one_mark m name = refl

-- a label whose name is there already is not needed
pub known_stays : (marks : List Mark) (m : Mark) → is_some (mark_of marks m.name) ≡ true → Alike marks (marks ++ m ∷ [])
known_stays marks m known name =
    (elim (bytes_eq name m.name) as (λ b. bytes_eq name m.name ≡ b → mark_of marks name ≡ option_or (mark_of marks name) (if b then Some m.pc else None)) [
      | true ↦ λ e. let same : name ≡ m.name = (bytes_eq-Decides name m.name).0 e in
          or_known (mark_of marks name) (Some m.pc) (ap (λ n. is_some (mark_of marks n)) same ∙ known)
      | false ↦ λ e. or_none (mark_of marks name)
    ] refl)
    ∙ (ap (λ o. option_or (mark_of marks name) o) (sym (one_mark m name)) ∙ sym (mark_append marks (m ∷ []) name))

new_goes_last : (es : List (List ℕ × ℕ)) (name : List ℕ) (pc : ℕ) → is_some (lookup (bytes_eq name) es) ≡ false
    → insert_entry bytes_eq es name pc ≡ es ++ (name, pc) ∷ []
new_goes_last [] name pc h = refl
new_goes_last (e ∷ es) name pc h =
    elim (bytes_eq name e.0) as (λ b. is_some (cond b (Some e.1) (lookup (bytes_eq name) es)) ≡ false → (if b then (e.0, pc) ∷ es else e ∷ insert_entry bytes_eq es name pc) ≡ e ∷ es ++ (name, pc) ∷ []) [
      | true ↦ λ t. absurd (cc)
      | false ↦ λ f. ap (λ (rest : List (List ℕ × ℕ)). e ∷ rest) (new_goes_last es name pc f)
    ] h

-- a label whose name is new comes last
pub new_comes_last : (es : List (List ℕ × ℕ)) (name : List ℕ) (pc : ℕ) → is_some (mark_of (marks_in es) name) ≡ false
    → marks_in (insert_entry bytes_eq es name pc) ≡ marks_in es ++ mark name pc ∷ []
new_comes_last es name pc absent =
    ap marks_in (new_goes_last es name pc (ap is_some (mark_found es name) ∙ absent)) ∙ map-append (λ e. mark e.0 e.1) es ((name, pc) ∷ [])

-- ---- line by line

pub no_mark : (pc : ℕ) (l : Line) → ((name : List ℕ) → l ≡ line.Label name → ⊥) → [] ≡ line_marks pc l
unfolding line_marks
no_mark pc (line.Label name) none = absurd (none name refl)
no_mark pc _ none = refl

-- the labels that were read answer, with those of the lines behind, as those of the body
abbrev pub Read : List Mark → ℕ → List Line → ℕ → Type 0
Read marks pc body i = Alike (marks ++ marks_from pc (drop i body)) (marks_of body)

pub none_read : (marks : List Mark) (body : List Line) → marks ≡ [] → Read marks 0 body 0
unfolding marks_of
none_read marks body e name = ap (λ front. mark_of (front ++ marks_from 0 body) name) e

marks_on : (marks : List Mark) (pc : ℕ) (body : List Line) (i : ℕ) (l : Line) → i < length body → l ≡ get_or body i l
    → (marks ++ line_marks pc l) ++ marks_from (pc + line_length pc l) (drop (i + 1) body) ≡ marks ++ marks_from pc (drop i body)
unfolding marks_from
marks_on marks pc body i l lt is =
    append_assoc marks (line_marks pc l) (marks_from (pc + line_length pc l) (drop (i + 1) body))
    ∙ ap (λ lines. marks ++ marks_from pc lines) (sym (at_front body i l lt is))

pub one_more : (marks new : List Mark) (pc : ℕ) (body : List Line) (i : ℕ) (l : Line) → i < length body → l ≡ get_or body i l
    → Alike new (marks ++ line_marks pc l) → Read marks pc body i → Read new (pc + line_length pc l) body (i + 1)
one_more marks new pc body i l lt is added so_far name =
    alike_append new (marks ++ line_marks pc l) (marks_from (pc + line_length pc l) (drop (i + 1) body)) added name
    ∙ (ap (λ all. mark_of all name) (marks_on marks pc body i l lt is) ∙ so_far name)

pub all_read : (marks : List Mark) (pc : ℕ) (body : List Line) (i : ℕ) → length body ≤ i → Read marks pc body i → Alike marks (marks_of body)
unfolding marks_from
all_read marks pc body i le so_far name =
    ap (λ all. mark_of all name) (sym (append-nil marks) ∙ ap (λ lines. marks ++ marks_from pc lines) (sym (drop_all i body le))) ∙ so_far name
