-- What one more entry makes of a journal.
use Rattle.std.proofs.Common.{◌≡◌, refl, ◌∙◌, ap, subst, ℕ, ◌+◌, ◌≤◌, Bool, true, false, ◌||◌, List, [], ◌∷◌, ◌++◌, reverse, arith, inl, inr}
use Rattle.std.specs.Prelude.{if◌then◌else◌}
use Rattle.std.specs.List.{list_any}
use Rattle.std.proofs.lemmas.List.{reverse-append}
use Rattle.jx_base.specs.declared.act.Entry.{Entry}
use Rattle.jx_model.specs.Journal.{entry_words, words_of}
use Rattle.journal.specs.Journals.{JournalState, HasRoomFor, is_halt, words_in}

-- an entry costs 8 words at least
pub least_words : (e : Entry) → 8 ≤ entry_words e
unfolding entry_words
least_words e = omega arith

-- the halts of one entry more
pub any_more : (es : List Entry) (e : Entry) → list_any is_halt (es ++ e ∷ []) ≡ (list_any is_halt es || is_halt e)
any_more [] e = by (is_halt e)
  where
    by : (b : Bool) → (b || false) ≡ b
    by true = refl
    by false = refl
any_more (x ∷ es) e = ap (λ (b : Bool). is_halt x || b) (any_more es e) ∙ assoc (is_halt x)
  where
    assoc : (b : Bool) → (b || (list_any is_halt es || is_halt e)) ≡ ((b || list_any is_halt es) || is_halt e)
    assoc true = refl
    assoc false = refl

-- what is kept for a halt that hasn't come
abbrev pub kept_for_halt : List Entry → ℕ
kept_for_halt es = if list_any is_halt es then 0 else 8

-- there is still room for a halt behind the entry, or it was one
pub room_behind : (j : JournalState) (e : Entry) → HasRoomFor j e → words_in j + kept_for_halt j.entries ≤ j.limit + 8
    → (words_in j + entry_words e) + kept_for_halt (j.entries ++ e ∷ []) ≤ j.limit + 8
room_behind j e (inl x) w = by (list_any is_halt (j.entries ++ e ∷ []))
  where
    by : (b : Bool) → (words_in j + entry_words e) + (if b then 0 else 8) ≤ j.limit + 8
    by true = omega (arith, x.cost, x.room)
    by false = omega (arith, x.cost, x.room)
room_behind j e (inr x) w = rw (any_more j.entries e, x.first, x.halt) (omega (arith, x.cost, before w))
  where
    before : words_in j + (if list_any is_halt j.entries then 0 else 8) ≤ j.limit + 8 → words_in j + 8 ≤ j.limit + 8
    before w = subst (λ (b : Bool). words_in j + (if b then 0 else 8) ≤ j.limit + 8) x.first w

-- what one entry more costs
pub words_more : (es : List Entry) (e : Entry) → words_of (reverse (es ++ e ∷ [])) ≡ words_of (reverse es) + entry_words e
unfolding words_of
words_more es e = ap words_of (reverse-append es (e ∷ []))
