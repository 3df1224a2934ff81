-- Places of names in a list without repeats.
use Rattle.std.proofs.Common.{◌≡◌, ◌∙◌, ◌<◌, ◌+◌, refl, sym, ap, suc, ℕ, Bool, true, false, List, [], ◌∷◌, ◌++◌, length, map, get_or, append_assoc, inl, inr, None, arith}
use Rattle.std.specs.Prelude.{◌||◌, ◌==◌, ◌&&◌, nat_lt, All, Contains}
use Rattle.std.specs.List.{list_any, list_all, position_or_len, range_with_len}
use Rattle.std.specs.Str.{bytes_eq}
use Rattle.std.proofs.lemmas.Bool.{cases_Bool, and_parts, false≢true}
use Rattle.std.proofs.lemmas.Bool.Decides.{nat_tests}
use Rattle.std.proofs.lemmas.Slice.Eq.{bytes_eq-Decides}
use Rattle.std.proofs.lemmas.List.{length_push}
use Rattle.std.proofs.lemmas.List.Elements.{All-nil, All-cons}
use Rattle.std.proofs.lemmas.List.Folds.{list_any-append, list_all-append}
use Rattle.jx_base.specs.Basics.{contains_number, firsts_after, all_added, distinct_after}
use Rattle.program_model.specs.Plans.{first_texts_after}
use Rattle.system_text.specs.Keys.{has_text, repeated_after}
use Rattle.system_text.specs.Description.{place_in}
use Rattle.system_text.specs.Scan.{with_new, with_all_new}
use Rattle.system_text.proofs.Distinct.{HasSame, distinct_known, distinct_unknown, same_more, with_known, with_unknown}
use Rattle.system_text.proofs.Repeats.{seen_again, not_seen}

text_same : (a b : List ℕ) → bytes_eq a b ≡ true → a ≡ b
text_same a b = (bytes_eq-Decides a b).0

text_is : (a b : List ℕ) → a ≡ b → bytes_eq a b ≡ true
text_is a b = (bytes_eq-Decides a b).1

or_true : (a b : Bool) → b ≡ true → (a || b) ≡ true
or_true true b e = refl
or_true false b e = e

or_none : (a b : Bool) → (a || b) ≡ false → (a ≡ false) × (b ≡ false)
or_none true b e = absurd (false≢true (sym e))
or_none false b e = (refl, e)

pub and_true : (a b : Bool) → a ≡ true → b ≡ true → (a && b) ≡ true
and_true a b e f = rw (e, f) refl

-- ---- places

place : List (List ℕ) → List ℕ → ℕ
place names name = position_or_len (bytes_eq name) names

found : (names : List (List ℕ)) (name : List ℕ) → has_text names name ≡ true → (place names name < length names) × (get_or names (place names name) [] ≡ name)
unfolding has_text place
found [] name e = absurd (false≢true e)
found (n ∷ names) name e =
    elim (cases_Bool (bytes_eq name n)) [
      | inl same ↦ rw same (omega arith, sym (text_same name n same))
      | inr other ↦
          let there : has_text names name ≡ true = rw other at e in
          let rest = found names name there in
          let step : 1 + place names name ≡ suc (place names name) = omega arith in
          let within = rest.0 in
          rw (other, step) (omega arith, rest.1)
    ]

place_is : (names : List (List ℕ)) (name : List ℕ) → has_text names name ≡ true → place_in names name ≡ place names name
unfolding place_in place
place_is names name e =
    let within = (found names name e).0 in
    let test : nat_lt (position_or_len (bytes_eq name) names) (length names) ≡ true = grind (arith, nat_tests) in
    rw test refl

pub place_found : (names : List (List ℕ)) (name : List ℕ) → has_text names name ≡ true → (place_in names name < length names) × (get_or names (place_in names name) [] ≡ name)
place_found names name e = rw (place_is names name e) (found names name e)

number_test : (names : List (List ℕ)) (a b : List ℕ) → has_text names a ≡ true → has_text names b ≡ true → (place_in names a == place_in names b) ≡ bytes_eq b a
number_test names a b in_a in_b =
    elim (cases_Bool (bytes_eq b a)) [
      | inl same ↦ let e : place_in names a ≡ place_in names b = ap (place_in names) (sym (text_same b a same)) in rw same (grind (arith, nat_tests))
      | inr other ↦
          let differ : place_in names a ≡ place_in names b → ⊥ = λ e.
          false≢true (sym other ∙ text_is b a (sym (place_found names b in_b).1 ∙ (ap (λ k. get_or names k []) (sym e) ∙ (place_found names a in_a).1))) in
          rw other (grind (arith, nat_tests))
    ]

-- the texts are all among the names
abbrev pub AreAmong : List (List ℕ) → List (List ℕ) → Type 0
AreAmong names texts = list_all (has_text names) texts ≡ true

contains_test : (names seen : List (List ℕ)) (text : List ℕ) → AreAmong names seen → has_text names text ≡ true
    → contains_number (map (place_in names) seen) (place_in names text) ≡ has_text seen text
unfolding contains_number has_text
contains_test names [] text among there = refl
contains_test names (s ∷ seen) text among there =
    let (here, more) = and_parts (has_text names s) (list_all (has_text names) seen) among in
    ap (λ b. b || contains_number (map (place_in names) seen) (place_in names text)) (number_test names s text here there)
    ∙ ap (λ b. bytes_eq text s || b) (contains_test names seen text more there)

firsts_known : (seen : List ℕ) (n : ℕ) (ns : List ℕ) → contains_number seen n ≡ true → firsts_after seen (n ∷ ns) ≡ firsts_after seen ns
unfolding distinct_after contains_number
firsts_known seen n ns e = rw e refl

firsts_new : (seen : List ℕ) (n : ℕ) (ns : List ℕ) → contains_number seen n ≡ false → firsts_after seen (n ∷ ns) ≡ n ∷ firsts_after (n ∷ seen) ns
unfolding distinct_after contains_number
firsts_new seen n ns e = rw e refl

pub firsts_of_places : (names seen texts : List (List ℕ)) → AreAmong names seen → AreAmong names texts
    → firsts_after (map (place_in names) seen) (map (place_in names) texts) ≡ map (place_in names) (first_texts_after seen texts)
unfolding distinct_after contains_number has_text
firsts_of_places names seen [] among all = refl
firsts_of_places names seen (t ∷ texts) among all =
    let (here, more) = and_parts (has_text names t) (list_all (has_text names) texts) all in
    let test = contains_test names seen t among here in
    elim (cases_Bool (has_text seen t)) [
      | inl known ↦
          firsts_known (map (place_in names) seen) (place_in names t) (map (place_in names) texts) (test ∙ known)
          ∙ (firsts_of_places names seen texts among more ∙ ap (map (place_in names)) (sym (distinct_known seen t texts known)))
      | inr other ↦
          firsts_new (map (place_in names) seen) (place_in names t) (map (place_in names) texts) (test ∙ other)
          ∙ (ap (λ ns. place_in names t ∷ ns) (firsts_of_places names (t ∷ seen) texts (and_true _ _ here among) more)
          ∙ ap (map (place_in names)) (sym (distinct_unknown seen t texts other)))
    ]

-- ---- lists without repeats

-- each text stands neither before nor earlier
abbrev pub AreNew : List (List ℕ) → List (List ℕ) → Type 0
AreNew before [] = Unit {0}
AreNew before (t ∷ texts) = (has_text before t ≡ false) × AreNew (before ++ t ∷ []) texts

pub distinct_are_new : (before seen texts : List (List ℕ)) → HasSame before seen → AreNew before (first_texts_after seen texts)
unfolding distinct_after has_text
distinct_are_new before seen [] same = tt
distinct_are_new before seen (t ∷ texts) same =
    elim (cases_Bool (has_text seen t)) [
      | inl known ↦ rw (distinct_known seen t texts known) (distinct_are_new before seen texts same)
      | inr other ↦ rw (distinct_unknown seen t texts other) (same t ∙ other, distinct_are_new (before ++ t ∷ []) (t ∷ seen) texts (same_more before seen t same))
    ]

first_texts_new : (seen : List (List ℕ)) (t : List ℕ) (texts : List (List ℕ)) → has_text seen t ≡ false → first_texts_after seen (t ∷ texts) ≡ t ∷ first_texts_after (t ∷ seen) texts
unfolding distinct_after has_text
first_texts_new seen t texts e = rw (e, first_texts_after) refl

pub first_texts_of_new : (before seen texts : List (List ℕ)) → HasSame before seen → AreNew before texts → first_texts_after seen texts ≡ texts
unfolding distinct_after
first_texts_of_new before seen [] same new = refl
first_texts_of_new before seen (t ∷ texts) same new =
    first_texts_new seen t texts (sym (same t) ∙ new.0)
    ∙ ap (λ ts. t ∷ ts) (first_texts_of_new (before ++ t ∷ []) (t ∷ seen) texts (same_more before seen t same) new.1)

pub distinct_of_once : (seen texts : List (List ℕ)) → repeated_after seen texts ≡ None → first_texts_after seen texts ≡ texts
unfolding distinct_after has_text
distinct_of_once seen [] once = refl
distinct_of_once seen (t ∷ texts) once =
    elim (cases_Bool (has_text seen t)) [
      | inl known ↦ let again = seen_again seen t texts known in absurd (cc)
      | inr other ↦ distinct_unknown seen t texts other ∙ ap (λ ts. t ∷ ts) (distinct_of_once (t ∷ seen) texts (sym (not_seen seen t texts other) ∙ once))
    ]

place_behind : (before texts : List (List ℕ)) (t : List ℕ) → has_text before t ≡ false → place (before ++ t ∷ texts) t ≡ length before
unfolding has_text place
place_behind [] texts t e = rw (text_is t t refl) refl
place_behind (b ∷ before) texts t e =
    let (here, more) = or_none (bytes_eq t b) (has_text before t) e in
    let rest : position_or_len (bytes_eq t) (before ++ t ∷ texts) ≡ length before = place_behind before texts t more in
    rw (here, rest) (omega arith)

pub stands_there : (before texts : List (List ℕ)) (t : List ℕ) → has_text (before ++ t ∷ texts) t ≡ true
unfolding has_text
stands_there before texts t =
    let here : (bytes_eq t t || list_any (bytes_eq t) texts) ≡ true = rw (text_is t t refl) refl in
    list_any-append (bytes_eq t) before (t ∷ texts) ∙ or_true (list_any (bytes_eq t) before) (bytes_eq t t || list_any (bytes_eq t) texts) here

pub places_in_turn : (before texts : List (List ℕ)) → AreNew before texts → map (place_in (before ++ texts)) texts ≡ range_with_len (length before) (length texts)
places_in_turn before [] new = refl
places_in_turn before (t ∷ texts) new =
    let here = place_is (before ++ t ∷ texts) t (stands_there before texts t) ∙ place_behind before texts t new.0 in
    let joined = append_assoc before (t ∷ []) texts in
    let rest = ap (λ names. map (place_in names) texts) (sym joined) ∙ places_in_turn (before ++ t ∷ []) texts new.1 in
    rw (here, rest, length_push before t) refl

-- ---- what is put together

kept : (known : List (List ℕ)) (x t : List ℕ) → has_text known t ≡ true → has_text (with_new known x) t ≡ true
unfolding has_text
kept known x t e =
    elim (cases_Bool (has_text known x)) [
      | inl old ↦ rw (with_known known x old) e
      | inr new ↦ rw (with_unknown known x new) (list_any-append (bytes_eq t) known (x ∷ []) ∙ rw e refl)
    ]

all_kept : (known texts : List (List ℕ)) (t : List ℕ) → has_text known t ≡ true → has_text (with_all_new known texts) t ≡ true
unfolding all_added
all_kept known [] t e = e
all_kept known (x ∷ texts) t e = all_kept (with_new known x) texts t (kept known x t e)

taken : (known : List (List ℕ)) (x : List ℕ) → has_text (with_new known x) x ≡ true
taken known x =
    elim (cases_Bool (has_text known x)) [
      | inl old ↦ rw (with_known known x old) old
      | inr new ↦ rw (with_unknown known x new) (stands_there known [] x)
    ]

pub all_taken : (known texts : List (List ℕ)) → AreAmong (with_all_new known texts) texts
unfolding all_added
all_taken known [] = refl
all_taken known (x ∷ texts) = and_true _ _ (all_kept (with_new known x) texts x (taken known x)) (all_taken (with_new known x) texts)

one_passes : (p : List ℕ → Bool) (known : List (List ℕ)) (x : List ℕ) → list_all p known ≡ true → p x ≡ true → list_all p (with_new known x) ≡ true
one_passes p known x old e =
    elim (cases_Bool (has_text known x)) [
      | inl here ↦ rw (with_known known x here) old
      | inr new ↦ rw (with_unknown known x new) (list_all-append p known (x ∷ []) ∙ rw (old, e) refl)
    ]

pub all_pass : (p : List ℕ → Bool) (known texts : List (List ℕ)) → list_all p known ≡ true → list_all p texts ≡ true → list_all p (with_all_new known texts) ≡ true
unfolding all_added
all_pass p known [] old new = old
all_pass p known (x ∷ texts) old new =
    let (here, more) = and_parts (p x) (list_all p texts) new in
    all_pass p (with_new known x) texts (one_passes p known x old here) more

-- ---- places of lists

pub places_within : (names texts : List (List ℕ)) → AreAmong names texts → All (λ c. c < length names) (map (place_in names) texts)
places_within names [] among = All-nil (λ c. c < length names)
places_within names (t ∷ texts) among =
    let (here, more) = and_parts (has_text names t) (list_all (has_text names) texts) among in
    All-cons (λ c. c < length names) (place_in names t) (map (place_in names) texts) (place_found names t here).0 (places_within names texts more)

pub contains_place : (f : List ℕ → ℕ) (texts : List (List ℕ)) (t : List ℕ) → has_text texts t ≡ true → Contains (map f texts) (f t)
unfolding has_text
contains_place f [] t e = absurd (false≢true e)
contains_place f (x ∷ texts) t e =
    elim (cases_Bool (bytes_eq t x)) [
      | inl same ↦ (0, omega arith, ap f (sym (text_same t x same)))
      | inr other ↦
          let there : has_text texts t ≡ true = rw other at e in
          let rest = contains_place f texts t there in
          let within = rest.1 in
          (suc rest.0, omega arith, rest.2)
    ]
