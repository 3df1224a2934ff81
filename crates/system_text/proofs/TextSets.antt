-- Sets of texts, whose keys point to the texts.
use Rattle.std.proofs.Common.{◌≡◌, ◌∙◌, refl, sym, ap, ℕ, Bool, true, false, List, [], ◌∷◌, ◌++◌, map, append_assoc, inl, inr, Bor}
use Rattle.std.specs.Prelude.{position, ◌||◌}
use Rattle.std.specs.List.{list_any, position_or_len}
use Rattle.std.specs.Str.{bytes_eq}
use Rattle.std.proofs.lemmas.Bool.{cases_Bool}
use Rattle.std.proofs.lemmas.Slice.Eq.{bytes_eq-Decides}
use Rattle.std.proofs.lemmas.List.{map-append, length-map}
use Rattle.std.proofs.lemmas.List.Folds.{list_any-append}
use Rattle.indexmap.specs.IndexSet.{insert_key}
use Rattle.program_model.specs.Plans.{first_texts}
use Rattle.jx_base.specs.Basics.{all_added}
use Rattle.system_text.specs.Keys.{has_text}
use Rattle.system_text.specs.Scan.{texts_at, with_new, with_all_new}
use Rattle.system_text.proofs.Distinct.{HasSame, with_known, with_unknown, with_all_new-distinct}
use Rattle.system_text.proofs.Repeats.{list_any-map}

abbrev pub Keys : Type 0
Keys = List (Bor (List ℕ))

abbrev pub same_key : Bor (List ℕ) → Bor (List ℕ) → Bool
same_key a b = bytes_eq a.now b.now

pub key_test : (keys : Keys) (text : List ℕ) → has_text (texts_at keys) text ≡ list_any (λ key. bytes_eq text key.now) keys
unfolding has_text
key_test keys text = list_any-map (bytes_eq text) (λ key. key.now) keys

pub with_key : (keys : Keys) (text : Bor (List ℕ)) → texts_at (insert_key same_key keys text) ≡ with_new (texts_at keys) text.now
with_key keys text =
    let test = key_test keys text.now in
    elim (cases_Bool (list_any (same_key text) keys)) [
      | inl known ↦ rw known (sym (with_known (texts_at keys) text.now (test ∙ known)))
      | inr new ↦ rw new (map-append (λ key. key.now) keys (text ∷ []) ∙ sym (with_unknown (texts_at keys) text.now (test ∙ new)))
    ]

length_mapped : {X Y : Type 0} (p : X → Bool) (h : Y → X) (ys : List Y) → position_or_len p (map h ys) ≡ position_or_len (λ y. p (h y)) ys
length_mapped p h [] = refl
length_mapped p h (y ∷ ys) = rw (length_mapped p h ys) refl

pub place_of_key : (keys : Keys) (text : List ℕ) → position (bytes_eq text) (texts_at keys) ≡ position (λ key. bytes_eq text key.now) keys
place_of_key keys text = rw (length_mapped (bytes_eq text) (λ key. key.now) keys, length-map keys (λ key. key.now)) refl

-- ---- the new ones apart

pub known_apart : (known fresh : List (List ℕ)) (text : List ℕ) → has_text known text ≡ true → with_new (known ++ fresh) text ≡ known ++ fresh
unfolding has_text
known_apart known fresh text e = with_known (known ++ fresh) text (list_any-append (bytes_eq text) known fresh ∙ rw e refl)

pub new_apart : (known fresh : List (List ℕ)) (text : List ℕ) → has_text known text ≡ false → with_new (known ++ fresh) text ≡ known ++ with_new fresh text
unfolding has_text
new_apart known fresh text e =
    let test : has_text (known ++ fresh) text ≡ has_text fresh text = list_any-append (bytes_eq text) known fresh ∙ rw e refl in
    elim (cases_Bool (has_text fresh text)) [
      | inl old ↦ with_known (known ++ fresh) text (test ∙ old) ∙ ap (λ ts. known ++ ts) (sym (with_known fresh text old))
      | inr new ↦
          with_unknown (known ++ fresh) text (test ∙ new)
          ∙ (append_assoc known fresh (text ∷ []) ∙ ap (λ ts. known ++ ts) (sym (with_unknown fresh text new)))
    ]

-- ---- what is in a list

or_nothing : (b : Bool) → (b || false) ≡ b
or_nothing true = refl
or_nothing false = refl

or_known : (a b : Bool) → (b ≡ true → a ≡ true) → (a || b) ≡ a
or_known true b h = refl
or_known false true h = sym (h refl)
or_known false false h = refl

pub has_new : (texts : List (List ℕ)) (x t : List ℕ) → has_text (with_new texts x) t ≡ (has_text texts t || bytes_eq t x)
unfolding has_text
has_new texts x t =
    elim (cases_Bool (has_text texts x)) [
      | inl known ↦
          ap (λ ts. has_text ts t) (with_known texts x known)
          ∙ sym (or_known (has_text texts t) (bytes_eq t x) (λ e. ap (has_text texts) ((bytes_eq-Decides t x).0 e) ∙ known))
      | inr new ↦
          ap (λ ts. has_text ts t) (with_unknown texts x new)
          ∙ (list_any-append (bytes_eq t) texts (x ∷ []) ∙ ap (λ b. has_text texts t || b) (or_nothing (bytes_eq t x)))
    ]

or_moved : (a b c : Bool) → ((a || b) || c) ≡ (a || (b || c))
or_moved true b c = refl
or_moved false b c = refl

has_all_new : (texts others : List (List ℕ)) (t : List ℕ) → has_text (with_all_new texts others) t ≡ (has_text texts t || has_text others t)
unfolding all_added has_text
has_all_new texts [] t = sym (or_nothing (has_text texts t))
has_all_new texts (x ∷ others) t =
    has_all_new (with_new texts x) others t
    ∙ (ap (λ b. b || has_text others t) (has_new texts x t)
    ∙ or_moved (has_text texts t) (bytes_eq t x) (has_text others t))

pub has_distinct : (texts : List (List ℕ)) → HasSame texts (first_texts texts)
unfolding has_text
has_distinct texts t = sym (ap (λ ts. has_text ts t) (sym (with_all_new-distinct texts)) ∙ has_all_new [] texts t)
