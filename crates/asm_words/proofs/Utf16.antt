-- A text in units of UTF-16, unit by unit.
use Rattle.std.proofs.Common.{◌≡◌, ℕ, List, [], ◌∷◌, ◌++◌, length, Bool, true, false, Some, None, refl, sym, ap, subst, inl, inr, ◌∙◌, append_assoc, append-nil}
use Rattle.std.specs.Prelude.{◌⊎◌, flat_map, if◌then◌else◌}
use Rattle.std.specs.Char.{encode_utf8}
use Rattle.std.specs.Char.Escape.{encode_utf16}
use Rattle.std.specs.Str.{IsUtf8, is_utf8, chars}
use Rattle.std.proofs.lemmas.Str.{chars-nil, chars_past_char, IsUtf8-past_char, IsUtf8-from_is_utf8, is_utf8-from_IsUtf8}
use Rattle.std.proofs.lemmas.List.{nil_from_length}
use Rattle.asm_words.specs.Words.{units_of}

none_by : (line : List ℕ) (t : Bool) → is_utf8 line ≡ t → (IsUtf8 line → ⊥) → None ≡ (if t then Some (flat_map encode_utf16 (chars line)) else None)
none_by line true e h = absurd (h (IsUtf8-from_is_utf8 line e))
none_by line false e h = refl

pub none_of : (line : List ℕ) → (IsUtf8 line → ⊥) → None ≡ units_of line
unfolding units_of
none_of line h = none_by line (is_utf8 line) refl h

pub all_of : (line units : List ℕ) → IsUtf8 line → units ≡ flat_map encode_utf16 (chars line) → Some units ≡ units_of line
unfolding units_of
all_of line units h e = rw (is_utf8-from_IsUtf8 line h) (ap Some e)

-- a step of a loop: the second unit of a pair comes, or the first unit of the next character
pub is_utf8_behind : (x : ℕ) (pending rest after more : List ℕ) → IsUtf8 rest
    → ((pending ≡ x ∷ []) × (more ≡ []) × (after ≡ rest)) ⊎ ((pending ≡ []) × ((c : ℕ) × (rest ≡ encode_utf8 c ++ after) × (encode_utf16 c ≡ x ∷ more)))
    → IsUtf8 after
is_utf8_behind x pending rest after more u (inl h) = subst IsUtf8 (sym h.2) u
is_utf8_behind x pending rest after more u (inr h) = IsUtf8-past_char rest after h.1.0 u h.1.1

begin_so : (x : ℕ) (pending rest after more : List ℕ) → IsUtf8 rest
    → ((pending ≡ x ∷ []) × (more ≡ []) × (after ≡ rest)) ⊎ ((pending ≡ []) × ((c : ℕ) × (rest ≡ encode_utf8 c ++ after) × (encode_utf16 c ≡ x ∷ more)))
    → pending ++ flat_map encode_utf16 (chars rest) ≡ x ∷ (more ++ flat_map encode_utf16 (chars after))
begin_so x pending rest after more u (inl h) = rw (h.0, h.1, h.2) refl
begin_so x pending rest after more u (inr h) =
    rw (h.0) (ap (flat_map encode_utf16) (chars_past_char rest after h.1.0 u h.1.1) ∙ ap (λ units. units ++ flat_map encode_utf16 (chars after)) h.1.2)

pub goes_on : (done : List ℕ) (x : ℕ) (pending rest after more total : List ℕ) → IsUtf8 rest
    → ((pending ≡ x ∷ []) × (more ≡ []) × (after ≡ rest)) ⊎ ((pending ≡ []) × ((c : ℕ) × (rest ≡ encode_utf8 c ++ after) × (encode_utf16 c ≡ x ∷ more)))
    → done ++ (pending ++ flat_map encode_utf16 (chars rest)) ≡ total → (done ++ x ∷ []) ++ (more ++ flat_map encode_utf16 (chars after)) ≡ total
goes_on done x pending rest after more total u h so_far =
    append_assoc done (x ∷ []) (more ++ flat_map encode_utf16 (chars after)) ∙ (ap (λ units. done ++ units) (sym (begin_so x pending rest after more u h)) ∙ so_far)

pub is_done : (done pending rest total : List ℕ) → pending ≡ [] → length rest ≡ 0
    → done ++ (pending ++ flat_map encode_utf16 (chars rest)) ≡ total → done ≡ total
is_done done pending rest total e l so_far =
    let k : rest ≡ [] = nil_from_length rest l in sym (append-nil done) ∙ ((rw (e, k, chars-nil) refl) ∙ so_far)
