-- A search through pairs of a key and its target by their place.
use Rattle.std.proofs.Common.{◌≡◌, ℕ, suc, ◌+◌, ◌≤◌, ◌<◌, List, [], ◌∷◌, length, drop, get_or, refl, ap, ◌∙◌, arith, true, false, Bool}
use Rattle.std.specs.Prelude.{ℤ, pos}
use Rattle.std.specs.Ordering.{int_eq}
use Rattle.std.proofs.lemmas.List.{length-drop}
use Rattle.std.proofs.lemmas.Int.{to_z-of_z}
use Rattle.std.proofs.Math.Seq.{drop-cons}
use Rattle.machine_model.specs.NumericRows.{target_of}

-- the pair at a place
pair_at : (xs : List ℤ) (i : ℕ) → i + 1 < length xs → drop i xs ≡ get_or xs i (pos 0) ∷ get_or xs (i + 1) (pos 0) ∷ drop (i + 2) xs
pair_at xs i h =
    let a : i < length xs = omega arith in
    let b : suc i < length xs = omega arith in
    let e : drop i xs ≡ get_or xs i (pos 0) ∷ get_or xs (suc i) (pos 0) ∷ drop (suc (suc i)) xs =
    drop-cons xs i (pos 0) a ∙ ap (λ t. get_or xs i (pos 0) ∷ t) (drop-cons xs (suc i) (pos 0) b) in
    let one : i + 1 ≡ suc i = omega arith in
    let two : i + 2 ≡ suc (suc i) = omega arith in
    rw (one, two) e

pub key_here : (xs : List ℤ) (i : ℕ) (key other : ℤ) → i + 1 < length xs → int_eq (get_or xs i (pos 0)) key ≡ true → target_of (drop i xs) key other ≡ get_or xs (i + 1) (pos 0)
unfolding target_of
key_here xs i key other h e = ap (λ s. target_of s key other) (pair_at xs i h) ∙ ap (λ (b : Bool). elim b as (λ _. ℤ) [ true ↦ get_or xs (i + 1) (pos 0) | false ↦ target_of (drop (i + 2) xs) key other ]) e

pub key_behind : (xs : List ℤ) (i : ℕ) (key other : ℤ) → i + 1 < length xs → int_eq (get_or xs i (pos 0)) key ≡ false → target_of (drop i xs) key other ≡ target_of (drop (i + 2) xs) key other
unfolding target_of
key_behind xs i key other h e = ap (λ s. target_of s key other) (pair_at xs i h) ∙ ap (λ (b : Bool). elim b as (λ _. ℤ) [ true ↦ get_or xs (i + 1) (pos 0) | false ↦ target_of (drop (i + 2) xs) key other ]) e

short : (s : List ℤ) (key other : ℤ) → length s ≤ 1 → target_of s key other ≡ other
unfolding target_of
short [] key other h = refl
short (k ∷ []) key other h = refl
short (k ∷ t ∷ s) key other h = absurd (omega arith)

pub no_key : (xs : List ℤ) (i : ℕ) (key other : ℤ) → length xs ≤ i + 1 → target_of (drop i xs) key other ≡ other
no_key xs i key other h = short (drop i xs) key other (omega (arith, length-drop i xs))

pub ruleset keys = (key_here, key_behind, no_key, to_z-of_z)
