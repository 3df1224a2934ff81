-- The first of several that gives something.
use Rattle.std.proofs.Common.{◌≡◌, refl, ap, ◌∙◌, ℕ, suc, zero, ◌+◌, ◌<◌, ◌≤◌, true, is_some, List, [], ◌∷◌, drop, length, Option, Some, None, arith, slice_get}
use Rattle.std.proofs.lemmas.List.{drop_all}
use Rattle.jx_base.specs.Basics.{first_some}

module _ {A B : Type 0} (f : A → Option B) where
  -- where the first gives nothing, the rest may
  pub none_first : (x : A) (xs : List A) → f x ≡ None → first_some f (x ∷ xs) ≡ first_some f xs
  unfolding first_some
  none_first x xs h = ap (λ (o : Option B). elim o as (λ _. Option B) [ Some y ↦ Some y | None ↦ first_some f xs ]) h

  -- where it gives something, that is it
  pub some_first : (x : A) (xs : List A) (y : B) → f x ≡ Some y → first_some f (x ∷ xs) ≡ Some y
  unfolding first_some
  some_first x xs y h = ap (λ (o : Option B). elim o as (λ _. Option B) [ Some y ↦ Some y | None ↦ first_some f xs ]) h

  -- of none there is nothing
  pub none_left : first_some f [] ≡ None
  unfolding first_some
  none_left = refl

-- what is left from a place on begins with the item there
pub drop_get : {A : Type 0} (xs : List A) (i : ℕ) (x : A) → slice_get xs i ≡ Some x → drop i xs ≡ x ∷ drop (i + 1) xs
drop_get [] i x q = cc
drop_get {A = A} (y ∷ xs) zero x q = let e : y ≡ x = cc in ap (λ (z : A). z ∷ xs) e
drop_get {A = A} (y ∷ xs) (suc i) x q = drop_get xs i x q ∙ same (omega arith)
  where
    same : suc (i + 1) ≡ suc i + 1 → x ∷ drop (i + 1) xs ≡ x ∷ drop (suc i + 1) (y ∷ xs)
    same e = ap (λ (n : ℕ). let r : List A = x ∷ drop n (y ∷ xs) in r) e

-- an item stands at each place
pub get_there : {A : Type 0} (xs : List A) (i : ℕ) → i < length xs → is_some (slice_get xs i) ≡ true
get_there [] i l = absurd (omega (arith, l))
get_there (x ∷ xs) zero l = refl
get_there (x ∷ xs) (suc i) l = get_there xs i (omega (arith, l))

-- behind the last there is none
pub nothing_left : {A : Type 0} (xs : List A) (i : ℕ) → length xs ≤ i → drop i xs ≡ []
nothing_left xs i l = drop_all i xs l
