-- Lists: beginnings, places, and one item more.
use Rattle.std.proofs.Common.{◌≡◌, ℕ, zero, suc, ◌<◌, ◌≤◌, ◌⊎◌, inl, inr, List, [], ◌∷◌, ◌++◌, length, set, Some, slice_get, refl, ap, sym, ◌∙◌, ⊎_elim, arith, append_assoc, append-nil, length-append}
use Rattle.std.specs.List.{Contains}
use mathlib.Core.Option.{some, some-injective, some-ne-none}
use mathlib.Core.List.{IsPrefix}
use lib.ListN.{get_elem?}

module _ {A : Type 0} where
  pub prefix_self : (xs : List A) → IsPrefix xs xs
  prefix_self xs = ([], append-nil xs)

  pub prefix_trans : (xs ys zs : List A) → IsPrefix xs ys → IsPrefix ys zs → IsPrefix xs zs
  prefix_trans xs ys zs p q = (p.0 ++ q.0, sym (append_assoc xs p.0 q.0) ∙ (ap (λ w. w ++ q.0) p.1 ∙ q.1))

  pub prefix_more : (xs ys zs : List A) → IsPrefix xs ys → IsPrefix xs (ys ++ zs)
  prefix_more xs ys zs p = prefix_trans xs ys (ys ++ zs) p (zs, refl)

  -- of two beginnings of one list the shorter begins the longer
  pub prefix_shorter : (xs ys zs : List A) → IsPrefix xs zs → IsPrefix ys zs → length xs ≤ length ys → IsPrefix xs ys
  prefix_shorter [] ys zs p q le = (ys, refl)
  prefix_shorter (x ∷ xs) [] zs p q le = absurd (omega arith)
  prefix_shorter (x ∷ xs) (y ∷ ys) [] p q le = absurd (cc (p.1))
  prefix_shorter (x ∷ xs) (y ∷ ys) (z ∷ zs) p q le =
      let heads : x ≡ y = cc (p.1, q.1) in
      let rest = prefix_shorter xs ys zs (p.0, cc (p.1)) (q.0, cc (q.1)) (omega arith) in
      (rest.0, cc (heads, rest.1))

  -- where the whole is no longer than its beginning, nothing was added
  pub nothing_added : (xs ys : List A) → xs ++ ys ≡ xs → ys ≡ []
  nothing_added xs [] e = refl
  nothing_added xs (y ∷ ys) e = absurd (omega (arith, ap length e, length-append xs (y ∷ ys)))

  pub none_added : (xs ys : List A) → xs ++ ys ≡ [] → xs ≡ []
  none_added [] ys e = refl
  none_added (x ∷ xs) ys e = absurd (omega (arith, ap length e))

  pub Contains-cases : (x : A) (xs : List A) (y : A) → Contains (x ∷ xs) y → (x ≡ y) ⊎ Contains xs y
  Contains-cases x xs y (zero, lt, e) = inl e
  Contains-cases x xs y (suc k, lt, e) = inr (k, omega arith, e)

  pub Contains-head : (x : A) (xs : List A) (y : A) → x ≡ y → Contains (x ∷ xs) y
  Contains-head x xs y e = (0, omega arith, e)

  pub Contains-later : (x : A) (xs : List A) (y : A) → Contains xs y → Contains (x ∷ xs) y
  Contains-later x xs y (k, lt, e) = (suc k, omega arith, e)

  -- an item of a list to which one was added is an item of the list, or the new one
  pub slice_get-push_cases : (xs : List A) (a b : A) (i : ℕ) → slice_get (xs ++ a ∷ []) i ≡ Some b → ((i < length xs) × (slice_get xs i ≡ Some b)) ⊎ ((i ≡ length xs) × (a ≡ b))
  slice_get-push_cases [] a b zero e = inr (refl, cc (e))
  slice_get-push_cases [] a b (suc i) e = absurd (cc (e))
  slice_get-push_cases (x ∷ xs) a b zero e = inl (omega arith, e)
  slice_get-push_cases (x ∷ xs) a b (suc i) e = ⊎_elim (λ (t : (i < length xs) × (slice_get xs i ≡ Some b)). inl (let z = t.0 in omega arith, t.1)) (λ (t : (i ≡ length xs) × (a ≡ b)). inr (let z = t.0 in omega arith, t.1)) (slice_get-push_cases xs a b i e)

  pub set_there : (xs : List A) (i : ℕ) (a b : A) → get_elem? xs i ≡ some a → get_elem? (set xs i b) i ≡ some b
  set_there [] i a b e = absurd (some-ne-none a (sym e))
  set_there (x ∷ xs) zero a b e = refl
  set_there (x ∷ xs) (suc i) a b e = set_there xs i a b e

  pub one_there : (xs : List A) (i : ℕ) (a b : A) → get_elem? xs i ≡ some a → get_elem? xs i ≡ some b → a ≡ b
  one_there xs i a b p q = some-injective a b (sym p ∙ q)

  pub at_push_cases : (xs : List A) (a b : A) (i : ℕ) → get_elem? (xs ++ a ∷ []) i ≡ some b → (get_elem? xs i ≡ some b) ⊎ ((i ≡ length xs) × (a ≡ b))
  at_push_cases [] a b zero e = inr (refl, some-injective a b e)
  at_push_cases [] a b (suc i) e = absurd (some-ne-none b (sym e))
  at_push_cases (x ∷ xs) a b zero e = inl e
  at_push_cases (x ∷ xs) a b (suc i) e = ⊎_elim (λ (t : get_elem? xs i ≡ some b). inl t) (λ (t : (i ≡ length xs) × (a ≡ b)). inr (let z = t.0 in omega arith, t.1)) (at_push_cases xs a b i e)
