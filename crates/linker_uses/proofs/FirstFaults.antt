-- The first fault that a walk over a list finds.
use Rattle.std.proofs.Common.{◌≡◌, ◌∙◌, refl, sym, ap, ℕ, zero, suc, ◌+◌, ◌<◌, ◌≤◌, true, false, true≢false, List, [], ◌∷◌, ◌++◌, length, Option, Some, None, is_some, take, drop, get_or, min, arith}
use Rattle.std.proofs.Math.Seq.{split_at}
use Rattle.std.proofs.lemmas.List.{get_or-take, get_or_default, length-take, take_all, take_min}
use Rattle.std.specs.List.{cons_option, filter_map}
use Rattle.std.specs.Option.{option_and_then}
use Rattle.jx_base.specs.Basics.{first_some}
use Rattle.linker_uses.proofs.UseLists.{taken}

-- the first of the first items
take_early : {A : Type 0} (xs : List A) (i n : ℕ) → i ≤ n → take i (take n xs) ≡ take i xs
take_early xs zero n h = refl
take_early xs (suc i) zero h = absurd (omega arith)
take_early [] (suc i) (suc n) h = refl
take_early (x ∷ xs) (suc i) (suc n) h = ap (λ zs. x ∷ zs) (take_early xs i n (omega arith))

module _ {A B : Type 0} (f : A → Option B) where
  -- an item with nothing before it
  skip : (x : A) (xs : List A) → f x ≡ None → first_some f (x ∷ xs) ≡ first_some f xs
  unfolding first_some
  skip x xs e = rw (e, first_some) refl

  -- an item with something
  stop : (x : A) (xs : List A) (y : B) → f x ≡ Some y → first_some f (x ∷ xs) ≡ Some y
  unfolding first_some
  stop x xs y e = rw (e, first_some) refl

  -- where the first item gives nothing, the rest does not either
  rest : (x : A) (xs : List A) → first_some f (x ∷ xs) ≡ None → (f x ≡ None) × (first_some f xs ≡ None)
  rest x xs h = by (f x) refl
    where
      by : (o : Option B) → f x ≡ o → (f x ≡ None) × (first_some f xs ≡ None)
      by None e = (e, sym (skip x xs e) ∙ h)
      by (Some y) e = let k : Some y ≡ None = sym (stop x xs y e) ∙ h in absurd cc

  -- what the items behind those that give nothing give
  behind : (front back : List A) → first_some f front ≡ None → first_some f (front ++ back) ≡ first_some f back
  behind [] back h = refl
  behind (x ∷ xs) back h = let r = rest x xs h in skip x (xs ++ back) r.0 ∙ behind xs back r.1

  -- nothing is found in no list
  pub nothing : first_some f [] ≡ None
  unfolding first_some
  nothing = refl

  module _ (xs : List A) (i : ℕ) (x : A) (fault : Option B) (less : i < length xs) (at : x ≡ get_or xs i x) (is : fault ≡ f x) (before : first_some f (take i xs) ≡ None) where
    -- the walk goes on where an item gives nothing
    pub passed : is_some fault ≡ false → first_some f (take (i + 1) xs) ≡ None
    passed h = ap (first_some f) (taken xs i x less at) ∙ behind (take i xs) (x ∷ []) before ∙ skip x [] (sym is ∙ empty fault h) ∙ nothing
      where
        empty : (o : Option B) → is_some o ≡ false → o ≡ None
        empty None k = refl
        empty (Some y) k = absurd (true≢false k)

    -- and ends where it gives something
    pub found : is_some fault ≡ true → fault ≡ first_some f xs
    found h = by fault refl
      where
        whole : xs ≡ take i xs ++ x ∷ drop (suc i) xs
        whole = split_at xs i x less ∙ ap (λ z. take i xs ++ z ∷ drop (suc i) xs) (sym at)

        by : (o : Option B) → fault ≡ o → fault ≡ first_some f xs
        by None k = absurd (true≢false (sym h ∙ ap is_some k))
        by (Some y) k = k ∙ sym (stop x (drop (suc i) xs) y (sym is ∙ k)) ∙ sym (behind (take i xs) (x ∷ drop (suc i) xs) before) ∙ ap (first_some f) (sym whole)

  module _ (xs : List A) (i : ℕ) (d : A) (fault : Option B) (less : i < length xs) (is : fault ≡ f (get_or xs i d)) (before : first_some f (take i xs) ≡ None) where
    -- the same of the item that is read there
    pub passed_at : is_some fault ≡ false → first_some f (take (i + 1) xs) ≡ None
    passed_at = passed xs i (get_or xs i d) fault less (get_or_default xs i d (get_or xs i d) less) is before

    pub found_at : is_some fault ≡ true → fault ≡ first_some f xs
    found_at = found xs i (get_or xs i d) fault less (get_or_default xs i d (get_or xs i d) less) is before

  -- at the end nothing was found
  pub ended : (xs : List A) (i : ℕ) → length xs ≤ i → first_some f (take i xs) ≡ None → None ≡ first_some f xs
  ended xs i h before = sym before ∙ ap (first_some f) (take_all i xs h)

  -- a walk over the first of the items finds as much
  pub found_early : (xs : List A) (count i : ℕ) (x : A) (fault : Option B) → i < length xs → i < count → x ≡ get_or xs i x → fault ≡ f x → first_some f (take i xs) ≡ None
      → is_some fault ≡ true → fault ≡ first_some f (take count xs)
  found_early xs count i x fault less early at is before h =
      found (take count xs) i x fault (omega (arith, less, early, length-take count xs)) (at ∙ sym (get_or-take count xs i x early)) is
      (ap (first_some f) (take_early xs i count (omega arith)) ∙ before) h

  -- and nothing, where it ends
  pub ended_early : (xs : List A) (count i : ℕ) → min count (length xs) ≤ i → i ≤ min count (length xs) → first_some f (take i xs) ≡ None → None ≡ first_some f (take count xs)
  ended_early xs count i h k before = sym before ∙ ap (first_some f) (ap (λ n. take n xs) (same i (min count (length xs)) h k) ∙ take_min count xs)
    where
      same : (m n : ℕ) → n ≤ m → m ≤ n → m ≡ n
      same m n p q = omega arith

module _ {A B C : Type 0} (f : B → Option C) (g : A → Option B) where
  -- what is found of the items that there are
  pub found_listed : (xs : List A) → first_some (λ x. option_and_then f (g x)) xs ≡ first_some f (filter_map g xs)
  unfolding first_some
  found_listed [] = refl
  found_listed (x ∷ xs) = by (g x) (found_listed xs)
    where
      by_value : (o : Option C) (again : Option C) → again ≡ first_some f (filter_map g xs)
          → ◌≡◌ {A = Option C} (elim o [ Some y ↦ Some y | None ↦ again ]) (elim o [ Some y ↦ Some y | None ↦ first_some f (filter_map g xs) ])
      by_value None again e = e
      by_value (Some y) again e = refl

      by : (o : Option B) → first_some (λ x. option_and_then f (g x)) xs ≡ first_some f (filter_map g xs)
          → ◌≡◌ {A = Option C} (elim (option_and_then f o) [ Some y ↦ Some y | None ↦ first_some (λ x. option_and_then f (g x)) xs ]) (first_some f (cons_option o (filter_map g xs)))
      by None e = e
      by (Some z) e = by_value (f z) (first_some (λ x. option_and_then f (g x)) xs) e
