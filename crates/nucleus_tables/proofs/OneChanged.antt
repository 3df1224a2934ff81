-- Lists of which each item changes by its number, and lists of which one does.
use Rattle.std.proofs.Common.{◌≡◌, ◌≢◌, refl, sym, ◌∙◌, ap, ℕ, suc, zero, ◌+◌, ◌-◌, ◌≤◌, Bool, List, [], ◌∷◌, map, arith, ◌==◌, if◌then◌else◌, ◌⊎◌, inl, inr}
use Rattle.jx_base.proofs.BasicLaws.{ap2}
use Rattle.table_threads.proofs.Records.{is_that, not_that, same_or_not}
use Rattle.table_threads.specs.Changes.{changed_at, each_from}

-- nothing changes where no item does
pub each_left : {A : Type 0} (f : ℕ → A → A) (a : ℕ) (xs : List A) → ((j : ℕ) (x : A) → a ≤ j → f j x ≡ x) → each_from f a xs ≡ xs
each_left f a [] h = refl
each_left {A} f a (x ∷ xs) h = ap2 (λ (y : A) (ys : List A). y ∷ ys) (h a x (omega arith)) (each_left f (a + 1) xs (λ j y l. h j y (omega (arith, l))))

-- where all change the same way, their number plays no part
pub each_all : {A : Type 0} (f : ℕ → A → A) (g : A → A) (a : ℕ) (xs : List A) → ((j : ℕ) (x : A) → f j x ≡ g x) → each_from f a xs ≡ map g xs
each_all f g a [] h = refl
each_all {A} f g a (x ∷ xs) h = ap2 (λ (y : A) (ys : List A). y ∷ ys) (h a x) (each_all f g (a + 1) xs h)

-- where one alone changes
pub each_one : {A : Type 0} (f : ℕ → A → A) (g : A → A) (k a : ℕ) (xs : List A) → a ≤ k → ((j : ℕ) (x : A) → f j x ≡ (if k == j then g x else x)) → each_from f a xs ≡ changed_at (k - a) g xs
each_one f g k a [] l h = refl
each_one {A} f g k a (x ∷ xs) l h = by (same_or_not a k) (each_one f g k (a + 1) xs)
  where
    by : (a ≡ k) ⊎ (a ≢ k) → (a + 1 ≤ k → ((j : ℕ) (x : A) → f j x ≡ (if k == j then g x else x)) → each_from f (a + 1) xs ≡ changed_at (k - (a + 1)) g xs) →
        f a x ∷ each_from f (a + 1) xs ≡ changed_at (k - a) g (x ∷ xs)
    by (inl q) again =
        let here : zero ≡ k - a = omega (arith, q) in
        ap2 (λ (y : A) (ys : List A). y ∷ ys)
        (h a x ∙ ap (λ (b : Bool). if b then g x else x) (is_that k a (sym q)))
        (each_left f (a + 1) xs (λ j y w. h j y ∙ ap (λ (b : Bool). if b then g y else y) (not_that k j (λ z. omega (arith, z, q, w)))))
        ∙ ap (λ (i : ℕ). changed_at i g (x ∷ xs)) here
    by (inr n) again =
        let there : suc (k - (a + 1)) ≡ k - a = omega (arith, l, n) in
        ap2 (λ (y : A) (ys : List A). y ∷ ys)
        (h a x ∙ ap (λ (b : Bool). if b then g x else x) (not_that k a n))
        (again (omega (arith, l, n)) h)
        ∙ ap (λ (i : ℕ). changed_at i g (x ∷ xs)) there

-- each item changed twice by its number
pub each_twice : {A : Type 0} (f g : ℕ → A → A) (a : ℕ) (xs : List A) → each_from f a (each_from g a xs) ≡ each_from (λ j x. f j (g j x)) a xs
each_twice f g a [] = refl
each_twice {A} f g a (x ∷ xs) = ap (λ (ys : List A). f a (g a x) ∷ ys) (each_twice f g (a + 1) xs)
