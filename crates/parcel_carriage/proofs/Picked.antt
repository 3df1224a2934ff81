-- Lists of which the items with some numbers change.
use Rattle.std.proofs.Common.{◌≡◌, ◌≢◌, refl, sym, ◌∙◌, ap, ℕ, zero, suc, ◌+◌, ◌-◌, ◌≤◌, Bool, true, false, ◌||◌, List, [], ◌∷◌, length, ◌⊎◌, inl, inr, ◌==◌, if◌then◌else◌, arith}
use Rattle.jx_base.proofs.BasicLaws.{ap2, eq_of}
use Rattle.table_threads.proofs.Records.{is_that, not_that, same_or_not}
use Rattle.table_threads.specs.Changes.{changed_at, each_from, each_record}

-- an item changed where its number is one of those
abbrev pub picked : {A : Type 0} → (ℕ → Bool) → (A → A) → ℕ → A → A
picked p f j x = if p j then f x else x

-- the same numbers make the same list
pub alike : {A : Type 0} (p q : ℕ → Bool) (f : A → A) (a : ℕ) (xs : List A) → ((j : ℕ) → p j ≡ q j)
    → each_from (picked p f) a xs ≡ each_from (picked q f) a xs
alike p q f a [] h = refl
alike {A} p q f a (x ∷ xs) h =
    ap2 (λ (y : A) (ys : List A). y ∷ ys) (ap (λ (b : Bool). if b then f x else x) (h a)) (alike p q f (a + 1) xs h)

-- nothing changes where the numbers are none
pub none : {A : Type 0} (p : ℕ → Bool) (f : A → A) (a : ℕ) (xs : List A) → ((j : ℕ) → p j ≡ false) → xs ≡ each_from (picked p f) a xs
none p f a [] h = refl
none {A} p f a (x ∷ xs) h =
    ap2 (λ (y : A) (ys : List A). y ∷ ys) (ap (λ (b : Bool). if b then f x else x) (sym (h a))) (none p f (a + 1) xs h)

-- an earlier number changes nothing
none_from : {A : Type 0} (k : ℕ) (f : A → A) (a : ℕ) (xs : List A) → suc k ≤ a → each_from (picked (λ j. k == j) f) a xs ≡ xs
none_from k f a [] l = refl
none_from {A} k f a (x ∷ xs) l =
    let n : a ≢ k = λ e. omega (arith, l, e) in
    ap2 (λ (y : A) (ys : List A). y ∷ ys) (ap (λ (b : Bool). if b then f x else x) (not_that k a n)) (none_from k f (a + 1) xs (omega (arith, l)))

one_from : {A : Type 0} (k : ℕ) (f : A → A) (a : ℕ) (xs : List A) → a ≤ k → each_from (picked (λ j. k == j) f) a xs ≡ changed_at (k - a) f xs
one_from k f a [] l = refl
one_from {A} k f a (x ∷ xs) l = by (same_or_not a k) (one_from k f (a + 1) xs)
  where
    by : (a ≡ k) ⊎ (a ≢ k) → (a + 1 ≤ k → each_from (picked (λ j. k == j) f) (a + 1) xs ≡ changed_at (k - (a + 1)) f xs) →
        picked (λ j. k == j) f a x ∷ each_from (picked (λ j. k == j) f) (a + 1) xs ≡ changed_at (k - a) f (x ∷ xs)
    by (inl q) again =
        let here : zero ≡ k - a = omega (arith, q) in
        let past : suc k ≤ a + 1 = omega (arith, q) in
        ap2 (λ (y : A) (ys : List A). y ∷ ys) (ap (λ (b : Bool). if b then f x else x) (is_that k a (sym q))) (none_from k f (a + 1) xs past)
        ∙ ap (λ (i : ℕ). changed_at i f (x ∷ xs)) here
    by (inr n) again =
        let there : suc (k - (a + 1)) ≡ k - a = omega (arith, l, n) in
        let more : a + 1 ≤ k = omega (arith, l, n) in
        ap2 (λ (y : A) (ys : List A). y ∷ ys) (ap (λ (b : Bool). if b then f x else x) (not_that k a n)) (again more)
        ∙ ap (λ (i : ℕ). changed_at i f (x ∷ xs)) there

-- to change one item is to change those with its number
pub one : {A : Type 0} (k : ℕ) (f : A → A) (xs : List A) → 1 ≤ k → changed_at (k - 1) f xs ≡ each_record (picked (λ j. k == j) f) xs
one k f xs l = sym (one_from k f 1 xs l)

both : {A : Type 0} (b c : Bool) (f : A → A) (x : A) → (b ≡ true → c ≡ true → f (f x) ≡ f x)
    → (if c then f (if b then f x else x) else (if b then f x else x)) ≡ (if b || c then f x else x)
both true true f x h = h refl refl
both true false f x h = refl
both false c f x h = refl

-- two changes are one of either's numbers, where no item changes twice or twice is once
pub twice : {A : Type 0} (p q : ℕ → Bool) (f : A → A) (a : ℕ) (xs : List A) → ((j : ℕ) (x : A) → p j ≡ true → q j ≡ true → f (f x) ≡ f x)
    → each_from (picked q f) a (each_from (picked p f) a xs) ≡ each_from (picked (λ j. p j || q j) f) a xs
twice p q f a [] h = refl
twice {A} p q f a (x ∷ xs) h = ap2 (λ (y : A) (ys : List A). y ∷ ys) (both (p a) (q a) f x (h a x)) (twice p q f (a + 1) xs h)

-- one item more
pub one_more : {A : Type 0} (p : ℕ → Bool) (k : ℕ) (f : A → A) (xs : List A) → 1 ≤ k → ((x : A) → p k ≡ true → f (f x) ≡ f x)
    → changed_at (k - 1) f (each_record (picked p f) xs) ≡ each_record (picked (λ j. p j || (k == j)) f) xs
one_more p k f xs l h =
    one k f (each_record (picked p f) xs) l
    ∙ twice p (λ j. k == j) f 1 xs (λ j x g e. h x (ap p (eq_of k j e) ∙ g))

-- the list keeps its length
pub length_picked : {A : Type 0} (p : ℕ → Bool) (f : A → A) (a : ℕ) (xs : List A) → length (each_from (picked p f) a xs) ≡ length xs
length_picked p f a [] = refl
length_picked p f a (x ∷ xs) = ap suc (length_picked p f (a + 1) xs)
