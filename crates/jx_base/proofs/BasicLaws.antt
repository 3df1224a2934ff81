-- Small facts on tests, options and ranges.
use Rattle.std.proofs.Common.{◌≡◌, ◌≢◌, refl, sym, ◌∙◌, ap, ℕ, suc, zero, ◌+◌, ◌<◌, ◌≤◌, Bool, true, false, not, cond, ◌&&◌, List, [], ◌∷◌, ◌++◌, length, Option, Some, None, arith, ◌==◌, slice_get}
use Rattle.std.specs.Prelude.{nat_le}
use Rattle.std.specs.List.{range_with_len, find}
use Rattle.std.proofs.lemmas.Bool.Decides.{nat_tests}
use Rattle.jx_base.specs.Basics.{up_to, passes, contains_number}

pub ap2 : {A B C : Type 0} (f : A → B → C) {a x : A} {b y : B} → a ≡ x → b ≡ y → f a b ≡ f x y
ap2 f p q = cc

pub ap3 : {A B C D : Type 0} (f : A → B → C → D) {a x : A} {b y : B} {c z : C} → a ≡ x → b ≡ y
    → c ≡ z → f a b c ≡ f x y z
ap3 f p q r = cc

-- a case by a test that is known
pub pick_true : {A : Type 0} (b : Bool) (x y : A) → b ≡ true
    → (elim b as (λ _. A) [ true ↦ x | false ↦ y ]) ≡ x
pick_true true x y h = refl
pick_true false x y h = cc

pub pick_false : {A : Type 0} (b : Bool) (x y : A) → b ≡ false
    → (elim b as (λ _. A) [ true ↦ x | false ↦ y ]) ≡ y
pick_false true x y h = cc
pick_false false x y h = refl

pub and_true : (x : Bool) → (x && true) ≡ x
and_true true = refl
and_true false = refl

pub and_false : (x : Bool) → (x && false) ≡ false
and_false true = refl
and_false false = refl

pub both : (x y : Bool) → (x && y) ≡ true → (x ≡ true) × (y ≡ true)
both true true h = (refl, refl)
both true false h = cc
both false y h = cc

pub eq_of : (x y : ℕ) → (x == y) ≡ true → x ≡ y
eq_of x y h = grind (arith, nat_tests)

pub differs : (x y : ℕ) → (x == y) ≡ false → x ≢ y
differs x y h = grind (arith, nat_tests)

pub same_number : (x : ℕ) → (x == x) ≡ true
same_number x = grind (arith, nat_tests)

-- a test of a value that passes
pub passed : {A : Type 0} (p : A → Bool) (o : Option A) → passes p o ≡ true
    → (x : A) × (o ≡ Some x) × (p x ≡ true)
unfolding passes
passed p None h = cc
passed p (Some x) h = (x, refl, h)

-- the first number of a range that passes
pub found : (p : ℕ → Bool) (a n x : ℕ) → find p (range_with_len a n) ≡ Some x
    → (p x ≡ true) × (a ≤ x) × (x < a + n)
found p a zero x h = cc
found p a (suc n) x h = by (p a) refl h (found p (a + 1) n x)
  where
    by : (b : Bool) → p a ≡ b → cond b (Some a) (find p (range_with_len (a + 1) n)) ≡ Some x → (find p (range_with_len (a + 1) n) ≡ Some x → (p x ≡ true) × (a + 1 ≤ x) × (x < a + 1 + n)) →
        (p x ≡ true) × (a ≤ x) × (x < a + suc n)
    by true e h again = let q : a ≡ x = cc in (ap p (sym q) ∙ e, omega (arith, q), omega (arith, q))
    by false e h again = let r = again h in (r.0, omega (arith, r.1), omega (arith, r.2))

-- a range of which no number passes
pub none_found : (p : ℕ → Bool) (a n : ℕ) → find p (range_with_len a n) ≡ None → (x : ℕ) → a ≤ x
    → x < a + n → p x ≡ false
none_found p a zero h x l u = absurd (omega (arith, l, u))
none_found p a (suc n) h x l u = by (p a) refl h (none_found p (a + 1) n)
  where
    cases : (a x : ℕ) → (a == x) ≡ true → a ≡ x
    cases a x q = eq_of a x q

    by : (b : Bool) → p a ≡ b → cond b (Some a) (find p (range_with_len (a + 1) n)) ≡ None → (find p (range_with_len (a + 1) n) ≡ None → (x : ℕ) → a + 1 ≤ x → x < a + 1 + n → p x ≡ false) → p x ≡ false
    by true e h again = cc
    by false e h again = here (a == x) refl
      where
        here : (q : Bool) → (a == x) ≡ q → p x ≡ false
        here true q = ap p (sym (eq_of a x q)) ∙ e
        here false q = let d = differs a x q in again h x (omega (arith, l, d)) (omega (arith, u))

-- ranges end to end
pub range_append : (a n k : ℕ)
    → range_with_len a (n + k) ≡ range_with_len a n ++ range_with_len (a + n) k
range_append a zero k = rw (zero_left k) (ap (λ (x : ℕ). range_with_len x k) (omega arith))
  where
    zero_left : (k : ℕ) → 0 + k ≡ k
    zero_left k = omega arith
range_append a (suc n) k =
    ap (range_with_len a) (shift n k)
    ∙ ap (λ xs. a ∷ xs) (range_append (a + 1) n k ∙ ap (λ x. range_with_len (a + 1) n ++ range_with_len x k) (omega arith))
  where
    shift : (n k : ℕ) → suc n + k ≡ suc (n + k)
    shift n k = omega arith

-- k numbers more
pub up_to_append : (n k : ℕ) → up_to (n + k) ≡ up_to n ++ range_with_len (n + 1) k
unfolding up_to
up_to_append n k = range_append 1 n k ∙ ap (λ x. range_with_len 1 n ++ range_with_len x k) (omega arith)

-- an item of a list with more behind it
pub get_left : {A : Type 0} (xs ys : List A) (i : ℕ) → i < length xs → slice_get (xs ++ ys) i ≡ slice_get xs i
get_left [] ys i l = absurd (omega (arith, l))
get_left (x ∷ xs) ys zero l = refl
get_left (x ∷ xs) ys (suc i) l = get_left xs ys i (omega (arith, l))

-- an item behind a list
pub get_right : {A : Type 0} (xs ys : List A) (i j : ℕ) → j ≡ length xs + i → slice_get (xs ++ ys) j ≡ slice_get ys i
get_right [] ys i j q = ap (slice_get ys) (omega (arith, q))
get_right (x ∷ xs) ys i zero q = absurd (omega (arith, q))
get_right (x ∷ xs) ys i (suc j) q = get_right xs ys i j (omega (arith, q))

-- a number that passes the test of a bound
pub at_most : (x y : ℕ) → nat_le x y ≡ true → x ≤ y
at_most x y q = grind (arith, nat_tests)

-- a number that fails it
pub beyond : (x y : ℕ) → nat_le x y ≡ false → y < x
beyond x y q = grind (arith, nat_tests)

-- a test whose contrary fails passes
pub turned : (b : Bool) → not b ≡ false → b ≡ true
turned true h = refl
turned false h = cc

-- nothing is in an empty list
pub nothing : {A : Type 0} (k : ℕ) → contains_number [] k ≡ true → A
unfolding contains_number
nothing k h = cc
