-- Which numbers of a range pass a test.
use Rattle.std.proofs.Common.{◌≡◌, refl, sym, ◌∙◌, ap, ℕ, suc, zero, ◌<◌, ◌≤◌, ◌+◌, Bool, true, false, cond, ◌||◌, List, [], ◌∷◌, length, filter, arith, ◌==◌, ◌⊎◌, inl, inr}
use Rattle.std.specs.Prelude.{nat_lt}
use Rattle.std.specs.List.{list_any, list_all, range_with_len}
use Rattle.jx_base.specs.Basics.{contains_number}
use Rattle.jx_base.proofs.BasicLaws.{both, eq_of}
use Rattle.jx_laws.proofs.Basics.{or_first, or_second}

-- ---- a number that passes

-- a number from a on that passes
pub record Passes (p : ℕ → Bool) (a n : ℕ) : Type 0 where
  pub at : ℕ
  pub passes : p at ≡ true
  pub low : a ≤ at
  pub high : at < a + n

-- a number behind the first that passes
next : (p : ℕ → Bool) (a n : ℕ) → Passes p (a + 1) n → Passes p a (suc n)
next p a n x = record { at = x.at; passes = x.passes; low = omega (arith, x.low); high = omega (arith, x.high) }

-- the first number passes
here : (p : ℕ → Bool) (a n : ℕ) → p a ≡ true → Passes p a (suc n)
here p a n h = record { at = a; passes = h; low = omega arith; high = omega arith }

-- where some number of a range passes there is one
pub any_range : (p : ℕ → Bool) (a n : ℕ) → list_any p (range_with_len a n) ≡ true → Passes p a n
any_range p a zero h = cc
any_range p a (suc n) h = by (p a) refl h (any_range p (a + 1) n)
  where
    by : (b : Bool) → p a ≡ b → (b || list_any p (range_with_len (a + 1) n)) ≡ true → (list_any p (range_with_len (a + 1) n) ≡ true → Passes p (a + 1) n) → Passes p a (suc n)
    by true q h again = here p a n q
    by false q h again = next p a n (again h)

-- a number of a range is its first, or one behind it
cases : (a k : ℕ) → a ≤ k → (a ≡ k) ⊎ (a + 1 ≤ k)
cases a k l = grind arith

-- a number of a range that passes is found
pub range_any : (p : ℕ → Bool) (a n k : ℕ) → p k ≡ true → a ≤ k → k < a + n → list_any p (range_with_len a n) ≡ true
range_any p a zero k h l u = absurd (omega (arith, l, u))
range_any p a (suc n) k h l u = elim (cases a k l) [
  | inl q ↦ or_first (p a) (list_any p (range_with_len (a + 1) n)) (ap p q ∙ h)
  | inr q ↦ or_second (p a) (list_any p (range_with_len (a + 1) n)) (range_any p (a + 1) n k h q (omega (arith, u)))
]

-- ---- how many pass

-- where some are counted there is one
pub count_range : (p : ℕ → Bool) (a n : ℕ) → nat_lt 0 (length (filter p (range_with_len a n))) ≡ true → Passes p a n
count_range p a zero h = cc
count_range p a (suc n) h = by (p a) refl h (count_range p (a + 1) n)
  where
    by : (b : Bool) → p a ≡ b → nat_lt 0 (length (cond b (a ∷ filter p (range_with_len (a + 1) n)) (filter p (range_with_len (a + 1) n)))) ≡ true →
        (nat_lt 0 (length (filter p (range_with_len (a + 1) n))) ≡ true → Passes p (a + 1) n) → Passes p a (suc n)
    by true q h again = here p a n q
    by false q h again = next p a n (again h)

-- a list stays as long with an item more
longer : (b : Bool) (a : ℕ) (xs : List ℕ) → 1 ≤ length xs → 1 ≤ length (cond b (a ∷ xs) xs)
longer true a xs h = omega arith
longer false a xs h = h

-- a list with a first item isn't empty
not_empty : (b : Bool) (a : ℕ) (xs : List ℕ) → b ≡ true → 1 ≤ length (cond b (a ∷ xs) xs)
not_empty true a xs h = omega arith
not_empty false a xs h = cc

-- a number of a range that passes is counted
pub range_count : (p : ℕ → Bool) (a n k : ℕ) → p k ≡ true → a ≤ k → k < a + n → 1 ≤ length (filter p (range_with_len a n))
range_count p a zero k h l u = absurd (omega (arith, l, u))
range_count p a (suc n) k h l u = elim (cases a k l) [
  | inl q ↦ not_empty (p a) a (filter p (range_with_len (a + 1) n)) (ap p q ∙ h)
  | inr q ↦ longer (p a) a (filter p (range_with_len (a + 1) n)) (range_count p (a + 1) n k h q (omega (arith, u)))
]

-- ---- all pass

-- each number of a range that passes whole passes
pub all_range : (p : ℕ → Bool) (a n k : ℕ) → list_all p (range_with_len a n) ≡ true → a ≤ k → k < a + n → p k ≡ true
all_range p a zero k h l u = absurd (omega (arith, l, u))
all_range p a (suc n) k h l u =
    let x = both (p a) (list_all p (range_with_len (a + 1) n)) h in
    elim (cases a k l) [ inl q ↦ ap p (sym q) ∙ x.0 | inr q ↦ all_range p (a + 1) n k x.1 q (omega (arith, u)) ]

-- each of a list that passes whole
pub each : (p : ℕ → Bool) (xs : List ℕ) (m : ℕ) → list_all p xs ≡ true → contains_number xs m ≡ true → p m ≡ true
unfolding contains_number
each p [] m h i = cc
each p (x ∷ xs) m h i = by (x == m) refl i (each p xs m (both (p x) (list_all p xs) h).1)
  where
    by : (b : Bool) → (x == m) ≡ b → (b || contains_number xs m) ≡ true → (contains_number xs m ≡ true → p m ≡ true) → p m ≡ true
    by true q i again = ap p (sym (eq_of x m q)) ∙ (both (p x) (list_all p xs) h).0
    by false q i again = again i
