-- Cells that are written, as a part of them shows it.
use Rattle.std.proofs.Common.{◌≡◌, refl, sym, ◌∙◌, ap, arith, ℕ, zero, suc, ◌+◌, ◌-◌, ◌≤◌, ◌<◌, Bool, true, false, cond, ◌&&◌, List, [], ◌∷◌, length, take, drop, replicate, get_or, ◌⊎◌, inl, inr}
use Rattle.std.specs.Prelude.{nat_le, nat_lt}
use Rattle.std.proofs.lemmas.Bool.Decides.{nat_tests}
use Rattle.std.proofs.lemmas.List.{drop-take, length-take, get_or-drop, get_or-take}
use Rattle.jx_base.proofs.BasicLaws.{ap2}
use Rattle.table_extents.specs.ExtentChanges.{written}

-- two tests that agree
same_test : (a b : Bool) → (a ≡ true → b ≡ true) → (b ≡ true → a ≡ true) → a ≡ b
same_test true b h k = sym (h refl)
same_test false true h k = k refl
same_test false false h k = refl

module _ (count : ℕ) (f : ℕ → ℕ) where
  -- the first cells left out
  pub drop_written : (from n k : ℕ) (cells : List ℕ) → drop n (written k from count f cells) ≡ written (k + n) from count f (drop n cells)
  drop_written from zero k cells =
      let z : k ≡ k + 0 = omega arith in ap (λ (j : ℕ). written j from count f cells) z
  drop_written from (suc n) k [] = refl
  drop_written from (suc n) k (b ∷ cells) =
      let z : k + 1 + n ≡ k + suc n = omega arith in
      drop_written from n (k + 1) cells ∙ ap (λ (j : ℕ). written j from count f (drop n cells)) z

  -- the first cells alone
  pub take_written : (from n k : ℕ) (cells : List ℕ) → take n (written k from count f cells) ≡ written k from count f (take n cells)
  take_written from zero k cells = refl
  take_written from (suc n) k [] = refl
  take_written from (suc n) k (b ∷ cells) =
      ap (λ (bs : List ℕ). cond (nat_le from k && nat_lt k (from + count)) (f (k - from)) b ∷ bs) (take_written from n (k + 1) cells)

  -- all stays where what is written lies behind or before
  pub written_apart : (from k : ℕ) (cells : List ℕ) → (k + length cells ≤ from) ⊎ (from + count ≤ k) → written k from count f cells ≡ cells
  written_apart from k [] h = refl
  written_apart from k (b ∷ cells) h =
      let t : (nat_le from k && nat_lt k (from + count)) ≡ false = outside h in
      ap (λ (test : Bool). cond test (f (k - from)) b ∷ written (k + 1) from count f cells) t
      ∙ ap (λ (bs : List ℕ). b ∷ bs) (written_apart from (k + 1) cells (next h))
    where
      outside : (k + suc (length cells) ≤ from) ⊎ (from + count ≤ k) → (nat_le from k && nat_lt k (from + count)) ≡ false
      outside (inl l) = grind (arith, nat_tests)
      outside (inr l) = grind (arith, nat_tests)

      next : (k + suc (length cells) ≤ from) ⊎ (from + count ≤ k) → (k + 1 + length cells ≤ from) ⊎ (from + count ≤ k + 1)
      next (inl l) = inl (omega (arith, l))
      next (inr l) = inr (omega (arith, l))

  -- places counted from elsewhere
  pub written_moved : (a from k : ℕ) (cells : List ℕ) → written (k + a) (from + a) count f cells ≡ written k from count f cells
  written_moved a from k [] = refl
  written_moved a from k (b ∷ cells) =
      ap2 (λ (x : ℕ) (bs : List ℕ). x ∷ bs)
      (ap2 (λ (test : Bool) (i : ℕ). cond test (f i) b) tests place)
      (ap (λ (j : ℕ). written j (from + a) count f cells) next ∙ written_moved a from (k + 1) cells)
    where
      tests : (nat_le (from + a) (k + a) && nat_lt (k + a) (from + a + count)) ≡ (nat_le from k && nat_lt k (from + count))
      tests = same_test _ _ (λ h. grind (arith, nat_tests)) (λ h. grind (arith, nat_tests))

      place : k + a - (from + a) ≡ k - from
      place = omega arith

      next : k + a + 1 ≡ k + 1 + a
      next = omega arith

  -- a part of the cells that has nothing of what is written
  pub unseen : (from a n : ℕ) (cells : List ℕ) → (a + n ≤ from) ⊎ (from + count ≤ a) → take n (drop a (written 0 from count f cells)) ≡ take n (drop a cells)
  unseen from a n cells h =
      ap (take n) (drop_written from a 0 cells)
      ∙ take_written from n (0 + a) (drop a cells)
      ∙ written_apart from (0 + a) (take n (drop a cells)) (by h)
    where
      by : (a + n ≤ from) ⊎ (from + count ≤ a) → (0 + a + length (take n (drop a cells)) ≤ from) ⊎ (from + count ≤ 0 + a)
      by (inl l) = inl (grind (arith, l, length-take n (drop a cells)))
      by (inr l) = inr (omega (arith, l))

  -- a part of the cells that has all that is written
  pub seen : (at a n : ℕ) (cells : List ℕ) → take n (drop a (written 0 (a + at) count f cells)) ≡ written 0 at count f (take n (drop a cells))
  seen at a n cells =
      let e : a + at ≡ at + a = omega arith in
      ap (take n) (drop_written (a + at) a 0 cells)
      ∙ take_written (a + at) n (0 + a) (drop a cells)
      ∙ ap (λ (j : ℕ). written (0 + a) j count f (take n (drop a cells))) e
      ∙ written_moved a at 0 (take n (drop a cells))

-- one byte written everywhere
pub written_all : (b from count k : ℕ) (cells : List ℕ) → from ≤ k → k + length cells ≤ from + count → written k from count (λ _. b) cells ≡ replicate (length cells) b
written_all b from count k [] l h = refl
written_all b from count k (x ∷ cells) l h =
    let t : (nat_le from k && nat_lt k (from + count)) ≡ true = grind (arith, nat_tests, l, h) in
    ap (λ (test : Bool). cond test b x ∷ written (k + 1) from count (λ _. b) cells) t
    ∙ ap (λ (bs : List ℕ). b ∷ bs) (written_all b from count (k + 1) cells (omega (arith, l)) (omega (arith, h)))

-- the same bytes written
pub written_same : (from count : ℕ) (f g : ℕ → ℕ) (k : ℕ) (cells : List ℕ) → ((i : ℕ) → i < count → f i ≡ g i) → written k from count f cells ≡ written k from count g cells
written_same from count f g k [] h = refl
written_same from count f g k (b ∷ cells) h =
    ap2 (λ (x : ℕ) (bs : List ℕ). x ∷ bs) (by (nat_le from k && nat_lt k (from + count)) refl) (written_same from count f g (k + 1) cells h)
  where
    by : (test : Bool) → (nat_le from k && nat_lt k (from + count)) ≡ test → cond test (f (k - from)) b ≡ cond test (g (k - from)) b
    by true e = h (k - from) (below e)
      where
        below : (nat_le from k && nat_lt k (from + count)) ≡ true → k - from < count
        below q = grind (arith, nat_tests)
    by false e = refl

-- a part of a part
pub part_of_part : (a n at width : ℕ) (cells : List ℕ) → at + width ≤ n → take width (drop at (take n (drop a cells))) ≡ take width (drop (a + at) cells)
part_of_part a n at width cells h =
    let e : n ≡ at + (n - at) = omega (arith, h) in
    ap (λ (m : ℕ). take width (drop at (take m (drop a cells)))) e
    ∙ ap (take width) (drop-take at (n - at) (drop a cells))
    ∙ take_less (n - at) width (drop at (drop a cells)) (omega (arith, h))
    ∙ ap (take width) (drops a at cells)
  where
    take_less : (n m : ℕ) (xs : List ℕ) → m ≤ n → take m (take n xs) ≡ take m xs
    take_less n zero xs l = refl
    take_less zero (suc m) xs l = absurd (omega (arith, l))
    take_less (suc n) (suc m) [] l = refl
    take_less (suc n) (suc m) (x ∷ xs) l = ap (λ (ys : List ℕ). x ∷ ys) (take_less n m xs (omega (arith, l)))

    drops : (a b : ℕ) (xs : List ℕ) → drop b (drop a xs) ≡ drop (a + b) xs
    drops zero b xs = let z : b ≡ 0 + b = omega arith in ap (λ (k : ℕ). drop k xs) z
    drops (suc a) b [] = nothing b (suc a + b)
      where
        nothing : (b c : ℕ) → drop {A = ℕ} b [] ≡ drop c []
        nothing zero zero = refl
        nothing zero (suc c) = refl
        nothing (suc b) zero = refl
        nothing (suc b) (suc c) = refl
    drops (suc a) b (x ∷ xs) =
        let z : suc (a + b) ≡ suc a + b = omega arith in
        drops a b xs ∙ ap (λ (k : ℕ). drop k (x ∷ xs)) z

-- a byte of a part
pub byte_of_part : (a n at : ℕ) (cells : List ℕ) (k : ℕ) → at + k < n → get_or (take n (drop a cells)) (at + k) 0 ≡ get_or cells (a + at + k) 0
byte_of_part a n at cells k h =
    let e : a + (at + k) ≡ a + at + k = omega arith in
    get_or-take n (drop a cells) (at + k) 0 h
    ∙ get_or-drop a cells (at + k) 0
    ∙ ap (λ (i : ℕ). get_or cells i 0) e
