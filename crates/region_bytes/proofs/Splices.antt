-- Bytes that are written between others.
use Rattle.std.proofs.Common.{◌≡◌, refl, sym, ◌∙◌, ap, arith, ℕ, zero, suc, ◌+◌, ◌-◌, ◌<◌, ◌≤◌, Bool, true, false, cond, ◌&&◌, List, [], ◌∷◌, ◌++◌, length, take, drop, get_or, append_assoc}
use Rattle.std.specs.Prelude.{nat_le, nat_lt}
use Rattle.std.proofs.lemmas.Bool.Decides.{nat_tests}
use Rattle.std.proofs.Math.Seq.{paste}
use Rattle.std.proofs.lemmas.List.{length-take-le, get_or-take}
use Rattle.table_extents.specs.ExtentChanges.{written}

module _ (from count : ℕ) (f : ℕ → ℕ) where
  -- one byte, and the others
  abbrev with_first : ℕ → ℕ → List ℕ → Bool → List ℕ
  with_first k b bytes test = cond test (f (k - from)) b ∷ written (k + 1) from count f bytes

  -- as many as before
  pub length_written : (k : ℕ) (bytes : List ℕ) → length (written k from count f bytes) ≡ length bytes
  length_written k [] = refl
  length_written k (b ∷ bytes) = ap suc (length_written (k + 1) bytes)

  -- behind the last place all stays
  behind : (k : ℕ) (bytes : List ℕ) → from + count ≤ k → written k from count f bytes ≡ bytes
  behind k [] l = refl
  behind k (b ∷ bytes) l =
      let t : (nat_le from k && nat_lt k (from + count)) ≡ false = grind (arith, nat_tests, l) in
      ap (with_first k b bytes) t ∙ ap (λ (bs : List ℕ). b ∷ bs) (behind (k + 1) bytes (omega (arith, l)))

  -- from the j-th place on the rest of what is written comes
  inside : (xs : List ℕ) (k j : ℕ) (bytes : List ℕ) → k ≡ from + j → j + length xs ≡ count → ((i : ℕ) → i < length xs → get_or xs i 0 ≡ f (j + i))
      → length xs ≤ length bytes → written k from count f bytes ≡ xs ++ drop (length xs) bytes
  inside [] k j bytes e n h l = behind k bytes (omega (arith, e, n))
  inside (x ∷ xs) k j [] e n h l = absurd (omega (arith, l))
  inside (x ∷ xs) k j (b ∷ bytes) e n h l =
      let t : (nat_le from k && nat_lt k (from + count)) ≡ true = grind (arith, nat_tests, e, n) in
      let first : f (k - from) ≡ x = ap f (place k j e) ∙ sym (h 0 (omega arith)) in
      ap (with_first k b bytes) t ∙ ap (λ (y : ℕ). y ∷ written (k + 1) from count f bytes) first
      ∙ ap (λ (bs : List ℕ). x ∷ bs) (inside xs (k + 1) (j + 1) bytes (omega (arith, e)) (omega (arith, n)) (λ i m. h (suc i) (omega (arith, m)) ∙ ap f (next j i)) (omega (arith, l)))
    where
      place : (k j : ℕ) → k ≡ from + j → k - from ≡ j + 0
      place k j e = omega (arith, e)

      next : (j i : ℕ) → j + suc i ≡ j + 1 + i
      next j i = omega arith

  -- n bytes stay before the first place
  pub spliced : (n k : ℕ) (bytes xs : List ℕ) → from ≡ k + n → length xs ≡ count → ((i : ℕ) → i < count → get_or xs i 0 ≡ f i) → n + count ≤ length bytes
      → written k from count f bytes ≡ take n bytes ++ (xs ++ drop (n + count) bytes)
  spliced zero k bytes xs e n h l =
      let c : zero + count ≡ length xs = omega (arith, n) in
      inside xs k 0 bytes (omega (arith, e)) (omega (arith, n)) (λ i m. h i (omega (arith, m, n)) ∙ ap f (same i)) (omega (arith, l, n))
      ∙ ap (λ (m : ℕ). xs ++ drop m bytes) (sym c)
    where
      same : (i : ℕ) → i ≡ 0 + i
      same i = omega arith
  spliced (suc m) k [] xs e n h l = absurd (omega (arith, l))
  spliced (suc m) k (b ∷ bytes) xs e n h l =
      let t : (nat_le from k && nat_lt k (from + count)) ≡ false = grind (arith, nat_tests, e) in
      let c : suc m + count ≡ suc (m + count) = omega arith in
      ap (with_first k b bytes) t
      ∙ ap (λ (bs : List ℕ). b ∷ bs) (spliced m (k + 1) bytes xs (omega (arith, e)) n h (omega (arith, l)))
      ∙ ap (λ (d : ℕ). b ∷ (take m bytes ++ (xs ++ drop d (b ∷ bytes)))) (sym c)

-- what is put there is written there
pub pasted : (d : List ℕ) (at : ℕ) (s : List ℕ) (count : ℕ) (f : ℕ → ℕ) → at + count ≤ length d → count ≤ length s → ((i : ℕ) → i < count → get_or s i 0 ≡ f i)
    → paste d at s count ≡ written 0 at count f d
pasted d at s count f l m h =
    append_assoc (take at d) (take count s) (drop (at + count) d)
    ∙ sym (spliced at count f at 0 d (take count s) (omega arith) (length-take-le count s m) (λ i n. get_or-take count s i 0 n ∙ h i n) l)
