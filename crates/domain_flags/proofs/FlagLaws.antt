-- Lists of flags.
use Rattle.std.proofs.Common.{◌≡◌, refl, sym, ◌∙◌, ap, ℕ, zero, suc, ◌+◌, ◌-◌, ◌<◌, ◌≤◌, ◌==◌, Bool, true, false, List, [], ◌∷◌, map, set, replicate, length, slice_get, Option, Some, None, arith}
use Rattle.std.specs.List.{range_with_len}
use Rattle.std.proofs.lemmas.Option.{slice_get_within}
use Rattle.jx_base.specs.Basics.{numbered, passes}
use Rattle.table_reads.specs.TableReads.{flag_at}
use Rattle.jx_base.proofs.BasicLaws.{ap2}
use Rattle.table_threads.specs.Changes.{changed_at, is_set}
use Rattle.table_threads.proofs.Records.{is_that, not_that}

-- ---- flags

-- to set an item is to change it, whatever it was
pub set_is : {A : Type 0} (xs : List A) (i : ℕ) (v : A) → set xs i v ≡ changed_at i (λ _. v) xs
set_is [] i v = refl
set_is (x ∷ xs) zero v = refl
set_is {A = A} (x ∷ xs) (suc i) v = ap (λ (ys : List A). x ∷ ys) (set_is xs i v)

-- no number from there on is d
none_from : (d a n : ℕ) → d < a → map (λ k. d == k) (range_with_len a n) ≡ replicate n false
none_from d a zero l = refl
none_from d a (suc n) l = rw (not_that d a (λ z. omega (arith, l, z)), none_from d (a + 1) n (omega (arith, l))) refl

-- the flags of one number are one set among those that aren't
pub one_from : (a n i : ℕ) → set (replicate n false) i true ≡ map (λ k. a + i == k) (range_with_len a n)
one_from a zero i = refl
one_from a (suc n) zero =
    ap2 (λ (b : Bool) (bs : List Bool). b ∷ bs) (sym (is_that (a + 0) a (omega arith))) (sym (none_from (a + 0) (a + 1) n (omega arith)))
one_from a (suc n) (suc i) =
    let e : (a + 1) + i ≡ a + suc i = omega arith in
    ap2 (λ (b : Bool) (bs : List Bool). b ∷ bs) (sym (not_that (a + suc i) a (λ z. omega (arith, z))))
    (one_from (a + 1) n i ∙ ap (λ (x : ℕ). map (λ k. x == k) (range_with_len (a + 1) n)) e)

-- ---- the flag of a number

pub flag_there : (flags : List Bool) (d i : ℕ) → 1 ≤ d → i ≡ d - 1 → passes is_set (slice_get flags i) ≡ flag_at flags d
unfolding numbered
flag_there flags zero i l q = absurd (omega (arith, l))
flag_there flags (suc d) i l q = ap (λ (k : ℕ). passes is_set (slice_get flags k)) (omega (arith, q))

pub no_flag : (flags : List Bool) (d : ℕ) → (1 ≤ d → ⊥) → false ≡ flag_at flags d
unfolding numbered passes
no_flag flags zero n = refl
no_flag flags (suc d) n = absurd (n (omega arith))

-- a flag that is set stands in its list
pub set_within : (flags : List Bool) (i : ℕ) → passes is_set (slice_get flags i) ≡ true → i < length flags
unfolding passes
set_within flags i h = by (slice_get flags i) refl h
  where
    by : (o : Option Bool) → slice_get flags i ≡ o → passes is_set o ≡ true → i < length flags
    by None q h = cc
    by (Some b) q h = slice_get_within flags i b q
