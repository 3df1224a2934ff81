-- What a list has at a number, and at a place that was read.
use Rattle.std.proofs.Common.{◌≡◌, refl, sym, ap, ℕ, suc, zero, ◌-◌, ◌<◌, ◌≤◌, List, [], ◌∷◌, length, get_or, Option, Some, None, is_some, slice_get, Bor, arith}
use Rattle.std.specs.Prelude.{IfSome, nat_lt}
use Rattle.std.specs.Option.{option_copied}
use Rattle.std.proofs.lemmas.Bool.Decides.{nat_tests}
use Rattle.std.proofs.lemmas.Option.{slice_get_past, slice_get_read}
use Rattle.jx_base.specs.Basics.{numbered}
use Rattle.table_threads.specs.Changes.{changed_at}

-- what has a number stands at the place before it
pub numbered_at : {A : Type 0} (xs : List A) (d place : ℕ) → 1 ≤ d → place ≡ d - 1 → numbered xs d ≡ slice_get xs place
unfolding numbered
numbered_at xs zero place h e = absurd (omega (arith, h))
numbered_at xs (suc i) place h e = ap (slice_get xs) (omega (arith, e))

pub numbered_place : {A : Type 0} (xs : List A) (d : ℕ) → 1 ≤ d → numbered xs d ≡ slice_get xs (d - 1)
numbered_place xs d h = numbered_at xs d (d - 1) h refl

-- nothing has the number 0
pub numbered_zero : {A : Type 0} (xs : List A) (d : ℕ) → d < 1 → numbered xs d ≡ None
unfolding numbered
numbered_zero xs zero h = refl
numbered_zero xs (suc i) h = absurd (omega (arith, h))

-- what has a number has one from 1
pub numbered_from_one : {A : Type 0} (xs : List A) (d : ℕ) (x : A) → numbered xs d ≡ Some x → 1 ≤ d
unfolding numbered
numbered_from_one xs zero x h = cc
numbered_from_one xs (suc i) x h = omega arith

-- a copy of what was read is what stands there
pub copied_there : {A : Type 0} (xs : List A) (i : ℕ) (o : Option (Bor A)) → is_some o ≡ nat_lt i (length xs) → IfSome o (λ x. x.now ≡ get_or xs i x.now) → option_copied o ≡ slice_get xs i
copied_there xs i None e h = let l : length xs ≤ i = grind (arith, nat_tests) in sym (slice_get_past xs i l)
copied_there xs i (Some x) e h = let l : i < length xs = grind (arith, nat_tests) in sym (slice_get_read xs (length xs) i x.now refl l h)

-- what is changed the same way at a place where it is so
pub changed_same : {A : Type 0} (i : ℕ) (f g : A → A) (xs : List A) → ((a : A) → slice_get xs i ≡ Some a → f a ≡ g a) → changed_at i f xs ≡ changed_at i g xs
changed_same i f g [] h = refl
changed_same zero f g (x ∷ xs) h = ap (λ y. y ∷ xs) (h x refl)
changed_same (suc i) f g (x ∷ xs) h = ap (λ ys. x ∷ ys) (changed_same i f g xs h)
