-- Where what has a number stands.
use Rattle.std.proofs.Common.{◌≡◌, refl, ℕ, suc, zero, ◌-◌, ◌<◌, ◌≤◌, true, List, length, Option, Some, None, is_some, arith, slice_get}
use Rattle.std.proofs.lemmas.Option.{slice_get_within}
use Rattle.jx_base.specs.Basics.{numbered}

-- what has a number has one from 1, and stands at the place before it
pub numbered_stands : {A : Type 0} (xs : List A) (n : ℕ) → is_some (numbered xs n) ≡ true → (1 ≤ n) × (n - 1 < length xs)
unfolding numbered
numbered_stands xs zero h = cc
numbered_stands {A = A} xs (suc i) h = (omega arith, let l = within (slice_get xs i) refl h in omega (arith, l))
  where
    within : (o : Option A) → slice_get xs i ≡ o → is_some o ≡ true → i < length xs
    within None e h = cc
    within (Some x) e h = slice_get_within xs i x e
