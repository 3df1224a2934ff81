-- Tests of numbers and of lengths.
use Rattle.std.proofs.Common.{◌≡◌, ◌≢◌, ℕ, List, ◌∷◌, length, true, false, arith}
use Rattle.std.specs.Prelude.{◌==◌}
use Rattle.std.proofs.lemmas.Bool.Decides.{nat_tests}

pub not_equal : (m n : ℕ) → m ≢ n → (m == n) ≡ false
not_equal m n ne = grind (arith, nat_tests)

pub unequal : (m n : ℕ) → (m == n) ≡ false → m ≢ n
unequal m n e h = grind (arith, nat_tests)

pub not_nil : (b : ℕ) (bytes : List ℕ) → (length (b ∷ bytes) == 0) ≡ true → ⊥
not_nil b bytes h = grind (arith, nat_tests)
