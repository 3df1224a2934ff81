-- Numbers that lie within a range.
use Rattle.std.proofs.Common.{◌≡◌, Option, Some, None, arith}
use Rattle.std.specs.Prelude.{ℤ, ◌≤ℤ◌, int_le, if◌then◌else◌, ◌&&◌}
use Rattle.std.proofs.lemmas.Int.{ints}
use Rattle.asm_words.specs.Numbers.{within}

some_if : (low high z y : ℤ) → Some y ≡ (if int_le low z && int_le z high then Some z else None) → (low ≤ℤ y) × (y ≤ℤ high)
some_if low high z y h = grind (arith, ints)

-- a number within a range lies in it
pub bounds : (low high : ℤ) (o : Option ℤ) (z : ℤ) → Some z ≡ within low high o → (low ≤ℤ z) × (z ≤ℤ high)
unfolding within
bounds low high None z h = cc
bounds low high (Some x) z h = some_if low high x z h

-- what lies within a range, under other names of its ends
pub is_within : (l h : ℤ) (o : Option ℤ) (n : ℤ) (low high z : ℤ) → Some n ≡ within l h o → l ≡ low → h ≡ high → z ≡ n → within low high o ≡ Some z
is_within l h o n low high z e p q r = cc
