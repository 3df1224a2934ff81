-- The low bytes of a number, and numbers of bytes.
use Rattle.std.proofs.Common.{◌≡◌, ◌∙◌, ap, arith, ℕ, zero, suc, ◌+◌, ◌*◌, ◌/◌, ◌%◌, ◌<◌, ◌≤◌, ℤ, pos, List, [], ◌∷◌, length, get_or, inl, inr}
use Rattle.std.specs.Int.{w32, cast_signed, cast_unsigned}
use Rattle.jx_base.specs.Basics.{low_byte}
use Rattle.region_bytes.specs.Extents.{IsWidth, number_of, number_read}

-- the four bytes of a number, the lowest first
abbrev pub four_bytes : ℕ → List ℕ
four_bytes n = n % 256 ∷ n / 256 % 256 ∷ n / 65536 % 256 ∷ n / 16777216 % 256 ∷ []

-- each is a low byte of the value
pub low_bytes : (v : ℤ) (n i : ℕ) → n ≡ cast_unsigned w32 v → i < 4 → get_or (four_bytes n) i 0 ≡ low_byte v i
unfolding low_byte
low_bytes v n zero e l = let whole : n ≡ n / 1 = omega arith in ap (λ (k : ℕ). k % 256) (whole ∙ ap (λ (k : ℕ). k / 1) e)
low_bytes v n (suc zero) e l = ap (λ (k : ℕ). k / 256 % 256) e
low_bytes v n (suc (suc zero)) e l = ap (λ (k : ℕ). k / 65536 % 256) e
low_bytes v n (suc (suc (suc zero))) e l = ap (λ (k : ℕ). k / 16777216 % 256) e
low_bytes v n (suc (suc (suc (suc i)))) e l = absurd (omega (arith, l))

-- a width is four at most
pub width_small : (n : ℕ) → IsWidth n → n ≤ 4
width_small n (inl e) = omega (arith, e)
width_small n (inr (inl e)) = omega (arith, e)
width_small n (inr (inr e)) = omega (arith, e)

-- ---- numbers of one, two and four bytes

pub one_read : (bytes : List ℕ) → length bytes ≡ 1 → number_read bytes ≡ pos (get_or bytes 0 0)
unfolding number_read number_of
one_read (a ∷ []) e = let n : a + 256 * 0 ≡ a = omega arith in ap (λ (k : ℕ). pos k) n
one_read [] e = absurd (omega (arith, e))
one_read (a ∷ b ∷ bytes) e = absurd (omega (arith, e))

pub two_read : (bytes : List ℕ) → length bytes ≡ 2 → number_read bytes ≡ pos (get_or bytes 0 0 + get_or bytes 1 0 * 256)
unfolding number_read number_of
two_read (a ∷ b ∷ []) e = let n : a + 256 * (b + 256 * 0) ≡ a + b * 256 = omega arith in ap (λ (k : ℕ). pos k) n
two_read [] e = absurd (omega (arith, e))
two_read (a ∷ []) e = absurd (omega (arith, e))
two_read (a ∷ b ∷ c ∷ bytes) e = absurd (omega (arith, e))

pub four_read : (bytes : List ℕ) → length bytes ≡ 4
    → number_read bytes ≡ cast_signed w32 (get_or bytes 0 0 + get_or bytes 1 0 * 256 + get_or bytes 2 0 * 65536 + get_or bytes 3 0 * 16777216)
unfolding number_read number_of
four_read (a ∷ b ∷ c ∷ d ∷ []) e =
    let n : a + 256 * (b + 256 * (c + 256 * (d + 256 * 0))) ≡ a + b * 256 + c * 65536 + d * 16777216 = omega arith in ap (cast_signed w32) n
four_read [] e = absurd (omega (arith, e))
four_read (a ∷ []) e = absurd (omega (arith, e))
four_read (a ∷ b ∷ []) e = absurd (omega (arith, e))
four_read (a ∷ b ∷ c ∷ []) e = absurd (omega (arith, e))
four_read (a ∷ b ∷ c ∷ d ∷ x ∷ bytes) e = absurd (omega (arith, e))
