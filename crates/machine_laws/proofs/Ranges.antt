-- The arithmetic of the machine stays in its width.
use Rattle.std.proofs.Common.{◌≡◌, refl, sym, subst, ℕ, zero, suc, ◌<◌, ◌≤◌, ◌^◌, ◌/◌, ◌%◌, ◌*◌, ◌-◌, ℤ, pos, negsuc, Bool, true, false, Some, arith}
use Rattle.std.specs.Prelude.{FitsSigned, unsigned_abs, int_div, int_lt, if◌then◌else◌, neg_ℤ, ◌+ℤ◌, ◌-ℤ◌, ◌*ℤ◌}
use Rattle.std.specs.Int.{Width, w8, w16, w32, w64, cast_unsigned, cast_signed, int_rem_euclid}
use Rattle.std.proofs.lemmas.Int.{SFits-int_wrap}
use mir.ValLaws.{of_z_fits, to_z-Fits}
use mir.Val.{bits, hbits}
use lib.Bits.{and_lt, or_lt, xor_lt}
use lib.Signed.{mag_shr, mag_rem}
use Rattle.jx_base.specs.declared.row.Operator.{Operator}
use Rattle.jx_base.specs.declared.row.Operator.TheVariants as operator
use Rattle.jx_base.specs.declared.row.Division.{Division}
use Rattle.jx_base.specs.declared.row.Division.TheVariants as division
use Rattle.jx_base.specs.declared.row.Shift.{Shift}
use Rattle.jx_base.specs.declared.row.Shift.TheVariants as shift
use Rattle.program_model.specs.Arithmetic.{operation_result, negation, division_result, quotient_or_none, shift_result, int_shift_result, long_shift_result, low_bits, low_char, order_of}

-- a number of the width's bits, with its sign
pub cast_fits : (w : Width) (n : ℕ) → n < 2 ^ bits w → FitsSigned w (cast_signed w n)
cast_fits w n h = to_z-Fits w n (record { fits = h })

-- the bits of a number
pub bits_of : (w : Width) (z : ℤ) → FitsSigned w z → cast_unsigned w z < 2 ^ bits w
bits_of w z h = (of_z_fits w z h).fits

-- an operator's result
pub operation_fits : (w : Width) (o : Operator) (a b : ℤ) → FitsSigned w a → FitsSigned w b → FitsSigned w (operation_result w o a b)
unfolding operation_result
operation_fits w operator.Add a b h k = SFits-int_wrap w (a +ℤ b)
operation_fits w operator.Subtract a b h k = SFits-int_wrap w (a -ℤ b)
operation_fits w operator.Multiply a b h k = SFits-int_wrap w (a *ℤ b)
operation_fits w operator.And a b h k = cast_fits w _ (and_lt (bits w) (cast_unsigned w a) (cast_unsigned w b) (bits_of w a h) (bits_of w b k))
operation_fits w operator.Or a b h k = cast_fits w _ (or_lt (bits w) (cast_unsigned w a) (cast_unsigned w b) (bits_of w a h) (bits_of w b k))
operation_fits w operator.Xor a b h k = cast_fits w _ (xor_lt (bits w) (cast_unsigned w a) (cast_unsigned w b) (bits_of w a h) (bits_of w b k))

pub negation_fits : (w : Width) (a : ℤ) → FitsSigned w (negation w a)
unfolding negation
negation_fits w a = SFits-int_wrap w (neg_ℤ a)

-- -1, 0 or 1
pub order_fits : (a b : ℤ) → FitsSigned w32 (order_of a b)
unfolding order_of
order_fits a b = by (int_lt a b) (int_lt b a)
  where
    by : (p q : Bool) → FitsSigned w32 (if p then negsuc 0 else if q then pos 1 else pos 0)
    by true q = record { sfits = omega arith }
    by false true = record { sfits = omega arith }
    by false false = record { sfits = omega arith }

-- an int is a long
pub int_is_long : (n : ℤ) → FitsSigned w32 n → FitsSigned w64 n
int_is_long (pos n) h = record { sfits = omega (arith, h.sfits) }
int_is_long (negsuc n) h = record { sfits = omega (arith, h.sfits) }

mod_below : (n k : ℕ) → 0 < k → n % k < k
mod_below n k h = omega (arith, h)

width_positive : (w : Width) → 0 < 2 ^ bits w
width_positive w8 = omega arith
width_positive w16 = omega arith
width_positive w32 = omega arith
width_positive w64 = omega arith
width_positive _ = omega arith

quotient_at_most : (n k : ℕ) → n / k ≤ n
quotient_at_most n zero = grind arith
quotient_at_most n (suc k) = grind arith

-- a shift's result
pub shift_fits : (w : Width) (d : Shift) (a : ℤ) (k : ℕ) → FitsSigned w a → FitsSigned w (shift_result w d a k)
unfolding shift_result
shift_fits w shift.Left a k h = cast_fits w ((cast_unsigned w a * 2 ^ k) % 2 ^ bits w) (mod_below (cast_unsigned w a * 2 ^ k) (2 ^ bits w) (width_positive w))
shift_fits w shift.Right a k h = record { sfits = omega (arith, h.sfits, mag_shr a (2 ^ k)) }
shift_fits w shift.UnsignedRight a k h = cast_fits w (cast_unsigned w a / 2 ^ k) (omega (arith, bits_of w a h, quotient_at_most (cast_unsigned w a) (2 ^ k)))

pub int_shift_fits : (d : Shift) (a b : ℤ) → FitsSigned w32 a → FitsSigned w32 (int_shift_result d a b)
unfolding int_shift_result
int_shift_fits d a b h = shift_fits w32 d a (cast_unsigned w32 b % 32) h

pub long_shift_fits : (d : Shift) (a b : ℤ) → FitsSigned w64 a → FitsSigned w64 (long_shift_result d a b)
unfolding long_shift_result
long_shift_fits d a b h = shift_fits w64 d a (cast_unsigned w32 b % 64) h

-- the remainder by a power of 2
rem_low : (n : ℤ) (m : ℕ) → 0 < m → unsigned_abs (int_rem_euclid n (pos m)) < m
rem_low (pos a) m h = mod_below a m h
rem_low (negsuc a) m h = omega (arith, h)

pub low_bits_32 : (n : ℤ) → FitsSigned w32 (low_bits w32 32 n)
unfolding low_bits
low_bits_32 n = cast_fits w32 (unsigned_abs (int_rem_euclid n (pos (2 ^ 32)))) (rem_low n (2 ^ 32) (omega arith))

pub low_bits_8 : (n : ℤ) → FitsSigned w32 (low_bits w8 8 n)
unfolding low_bits
low_bits_8 n = record { sfits = omega (arith, (cast_fits w8 (unsigned_abs (int_rem_euclid n (pos (2 ^ 8)))) (rem_low n (2 ^ 8) (omega arith))).sfits) }

pub low_bits_16 : (n : ℤ) → FitsSigned w32 (low_bits w16 16 n)
unfolding low_bits
low_bits_16 n = record { sfits = omega (arith, (cast_fits w16 (unsigned_abs (int_rem_euclid n (pos (2 ^ 16)))) (rem_low n (2 ^ 16) (omega arith))).sfits) }

-- sixteen bits without a sign
pub low_char_is : (n : ℤ) → (k : ℕ) × (low_char n ≡ pos k) × (k < 65536)
unfolding low_char
low_char_is (pos a) = (a % 65536, refl, mod_below a 65536 (omega arith))
low_char_is (negsuc a) = (65536 - 1 - a % 65536, refl, omega arith)

pub low_char_fits : (n : ℤ) → FitsSigned w32 (low_char n)
low_char_fits n = let x = low_char_is n in subst (λ (z : ℤ). FitsSigned w32 z) (sym x.1) (record { sfits = omega (arith, x.2) })

half_below : (w : Width) → 2 ^ hbits w < 2 ^ bits w
half_below w8 = omega arith
half_below w16 = omega arith
half_below w32 = omega arith
half_below w64 = omega arith
half_below _ = omega arith

-- the bits of a number that is no further from 0 than the least one
pos_bits : (w : Width) (n m : ℕ) → n ≤ m → m ≤ 2 ^ hbits w → cast_unsigned w (pos n) < 2 ^ bits w
pos_bits w n m h k = omega (arith, h, k, half_below w)

neg_bits : (w : Width) (n : ℕ) → cast_unsigned w (neg_ℤ (pos n)) < 2 ^ bits w
neg_bits w zero = width_positive w
neg_bits w (suc n) = omega (arith, width_positive w)

quotient_bits : (w : Width) (a b : ℤ) → FitsSigned w a → cast_unsigned w (int_div a b) < 2 ^ bits w
quotient_bits w (pos a) (pos b) h = pos_bits w (a / b) a (quotient_at_most a b) (omega (arith, h.sfits))
quotient_bits w (pos a) (negsuc b) h = neg_bits w (a / suc b)
quotient_bits w (negsuc a) (pos b) h = neg_bits w (suc a / b)
quotient_bits w (negsuc a) (negsuc b) h = pos_bits w (suc a / suc b) (suc a) (quotient_at_most (suc a) (suc b)) (omega (arith, h.sfits))

-- a quotient or a remainder
pub division_fits : (w : Width) (d : Division) (a b : ℤ) → FitsSigned w a → FitsSigned w (division_result w d a b)
unfolding division_result
division_fits w division.Quotient a b h = cast_fits w (cast_unsigned w (int_div a b)) (quotient_bits w a b h)
division_fits w division.Remainder a b h = record { sfits = omega (arith, h.sfits, mag_rem a b) }

pub quotient_fits : (w : Width) (d : Division) (a b q : ℤ) → FitsSigned w a → quotient_or_none w d a b ≡ Some q → FitsSigned w q
unfolding quotient_or_none
quotient_fits w d a (pos zero) q h e = cc
quotient_fits w d a (pos (suc n)) q h e = let r : division_result w d a (pos (suc n)) ≡ q = cc in subst (λ (z : ℤ). FitsSigned w z) r (division_fits w d a (pos (suc n)) h)
quotient_fits w d a (negsuc n) q h e = let r : division_result w d a (negsuc n) ≡ q = cc in subst (λ (z : ℤ). FitsSigned w z) r (division_fits w d a (negsuc n) h)
