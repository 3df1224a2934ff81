-- Arithmetic of the machine: numbers of 32 and 64 bits in two's complement.
use Rattle.std.specs.Prelude.{ℕ, zero, ◌%◌, ◌/◌, ◌^◌, ℤ, pos, negsuc, ◌+ℤ◌, ◌-ℤ◌, ◌*ℤ◌, neg_ℤ, int_rem, int_lt, int_le, unsigned_abs, Bool, not, Option, Some, None, if◌then◌else◌}
use Rattle.std.specs.Ordering.{int_eq}
use Rattle.std.specs.Int.{Width, int_rem_euclid, w32, w64, int_wrap, cast_unsigned, cast_signed, int_wrapping_div, int_shl, int_shr, int_bit_and, int_bit_or, int_bit_xor}
use Rattle.jx_base.specs.declared.row.Operator.{Operator}
use Rattle.jx_base.specs.declared.row.Operator.TheVariants as operator
use Rattle.jx_base.specs.declared.row.Division.{Division}
use Rattle.jx_base.specs.declared.row.Division.TheVariants as division
use Rattle.jx_base.specs.declared.row.Shift.{Shift}
use Rattle.jx_base.specs.declared.row.Shift.TheVariants as shift
use Rattle.jx_base.specs.declared.row.Comparison.{Comparison}
use Rattle.jx_base.specs.declared.row.Comparison.TheVariants as comparison

-- an operator's result in that width, which wraps
unfoldable pub operation_result : Width → Operator → ℤ → ℤ → ℤ
operation_result w operator.Add a b = int_wrap w (a +ℤ b)
operation_result w operator.Subtract a b = int_wrap w (a -ℤ b)
operation_result w operator.Multiply a b = int_wrap w (a *ℤ b)
operation_result w operator.And a b = int_bit_and w a b
operation_result w operator.Or a b = int_bit_or w a b
operation_result w operator.Xor a b = int_bit_xor w a b

-- a number with the other sign, which wraps
unfoldable pub negation : Width → ℤ → ℤ
negation w a = int_wrap w (neg_ℤ a)

-- cut toward 0; the least number by -1 wraps to itself, and a remainder has the sign of the number divided
unfoldable pub division_result : Width → Division → ℤ → ℤ → ℤ
division_result w division.Quotient a b = int_wrapping_div w a b
division_result w division.Remainder a b = int_rem a b

-- the same, and none by 0
unfoldable pub quotient_or_none : Width → Division → ℤ → ℤ → Option ℤ
quotient_or_none w d a (pos zero) = None
quotient_or_none w d a b = Some (division_result w d a b)

-- by k bits: to the left it wraps, to the right it is rounded down
unfoldable pub shift_result : Width → Shift → ℤ → ℕ → ℤ
shift_result w shift.Left a k = int_shl w a k
shift_result w shift.Right a k = int_shr a k
shift_result w shift.UnsignedRight a k = cast_signed w (cast_unsigned w a / 2 ^ k)

-- an int by the low five bits of a count
unfoldable pub int_shift_result : Shift → ℤ → ℤ → ℤ
int_shift_result d a count = shift_result w32 d a (cast_unsigned w32 count % 32)

-- a long by the low six bits of a count, which is an int
unfoldable pub long_shift_result : Shift → ℤ → ℤ → ℤ
long_shift_result d a count = shift_result w64 d a (cast_unsigned w32 count % 64)

-- the low k bits of a number, which fill the width, with their sign
unfoldable pub low_bits : Width → ℕ → ℤ → ℤ
low_bits w k n = cast_signed w (unsigned_abs (int_rem_euclid n (pos (2 ^ k))))

-- the low 16 bits of a number, without a sign
unfoldable pub low_char : ℤ → ℤ
low_char n = int_rem_euclid n (pos 65536)

-- whether a comparison holds
unfoldable pub is_met : Comparison → ℤ → ℤ → Bool
is_met comparison.Equal a b = int_eq a b
is_met comparison.NotEqual a b = not (int_eq a b)
is_met comparison.Less a b = int_lt a b
is_met comparison.AtLeast a b = int_le b a
is_met comparison.Greater a b = int_lt b a
is_met comparison.AtMost a b = int_le a b

-- -1 where the first is less, 1 where the second is, else 0
unfoldable pub order_of : ℤ → ℤ → ℤ
order_of a b = if int_lt a b then negsuc 0 else if int_lt b a then pos 1 else pos 0

-- what a computed case opens
unfoldable pub opened_arithmetic : Unit {0}
unfolding operation_result negation division_result quotient_or_none shift_result int_shift_result long_shift_result low_bits low_char is_met order_of
opened_arithmetic = tt
