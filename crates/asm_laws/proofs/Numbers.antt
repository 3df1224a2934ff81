-- The bytes of a number spell it.
use Rattle.std.proofs.Common.{◌≡◌, ℕ, zero, suc, ◌+◌, ◌*◌, ◌/◌, ◌%◌, ◌<◌, ◌^◌, List, ◌++◌, length, refl, sym, ap, arith}
use Rattle.std.proofs.Math.Nat.{div-div-eq-div-mul}
use Rattle.std.specs.Int.{Width, w8, w16, w32, w64, w128, byte_len, to_be_bytes, from_be_bytes, bytes_high_first}
use Rattle.std.proofs.lemmas.Nat.{from_be_bytes-to_be_bytes_2, from_be_bytes-to_be_bytes_4, from_be_bytes-to_be_bytes_8}
use mir.Val.{bits}
use Rattle.class_grammar.specs.Parts.{number}

length_high_first : (k n : ℕ) → length (bytes_high_first k n) ≡ k
length_high_first zero n = refl
length_high_first (suc k) n = ap suc (length_high_first k n)

pub length-to_be_bytes : (w : Width) (n : ℕ) → length (to_be_bytes w n) ≡ byte_len w
length-to_be_bytes w n = length_high_first (byte_len w) n

byte_and_rest : (n p : ℕ) → n / p ≡ n / p % 256 + n / (p * 256) * 256
byte_and_rest n p = omega (arith, div-div-eq-div-mul n p 256)

-- eight bytes, and what stands above them
joined_8 : (a b c d e f g h n p q r s t u v x : ℕ) → n ≡ a + p * 256 → p ≡ b + q * 256 → q ≡ c + r * 256 → r ≡ d + s * 256
    → s ≡ e + t * 256 → t ≡ f + u * 256 → u ≡ g + v * 256 → v ≡ h + x * 256
    → a + b * 256 + c * 65536 + d * 16777216 + e * 4294967296 + f * 1099511627776 + g * 281474976710656 + h * 72057594037927936 + x * 18446744073709551616 ≡ n
joined_8 a b c d e f g h n p q r s t u v x at_0 at_1 at_2 at_3 at_4 at_5 at_6 at_7 = omega arith

joined_high : (a b c d e f g h n p q r s t u v : ℕ) → n ≡ a + p * 256 → p ≡ b + q * 256 → q ≡ c + r * 256 → r ≡ d + s * 256
    → s ≡ e + t * 256 → t ≡ f + u * 256 → u ≡ g + v * 256 → v ≡ h
    → a + b * 256 + c * 65536 + d * 16777216 + e * 4294967296 + f * 1099511627776 + g * 281474976710656 + h * 72057594037927936 ≡ n
joined_high a b c d e f g h n p q r s t u v at_0 at_1 at_2 at_3 at_4 at_5 at_6 at_7 = omega arith

joined_16 : (a b c d e f g h i j k l m n o p low high : ℕ)
    → a + b * 256 + c * 65536 + d * 16777216 + e * 4294967296 + f * 1099511627776 + g * 281474976710656 + h * 72057594037927936 + high * 18446744073709551616 ≡ low
    → i + j * 256 + k * 65536 + l * 16777216 + m * 4294967296 + n * 1099511627776 + o * 281474976710656 + p * 72057594037927936 ≡ high
    → p * (256 ^ 15) + o * (256 ^ 14) + n * (256 ^ 13) + m * (256 ^ 12) + l * (256 ^ 11) + k * (256 ^ 10) + j * (256 ^ 9) + i * (256 ^ 8)
    + h * 72057594037927936 + g * 281474976710656 + f * 1099511627776 + e * 4294967296 + d * 16777216 + c * 65536 + b * 256 + a ≡ low
joined_16 a b c d e f g h i j k l m n o p low high at_low at_high = omega arith

from_be_bytes-to_be_bytes_16 : (n : ℕ) → n < 2 ^ 128 → from_be_bytes w128 (to_be_bytes w128 n) ≡ n
from_be_bytes-to_be_bytes_16 n fits =
    let lowest : n ≡ n % 256 + n / 256 * 256 = omega arith in
    let highest : n / 1329227995784915872903807060280344576 ≡ n / 1329227995784915872903807060280344576 % 256 = omega arith in
    joined_16 _ _ _ _ _ _ _ _ _ _ _ _ _ _ _ _ n (n / 18446744073709551616)
    (joined_8 _ _ _ _ _ _ _ _ n _ _ _ _ _ _ _ (n / 18446744073709551616) lowest (byte_and_rest n 256) (byte_and_rest n 65536) (byte_and_rest n 16777216) (byte_and_rest n 4294967296) (byte_and_rest n 1099511627776) (byte_and_rest n 281474976710656) (byte_and_rest n 72057594037927936))
    (joined_high _ _ _ _ _ _ _ _ (n / 18446744073709551616) _ _ _ _ _ _ _ (byte_and_rest n 18446744073709551616) (byte_and_rest n 4722366482869645213696) (byte_and_rest n 1208925819614629174706176) (byte_and_rest n 309485009821345068724781056) (byte_and_rest n 79228162514264337593543950336) (byte_and_rest n 20282409603651670423947251286016) (byte_and_rest n 5192296858534827628530496329220096) highest)

pub from_be_bytes-to_be_bytes : (w : Width) (n : ℕ) → n < 2 ^ bits w → from_be_bytes w (to_be_bytes w n) ≡ n
from_be_bytes-to_be_bytes w8 n fits = omega arith
from_be_bytes-to_be_bytes w16 n fits = from_be_bytes-to_be_bytes_2 n fits
from_be_bytes-to_be_bytes w32 n fits = from_be_bytes-to_be_bytes_4 n fits
from_be_bytes-to_be_bytes w64 n fits = from_be_bytes-to_be_bytes_8 n fits
from_be_bytes-to_be_bytes w128 n fits = from_be_bytes-to_be_bytes_16 n fits

pub number_spelled : {F : Type 0} (f : F) (w : Width) (n : ℕ) (rest : List ℕ) → n < 2 ^ bits w → (number f w).spells (to_be_bytes w n ++ rest) n rest
unfolding number
number_spelled f w n rest fits = (to_be_bytes w n, length-to_be_bytes w n, refl, sym (from_be_bytes-to_be_bytes w n fits))
