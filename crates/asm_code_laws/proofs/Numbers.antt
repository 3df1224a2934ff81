-- Numbers are spelled by the bytes that are written for them.
use Rattle.std.proofs.Common.{◌≡◌, ◌∙◌, refl, sym, ap, ℕ, ◌%◌, ◌^◌, ◌<◌, List, [], ◌∷◌, ◌++◌, true, ℤ, arith}
use Rattle.std.specs.Prelude.{pos, ◌+ℤ◌, int_le, FitsSigned}
use Rattle.std.specs.Int.{w8, w16, w32, to_be_bytes, from_be_bytes, cast_signed, cast_unsigned, int_wrap}
use Rattle.std.proofs.lemmas.Bool.Decides.{nat_tests}
use Rattle.std.proofs.lemmas.Int.{to_z-of_z, ints, int_wrap_fits}
use Rattle.class_grammar.specs.Parts.{number}
use Rattle.asm_bodies.specs.Bodies.{is_near}
use Rattle.asm_bytes.specs.Files.{distance}
use Rattle.asm_laws.proofs.Numbers.{length-to_be_bytes, number_spelled}
use Rattle.asm_laws.proofs.Spelled.{bits_32}

-- a number that is too wide is spelled without what stands above
low_16 : (n : ℕ) → from_be_bytes w16 (to_be_bytes w16 n) ≡ n % 65536
low_16 n = omega arith

low_32 : (n : ℕ) → from_be_bytes w32 (to_be_bytes w32 n) ≡ n % 4294967296
low_32 n = omega arith

pub cut_16 : {F : Type 0} (f : F) (n : ℕ) (rest : List ℕ) → (number f w16).spells (to_be_bytes w16 n ++ rest) (n % 65536) rest
unfolding number
cut_16 f n rest = (to_be_bytes w16 n, length-to_be_bytes w16 n, refl, sym (low_16 n))

pub cut_32 : {F : Type 0} (f : F) (n : ℕ) (rest : List ℕ) → (number f w32).spells (to_be_bytes w32 n ++ rest) (n % 4294967296) rest
unfolding number
cut_32 f n rest = (to_be_bytes w32 n, length-to_be_bytes w32 n, refl, sym (low_32 n))

-- ---- distances

near_signed : (pc to : ℕ) → pc < 65536 → to < 65536 → is_near pc to ≡ true → pos pc +ℤ cast_signed w16 (distance pc to % 65536) ≡ pos to
unfolding is_near distance
near_signed pc to p t h = grind (arith, ints, nat_tests)

far_signed : (pc to : ℕ) → pc < 65536 → to < 65536 → pos pc +ℤ cast_signed w32 (distance pc to % 4294967296) ≡ pos to
unfolding distance
far_signed pc to p t = grind (arith, ints, nat_tests)

fits_place : (to : ℕ) → to < 65536 → FitsSigned w32 (pos to)
fits_place to t = omega (arith, ints)

pub near_place : (pc to : ℕ) → pc < 65536 → to < 65536 → is_near pc to ≡ true → int_wrap w32 (pos pc +ℤ cast_signed w16 (distance pc to % 65536)) ≡ pos to
near_place pc to p t h = ap (int_wrap w32) (near_signed pc to p t h) ∙ int_wrap_fits w32 (pos to) (fits_place to t)

pub far_place : (pc to : ℕ) → pc < 65536 → to < 65536 → int_wrap w32 (pos pc +ℤ cast_signed w32 (distance pc to % 4294967296)) ≡ pos to
far_place pc to p t = ap (int_wrap w32) (far_signed pc to p t) ∙ int_wrap_fits w32 (pos to) (fits_place to t)

-- ---- bytes

pub byte_spelled : {F : Type 0} (f : F) (n : ℕ) (rest : List ℕ) → n < 256 → (number f w8).spells (n ∷ rest) n rest
unfolding number
byte_spelled f n rest h = (n ∷ [], refl, refl, omega arith)

pub unsigned_8 : (z : ℤ) → int_le (pos 0) z ≡ true → int_le z (pos 255) ≡ true → cast_unsigned w8 z < 256
unsigned_8 z l r = grind (arith, ints)

pub unsigned_16 : (z : ℤ) → int_le (pos 0) z ≡ true → int_le z (pos 65535) ≡ true → cast_unsigned w16 z < 2 ^ 16
unsigned_16 z l r = grind (arith, ints)

-- a number with a sign, in two's complement
pub int_spelled : {F : Type 0} (f : F) (z : ℤ) (rest : List ℕ) → FitsSigned w32 z
    → (number f w32).spells (to_be_bytes w32 (cast_unsigned w32 z) ++ rest) (cast_unsigned w32 z) rest
int_spelled f z rest h = number_spelled f w32 (cast_unsigned w32 z) rest (bits_32 z h)

pub back_32 : (z : ℤ) → FitsSigned w32 z → cast_signed w32 (cast_unsigned w32 z) ≡ z
back_32 z h = to_z-of_z w32 z h
