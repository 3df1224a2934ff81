-- The words of a text: each of their units is one of 16 bits, and flags are as wide.
use Rattle.std.proofs.Common.{◌≡◌, refl, ℕ, ◌+◌, ◌*◌, ◌^◌, ◌<◌, ◌≤◌, ◌-◌, ◌/◌, ◌%◌, List, [], ◌∷◌, Bool, true, false, cond, ltb, Some, None, Option, inl, inr, arith}
use Rattle.std.specs.Prelude.{◌&&◌, ◌==◌, ◌⊎◌, flat_map, option_map, if◌then◌else◌, nat_le}
use Rattle.std.specs.Char.Escape.{encode_utf16}
use Rattle.std.specs.List.{AllByRecursion}
use Rattle.std.specs.Str.{is_utf8, chars}
use Rattle.std.proofs.lemmas.Bool.Decides.{nat_tests}
use Rattle.std.proofs.lemmas.Str.{IsUtf8-from_is_utf8, scalars-chars}
use lib.Utf8.{scalar, scalars, scalar_cases}
use Rattle.asm_words.specs.Words.{begun, position_behind, words_from, words_of, units_of}
use Rattle.asm_words.specs.declared.words.Position.{Position}
use Rattle.asm_words.specs.declared.words.Position.TheVariants as position
use Rattle.asm_words.specs.Numbers.{digit_value, with_digit, four_digits, flags_of}
use Rattle.asm_laws.specs.Tables.{AreUnits}
use Rattle.asm_laws.proofs.Members.{both}
use Rattle.asm_laws.proofs.Ranges.{all_append}

-- what is said, where something is, is so
abbrev pub IsSo : {X : Type 0} → (X → Type 0) → Option X → Type 0
IsSo P None = Unit {0}
IsSo P (Some x) = P x

pub so_if : {X : Type 0} (P : X → Type 0) (b : Bool) (o p : Option X) → IsSo P o → IsSo P p → IsSo P (if b then o else p)
so_if P true o p h k = h
so_if P false o p h k = k

pub so_mapped : {X Y : Type 0} (P : X → Type 0) (Q : Y → Type 0) (f : X → Y) (o : Option X) → ((x : X) → P x → Q (f x)) → IsSo P o → IsSo Q (option_map f o)
so_mapped P Q f None h k = tt
so_mapped P Q f (Some x) h k = h x k

abbrev pub AreWords : List (List ℕ) → Type 0
AreWords words = AllByRecursion AreUnits words

-- ---- units

unit_of : (c : ℕ) → scalar c ≡ true → AreUnits (encode_utf16 c)
unit_of c h = elim (ltb c 0x10000) as (λ b. ltb c 0x10000 ≡ b → AreUnits (cond b (c ∷ []) ((0xD800 + (c - 0x10000) / 0x400) ∷ (0xDC00 + (c - 0x10000) % 0x400) ∷ []))) [
  | true ↦ λ e. (grind (arith, nat_tests), tt)
  | false ↦ λ e. (high c (scalar_cases c h), (omega arith, tt))
] refl where
  high : (c : ℕ) → (c < 55296) ⊎ ((57344 ≤ c) × (c < 1114112)) → 0xD800 + (c - 0x10000) / 0x400 < 2 ^ 16
  high c (inl h) = omega arith
  high c (inr h) = omega arith

units_of_all : (cs : List ℕ) → scalars cs ≡ true → AreUnits (flat_map encode_utf16 cs)
units_of_all [] h = tt
units_of_all (c ∷ cs) h = let k = both (scalar c) (scalars cs) h in all_append (λ u. u < 2 ^ 16) (encode_utf16 c) (flat_map encode_utf16 cs) (unit_of c k.0) (units_of_all cs k.1)

pub line_units : (bytes : List ℕ) → IsSo AreUnits (units_of bytes)
unfolding units_of
line_units bytes = elim (is_utf8 bytes) as (λ b. is_utf8 bytes ≡ b → IsSo AreUnits (if b then Some (flat_map encode_utf16 (chars bytes)) else None)) [
  | true ↦ λ e. units_of_all (chars bytes) (scalars-chars bytes (IsUtf8-from_is_utf8 bytes e))
  | false ↦ λ e. tt
] refl

-- ---- words

begun_words : (u : ℕ) (words : List (List ℕ)) → u < 2 ^ 16 → AreWords words → AreWords (begun u words)
unfolding begun
begun_words u [] h k = ((h, tt), tt)
begun_words u (word ∷ words) h k = ((h, k.0), k.1)

words_so : (p : Position) (units : List ℕ) → AreUnits units → AreWords (words_from p units)
unfolding words_from
words_so p [] h = (tt, tt)
words_so p (u ∷ units) h =
    elim (position_behind p u) as (λ o. AreWords (elim o [ None ↦ [] ∷ words_from position.Front units | Some q ↦ begun u (words_from q units) ])) [
      | None ↦ (tt, words_so position.Front units h.1)
      | Some q ↦ begun_words u (words_from q units) h.0 (words_so q units h.1)
    ]

pub line_words : (units : List ℕ) → AreUnits units → AreWords (words_of units)
unfolding words_of
line_words units h = words_so position.Front units h

-- ---- flags

abbrev IsBelow : ℕ → Option ℕ → Type 0
IsBelow m o = IsSo (λ n. n < m) o

one_digit : (u : ℕ) → IsBelow 16 (digit_value u)
unfolding digit_value
one_digit u = elim (nat_le 0x30 u && nat_le u 0x39) as (λ b. (nat_le 0x30 u && nat_le u 0x39) ≡ b → IsBelow 16 (if b then Some (u - 0x30) else if nat_le 0x41 u && nat_le u 0x46 then Some (u - 0x37) else if nat_le 0x61 u && nat_le u 0x66 then Some (u - 0x57) else None)) [
  | true ↦ λ e. grind (arith, nat_tests)
  | false ↦ λ d. elim (nat_le 0x41 u && nat_le u 0x46) as (λ b. (nat_le 0x41 u && nat_le u 0x46) ≡ b → IsBelow 16 (if b then Some (u - 0x37) else if nat_le 0x61 u && nat_le u 0x66 then Some (u - 0x57) else None)) [
    | true ↦ λ e. grind (arith, nat_tests)
    | false ↦ λ f. elim (nat_le 0x61 u && nat_le u 0x66) as (λ b. (nat_le 0x61 u && nat_le u 0x66) ≡ b → IsBelow 16 (if b then Some (u - 0x57) else None)) [
      | true ↦ λ e. grind (arith, nat_tests)
      | false ↦ λ e. tt
    ] refl
  ] refl
] refl

more_digits : (m : ℕ) (n d : Option ℕ) → IsBelow m n → IsBelow 16 d → IsBelow (m * 16) (with_digit n d)
unfolding with_digit
more_digits m None d h k = tt
more_digits m (Some x) None h k = tt
more_digits m (Some x) (Some y) h k = omega arith

four : (a b c d : ℕ) → IsBelow (2 ^ 16) (four_digits a b c d)
unfolding four_digits
four a b c d =
    more_digits 4096 _ (digit_value d) (more_digits 256 _ (digit_value c) (more_digits 16 (digit_value a) (digit_value b) (one_digit a) (one_digit b)) (one_digit c)) (one_digit d)

pub flags_so : (word : List ℕ) → IsSo (λ n. n < 2 ^ 16) (flags_of word)
unfolding flags_of
flags_so (z ∷ x ∷ a ∷ b ∷ c ∷ d ∷ []) = so_if (λ n. n < 2 ^ 16) ((z == 0x30) && (x == 0x78)) (four_digits a b c d) None (four a b c d) tt
flags_so _ = tt
