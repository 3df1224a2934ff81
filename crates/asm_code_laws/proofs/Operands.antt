-- The operands that words say are spelled by their bytes.
use Rattle.std.proofs.Common.{◌≡◌, ◌∙◌, refl, sym, ap, subst, ℕ, suc, ◌+◌, ◌-◌, ◌/◌, ◌%◌, ◌^◌, ◌<◌, List, [], ◌∷◌, ◌++◌, length, append_assoc, Bool, true, false, Some, None, Option, map, ℤ, arith}
use Rattle.std.specs.Prelude.{pos, ◌+ℤ◌, ◌-ℤ◌, int_le, unsigned_abs, FitsSigned, not, ◌&&◌, ◌==◌, nat_le, nat_lt, option_map, if◌then◌else◌, flat_map, codes, is_some, replicate}
use Rattle.std.specs.Int.{w8, w16, w32, cast_signed, cast_unsigned}
use Rattle.std.specs.List.{list_all, AllByRecursion}
use Rattle.std.specs.Str.{bytes_eq}
use Rattle.std.proofs.lemmas.Bool.Decides.{nat_tests}
use Rattle.std.proofs.lemmas.Int.{ints}
use Rattle.std.proofs.lemmas.List.{length-replicate}
use Rattle.class_grammar.specs.CodeGrammar.{past_end, unsigned_operand, signed_operand, target_operand, interface_operands, array_type_operand, dimensions_operands, increment_operands, padding_length, key_operands, keys_rise, operands_part, table_operands as table_part, lookup_operands as lookup_part}
use Rattle.class_grammar.specs.Descriptors.{MethodType, field_type_of, method_type_of}
use Rattle.class_grammar.specs.Parts.{repeated, bytes_of, number}
use Rattle.jx_base.specs.declared.fault.CodeKind.{CodeKind}
use Rattle.jx_base.specs.declared.row.Form.{Form}
use Rattle.jx_base.specs.declared.row.Form.TheVariants as form
use Rattle.jx_base.specs.declared.row.Row.{Row}
use Rattle.jx_base.specs.declared.row.Row.TheVariants as row
use Rattle.asm_words.specs.Numbers.{number_of, within}
use Rattle.asm_constants.specs.declared.content.Content.{Content}
use Rattle.asm_constants.specs.declared.content.Content.TheVariants as content
use Rattle.asm_constants.specs.declared.content.Reference.{Reference}
use Rattle.asm_constants.specs.declared.content.Reference.TheVariants as reference
use Rattle.asm_constants.specs.Pools.{index_of, two_bytes}
use Rattle.asm_lines.specs.declared.line.Operand.{Operand}
use Rattle.asm_lines.specs.declared.line.Operand.TheVariants as operand
use Rattle.asm_lines.specs.Operands.{least_int, greatest_int, int_of, is_name, number_operand, signed_byte, signed_short, unsigned_byte, unsigned_short, then_operand, increment, wide_increment, class_operand, member_operand, field_operand, method_operand, count_operands, interface_operand, constant_of, byte_constant, short_constant, long_constant, element_type, array_type, dimensions, target, far_target, table_operands, table, is_above, with_key, keys_above, lookup_operands, lookup_behind, lookup, nothing, index_operand, byte_operand, operands_of}
use Rattle.asm_bodies.specs.Bodies.{Mark, is_near}
use Rattle.asm_bytes.specs.Files.{pc_of, distance, operand_bytes, four_bytes}
use Rattle.asm_code_laws.specs.Written.{operand_numbers, signed_numbers, form_numbers}
use Rattle.asm_laws.proofs.Numbers.{number_spelled}
use Rattle.asm_laws.proofs.Operands.{fits_int, int_so}
use Rattle.asm_laws.proofs.Readable.{IsSo, so_if, so_mapped}
use Rattle.asm_code_laws.proofs.Numbers.{cut_16, cut_32, near_place, far_place, byte_spelled, unsigned_8, unsigned_16, int_spelled, back_32}

pub so_any : {X : Type 0} (o : Option X) → IsSo (λ (x : X). Unit {0}) o
so_any None = tt
so_any (Some x) = tt

-- a number within a range lies in it
within_so : (P : ℤ → Type 0) (low high : ℤ) (o : Option ℤ) → ((z : ℤ) → o ≡ Some z → int_le low z ≡ true → int_le z high ≡ true → P z) → IsSo P (within low high o)
unfolding within
within_so P low high None h = tt
within_so P low high (Some z) h = elim (int_le low z) as (λ b. int_le low z ≡ b → IsSo P (if b && int_le z high then Some z else None)) [
  | true ↦ λ l. elim (int_le z high) as (λ b. int_le z high ≡ b → IsSo P (if b then Some z else None)) [ true ↦ λ r. h z refl l r | false ↦ λ r. tt ] refl
  | false ↦ λ l. tt
] refl

-- operands of one number, in a range
shaped : (P : List Operand → Type 0) (low high : ℤ) (o : ℤ → Operand) (words : List (List ℕ)) → ((z : ℤ) → int_le low z ≡ true → int_le z high ≡ true → P (o z ∷ []))
    → IsSo P (number_operand low high o words)
unfolding number_operand
shaped P low high o (word ∷ []) h =
    so_mapped (λ z. P (o z ∷ [])) P (λ z. o z ∷ []) (within low high (number_of word)) (λ z k. k)
    (within_so (λ z. P (o z ∷ [])) low high (number_of word) (λ z e. h z))
shaped P low high o _ h = tt

byte_range : (z : ℤ) → int_le (pos 0 -ℤ pos 128) z ≡ true → int_le z (pos 127) ≡ true → cast_unsigned w8 z < 256
byte_range z l r = grind (arith, ints)

short_range : (z : ℤ) → int_le (pos 0 -ℤ pos 32768) z ≡ true → int_le z (pos 32767) ≡ true → cast_unsigned w16 z < 2 ^ 16
short_range z l r = grind (arith, ints)

-- an operand of the instruction at pc that its bytes say: an index in a byte is small, and a label is not too far
abbrev pub IsGood : List Content → List Mark → ℕ → Operand → Type 0
IsGood pool marks pc (operand.ByteIndex c) = index_of pool c < 256
IsGood pool marks pc (operand.Target label) = (pc_of marks label < 65536) × (is_near pc (pc_of marks label) ≡ true)
IsGood pool marks pc (operand.FarTarget label) = pc_of marks label < 65536
IsGood pool marks pc _ = Unit {0}

module _ (pool : List Content) (marks : List Mark) (small : (c : Content) → index_of pool c < 2 ^ 16) where
  -- operands of that form are spelled by their bytes, and mean their numbers
  abbrev pub IsRead : Form → List Operand → Type 0
  IsRead f operands =
      (missing : CodeKind) (pc : ℕ) → pc < 65536 → AllByRecursion (IsGood pool marks pc) operands → (rest : List ℕ)
      → (operands_part missing pc f).spells (flat_map (operand_bytes pool marks pc) operands ++ rest) (form_numbers f pool marks operands) rest

  -- ---- numbers

  signed_byte_so : (words : List (List ℕ)) → IsSo (IsRead form.SignedByte) (signed_byte words)
  unfolding signed_byte operand_bytes form_numbers signed_numbers operands_part signed_operand
  signed_byte_so words = shaped (IsRead form.SignedByte) (pos 0 -ℤ pos 128) (pos 127) (λ z. operand.Byte (cast_unsigned w8 z)) words (λ z l r missing pc p good rest.
      (cast_unsigned w8 z, rest, byte_spelled (past_end pc) (cast_unsigned w8 z) rest (byte_range z l r), (refl, refl)))

  signed_short_so : (words : List (List ℕ)) → IsSo (IsRead form.SignedShort) (signed_short words)
  unfolding signed_short operand_bytes form_numbers signed_numbers operands_part signed_operand
  signed_short_so words = shaped (IsRead form.SignedShort) (pos 0 -ℤ pos 32768) (pos 32767) (λ z. operand.Short (cast_unsigned w16 z)) words (λ z l r missing pc p good rest.
      (cast_unsigned w16 z, rest, number_spelled (past_end pc) w16 (cast_unsigned w16 z) rest (short_range z l r), (refl, refl)))

  -- one number without a sign
  byte_read : (n : ℕ) → n < 256 → IsRead form.Byte (operand.Byte n ∷ [])
  unfolding operand_bytes operand_numbers form_numbers operands_part unsigned_operand
  byte_read n h missing pc p good rest = (n, rest, byte_spelled (past_end pc) n rest h, (refl, refl))

  short_read : (n : ℕ) → n < 2 ^ 16 → IsRead form.Index (operand.Short n ∷ [])
  unfolding operand_bytes operand_numbers form_numbers operands_part unsigned_operand
  short_read n h missing pc p good rest = (n, rest, number_spelled (past_end pc) w16 n rest h, (refl, refl))

  unsigned_byte_so : (words : List (List ℕ)) → IsSo (IsRead form.Byte) (unsigned_byte words)
  unfolding unsigned_byte
  unsigned_byte_so words =
      shaped (IsRead form.Byte) (pos 0) (pos 255) (λ z. operand.Byte (cast_unsigned w8 z)) words (λ z l r. byte_read (cast_unsigned w8 z) (unsigned_8 z l r))

  unsigned_short_so : (words : List (List ℕ)) → IsSo (IsRead form.Index) (unsigned_short words)
  unfolding unsigned_short
  unsigned_short_so words =
      shaped (IsRead form.Index) (pos 0) (pos 65535) (λ z. operand.Short (cast_unsigned w16 z)) words (λ z l r. short_read (cast_unsigned w16 z) (unsigned_16 z l r))

  -- ---- numbers by their shape

  -- one byte, or one short
  abbrev IsByte : List Operand → Type 0
  IsByte operands = (n : ℕ) × (n < 256) × (operands ≡ operand.Byte n ∷ [])

  abbrev IsShort : List Operand → Type 0
  IsShort operands = (n : ℕ) × (n < 2 ^ 16) × (operands ≡ operand.Short n ∷ [])

  a_signed_byte : (words : List (List ℕ)) → IsSo IsByte (signed_byte words)
  unfolding signed_byte
  a_signed_byte words = shaped IsByte (pos 0 -ℤ pos 128) (pos 127) (λ z. operand.Byte (cast_unsigned w8 z)) words (λ z l r. (cast_unsigned w8 z, byte_range z l r, refl))

  a_byte : (words : List (List ℕ)) → IsSo IsByte (unsigned_byte words)
  unfolding unsigned_byte
  a_byte words = shaped IsByte (pos 0) (pos 255) (λ z. operand.Byte (cast_unsigned w8 z)) words (λ z l r. (cast_unsigned w8 z, unsigned_8 z l r, refl))

  a_signed_short : (words : List (List ℕ)) → IsSo IsShort (signed_short words)
  unfolding signed_short
  a_signed_short words = shaped IsShort (pos 0 -ℤ pos 32768) (pos 32767) (λ z. operand.Short (cast_unsigned w16 z)) words (λ z l r. (cast_unsigned w16 z, short_range z l r, refl))

  a_short : (words : List (List ℕ)) → IsSo IsShort (unsigned_short words)
  unfolding unsigned_short
  a_short words = shaped IsShort (pos 0) (pos 65535) (λ z. operand.Short (cast_unsigned w16 z)) words (λ z l r. (cast_unsigned w16 z, unsigned_16 z l r, refl))

  -- operands in front of others
  then_so : (P Q R : List Operand → Type 0) (o rest : Option (List Operand)) → ((xs ys : List Operand) → P xs → Q ys → R (xs ++ ys)) → IsSo P o → IsSo Q rest → IsSo R (then_operand o rest)
  unfolding then_operand
  then_so P Q R None rest f h k = tt
  then_so P Q R (Some operands) rest f h k = so_mapped Q R (λ more. operands ++ more) rest (λ more m. f operands more h m) k

  increment_read : (n by : ℕ) → n < 256 → by < 256 → IsRead form.Increment (operand.Byte n ∷ operand.Byte by ∷ [])
  unfolding operand_bytes operand_numbers signed_numbers form_numbers operands_part increment_operands
  increment_read n by h k missing pc p good rest =
      (n, by ∷ rest, byte_spelled (past_end pc) n (by ∷ rest) h, (by, rest, byte_spelled (past_end pc) by rest k, (refl, refl)))

  wide_increment_read : (n by : ℕ) → n < 2 ^ 16 → by < 2 ^ 16 → IsRead form.WideIncrement (operand.Short n ∷ operand.Short by ∷ [])
  unfolding operand_bytes operand_numbers signed_numbers form_numbers operands_part increment_operands
  wide_increment_read n by h k missing pc p good rest =
      (n, two_bytes by ++ rest, number_spelled (past_end pc) w16 n (two_bytes by ++ rest) h, (by, rest, number_spelled (past_end pc) w16 by rest k, (refl, refl)))

  increment_so : (words : List (List ℕ)) → IsSo (IsRead form.Increment) (increment words)
  unfolding increment
  increment_so (local ∷ by ∷ []) =
      then_so IsByte IsByte (IsRead form.Increment) (unsigned_byte (local ∷ [])) (signed_byte (by ∷ []))
      (λ xs ys x y. subst (IsRead form.Increment) (sym (ap (λ (zs : List Operand). zs ++ ys) x.2 ∙ ap (λ (zs : List Operand). operand.Byte x.0 ∷ zs) y.2)) (increment_read x.0 y.0 x.1 y.1))
      (a_byte (local ∷ [])) (a_signed_byte (by ∷ []))
  increment_so _ = tt

  wide_increment_so : (words : List (List ℕ)) → IsSo (IsRead form.WideIncrement) (wide_increment words)
  unfolding wide_increment
  wide_increment_so (local ∷ by ∷ []) =
      then_so IsShort IsShort (IsRead form.WideIncrement) (unsigned_short (local ∷ [])) (signed_short (by ∷ []))
      (λ xs ys x y. subst (IsRead form.WideIncrement) (sym (ap (λ (zs : List Operand). zs ++ ys) x.2 ∙ ap (λ (zs : List Operand). operand.Short x.0 ∷ zs) y.2)) (wide_increment_read x.0 y.0 x.1 y.1))
      (a_short (local ∷ [])) (a_signed_short (by ∷ []))
  wide_increment_so _ = tt

  -- ---- constants

  index_read : (c : Content) → IsRead form.Index (operand.Index c ∷ [])
  unfolding operand_bytes operand_numbers form_numbers operands_part unsigned_operand
  index_read c missing pc p good rest = (index_of pool c, rest, number_spelled (past_end pc) w16 (index_of pool c) rest (small c), (refl, refl))

  low_byte : (n : ℕ) → n < 256 → n % 256 ≡ n
  low_byte n h = omega arith

  byte_index_read : (c : Content) → IsRead form.Byte (operand.ByteIndex c ∷ [])
  unfolding operand_bytes operand_numbers form_numbers operands_part unsigned_operand
  byte_index_read c missing pc p good rest =
      let n : ℕ = index_of pool c in
      let e : n % 256 ≡ n = low_byte n good.0 in
      (n, rest, subst (λ m. (number (past_end pc) w8).spells (m ∷ rest) n rest) (sym e) (byte_spelled (past_end pc) n rest good.0), (refl, refl))

  abbrev IsIndex : List Operand → Type 0
  IsIndex operands = (c : Content) × (operands ≡ operand.Index c ∷ [])

  indexed : (o : Option (List Operand)) → IsSo IsIndex o → IsSo (IsRead form.Index) o
  indexed None h = tt
  indexed (Some operands) h = subst (IsRead form.Index) (sym h.1) (index_read h.0)

  a_class : (words : List (List ℕ)) → IsSo IsIndex (class_operand words)
  unfolding class_operand
  a_class (class ∷ []) = so_if IsIndex (is_name class) (Some (operand.Index (content.Class class) ∷ [])) None (content.Class class, refl) tt
  a_class _ = tt

  a_member : (kind : Reference) (described : Bool) (class name descriptor : List ℕ) → IsSo IsIndex (member_operand kind described class name descriptor)
  unfolding member_operand
  a_member kind described class name descriptor =
      so_if IsIndex (is_name class && is_name name && described) (Some (operand.Index (content.Member kind class name descriptor) ∷ [])) None (content.Member kind class name descriptor, refl) tt

  a_field : (words : List (List ℕ)) → IsSo IsIndex (field_operand words)
  unfolding field_operand
  a_field (class ∷ name ∷ descriptor ∷ []) = a_member reference.Field (is_some (field_type_of descriptor)) class name descriptor
  a_field _ = tt

  a_method : (words : List (List ℕ)) → IsSo IsIndex (method_operand words)
  unfolding method_operand
  a_method (class ∷ name ∷ descriptor ∷ []) = a_member reference.Method (is_some (method_type_of descriptor)) class name descriptor
  a_method _ = tt

  a_constant : (words : List (List ℕ)) → IsSo IsIndex (short_constant words)
  unfolding short_constant
  a_constant words = so_mapped (λ (c : Content). Unit {0}) IsIndex (λ c. operand.Index c ∷ []) (constant_of words) (λ c u. (c, refl)) (so_any (constant_of words))

  a_long : (words : List (List ℕ)) → IsSo IsIndex (long_constant words)
  unfolding long_constant
  a_long (kind ∷ word ∷ []) =
      let n : Option ℤ = within (pos 0 -ℤ pos (2 ^ 63)) (pos (2 ^ 63 - 1)) (number_of word) in
      so_if IsIndex (bytes_eq kind (codes "long")) (option_map (λ z. operand.Index (content.Long z) ∷ []) n) None
      (so_mapped (λ (z : ℤ). Unit {0}) IsIndex (λ z. operand.Index (content.Long z) ∷ []) n (λ z u. (content.Long z, refl)) (so_any n)) tt
  a_long _ = tt

  byte_constant_so : (words : List (List ℕ)) → IsSo (IsRead form.Byte) (byte_constant words)
  unfolding byte_constant
  byte_constant_so words = so_mapped (λ (c : Content). Unit {0}) (IsRead form.Byte) (λ c. operand.ByteIndex c ∷ []) (constant_of words) (λ c u. byte_index_read c) (so_any (constant_of words))

  -- two bytes, of which the second is zero
  abbrev AreCounts : List Operand → Type 0
  AreCounts operands = (n : ℕ) × (operands ≡ operand.Byte n ∷ operand.Byte 0 ∷ [])

  counted : (taken : Bool) (n : ℕ) → IsSo AreCounts (if taken then Some (operand.Byte n ∷ operand.Byte 0 ∷ []) else None)
  counted true n = (n, refl)
  counted false n = tt

  counts : (o : Option MethodType) → IsSo AreCounts (count_operands o)
  unfolding count_operands
  counts None = tt
  counts (Some m) = counted _ _

  interface_read : (c : Content) (n : ℕ) → IsRead form.Interface (operand.Index c ∷ operand.Byte n ∷ operand.Byte 0 ∷ [])
  unfolding operand_bytes operand_numbers form_numbers operands_part interface_operands bytes_of
  interface_read c n missing pc p good rest =
      (index_of pool c, n ∷ 0 ∷ rest, number_spelled (past_end pc) w16 (index_of pool c) (n ∷ 0 ∷ rest) (small c), (n ∷ 0 ∷ [], rest, (refl, refl), (refl, refl)))

  interface_so : (words : List (List ℕ)) → IsSo (IsRead form.Interface) (interface_operand words)
  unfolding interface_operand
  interface_so (class ∷ name ∷ descriptor ∷ []) =
      then_so IsIndex AreCounts (IsRead form.Interface) (member_operand reference.InterfaceMethod true class name descriptor) (count_operands (method_type_of descriptor))
      (λ xs ys x y. subst (IsRead form.Interface) (sym (ap (λ (zs : List Operand). zs ++ ys) x.1 ∙ ap (λ (zs : List Operand). operand.Index x.0 ∷ zs) y.1)) (interface_read x.0 y.0))
      (a_member reference.InterfaceMethod true class name descriptor) (counts (method_type_of descriptor))
  interface_so _ = tt

  -- ---- types

  abbrev IsElement : ℕ → Type 0
  IsElement n = IsRead form.ArrayType (operand.Byte n ∷ [])

  element_read : (n : ℕ) → n < 256 → (nat_le 4 n && nat_le n 11) ≡ true → (not (n == 6) && not (n == 7)) ≡ true → IsElement n
  unfolding operand_bytes operand_numbers form_numbers operands_part array_type_operand
  element_read n h a b missing pc p good rest =
      (n, rest, byte_spelled (past_end pc) n rest h, (tt, rest, (a, refl), (tt, rest, (b, refl), (refl, refl))))

  element_so : (word : List ℕ) → IsSo IsElement (element_type word)
  unfolding element_type
  element_so word =
      so_if IsElement (bytes_eq word (codes "boolean")) (Some 4) _ (element_read 4 (omega arith) refl refl)
      (so_if IsElement (bytes_eq word (codes "char")) (Some 5) _ (element_read 5 (omega arith) refl refl)
      (so_if IsElement (bytes_eq word (codes "byte")) (Some 8) _ (element_read 8 (omega arith) refl refl)
      (so_if IsElement (bytes_eq word (codes "short")) (Some 9) _ (element_read 9 (omega arith) refl refl)
      (so_if IsElement (bytes_eq word (codes "int")) (Some 10) _ (element_read 10 (omega arith) refl refl)
      (so_if IsElement (bytes_eq word (codes "long")) (Some 11) None (element_read 11 (omega arith) refl refl) tt)))))

  array_type_so : (words : List (List ℕ)) → IsSo (IsRead form.ArrayType) (array_type words)
  unfolding array_type
  array_type_so (word ∷ []) = so_mapped IsElement (IsRead form.ArrayType) (λ n. operand.Byte n ∷ []) (element_type word) (λ n h. h) (element_so word)
  array_type_so _ = tt

  -- how many dimensions
  abbrev IsCount : List Operand → Type 0
  IsCount operands = (n : ℕ) × (n < 256) × (nat_lt 0 n ≡ true) × (operands ≡ operand.Byte n ∷ [])

  some_range : (z : ℤ) → int_le (pos 1) z ≡ true → int_le z (pos 255) ≡ true → (cast_unsigned w8 z < 256) × (nat_lt 0 (cast_unsigned w8 z) ≡ true)
  some_range z l r = (grind (arith, ints), grind (arith, ints, nat_tests))

  a_count : (words : List (List ℕ)) → IsSo IsCount (number_operand (pos 1) (pos 255) (λ z. operand.Byte (cast_unsigned w8 z)) words)
  a_count words =
      shaped IsCount (pos 1) (pos 255) (λ z. operand.Byte (cast_unsigned w8 z)) words
      (λ z l r. let k = some_range z l r in (cast_unsigned w8 z, k.0, k.1, refl))

  dimensions_read : (c : Content) (n : ℕ) → n < 256 → nat_lt 0 n ≡ true → IsRead form.Dimensions (operand.Index c ∷ operand.Byte n ∷ [])
  unfolding operand_bytes operand_numbers form_numbers operands_part dimensions_operands
  dimensions_read c n h k missing pc p good rest = (
    index_of pool c,
    n ∷ rest,
    number_spelled (past_end pc) w16 (index_of pool c) (n ∷ rest) (small c),
    (n, rest, byte_spelled (past_end pc) n rest h, (tt, rest, (k, refl), (refl, refl))),
  )

  dimensions_so : (words : List (List ℕ)) → IsSo (IsRead form.Dimensions) (dimensions words)
  unfolding dimensions
  dimensions_so (class ∷ word ∷ []) =
      then_so IsIndex IsCount (IsRead form.Dimensions) (class_operand (class ∷ [])) (number_operand (pos 1) (pos 255) (λ z. operand.Byte (cast_unsigned w8 z)) (word ∷ []))
      (λ xs ys x y. subst (IsRead form.Dimensions) (sym (ap (λ (zs : List Operand). zs ++ ys) x.1 ∙ ap (λ (zs : List Operand). operand.Index x.0 ∷ zs) y.3)) (dimensions_read x.0 y.0 y.1 y.2))
      (a_class (class ∷ [])) (a_count (word ∷ []))
  dimensions_so _ = tt

  -- ---- labels

  far_spelled : (pc : ℕ) → pc < 65536 → (label : List ℕ) → pc_of marks label < 65536 → (rest : List ℕ)
      → (target_operand w32 pc).spells (four_bytes (distance pc (pc_of marks label)) ++ rest) (pos (pc_of marks label) ∷ []) rest
  unfolding target_operand
  far_spelled pc p label h rest =
      let to : ℕ = pc_of marks label in
      (distance pc to % 4294967296, rest, cut_32 (past_end pc) (distance pc to) rest, (ap (λ (z : ℤ). z ∷ []) (sym (far_place pc to p h)), refl))

  target_read : (label : List ℕ) → IsRead form.Branch (operand.Target label ∷ [])
  unfolding operand_bytes operand_numbers form_numbers operands_part target_operand
  target_read label missing pc p good rest =
      let to : ℕ = pc_of marks label in
      (distance pc to % 65536, rest, cut_16 (past_end pc) (distance pc to) rest, (ap (λ (z : ℤ). z ∷ []) (sym (near_place pc to p good.0.0 good.0.1)), refl))

  far_target_read : (label : List ℕ) → IsRead form.FarBranch (operand.FarTarget label ∷ [])
  unfolding operand_bytes operand_numbers form_numbers operands_part
  far_target_read label missing pc p good rest = far_spelled pc p label good.0 rest

  target_so : (words : List (List ℕ)) → IsSo (IsRead form.Branch) (target words)
  unfolding target
  target_so (label ∷ []) = so_if (IsRead form.Branch) (is_name label) (Some (operand.Target label ∷ [])) None (target_read label) tt
  target_so _ = tt

  far_target_so : (words : List (List ℕ)) → IsSo (IsRead form.FarBranch) (far_target words)
  unfolding far_target
  far_target_so (label ∷ []) = so_if (IsRead form.FarBranch) (is_name label) (Some (operand.FarTarget label ∷ [])) None (far_target_read label) tt
  far_target_so _ = tt

  -- the padding in front of other bytes
  padded : (pc : ℕ) (bytes rest : List ℕ) → (bytes_of (past_end pc) (padding_length pc)).spells ((replicate (padding_length pc) 0 ++ bytes) ++ rest) (replicate (padding_length pc) 0) (bytes ++ rest)
  unfolding bytes_of
  padded pc bytes rest = (length-replicate _ 0, append_assoc (replicate (padding_length pc) 0) bytes rest)

  -- ---- a table

  labels_spelled : (pc : ℕ) → pc < 65536 → (labels : List (List ℕ)) → AllByRecursion (IsGood pool marks pc) (map operand.FarTarget labels) → (rest : List ℕ)
      → (repeated (length labels) (target_operand w32 pc)).spells (flat_map (operand_bytes pool marks pc) (map operand.FarTarget labels) ++ rest)
      (flat_map (operand_numbers pool marks) (map operand.FarTarget labels)) rest
  unfolding repeated operand_bytes operand_numbers
  labels_spelled pc p [] good rest = (refl, refl)
  labels_spelled pc p (label ∷ labels) good rest =
      let more : List ℕ = flat_map (operand_bytes pool marks pc) (map operand.FarTarget labels) ++ rest in (
        pos (pc_of marks label) ∷ [],
        flat_map (operand_numbers pool marks) (map operand.FarTarget labels),
        more,
        far_spelled pc p label good.0 more,
        labels_spelled pc p labels good.1 rest,
        refl,
      )

  -- so many keys
  keys_between : (low high low_read high_read : ℤ) (n : ℕ) → low_read ≡ low → high_read ≡ high → high ≡ low +ℤ pos n
      → (int_le low_read high_read ≡ true) × (unsigned_abs (high_read -ℤ low_read) + 1 ≡ suc n)
  keys_between low high low_read high_read n l h e = (below low_read high_read n both, count low_read high_read n both) where
    both : high_read ≡ low_read +ℤ pos n
    both = h ∙ e ∙ ap (λ (z : ℤ). z +ℤ pos n) (sym l)

    below : (a b : ℤ) (n : ℕ) → b ≡ a +ℤ pos n → int_le a b ≡ true
    below a b n e = grind (arith, ints)

    difference : (a b : ℤ) (n : ℕ) → b ≡ a +ℤ pos n → b -ℤ a ≡ pos n
    difference a b n e = omega (arith, ints)

    count : (a b : ℤ) (n : ℕ) → b ≡ a +ℤ pos n → unsigned_abs (b -ℤ a) + 1 ≡ suc n
    count a b n e = let d = difference a b n e in rw d (omega arith)

  table_read : (default first : List ℕ) (labels : List (List ℕ)) (low high : ℤ) → FitsSigned w32 low → FitsSigned w32 high → high ≡ low +ℤ pos (length labels)
      → IsRead form.TableSwitch (table_operands default (first ∷ labels) low high)
  unfolding operand_bytes operand_numbers form_numbers operands_part table_part table_operands
  table_read default first labels low high l h e missing pc p good rest =
      let low_bits : ℕ = cast_unsigned w32 low in
      let high_bits : ℕ = cast_unsigned w32 high in
      let targets : List Operand = map operand.FarTarget (first ∷ labels) in
      let bytes : List ℕ = flat_map (operand_bytes pool marks pc) targets in
      let numbers : List ℤ = flat_map (operand_numbers pool marks) targets in
      let behind_high : List ℕ = bytes ++ rest in
      let behind_low : List ℕ = four_bytes high_bits ++ behind_high in
      let behind_default : List ℕ = four_bytes low_bits ++ behind_low in
      let k = keys_between low high (cast_signed w32 low_bits) (cast_signed w32 high_bits) (length labels) (back_32 low l) (back_32 high h) e in
      let all = labels_spelled pc p (first ∷ labels) good.1.1.1.1 rest in
      let read : List ℤ = pos (pc_of marks default) ∷ low ∷ high ∷ numbers in (
        replicate (padding_length pc) 0,
        four_bytes (distance pc (pc_of marks default)) ++ behind_default,
        padded pc (four_bytes (distance pc (pc_of marks default)) ++ (four_bytes low_bits ++ (four_bytes high_bits ++ bytes))) rest,
        (
          pos (pc_of marks default) ∷ [],
          behind_default,
          far_spelled pc p default good.1.0 behind_default,
          (
            low_bits,
            behind_low,
            int_spelled (past_end pc) low behind_low l,
            (
              high_bits,
              behind_high,
              int_spelled (past_end pc) high behind_high h,
              (
                tt,
                behind_high,
                (k.0, refl),
                (
                  numbers,
                  rest,
                  subst (λ n. (repeated n (target_operand w32 pc)).spells behind_high numbers rest) (sym k.1) all,
                  (
                    ap (λ (z : ℤ). pos (pc_of marks default) ∷ z ∷ high ∷ numbers) (sym (back_32 low l))
                        ∙ ap (λ (z : ℤ). pos (pc_of marks default) ∷ cast_signed w32 low_bits ∷ z ∷ numbers) (sym (back_32 high h)),
                    refl,
                  ),
                ),
              ),
            ),
          ),
        ),
      )

  table_so : (words : List (List ℕ)) → IsSo (IsRead form.TableSwitch) (table words)
  unfolding table
  table_so (word ∷ default ∷ first ∷ labels) =
      so_if (IsRead form.TableSwitch) (list_all is_name (default ∷ first ∷ labels)) _ None (from (int_of word) (int_so word)) tt where
        some_is : (a b : ℤ) → Some a ≡ Some b → a ≡ b
        some_is a b e = cc

        from : (o : Option ℤ) → IsSo (FitsSigned w32) o
            → IsSo (IsRead form.TableSwitch) (elim o [ None ↦ None | Some low ↦ option_map (λ high. table_operands default (first ∷ labels) low high) (within least_int greatest_int (Some (low +ℤ pos (length labels)))) ])
        from None h = tt
        from (Some low) h =
            so_mapped (λ high. FitsSigned w32 high × (high ≡ low +ℤ pos (length labels))) (IsRead form.TableSwitch) (λ high. table_operands default (first ∷ labels) low high)
            (within least_int greatest_int (Some (low +ℤ pos (length labels))))
            (λ high k. table_read default first labels low high h k.0 k.1)
            (within_so (λ high. FitsSigned w32 high × (high ≡ low +ℤ pos (length labels))) least_int greatest_int (Some (low +ℤ pos (length labels)))
            (λ z e l r. (fits_int z l r, some_is z (low +ℤ pos (length labels)) (sym e))))
  table_so _ = tt

  -- ---- keys

  -- the first of these numbers, if there is one, is above that key
  abbrev BeginsAbove : Option ℤ → List ℤ → Type 0
  BeginsAbove before [] = Unit {0}
  BeginsAbove before (z ∷ zs) = is_above before z ≡ true

  rising : (key place : ℤ) (zs : List ℤ) → BeginsAbove (Some key) zs → keys_rise zs ≡ true → keys_rise (key ∷ place ∷ zs) ≡ true
  unfolding keys_rise is_above
  rising key place [] h k = refl
  rising key place (next ∷ zs) h k = rw h k

  -- that many keys with their labels
  abbrev AreKeys : Option ℤ → ℕ → List Operand → Type 0
  AreKeys before n operands =
      (keys_rise (flat_map (operand_numbers pool marks) operands) ≡ true) × BeginsAbove before (flat_map (operand_numbers pool marks) operands)
      × ((pc : ℕ) → pc < 65536 → AllByRecursion (IsGood pool marks pc) operands → (rest : List ℕ)
      → (repeated n (key_operands pc)).spells (flat_map (operand_bytes pool marks pc) operands ++ rest) (flat_map (operand_numbers pool marks) operands) rest)

  no_keys : (before : Option ℤ) → AreKeys before 0 []
  unfolding keys_rise repeated
  no_keys before = (refl, tt, λ pc p good rest. (refl, refl))

  more_keys : (before : Option ℤ) (key : ℤ) (label : List ℕ) (n m : ℕ) (operands : List Operand) → FitsSigned w32 key → is_above before key ≡ true → m ≡ suc n → AreKeys (Some key) n operands
      → AreKeys before m (operand.Int key ∷ operand.FarTarget label ∷ operands)
  unfolding operand_bytes operand_numbers repeated key_operands signed_operand
  more_keys before key label n m operands f above e all =
      let to : ℤ = pos (pc_of marks label) in (
        rising key to (flat_map (operand_numbers pool marks) operands) all.1 all.0,
        above,
        λ pc p good rest.
            let bits : ℕ = cast_unsigned w32 key in
            let numbers : List ℤ = flat_map (operand_numbers pool marks) operands in
            let more : List ℕ = flat_map (operand_bytes pool marks pc) operands ++ rest in
            let behind : List ℕ = four_bytes (distance pc (pc_of marks label)) ++ more in
            subst (λ k. (repeated k (key_operands pc)).spells (four_bytes bits ++ behind) (key ∷ to ∷ numbers) rest) (sym e) (
              key ∷ to ∷ [],
              numbers,
              more,
              (
                key ∷ [],
                behind,
                (bits, behind, int_spelled (past_end pc) key behind f, (ap (λ (z : ℤ). z ∷ []) (sym (back_32 key f)), refl)),
                (to ∷ [], more, far_spelled pc p label good.1.0 more, (refl, refl)),
              ),
              all.2 pc p good.1.1 rest,
              refl,
            ),
      )

  one_more : (n : ℕ) → suc (suc n) / 2 ≡ suc (n / 2)
  one_more n = omega arith

  with_key_so : (before : Option ℤ) (key : ℤ) (label : List ℕ) (n m : ℕ) (o : Option (List Operand)) → FitsSigned w32 key → is_above before key ≡ true → m ≡ suc n
      → IsSo (AreKeys (Some key) n) o → IsSo (AreKeys before m) (with_key key label o)
  unfolding with_key
  with_key_so before key label n m None f a e h = tt
  with_key_so before key label n m (Some operands) f a e h = more_keys before key label n m operands f a e h

  above_so : (before : Option ℤ) (key : ℤ) (named : Bool) (P : List Operand → Type 0) (o : Option (List Operand)) → (is_above before key ≡ true → IsSo P o)
      → IsSo P (if is_above before key && named then o else None)
  above_so before key named P o h = elim (is_above before key) as (λ b. is_above before key ≡ b → IsSo P (if b && named then o else None)) [
    | true ↦ λ e. so_if P named o None (h e) tt
    | false ↦ λ e. tt
  ] refl

  keys_so : (before : Option ℤ) (words : List (List ℕ)) → IsSo (AreKeys before (length words / 2)) (keys_above before words)
  unfolding keys_above
  keys_so before [] = no_keys before
  keys_so before (word ∷ []) = tt
  keys_so before (word ∷ label ∷ words) =
      elim (int_of word) as (λ o. IsSo (FitsSigned w32) o → IsSo (AreKeys before (length (word ∷ label ∷ words) / 2)) (elim o [ None ↦ None | Some key ↦ if is_above before key && is_name label then with_key key label (keys_above (Some key) words) else None ])) [
        | None ↦ λ f. tt
        | Some key ↦ λ f.
            above_so before key (is_name label) (AreKeys before (length (word ∷ label ∷ words) / 2)) (with_key key label (keys_above (Some key) words))
            (λ a. with_key_so before key label (length words / 2) (length (word ∷ label ∷ words) / 2) (keys_above (Some key) words) f a (one_more (length words)) (keys_so (Some key) words))
      ] (int_so word)

  lookup_read : (default : List ℕ) (n : ℕ) (keys : List Operand) → FitsSigned w32 (pos n) → AreKeys None n keys → IsRead form.LookupSwitch (lookup_operands default (pos n) keys)
  unfolding operand_bytes operand_numbers form_numbers operands_part lookup_part lookup_operands
  lookup_read default n keys f all missing pc p good rest =
      let bits : ℕ = cast_unsigned w32 (pos n) in
      let back : cast_signed w32 bits ≡ pos n = back_32 (pos n) f in
      let bytes : List ℕ = flat_map (operand_bytes pool marks pc) keys in
      let numbers : List ℤ = flat_map (operand_numbers pool marks) keys in
      let behind_count : List ℕ = bytes ++ rest in
      let behind_default : List ℕ = four_bytes bits ++ behind_count in
      let to : ℤ = pos (pc_of marks default) in (
        replicate (padding_length pc) 0,
        four_bytes (distance pc (pc_of marks default)) ++ behind_default,
        padded pc (four_bytes (distance pc (pc_of marks default)) ++ (four_bytes bits ++ bytes)) rest,
        (
          to ∷ [],
          behind_default,
          far_spelled pc p default good.1.0 behind_default,
          (
            bits,
            behind_count,
            int_spelled (past_end pc) (pos n) behind_count f,
            (
              tt,
              behind_count,
              (ap (int_le (pos 0)) back ∙ not_below n, refl),
              (
                numbers,
                rest,
                subst (λ (z : ℤ). (repeated (unsigned_abs z) (key_operands pc)).spells behind_count numbers rest) (sym back) (all.2 pc p good.1.1.1 rest),
                (
                  tt,
                  rest,
                  (all.0, refl),
                  (ap (λ (z : ℤ). to ∷ z ∷ numbers) (sym back), refl),
                ),
              ),
            ),
          ),
        ),
      ) where
        not_below : (n : ℕ) → int_le (pos 0) (pos n) ≡ true
        not_below n = grind (arith, ints)

  behind_so : (default : List ℕ) (n : ℕ) (count : Option ℤ) (keys : Option (List Operand)) → IsSo (λ (z : ℤ). FitsSigned w32 z × (z ≡ pos n)) count → IsSo (AreKeys None n) keys
      → IsSo (IsRead form.LookupSwitch) (lookup_behind default count keys)
  unfolding lookup_behind
  behind_so default n None keys h k = tt
  behind_so default n (Some count) None h k = tt
  behind_so default n (Some count) (Some keys) h k =
      let same : pos n ≡ count = sym h.1 in
      subst (λ (z : ℤ). FitsSigned w32 z → IsRead form.LookupSwitch (lookup_operands default z keys)) same (λ f. lookup_read default n keys f k) h.0

  lookup_so : (words : List (List ℕ)) → IsSo (IsRead form.LookupSwitch) (lookup words)
  unfolding lookup
  lookup_so [] = tt
  lookup_so (default ∷ pairs) =
      let n : ℕ = length pairs / 2 in
      let count : Option ℤ = within (pos 0) greatest_int (Some (pos n)) in
      so_if (IsRead form.LookupSwitch) (is_name default) (lookup_behind default count (keys_above None pairs)) None
      (behind_so default n count (keys_above None pairs)
      (within_so (λ (z : ℤ). FitsSigned w32 z × (z ≡ pos n)) (pos 0) greatest_int (Some (pos n)) (λ z e l r. (fits_natural z l r, same z (pos n) e)))
      (keys_so None pairs)) tt where
        fits_natural : (z : ℤ) → int_le (pos 0) z ≡ true → int_le z greatest_int ≡ true → FitsSigned w32 z
        fits_natural z l r = grind (arith, ints)

        same : (a b : ℤ) → Some b ≡ Some a → a ≡ b
        same a b e = cc

  -- ---- by form

  nothing_so : (words : List (List ℕ)) → IsSo (IsRead form.Plain) (nothing words)
  unfolding nothing operands_part form_numbers
  nothing_so [] = λ missing pc p good rest. (refl, refl)
  nothing_so (word ∷ words) = tt

  index_so : (r : Row) (words : List (List ℕ)) → IsSo (IsRead form.Index) (index_operand r words)
  unfolding index_operand
  index_so row.PushConstant words = indexed (short_constant words) (a_constant words)
  index_so row.PushLong words = indexed (long_constant words) (a_long words)
  index_so row.GetStatic words = indexed (field_operand words) (a_field words)
  index_so row.PutStatic words = indexed (field_operand words) (a_field words)
  index_so row.GetField words = indexed (field_operand words) (a_field words)
  index_so row.PutField words = indexed (field_operand words) (a_field words)
  index_so (row.Invoke how) words = indexed (method_operand words) (a_method words)
  index_so row.New words = indexed (class_operand words) (a_class words)
  index_so row.NewReferenceArray words = indexed (class_operand words) (a_class words)
  index_so row.CheckCast words = indexed (class_operand words) (a_class words)
  index_so row.InstanceOf words = indexed (class_operand words) (a_class words)
  index_so _ words = unsigned_short_so words

  byte_so : (r : Row) (words : List (List ℕ)) → IsSo (IsRead form.Byte) (byte_operand r words)
  unfolding byte_operand
  byte_so row.PushConstant words = byte_constant_so words
  byte_so _ words = unsigned_byte_so words

  pub operands_so : (f : Form) (r : Row) (words : List (List ℕ)) → IsSo (IsRead f) (operands_of f r words)
  unfolding operands_of
  operands_so form.Plain r words = nothing_so words
  operands_so form.SignedByte r words = signed_byte_so words
  operands_so form.SignedShort r words = signed_short_so words
  operands_so form.Byte r words = byte_so r words
  operands_so form.Index r words = index_so r words
  operands_so form.Interface r words = interface_so words
  operands_so form.ArrayType r words = array_type_so words
  operands_so form.Dimensions r words = dimensions_so words
  operands_so form.Increment r words = increment_so words
  operands_so form.WideIncrement r words = wide_increment_so words
  operands_so form.Branch r words = target_so words
  operands_so form.FarBranch r words = far_target_so words
  operands_so form.TableSwitch r words = table_so words
  operands_so form.LookupSwitch r words = lookup_so words
  operands_so form.Wide r words = tt
  operands_so form.LeftOut r words = tt
  operands_so form.Unassigned r words = tt
