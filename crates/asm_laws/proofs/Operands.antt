-- The operands that words say are in range.
use Rattle.std.proofs.Common.{◌≡◌, refl, ℕ, ◌+◌, ◌^◌, ◌-◌, ◌/◌, List, [], ◌∷◌, ◌++◌, Bool, true, false, Some, None, Option, map, length, arith}
use Rattle.std.specs.Prelude.{ℤ, pos, ◌+ℤ◌, ◌-ℤ◌, int_le, ◌&&◌, option_map, if◌then◌else◌, nat_lt, FitsSigned, codes, is_some}
use Rattle.std.specs.Int.{w8, w16, w32, w64, cast_unsigned}
use Rattle.std.specs.List.{list_all}
use Rattle.std.specs.Str.{bytes_eq}
use Rattle.std.proofs.lemmas.Int.{ints}
use Rattle.class_grammar.specs.Descriptors.{MethodType, field_type_of, method_type_of}
use Rattle.jx_base.specs.declared.row.Form.{Form}
use Rattle.jx_base.specs.declared.row.Form.TheVariants as form
use Rattle.jx_base.specs.declared.row.Row.{Row}
use Rattle.jx_base.specs.declared.row.Row.TheVariants as row
use Rattle.class_texts.specs.Slots.{argument_slots}
use Rattle.asm_words.specs.Numbers.{number_of, within}
use Rattle.asm_words.specs.Quotes.{unquoted}
use Rattle.asm_words.proofs.QuoteLaws.{read_is_quoted}
use Rattle.asm_constants.specs.declared.content.Content.TheVariants as content
use Rattle.asm_constants.specs.declared.content.Reference.{Reference}
use Rattle.asm_constants.specs.declared.content.Reference.TheVariants as reference
use Rattle.asm_lines.specs.declared.line.Operand.{Operand}
use Rattle.asm_lines.specs.declared.line.Operand.TheVariants as operand
use Rattle.asm_lines.specs.Operands.{least_int, greatest_int, int_of, is_name, number_operand, signed_byte, signed_short, unsigned_byte, unsigned_short, then_operand, increment, wide_increment, class_operand, member_operand, field_operand, method_operand, count_operands, interface_operand, constant_of, byte_constant, short_constant, long_constant, element_type, array_type, dimensions, target, far_target, table_operands, table, is_above, with_key, keys_above, lookup_operands, lookup_behind, lookup, nothing, index_operand, byte_operand, operands_of}
use Rattle.asm_laws.specs.Tables.{AreUnits, IsRangedContent}
use Rattle.asm_laws.proofs.Ranges.{IsRangedOperand, AreRangedOperands, all_append}
use Rattle.asm_laws.proofs.Readable.{IsSo, so_if, so_mapped, AreWords}

abbrev pub AreSo : Option (List Operand) → Type 0
AreSo o = IsSo AreRangedOperands o

-- ---- numbers

-- a number within a range lies in it
within_so : (P : ℤ → Type 0) (low high : ℤ) (o : Option ℤ) → ((z : ℤ) → int_le low z ≡ true → int_le z high ≡ true → P z) → IsSo P (within low high o)
unfolding within
within_so P low high None h = tt
within_so P low high (Some z) h = elim (int_le low z) as (λ b. int_le low z ≡ b → IsSo P (if b && int_le z high then Some z else None)) [
  | true ↦ λ l. elim (int_le z high) as (λ b. int_le z high ≡ b → IsSo P (if b then Some z else None)) [ true ↦ λ r. h z l r | false ↦ λ r. tt ] refl
  | false ↦ λ l. tt
] refl

pub fits_int : (z : ℤ) → int_le least_int z ≡ true → int_le z greatest_int ≡ true → FitsSigned w32 z
fits_int z l r = grind (arith, ints)

fits_long : (z : ℤ) → int_le (pos 0 -ℤ pos (2 ^ 63)) z ≡ true → int_le z (pos (2 ^ 63 - 1)) ≡ true → FitsSigned w64 z
fits_long z l r = grind (arith, ints)

pub int_so : (word : List ℕ) → IsSo (FitsSigned w32) (int_of word)
unfolding int_of
int_so word = within_so (FitsSigned w32) least_int greatest_int (number_of word) fits_int

-- an operand that is no constant
number_so : (f : ℤ → Operand) → ((z : ℤ) → IsRangedOperand (f z)) → (low high : ℤ) (words : List (List ℕ)) → AreSo (number_operand low high f words)
unfolding number_operand
number_so f h low high (word ∷ []) = so_mapped (λ z. Unit {0}) AreRangedOperands (λ z. f z ∷ []) (within low high (number_of word)) (λ z u. (h z, tt)) (any (within low high (number_of word))) where
  any : (o : Option ℤ) → IsSo (λ z. Unit {0}) o
  any None = tt
  any (Some z) = tt
number_so f h low high _ = tt

signed_byte_so : (words : List (List ℕ)) → AreSo (signed_byte words)
unfolding signed_byte
signed_byte_so words = number_so (λ z. operand.Byte (cast_unsigned w8 z)) (λ z. tt) (pos 0 -ℤ pos 128) (pos 127) words

signed_short_so : (words : List (List ℕ)) → AreSo (signed_short words)
unfolding signed_short
signed_short_so words = number_so (λ z. operand.Short (cast_unsigned w16 z)) (λ z. tt) (pos 0 -ℤ pos 32768) (pos 32767) words

unsigned_byte_so : (words : List (List ℕ)) → AreSo (unsigned_byte words)
unfolding unsigned_byte
unsigned_byte_so words = number_so (λ z. operand.Byte (cast_unsigned w8 z)) (λ z. tt) (pos 0) (pos 255) words

unsigned_short_so : (words : List (List ℕ)) → AreSo (unsigned_short words)
unfolding unsigned_short
unsigned_short_so words = number_so (λ z. operand.Short (cast_unsigned w16 z)) (λ z. tt) (pos 0) (pos 65535) words

then_so : (o rest : Option (List Operand)) → AreSo o → AreSo rest → AreSo (then_operand o rest)
unfolding then_operand
then_so None rest h k = tt
then_so (Some operands) rest h k =
    so_mapped AreRangedOperands AreRangedOperands (λ more. operands ++ more) rest (λ more m. all_append IsRangedOperand operands more h m) k

increment_so : (words : List (List ℕ)) → AreSo (increment words)
unfolding increment
increment_so (local ∷ by ∷ []) = then_so (unsigned_byte (local ∷ [])) (signed_byte (by ∷ [])) (unsigned_byte_so (local ∷ [])) (signed_byte_so (by ∷ []))
increment_so _ = tt

wide_increment_so : (words : List (List ℕ)) → AreSo (wide_increment words)
unfolding wide_increment
wide_increment_so (local ∷ by ∷ []) = then_so (unsigned_short (local ∷ [])) (signed_short (by ∷ [])) (unsigned_short_so (local ∷ [])) (signed_short_so (by ∷ []))
wide_increment_so _ = tt

-- ---- constants

class_so : (words : List (List ℕ)) → AreWords words → AreSo (class_operand words)
unfolding class_operand
class_so (class ∷ []) h = so_if AreRangedOperands (is_name class) (Some (operand.Index (content.Class class) ∷ [])) None (h.0, tt) tt
class_so _ h = tt

member_so : (kind : Reference) (described : Bool) (class name descriptor : List ℕ) → AreUnits class → AreUnits name → AreUnits descriptor
    → AreSo (member_operand kind described class name descriptor)
unfolding member_operand
member_so kind described class name descriptor c n d =
    so_if AreRangedOperands (is_name class && is_name name && described) (Some (operand.Index (content.Member kind class name descriptor) ∷ [])) None ((c, n, d), tt) tt

field_so : (words : List (List ℕ)) → AreWords words → AreSo (field_operand words)
unfolding field_operand
field_so (class ∷ name ∷ descriptor ∷ []) h = member_so reference.Field (is_some (field_type_of descriptor)) class name descriptor h.0 h.1.0 h.1.1.0
field_so _ h = tt

method_so : (words : List (List ℕ)) → AreWords words → AreSo (method_operand words)
unfolding method_operand
method_so (class ∷ name ∷ descriptor ∷ []) h = member_so reference.Method (is_some (method_type_of descriptor)) class name descriptor h.0 h.1.0 h.1.1.0
method_so _ h = tt

count_so : (o : Option MethodType) → AreSo (count_operands o)
unfolding count_operands
count_so None = tt
count_so (Some m) = so_if AreRangedOperands (nat_lt (argument_slots m) 255) (Some (operand.Byte (argument_slots m + 1) ∷ operand.Byte 0 ∷ [])) None (tt, (tt, tt)) tt

interface_so : (words : List (List ℕ)) → AreWords words → AreSo (interface_operand words)
unfolding interface_operand
interface_so (class ∷ name ∷ descriptor ∷ []) h =
    then_so (member_operand reference.InterfaceMethod true class name descriptor) (count_operands (method_type_of descriptor))
    (member_so reference.InterfaceMethod true class name descriptor h.0 h.1.0 h.1.1.0) (count_so (method_type_of descriptor))
interface_so _ h = tt

quoted_so : (word : List ℕ) (o : Option (List ℕ)) → unquoted word ≡ o → IsSo AreUnits o
quoted_so word None e = tt
quoted_so word (Some units) e = (read_is_quoted word units e).are_units

constant_so : (words : List (List ℕ)) → IsSo IsRangedContent (constant_of words)
unfolding constant_of
constant_so (kind ∷ word ∷ []) =
    so_if IsRangedContent (bytes_eq kind (codes "int")) (option_map content.Integer (int_of word)) (if bytes_eq kind (codes "string") then option_map content.Str (unquoted word) else None)
    (so_mapped (FitsSigned w32) IsRangedContent content.Integer (int_of word) (λ z h. h) (int_so word))
    (so_if IsRangedContent (bytes_eq kind (codes "string")) (option_map content.Str (unquoted word)) None
    (so_mapped AreUnits IsRangedContent content.Str (unquoted word) (λ units h. h) (quoted_so word (unquoted word) refl)) tt)
constant_so _ = tt

byte_constant_so : (words : List (List ℕ)) → AreSo (byte_constant words)
unfolding byte_constant
byte_constant_so words = so_mapped IsRangedContent AreRangedOperands (λ c. operand.ByteIndex c ∷ []) (constant_of words) (λ c h. (h, tt)) (constant_so words)

short_constant_so : (words : List (List ℕ)) → AreSo (short_constant words)
unfolding short_constant
short_constant_so words = so_mapped IsRangedContent AreRangedOperands (λ c. operand.Index c ∷ []) (constant_of words) (λ c h. (h, tt)) (constant_so words)

long_constant_so : (words : List (List ℕ)) → AreSo (long_constant words)
unfolding long_constant
long_constant_so (kind ∷ word ∷ []) =
    let n : Option ℤ = within (pos 0 -ℤ pos (2 ^ 63)) (pos (2 ^ 63 - 1)) (number_of word) in
    so_if AreRangedOperands (bytes_eq kind (codes "long")) (option_map (λ z. operand.Index (content.Long z) ∷ []) n) None
    (so_mapped (FitsSigned w64) AreRangedOperands (λ z. operand.Index (content.Long z) ∷ []) n (λ z h. (h, tt))
    (within_so (FitsSigned w64) (pos 0 -ℤ pos (2 ^ 63)) (pos (2 ^ 63 - 1)) (number_of word) fits_long)) tt
long_constant_so _ = tt

array_type_so : (words : List (List ℕ)) → AreSo (array_type words)
unfolding array_type
array_type_so (word ∷ []) = any (element_type word) where
  any : (o : Option ℕ) → AreSo (option_map (λ n. operand.Byte n ∷ []) o)
  any None = tt
  any (Some n) = (tt, tt)
array_type_so _ = tt

dimensions_so : (words : List (List ℕ)) → AreWords words → AreSo (dimensions words)
unfolding dimensions
dimensions_so (class ∷ word ∷ []) h =
    then_so (class_operand (class ∷ [])) (number_operand (pos 1) (pos 255) (λ z. operand.Byte (cast_unsigned w8 z)) (word ∷ []))
    (class_so (class ∷ []) (h.0, tt)) (number_so (λ z. operand.Byte (cast_unsigned w8 z)) (λ z. tt) (pos 1) (pos 255) (word ∷ []))
dimensions_so _ h = tt

-- ---- labels

target_so : (words : List (List ℕ)) → AreSo (target words)
unfolding target
target_so (label ∷ []) = so_if AreRangedOperands (is_name label) (Some (operand.Target label ∷ [])) None (tt, tt) tt
target_so _ = tt

far_target_so : (words : List (List ℕ)) → AreSo (far_target words)
unfolding far_target
far_target_so (label ∷ []) = so_if AreRangedOperands (is_name label) (Some (operand.FarTarget label ∷ [])) None (tt, tt) tt
far_target_so _ = tt

labels_so : (labels : List (List ℕ)) → AreRangedOperands (map operand.FarTarget labels)
labels_so [] = tt
labels_so (label ∷ labels) = (tt, labels_so labels)

table_so : (words : List (List ℕ)) → AreSo (table words)
unfolding table table_operands
table_so (word ∷ default ∷ first ∷ labels) =
    so_if AreRangedOperands (list_all is_name (default ∷ first ∷ labels)) _ None (from (int_of word)) tt where
      high : (low : ℤ) (o : Option ℤ) → AreSo (option_map (λ high. table_operands default (first ∷ labels) low high) o)
      high low None = tt
      high low (Some h) = (tt, (tt, (tt, (tt, labels_so (first ∷ labels)))))

      from : (o : Option ℤ)
          → AreSo (elim o [ None ↦ None | Some low ↦ option_map (λ high. table_operands default (first ∷ labels) low high) (within least_int greatest_int (Some (low +ℤ pos (length labels)))) ])
      from None = tt
      from (Some low) = high low (within least_int greatest_int (Some (low +ℤ pos (length labels))))
table_so _ = tt

with_key_so : (key : ℤ) (label : List ℕ) (o : Option (List Operand)) → AreSo o → AreSo (with_key key label o)
unfolding with_key
with_key_so key label None h = tt
with_key_so key label (Some operands) h = (tt, (tt, h))

keys_so : (before : Option ℤ) (words : List (List ℕ)) → AreSo (keys_above before words)
unfolding keys_above
keys_so before [] = tt
keys_so before (word ∷ []) = tt
keys_so before (word ∷ label ∷ words) =
    elim (int_of word) as (λ o. AreSo (elim o [ None ↦ None | Some key ↦ if is_above before key && is_name label then with_key key label (keys_above (Some key) words) else None ])) [
      | None ↦ tt
      | Some key ↦
          so_if AreRangedOperands (is_above before key && is_name label) (with_key key label (keys_above (Some key) words)) None
          (with_key_so key label (keys_above (Some key) words) (keys_so (Some key) words)) tt
    ]

behind_so : (default : List ℕ) (count : Option ℤ) (keys : Option (List Operand)) → AreSo keys → AreSo (lookup_behind default count keys)
unfolding lookup_behind lookup_operands
behind_so default None keys h = tt
behind_so default (Some count) None h = tt
behind_so default (Some count) (Some keys) h = (tt, (tt, (tt, h)))

lookup_so : (words : List (List ℕ)) → AreSo (lookup words)
unfolding lookup
lookup_so [] = tt
lookup_so (default ∷ pairs) =
    let count : Option ℤ = within (pos 0) greatest_int (Some (pos (length pairs / 2))) in
    so_if AreRangedOperands (is_name default) (lookup_behind default count (keys_above None pairs)) None (behind_so default count (keys_above None pairs) (keys_so None pairs)) tt

-- ---- by form

nothing_so : (words : List (List ℕ)) → AreSo (nothing words)
unfolding nothing
nothing_so [] = tt
nothing_so (word ∷ words) = tt

index_so : (r : Row) (words : List (List ℕ)) → AreWords words → AreSo (index_operand r words)
unfolding index_operand
index_so row.PushConstant words h = short_constant_so words
index_so row.PushLong words h = long_constant_so words
index_so row.GetStatic words h = field_so words h
index_so row.PutStatic words h = field_so words h
index_so row.GetField words h = field_so words h
index_so row.PutField words h = field_so words h
index_so (row.Invoke how) words h = method_so words h
index_so row.New words h = class_so words h
index_so row.NewReferenceArray words h = class_so words h
index_so row.CheckCast words h = class_so words h
index_so row.InstanceOf words h = class_so words h
index_so _ words h = unsigned_short_so words

byte_so : (r : Row) (words : List (List ℕ)) → AreSo (byte_operand r words)
unfolding byte_operand
byte_so row.PushConstant words = byte_constant_so words
byte_so _ words = unsigned_byte_so words

pub operands_so : (f : Form) (r : Row) (words : List (List ℕ)) → AreWords words → AreSo (operands_of f r words)
unfolding operands_of
operands_so form.Plain r words h = nothing_so words
operands_so form.SignedByte r words h = signed_byte_so words
operands_so form.SignedShort r words h = signed_short_so words
operands_so form.Byte r words h = byte_so r words
operands_so form.Index r words h = index_so r words h
operands_so form.Interface r words h = interface_so words h
operands_so form.ArrayType r words h = array_type_so words
operands_so form.Dimensions r words h = dimensions_so words h
operands_so form.Increment r words h = increment_so words
operands_so form.WideIncrement r words h = wide_increment_so words
operands_so form.Branch r words h = target_so words
operands_so form.FarBranch r words h = far_target_so words
operands_so form.TableSwitch r words h = table_so words
operands_so form.LookupSwitch r words h = lookup_so words
operands_so form.Wide r words h = tt
operands_so form.LeftOut r words h = tt
operands_so form.Unassigned r words h = tt
