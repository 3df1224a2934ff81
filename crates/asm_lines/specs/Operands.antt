-- The operands of an instruction, as words say them: by the form of the opcode, and by what it does.
use Rattle.std.specs.Prelude.{map, ℕ, ◌+◌, ◌-◌, ◌^◌, ◌/◌, ℤ, pos, ◌+ℤ◌, ◌-ℤ◌, int_lt, Bool, true, false, ◌&&◌, not, if◌then◌else◌, List, [], ◌∷◌, ◌++◌, length, Option, Some, None, option_map, is_some, nat_lt, ◌==◌, codes}
use Rattle.std.specs.Int.{cast_unsigned, w8, w16}
use Rattle.std.specs.List.{list_all}
use Rattle.std.specs.Str.{bytes_eq}
use Rattle.class_grammar.specs.Descriptors.{MethodType, field_type_of, method_type_of}
use Rattle.jx_base.specs.declared.row.Form.{Form}
use Rattle.jx_base.specs.declared.row.Form.TheVariants as form
use Rattle.jx_base.specs.declared.row.Row.{Row}
use Rattle.jx_base.specs.declared.row.Row.TheVariants as row
use Rattle.class_texts.specs.Slots.{argument_slots}
use Rattle.asm_words.specs.Words.{quote}
use Rattle.asm_words.specs.Numbers.{number_of, within}
use Rattle.asm_words.specs.Quotes.{unquoted}
use Rattle.asm_constants.specs.declared.content.Content.{Content}
use Rattle.asm_constants.specs.declared.content.Content.TheVariants as content
use Rattle.asm_constants.specs.declared.content.Reference.{Reference}
use Rattle.asm_constants.specs.declared.content.Reference.TheVariants as reference
use Rattle.asm_lines.specs.declared.line.Operand.{Operand}
use Rattle.asm_lines.specs.declared.line.Operand.TheVariants as operand

-- the operands that words say, if they say some
abbrev pub Reading : Type 0
Reading = List (List ℕ) → Option (List Operand)

-- the least and the greatest number of 32 bits with a sign
abbrev pub least_int : ℤ
least_int = pos 0 -ℤ pos (2 ^ 31)

abbrev pub greatest_int : ℤ
greatest_int = pos (2 ^ 31 - 1)

-- an int
unfoldable pub int_of : List ℕ → Option ℤ
int_of word = within least_int greatest_int (number_of word)

-- a name: any word that isn't empty and begins with no quote
unfoldable pub is_name : List ℕ → Bool
is_name [] = false
is_name (u ∷ units) = not (u == quote)

-- ---- numbers

-- one number in a range
unfoldable pub number_operand : ℤ → ℤ → (ℤ → Operand) → Reading
number_operand low high operand (word ∷ []) = option_map (λ z. operand z ∷ []) (within low high (number_of word))
number_operand low high operand _ = None

unfoldable pub signed_byte : Reading
signed_byte words = number_operand (pos 0 -ℤ pos 128) (pos 127) (λ z. operand.Byte (cast_unsigned w8 z)) words

unfoldable pub signed_short : Reading
signed_short words = number_operand (pos 0 -ℤ pos 32768) (pos 32767) (λ z. operand.Short (cast_unsigned w16 z)) words

unfoldable pub unsigned_byte : Reading
unsigned_byte words = number_operand (pos 0) (pos 255) (λ z. operand.Byte (cast_unsigned w8 z)) words

unfoldable pub unsigned_short : Reading
unsigned_short words = number_operand (pos 0) (pos 65535) (λ z. operand.Short (cast_unsigned w16 z)) words

-- one operand in front of others
unfoldable pub then_operand : Option (List Operand) → Option (List Operand) → Option (List Operand)
then_operand None rest = None
then_operand (Some operands) rest = option_map (λ more. operands ++ more) rest

-- a local, and what is added to it
unfoldable pub increment : Reading
increment (local ∷ by ∷ []) = then_operand (unsigned_byte (local ∷ [])) (signed_byte (by ∷ []))
increment _ = None

unfoldable pub wide_increment : Reading
wide_increment (local ∷ by ∷ []) = then_operand (unsigned_short (local ∷ [])) (signed_short (by ∷ []))
wide_increment _ = None

-- ---- constants

unfoldable pub class_operand : Reading
class_operand (class ∷ []) = if is_name class then Some (operand.Index (content.Class class) ∷ []) else None
class_operand _ = None

-- the reference to a member of a class, where the descriptor is one
unfoldable pub member_operand : Reference → Bool → List ℕ → List ℕ → List ℕ → Option (List Operand)
member_operand kind described class name descriptor =
    if is_name class && is_name name && described then Some (operand.Index (content.Member kind class name descriptor) ∷ []) else None

unfoldable pub field_operand : Reading
field_operand (class ∷ name ∷ descriptor ∷ []) = member_operand reference.Field (is_some (field_type_of descriptor)) class name descriptor
field_operand _ = None

unfoldable pub method_operand : Reading
method_operand (class ∷ name ∷ descriptor ∷ []) = member_operand reference.Method (is_some (method_type_of descriptor)) class name descriptor
method_operand _ = None

-- the slots of the arguments with that of the receiver, and a zero
unfoldable pub count_operands : Option MethodType → Option (List Operand)
count_operands None = None
count_operands (Some m) = if nat_lt (argument_slots m) 255 then Some (operand.Byte (argument_slots m + 1) ∷ operand.Byte 0 ∷ []) else None

unfoldable pub interface_operand : Reading
interface_operand (class ∷ name ∷ descriptor ∷ []) =
    then_operand (member_operand reference.InterfaceMethod true class name descriptor) (count_operands (method_type_of descriptor))
interface_operand _ = None

-- an int or a text
unfoldable pub constant_of : List (List ℕ) → Option Content
constant_of (kind ∷ word ∷ []) =
    if bytes_eq kind (codes "int") then option_map content.Integer (int_of word)
    else if bytes_eq kind (codes "string") then option_map content.Str (unquoted word) else None
constant_of _ = None

unfoldable pub byte_constant : Reading
byte_constant words = option_map (λ c. operand.ByteIndex c ∷ []) (constant_of words)

unfoldable pub short_constant : Reading
short_constant words = option_map (λ c. operand.Index c ∷ []) (constant_of words)

unfoldable pub long_constant : Reading
long_constant (kind ∷ word ∷ []) =
    if bytes_eq kind (codes "long")
    then option_map (λ z. operand.Index (content.Long z) ∷ []) (within (pos 0 -ℤ pos (2 ^ 63)) (pos (2 ^ 63 - 1)) (number_of word)) else None
long_constant _ = None

-- the number of the type of an array's elements
unfoldable pub element_type : List ℕ → Option ℕ
element_type word =
    if bytes_eq word (codes "boolean") then Some 4
    else if bytes_eq word (codes "char") then Some 5
    else if bytes_eq word (codes "byte") then Some 8
    else if bytes_eq word (codes "short") then Some 9
    else if bytes_eq word (codes "int") then Some 10
    else if bytes_eq word (codes "long") then Some 11 else None

unfoldable pub array_type : Reading
array_type (word ∷ []) = option_map (λ n. operand.Byte n ∷ []) (element_type word)
array_type _ = None

-- a class, and one dimension or more
unfoldable pub dimensions : Reading
dimensions (class ∷ word ∷ []) =
    then_operand (class_operand (class ∷ [])) (number_operand (pos 1) (pos 255) (λ z. operand.Byte (cast_unsigned w8 z)) (word ∷ []))
dimensions _ = None

-- ---- labels

unfoldable pub target : Reading
target (label ∷ []) = if is_name label then Some (operand.Target label ∷ []) else None
target _ = None

unfoldable pub far_target : Reading
far_target (label ∷ []) = if is_name label then Some (operand.FarTarget label ∷ []) else None
far_target _ = None

-- the default, the least and the greatest key, and the labels of the keys from the one to the other
unfoldable pub table_operands : List ℕ → List (List ℕ) → ℤ → ℤ → List Operand
table_operands default labels low high =
    operand.Padding ∷ operand.FarTarget default ∷ operand.Int low ∷ operand.Int high ∷ map operand.FarTarget labels

-- the least key, the default, and one label or more
unfoldable pub table : Reading
table (word ∷ default ∷ first ∷ labels) =
    if list_all is_name (default ∷ first ∷ labels)
    then elim (int_of word) [
      | None ↦ None
      | Some low ↦
          option_map (λ high. table_operands default (first ∷ labels) low high) (within least_int greatest_int (Some (low +ℤ pos (length labels))))
    ] else None
table _ = None

-- whether a key is above the one before it
unfoldable pub is_above : Option ℤ → ℤ → Bool
is_above None key = true
is_above (Some before) key = int_lt before key

-- a key and its label in front of others
unfoldable pub with_key : ℤ → List ℕ → Option (List Operand) → Option (List Operand)
with_key key label rest = option_map (λ operands. operand.Int key ∷ operand.FarTarget label ∷ operands) rest

-- keys that rise, the first one above that one, and their labels
unfoldable pub keys_above : Option ℤ → Reading
keys_above before [] = Some []
keys_above before (word ∷ []) = None
keys_above before (word ∷ label ∷ words) =
    elim (int_of word) [
      | None ↦ None
      | Some key ↦ if is_above before key && is_name label then with_key key label (keys_above (Some key) words) else None
    ]

-- the default, how many keys there are, and each with its label
unfoldable pub lookup_operands : List ℕ → ℤ → List Operand → List Operand
lookup_operands default count keys = operand.Padding ∷ operand.FarTarget default ∷ operand.Int count ∷ keys

-- what stands behind the default: so many keys
unfoldable pub lookup_behind : List ℕ → Option ℤ → Option (List Operand) → Option (List Operand)
lookup_behind default None keys = None
lookup_behind default (Some count) keys = option_map (lookup_operands default count) keys

-- the default, and keys with their labels, as many as a number of 32 bits can say
unfoldable pub lookup : Reading
lookup [] = None
lookup (default ∷ pairs) =
    if is_name default then lookup_behind default (within (pos 0) greatest_int (Some (pos (length pairs / 2)))) (keys_above None pairs) else None

-- ---- by form

-- no operand
unfoldable pub nothing : Reading
nothing [] = Some []
nothing (word ∷ words) = None

-- an index: what it names goes by what the opcode does, and it is a local elsewhere
unfoldable pub index_operand : Row → Reading
index_operand row.PushConstant words = short_constant words
index_operand row.PushLong words = long_constant words
index_operand row.GetStatic words = field_operand words
index_operand row.PutStatic words = field_operand words
index_operand row.GetField words = field_operand words
index_operand row.PutField words = field_operand words
index_operand (row.Invoke how) words = method_operand words
index_operand row.New words = class_operand words
index_operand row.NewReferenceArray words = class_operand words
index_operand row.CheckCast words = class_operand words
index_operand row.InstanceOf words = class_operand words
index_operand _ words = unsigned_short words

-- a byte: the index of a constant, or a local
unfoldable pub byte_operand : Row → Reading
byte_operand row.PushConstant words = byte_constant words
byte_operand _ words = unsigned_byte words

-- the operands of an opcode of that form, which does that
unfoldable pub operands_of : Form → Row → Reading
operands_of form.Plain r words = nothing words
operands_of form.SignedByte r words = signed_byte words
operands_of form.SignedShort r words = signed_short words
operands_of form.Byte r words = byte_operand r words
operands_of form.Index r words = index_operand r words
operands_of form.Interface r words = interface_operand words
operands_of form.ArrayType r words = array_type words
operands_of form.Dimensions r words = dimensions words
operands_of form.Increment r words = increment words
operands_of form.WideIncrement r words = wide_increment words
operands_of form.Branch r words = target words
operands_of form.FarBranch r words = far_target words
operands_of form.TableSwitch r words = table words
operands_of form.LookupSwitch r words = lookup words
operands_of form.Wide r words = None
operands_of form.LeftOut r words = None
operands_of form.Unassigned r words = None
