-- The constants of a class file (JVMS 4.4).
use Rattle.std.specs.Prelude.{ℕ, zero, suc, ◌+◌, Bool, true, false, ◌&&◌, not, List, [], ◌∷◌, Option, Some, None, ◌==◌, if◌then◌else◌, slice_get, slice_index_or, length}
use Rattle.std.specs.Int.{w8, w16, w32, w64, cast_signed}
use Rattle.class_grammar.specs.Parts.{Part, ◌>>=◌, ◌>>◌, either, done, demand, known, meant, here, bytes_of, number}
use Rattle.class_grammar.specs.ModifiedUtf8.{IsModifiedUtf8, text_of_bytes, modified_utf8}
use Rattle.jx_base.specs.declared.class_file.Constant.{Constant}
use Rattle.jx_base.specs.declared.class_file.Constant.TheVariants as constant
use Rattle.jx_base.specs.declared.constant_tag.ConstantTag.{ConstantTag}
use Rattle.jx_base.specs.declared.constant_tag.ConstantTag.TheVariants as tag
use Rattle.jx_base.specs.declared.fault.ClassFault.{ClassFault}
use Rattle.jx_base.specs.declared.fault.ClassKind.{ClassKind}
use Rattle.jx_base.specs.declared.fault.ClassKind.TheVariants as kind

-- a fault at a place
abbrev pub class_fault : ℕ → ClassKind → ClassFault
class_fault at kind = record { at = at; kind = kind }

-- the fault of a file that is cut off, which is found at the file's length
abbrev pub cut_off : ℕ → ClassFault
cut_off size = class_fault size kind.Truncated

-- ---- tags

-- by number, from 0 on
unfoldable pub constant_tags : List (Option ConstantTag)
constant_tags =
    None ∷ Some tag.Utf8 ∷ None ∷ Some tag.Integer ∷ Some tag.Float ∷ Some tag.Long
    ∷ Some tag.Double ∷ Some tag.Class ∷ Some tag.Str ∷
    Some tag.Field ∷ Some tag.Method ∷ Some tag.InterfaceMethod ∷ Some tag.NameAndType ∷ None ∷ None
    ∷ Some tag.MethodHandle ∷
    Some tag.MethodType ∷ None ∷ Some tag.InvokeDynamic ∷ []

-- the tag of that number
unfoldable pub tag_of : ℕ → Option ConstantTag
tag_of n = slice_index_or constant_tags n None

-- ---- one constant

-- two numbers of two bytes
unfoldable pub index_pair : ℕ → Part (ℕ × ℕ) ClassFault
index_pair size = do
  first ← number (cut_off size) w16
  second ← number (cut_off size) w16
  done (first, second)

-- a text: the number of its bytes, and its bytes in modified UTF-8
unfoldable pub utf8_body : ℕ → ℕ → Part Constant ClassFault
utf8_body size at = do
  n ← number (cut_off size) w16
  bytes ← bytes_of (cut_off size) n
  text ← meant (IsModifiedUtf8 bytes) (text_of_bytes bytes) (class_fault at kind.Utf8)
  done (constant.Utf8 text)

-- a constant that is passed over: its tag, and so many bytes
unfoldable pub skipped_body : ℕ → ℕ → ℕ → Part Constant ClassFault
skipped_body size number n = do
  bytes ← bytes_of (cut_off size) n
  done (constant.Skipped number)

-- what stands behind a tag, which is at a place
unfoldable pub constant_body : ℕ → ℕ → ConstantTag → Part Constant ClassFault
constant_body size at tag.Utf8 = utf8_body size at
constant_body size at tag.Integer =
    number (cut_off size) w32 >>= λ n. done (constant.Integer (cast_signed w32 n))
constant_body size at tag.Float = skipped_body size 4 4
constant_body size at tag.Long =
    number (cut_off size) w64 >>= λ n. done (constant.Long (cast_signed w64 n))
constant_body size at tag.Double = skipped_body size 6 8
constant_body size at tag.Class = number (cut_off size) w16 >>= λ n. done (constant.Class n)
constant_body size at tag.Str = number (cut_off size) w16 >>= λ n. done (constant.Str n)
constant_body size at tag.Field = index_pair size >>= λ x. done (constant.Field x.0 x.1)
constant_body size at tag.Method = index_pair size >>= λ x. done (constant.Method x.0 x.1)
constant_body size at tag.InterfaceMethod =
    index_pair size >>= λ x. done (constant.InterfaceMethod x.0 x.1)
constant_body size at tag.NameAndType = index_pair size >>= λ x. done (constant.NameAndType x.0 x.1)
constant_body size at tag.MethodHandle = skipped_body size 15 3
constant_body size at tag.MethodType = skipped_body size 16 2
constant_body size at tag.InvokeDynamic = skipped_body size 18 4

-- a constant: its tag, and what stands behind it
unfoldable pub constant_part : ℕ → Part Constant ClassFault
constant_part size = do
  at ← here size
  n ← number (cut_off size) w8
  t ← known (tag_of n) (class_fault at kind.Tag)
  constant_body size at t

-- ---- all constants

-- a Long or Double, which takes two indices
unfoldable pub is_double_width : Constant → Bool
is_double_width (constant.Long n) = true
is_double_width (constant.Skipped n) = n == 6
is_double_width _ = false

-- constants that take up so many indices
unfoldable pub constants_part : ℕ → ℕ → Part (List Constant) ClassFault
constants_part size zero = done []
constants_part size (suc zero) = do
  at ← here size
  c ← constant_part size
  demand (not (is_double_width c)) (class_fault at kind.Index)
  done (c ∷ [])
constants_part size (suc (suc n)) = do
  c ← constant_part size
  either (is_double_width c)
      (constants_part size n >>= λ cs. done (c ∷ constant.Unusable ∷ cs))
      (constants_part size (suc n) >>= λ cs. done (c ∷ cs))

-- ---- what constants name

unfoldable pub text_of_constant : Option Constant → Option (List ℕ)
text_of_constant (Some (constant.Utf8 text)) = Some text
text_of_constant _ = None

-- the text at an index, if a Utf8 is there
unfoldable pub text_at : List Constant → ℕ → Option (List ℕ)
text_at constants i = text_of_constant (slice_get constants i)

unfoldable pub is_text : Option Constant → Bool
is_text (Some (constant.Utf8 text)) = true
is_text _ = false

unfoldable pub is_class : Option Constant → Bool
is_class (Some (constant.Class n)) = true
is_class _ = false

unfoldable pub is_name_and_type : Option Constant → Bool
is_name_and_type (Some (constant.NameAndType n d)) = true
is_name_and_type _ = false

-- whether a Class, or a Utf8, is at the index
unfoldable pub names_class : List Constant → ℕ → Bool
names_class constants i = is_class (slice_get constants i)

unfoldable pub names_text : List Constant → ℕ → Bool
names_text constants i = is_text (slice_get constants i)

-- whether a Class and a NameAndType are at the two indices
unfoldable pub names_member : List Constant → ℕ → ℕ → Bool
names_member constants c n = names_class constants c && is_name_and_type (slice_get constants n)

-- whether each index of a constant names one of the tag that is needed
unfoldable pub names_rightly : List Constant → Constant → Bool
names_rightly constants (constant.Class n) = names_text constants n
names_rightly constants (constant.Str n) = names_text constants n
names_rightly constants (constant.Field c n) = names_member constants c n
names_rightly constants (constant.Method c n) = names_member constants c n
names_rightly constants (constant.InterfaceMethod c n) = names_member constants c n
names_rightly constants (constant.NameAndType n d) =
    names_text constants n && names_text constants d
names_rightly constants _ = true

-- how many bytes a constant that is passed over takes up
unfoldable pub skipped_length : ℕ → ℕ
skipped_length n =
    if n == 4 then 5 else if n == 6 then 9 else if n == 15 then 4 else if n == 16 then 3 else 5

-- how many bytes a constant takes up, its tag included
unfoldable pub constant_length : Constant → ℕ
constant_length constant.Unusable = 0
constant_length (constant.Utf8 text) = 3 + length (modified_utf8 text)
constant_length (constant.Integer n) = 5
constant_length (constant.Long n) = 9
constant_length (constant.Class n) = 3
constant_length (constant.Str n) = 3
constant_length (constant.Field c n) = 5
constant_length (constant.Method c n) = 5
constant_length (constant.InterfaceMethod c n) = 5
constant_length (constant.NameAndType n d) = 5
constant_length (constant.Skipped n) = skipped_length n

-- the fault of the first of some constants, which stand at a place, that does not name rightly
unfoldable pub misnaming_fault : List Constant → ℕ → List Constant → Option ClassFault
misnaming_fault constants at [] = None
misnaming_fault constants at (c ∷ cs) =
    if names_rightly constants c then misnaming_fault constants (at + constant_length c) cs
    else Some (class_fault at kind.Index)

-- what a computed case opens
unfoldable pub opened_constants : Unit {0}
unfolding constant_tags tag_of index_pair utf8_body skipped_body constant_body constant_part
    is_double_width constants_part text_of_constant text_at is_text is_class is_name_and_type
    names_class names_text names_member names_rightly skipped_length constant_length misnaming_fault
opened_constants = tt
