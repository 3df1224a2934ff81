-- The fields, methods and attributes of a class file (JVMS 4.5 to 4.7).
use Rattle.std.specs.Prelude.{ℕ, zero, suc, ◌+◌, Bool, ◌&&◌, ◌||◌, not, List, [], ◌∷◌, Option, Some, None, is_none, is_some, ◌==◌, nat_le, codes}
use Rattle.std.specs.Int.{w16, w32}
use Rattle.std.specs.Str.{bytes_eq}
use Rattle.class_grammar.specs.Flags.{is_abstract, is_native, is_synchronized}
use Rattle.class_grammar.specs.Parts.{Part, ◌>>=◌, ◌>>◌, either, repeated, enclosed, done, demand, known, meant, room, here, bytes_of, number}
use Rattle.class_grammar.specs.Constants.{class_fault, cut_off, text_at, names_class}
use Rattle.class_grammar.specs.Descriptors.{MethodType, IsFieldDescriptor, IsMethodDescriptor, field_type_of, method_type_of, is_floating, has_floating}
use Rattle.jx_base.specs.declared.class_file.Code.{Code}
use Rattle.jx_base.specs.declared.class_file.Constant.{Constant}
use Rattle.jx_base.specs.declared.class_file.Member.{Member}
use Rattle.jx_base.specs.declared.class_file.Range.{Range}
use Rattle.jx_base.specs.declared.fault.ClassFault.{ClassFault}
use Rattle.jx_base.specs.declared.fault.ClassKind.TheVariants as kind

-- In each part `size` is the file's length, or within an attribute the place of its end; `cut` is
-- the fault where bytes are missing, and `constants` are those of the class.

-- ---- names

-- an index of a text, which it means
unfoldable pub name_part : ℕ → ClassFault → List Constant → Part (List ℕ) ClassFault
name_part size cut constants = do
  at ← here size
  i ← number cut w16
  known (text_at constants i) (class_fault at kind.Index)

-- an index of a class
unfoldable pub class_index : ℕ → List Constant → Part ℕ ClassFault
class_index size constants = do
  at ← here size
  i ← number (cut_off size) w16
  demand (names_class constants i) (class_fault at kind.Index)
  done i

-- ---- attributes that are passed over

-- a name, a length, and so many bytes
unfoldable pub skipped_attribute : ℕ → ClassFault → List Constant → Part (List ℕ) ClassFault
skipped_attribute size cut constants = do
  name ← name_part size cut constants
  n ← number cut w32
  bytes ← bytes_of cut n
  done []

-- a number of attributes, and so many of them
unfoldable pub skipped_attributes : ℕ → ClassFault → List Constant → Part (List ℕ) ClassFault
skipped_attributes size cut constants = do
  n ← number cut w16
  repeated n (skipped_attribute size cut constants)

-- ---- code

-- 0, or the index of a class
unfoldable pub catches_class : List Constant → ℕ → Bool
catches_class constants i = (i == 0) || names_class constants i

-- an entry of the exception table
unfoldable pub range_part : ℕ → ClassFault → List Constant → Part (List Range) ClassFault
range_part size cut constants = do
  start ← number cut w16
  end ← number cut w16
  handler ← number cut w16
  at ← here size
  catch_type ← number cut w16
  demand (catches_class constants catch_type) (class_fault at kind.Index)
  done (record { start = start; end = end; handler = handler; catch_type = catch_type } ∷ [])

-- a number of entries, and so many of them
unfoldable pub table_part : ℕ → ClassFault → List Constant → Part (List Range) ClassFault
table_part size cut constants = do
  n ← number cut w16
  repeated n (range_part size cut constants)

-- what a Code holds; each fault of its own lengths is found at the attribute
unfoldable pub code_part : ℕ → ClassFault → List Constant → Part Code ClassFault
code_part size cut constants = do
  max_stack ← number cut w16
  max_locals ← number cut w16
  n ← number cut w32
  demand (nat_le 1 n && nat_le n 65535) cut
  at ← here size
  code ← bytes_of cut n
  table ← table_part size cut constants
  skipped_attributes size cut constants
  done (record {
    max_stack = max_stack;
    max_locals = max_locals;
    at = at;
    code = code;
    table = table;
  })

-- a Code that takes up so many bytes
unfoldable pub code_body : ℕ → ℕ → List Constant → ℕ → Part Code ClassFault
code_body size at constants n = do
  place ← here size
  enclosed n (class_fault at kind.Code) (code_part (place + n) (class_fault at kind.Code) constants)

-- ---- methods

-- the name of a method's code
unfoldable pub is_code_name : List ℕ → Bool
is_code_name name = bytes_eq name (codes "Code")

-- a method's attributes, so many of them, where the code that was found so far is given
unfoldable pub method_attributes : ℕ → List Constant → Bool → ℕ → Option Code
    → Part (Option Code) ClassFault
method_attributes size constants may_have zero code = done code
method_attributes size constants may_have (suc k) code = do
  at ← here size
  name ← name_part size (cut_off size) constants
  n ← number (cut_off size) w32
  room n (cut_off size)
  either (is_code_name name)
      (do
        demand (may_have && is_none code) (class_fault at kind.Code)
        found ← code_body size at constants n
        method_attributes size constants may_have k (Some found))
      (do
        bytes ← bytes_of (cut_off size) n
        method_attributes size constants may_have k code)

-- whether the profile has such a method: no floats, no native or synchronized ones, and in an
-- interface none with code but the initialiser
unfoldable pub is_supported_method : Bool → ℕ → List ℕ → MethodType → Bool
is_supported_method interface flags name type =
    not (has_floating type) && not (is_native flags) && not (is_synchronized flags)
    && (not interface || is_abstract flags || bytes_eq name (codes "<clinit>"))

unfoldable pub method_part : ℕ → List Constant → Bool → Part (List Member) ClassFault
method_part size constants interface = do
  at ← here size
  flags ← number (cut_off size) w16
  name ← name_part size (cut_off size) constants
  descriptor_at ← here size
  descriptor ← name_part size (cut_off size) constants
  type ← meant (IsMethodDescriptor descriptor) (method_type_of descriptor)
      (class_fault descriptor_at kind.Descriptor)
  demand (is_supported_method interface flags name type) (class_fault at kind.Unsupported)
  n ← number (cut_off size) w16
  code ← method_attributes size constants (not (is_abstract flags)) n None
  demand (is_abstract flags || is_some code) (class_fault at kind.Code)
  done (record { flags = flags; name = name; descriptor = descriptor; code = code } ∷ [])

-- ---- fields

unfoldable pub field_part : ℕ → List Constant → Part (List Member) ClassFault
field_part size constants = do
  at ← here size
  flags ← number (cut_off size) w16
  name ← name_part size (cut_off size) constants
  descriptor_at ← here size
  descriptor ← name_part size (cut_off size) constants
  type ← meant (IsFieldDescriptor descriptor) (field_type_of descriptor)
      (class_fault descriptor_at kind.Descriptor)
  demand (not (is_floating type)) (class_fault at kind.Unsupported)
  skipped_attributes size (cut_off size) constants
  done (record { flags = flags; name = name; descriptor = descriptor; code = None } ∷ [])

-- what a computed case opens
unfoldable pub opened_members : Unit {0}
unfolding name_part class_index skipped_attribute skipped_attributes catches_class range_part
    table_part code_part code_body is_code_name method_attributes is_supported_method method_part
    field_part
opened_members = tt
