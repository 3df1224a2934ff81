-- Class files (JVMS 4.1): which bytes are one, which class file they are, and the first fault of
-- those that are none.
use Rattle.std.specs.Prelude.{ℕ, ◌-◌, ◌<◌, ◌^◌, Option, Some, None, Bool, ◌&&◌, List, [], ◌∷◌, length, ◌==◌, nat_le, nat_lt}
use Rattle.std.specs.Int.{w16, w32}
use Rattle.std.specs.List.{AllByRecursion}
use Rattle.class_grammar.specs.Flags.{is_interface_flag}
use Rattle.class_grammar.specs.Parts.{Part, ◌>>=◌, ◌>>◌, repeated, done, demand, no_fault, at_end, here, number}
use Rattle.class_grammar.specs.Constants.{class_fault, cut_off, constants_part, misnaming_fault}
use Rattle.class_grammar.specs.Members.{class_index, skipped_attributes, field_part, method_part}
use Rattle.jx_base.specs.declared.class_file.ClassFile.{ClassFile}
use Rattle.jx_base.specs.declared.class_file.Code.{Code}
use Rattle.jx_base.specs.declared.class_file.Constant.{Constant}
use Rattle.jx_base.specs.declared.class_file.Constant.TheVariants as constant
use Rattle.jx_base.specs.declared.class_file.Member.{Member}
use Rattle.jx_base.specs.declared.fault.ClassFault.{ClassFault}
use Rattle.jx_base.specs.declared.fault.ClassKind.{ClassKind}
use Rattle.jx_base.specs.declared.fault.ClassKind.TheVariants as kind

-- what stands in front of the constants: the minor and the major version
pub record Version : Type 0 where
  pub minor : ℕ
  pub major : ℕ

unfoldable pub version_part : ℕ → Part Version ClassFault
version_part size = do
  magic ← number (cut_off size) w32
  demand (magic == 0xCAFEBABE) (class_fault 0 kind.Magic)
  minor ← number (cut_off size) w16
  major ← number (cut_off size) w16
  demand (nat_le 45 major && nat_le major 52) (class_fault 6 kind.Version)
  done (record { minor = minor; major = major })

-- the place of the first constant
abbrev pub first_constant : ℕ
first_constant = 10

-- the constants by index; each of them names constants of the tags that it needs
unfoldable pub pool_part : ℕ → Part (List Constant) ClassFault
pool_part size = do
  count ← number (cut_off size) w16
  demand (nat_lt 0 count) (class_fault 8 kind.Index)
  constants ← constants_part size (count - 1)
  no_fault (misnaming_fault (constant.Unusable ∷ constants) first_constant constants)
  done (constant.Unusable ∷ constants)

-- what stands behind the constants, up to the interfaces
pub record Heading : Type 0 where
  pub flags : ℕ
  pub this_class : ℕ
  pub super_class : ℕ
  pub interfaces : List ℕ

unfoldable pub interface_part : ℕ → List Constant → Part (List ℕ) ClassFault
interface_part size constants = class_index size constants >>= λ i. done (i ∷ [])

unfoldable pub heading_part : ℕ → List Constant → Part Heading ClassFault
heading_part size constants = do
  flags ← number (cut_off size) w16
  this_class ← class_index size constants
  super_class ← class_index size constants
  n ← number (cut_off size) w16
  interfaces ← repeated n (interface_part size constants)
  done (record {
    flags = flags;
    this_class = this_class;
    super_class = super_class;
    interfaces = interfaces;
  })

unfoldable pub fields_part : ℕ → List Constant → Part (List Member) ClassFault
fields_part size constants =
    number (cut_off size) w16 >>= λ n. repeated n (field_part size constants)

unfoldable pub methods_part : ℕ → List Constant → Bool → Part (List Member) ClassFault
methods_part size constants interface =
    number (cut_off size) w16 >>= λ n. repeated n (method_part size constants interface)

-- a whole file of that length, with nothing behind it
unfoldable pub class_file_part : ℕ → Part ClassFile ClassFault
class_file_part size = do
  version ← version_part size
  constants ← pool_part size
  heading ← heading_part size constants
  fields ← fields_part size constants
  methods ← methods_part size constants (is_interface_flag heading.flags)
  skipped_attributes size (cut_off size) constants
  at ← here size
  at_end (class_fault at kind.Trailing)
  done (record {
    minor = version.minor;
    major = version.major;
    constants = constants;
    flags = heading.flags;
    this_class = heading.this_class;
    super_class = heading.super_class;
    interfaces = heading.interfaces;
    fields = fields;
    methods = methods;
  })

-- the bytes are this class file
abbrev pub IsClassFile : List ℕ → ClassFile → Type 0
IsClassFile bytes file = (class_file_part (length bytes)).spells bytes file []

-- the bytes are none, and the first fault is of that kind, at that place
abbrev pub IsClassFault : List ℕ → ℕ → ClassKind → Type 0
IsClassFault bytes at kind = (class_file_part (length bytes)).fails bytes (class_fault at kind)

-- fewer than 2^16 bytes of code, where there is code
abbrev pub IsShortCode : Option Code → Type 0
IsShortCode None = Unit {0}
IsShortCode (Some c) = length c.code < 2 ^ 16

-- so it is of each method
abbrev pub HasShortCodes : List Member → Type 0
HasShortCodes methods = AllByRecursion (λ m. IsShortCode m.code) methods

-- what a computed case opens
unfoldable pub opened_class_grammar : Unit {0}
unfolding version_part pool_part interface_part heading_part fields_part methods_part
    class_file_part
opened_class_grammar = tt
