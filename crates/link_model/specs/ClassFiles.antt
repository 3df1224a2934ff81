-- Names in a class file, and what its instructions use its constants as.
use Rattle.std.specs.Prelude.{ℕ, true, false, not, List, [], ◌∷◌, ◌++◌, Option, Some, None, ◌==◌, map, filter, flat_map, slice_get}
use Rattle.std.specs.List.{filter_map}
use Rattle.jx_base.specs.declared.class_file.ClassFile.{ClassFile}
use Rattle.jx_base.specs.declared.class_file.Code.{Code}
use Rattle.jx_base.specs.declared.class_file.Constant.{Constant}
use Rattle.jx_base.specs.declared.class_file.Constant.TheVariants as constant
use Rattle.jx_base.specs.declared.class_file.Instr.{Instr}
use Rattle.jx_base.specs.declared.class_file.Member.{Member}
use Rattle.jx_base.specs.declared.program.Selector.{Selector}
use Rattle.jx_base.specs.declared.row.Row.{Row}
use Rattle.jx_base.specs.declared.row.Row.TheVariants as row
use Rattle.link_model.specs.declared.uses.Use.{Use}
use Rattle.link_model.specs.declared.uses.Use.TheVariants.{AsWord, AsLong, AsField, AsMethod, AsNew, AsClass, AsArray}
use Rattle.link_model.specs.declared.uses.Used.{Used}
use Rattle.program_model.specs.Types.{element_type}
use Rattle.class_grammar.specs.Opcodes.{row_at}
use Rattle.program_model.specs.Instructions.{index_operand, instructions_of}
use Rattle.program_model.specs.Lookup.{type_of_name}
use Rattle.std.specs.Option.{option_map}

-- ---- names

-- the constant of an index
unfoldable pub constant_in : ClassFile → ℕ → Constant
constant_in f i = elim (slice_get f.constants i) [ None ↦ constant.Unusable | Some c ↦ c ]

-- the text of a Utf8
unfoldable pub text_of_constant : Constant → List ℕ
text_of_constant (constant.Utf8 text) = text
text_of_constant _ = []

-- the text at an index
unfoldable pub text_in : ClassFile → ℕ → List ℕ
text_in f i = text_of_constant (constant_in f i)

-- the name that a Class constant has
unfoldable pub name_of_constant : ClassFile → Constant → List ℕ
name_of_constant f (constant.Class n) = text_in f n
name_of_constant f _ = []

-- the name of the class at an index
unfoldable pub class_name_in : ClassFile → ℕ → List ℕ
class_name_in f i = name_of_constant f (constant_in f i)

-- the name and descriptor of a NameAndType
unfoldable pub selector_of_constant : ClassFile → Constant → Selector
selector_of_constant f (constant.NameAndType n d) = record { name = text_in f n; descriptor = text_in f d }
selector_of_constant f _ = record { name = []; descriptor = [] }

-- the name and descriptor at an index
unfoldable pub selector_in : ClassFile → ℕ → Selector
selector_in f i = selector_of_constant f (constant_in f i)

-- the name and descriptor of a field or a method
unfoldable pub member_selector : Member → Selector
member_selector m = record { name = m.name; descriptor = m.descriptor }

-- the class's own name
unfoldable pub this_name : ClassFile → List ℕ
this_name f = class_name_in f f.this_class

-- its super's name
unfoldable pub super_name : ClassFile → List ℕ
super_name f = class_name_in f f.super_class

-- the names of its interfaces
unfoldable pub interface_names : ClassFile → List (List ℕ)
interface_names f = map (class_name_in f) f.interfaces

-- the class that a constant names: itself, or that of a field or a method
unfoldable pub class_of_constant : ClassFile → Constant → Option (List ℕ)
class_of_constant f (constant.Class n) = Some (text_in f n)
class_of_constant f (constant.Field c x) = Some (class_name_in f c)
class_of_constant f (constant.Method c x) = Some (class_name_in f c)
class_of_constant f (constant.InterfaceMethod c x) = Some (class_name_in f c)
class_of_constant f _ = None

-- the name and descriptor of the field or method that a constant names
unfoldable pub member_of_constant : ClassFile → Constant → Selector
member_of_constant f (constant.Field c x) = selector_in f x
member_of_constant f (constant.Method c x) = selector_in f x
member_of_constant f (constant.InterfaceMethod c x) = selector_in f x
member_of_constant f _ = record { name = []; descriptor = [] }

-- ---- uses

-- what an instruction of a row uses a constant as
unfoldable pub use_by : Row → Instr → Option Use
use_by row.PushConstant i = Some AsWord
use_by row.PushLong i = Some AsLong
use_by row.GetStatic i = Some (AsField true)
use_by row.PutStatic i = Some (AsField true)
use_by row.GetField i = Some (AsField false)
use_by row.PutField i = Some (AsField false)
use_by (row.Invoke kind) i = Some (AsMethod kind)
use_by row.New i = Some AsNew
use_by row.NewReferenceArray i = Some AsClass
use_by row.NewMultiArray i = Some (AsArray (index_operand i 1))
use_by row.CheckCast i = Some AsClass
use_by row.InstanceOf i = Some AsClass
use_by _ i = None

-- the use of a constant by an instruction
unfoldable pub used_by : Instr → Option Used
used_by i = option_map (λ u. record { use_of = u; index = index_operand i 0 }) (use_by (row_at i.opcode) i)

-- the uses of constants as catch types
unfoldable pub catch_uses : Code → List Used
catch_uses c = map (λ r. record { use_of = AsClass; index = r.catch_type }) (filter (λ r. not (r.catch_type == 0)) c.table)

-- the uses of a method's code: its instructions', then its catch types
unfoldable pub uses_of_code : Code → List Used
uses_of_code c = filter_map used_by (instructions_of c.code) ++ catch_uses c

-- the uses of a method
unfoldable pub uses_of_member : Member → List Used
uses_of_member m = elim m.code [ None ↦ [] | Some c ↦ uses_of_code c ]

-- all uses of constants in a class file
unfoldable pub uses_of : ClassFile → List Used
uses_of f = flat_map uses_of_member f.methods

-- ---- array classes

-- the array classes of a class name, the innermost first: none of a class that is no array
unfoldable pub arrays_of_name : List ℕ → List (List ℕ)
arrays_of_name [] = []
arrays_of_name (u ∷ units) = elim (u == 91) [ true ↦ arrays_of_name units ++ (u ∷ units) ∷ [] | false ↦ [] ]

-- the class that the constant at an index names
unfoldable pub class_at_index : ClassFile → ℕ → List ℕ
class_at_index f i = elim (class_of_constant f (constant_in f i)) [ None ↦ [] | Some name ↦ name ]

-- the class that an instruction of a row names or makes
unfoldable pub class_mentioned : ClassFile → Row → Instr → List ℕ
class_mentioned f row.NewArray i = 91 ∷ element_type (index_operand i 0)
class_mentioned f row.NewReferenceArray i = 91 ∷ type_of_name (class_at_index f (index_operand i 0))
class_mentioned f r i = elim (use_by r i) [ None ↦ [] | Some u ↦ class_at_index f (index_operand i 0) ]

-- the array classes that an instruction names or makes
unfoldable pub arrays_of_instr : ClassFile → Instr → List (List ℕ)
arrays_of_instr f i = arrays_of_name (class_mentioned f (row_at i.opcode) i)

-- the array classes that a method's instructions name or make, then those of its catch types
unfoldable pub arrays_of_code : ClassFile → Code → List (List ℕ)
arrays_of_code f c =
    flat_map (arrays_of_instr f) (instructions_of c.code) ++ flat_map (λ u. arrays_of_name (class_at_index f u.index)) (catch_uses c)

-- the array classes of a method
unfoldable pub arrays_of_member : ClassFile → Member → List (List ℕ)
arrays_of_member f m = elim m.code [ None ↦ [] | Some c ↦ arrays_of_code f c ]

-- the array classes of a class file
unfoldable pub arrays_of : ClassFile → List (List ℕ)
arrays_of f = flat_map (arrays_of_member f) f.methods

-- what a computed case opens
unfoldable pub opened_class_files : Unit {0}
unfolding constant_in text_of_constant text_in name_of_constant class_name_in selector_of_constant selector_in member_selector this_name super_name interface_names class_of_constant member_of_constant use_by used_by catch_uses uses_of_code uses_of_member uses_of arrays_of_name class_at_index class_mentioned arrays_of_instr arrays_of_code arrays_of_member arrays_of
opened_class_files = tt
