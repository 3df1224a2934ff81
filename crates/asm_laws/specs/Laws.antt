-- What is assembled is a class file, but for what a line may say that no class file may have.
use Rattle.std.specs.Prelude.{◌≡◌, ℕ, Bool, true, false, ◌&&◌, not, List, Option, Some, None}
use Rattle.std.specs.List.{list_any, list_all}
use Rattle.class_grammar.specs.ClassGrammar.{IsClassFile}
use Rattle.class_grammar.specs.Descriptors.{FieldType, MethodType, field_type_of, method_type_of, is_floating}
use Rattle.class_grammar.specs.Flags.{is_abstract, is_interface_flag}
use Rattle.class_grammar.specs.Members.{is_supported_method}
use Rattle.jx_base.specs.declared.class_file.ClassFile.{ClassFile}
use Rattle.asm_lines.specs.Lines.{meanings}
use Rattle.asm_lines.specs.declared.line.Line.{Line}
use Rattle.asm_lines.specs.declared.line.Line.TheVariants as line
use Rattle.asm_lines.specs.declared.line.Member.{Member}
use Rattle.class_asm.specs.Assembly.{IsAssembled}

-- whether a field is of a type that a class file may have here
unfoldable pub is_taken_type : Option FieldType → Bool
is_taken_type None = false
is_taken_type (Some t) = not (is_floating t)

-- whether a method of that type may stand in a class file, in an interface or not
unfoldable pub is_taken_method : Bool → Member → Option MethodType → Bool
is_taken_method interface m None = false
is_taken_method interface m (Some t) = is_supported_method interface m.flags m.name t

-- Whether a class file may have what a line says. A field is no float or double. A method has none among its types, is neither native nor
-- synchronized, and is abstract where it has no code and only there; in an interface only the initialiser has code.
unfoldable pub is_taken : Bool → Line → Bool
is_taken interface (line.Field m) = is_taken_type (field_type_of m.descriptor)
is_taken interface (line.Abstract m) = is_abstract m.flags && is_taken_method interface m (method_type_of m.descriptor)
is_taken interface (line.Method m max_stack max_locals) = not (is_abstract m.flags) && is_taken_method interface m (method_type_of m.descriptor)
is_taken interface l = true

-- whether the line is that of an interface
unfoldable pub begins_interface : Line → Bool
begins_interface (line.Class flags name super) = is_interface_flag flags
begins_interface l = false

-- whether a class file may have what each line says
unfoldable pub are_taken : List Line → Bool
are_taken lines = list_all (is_taken (list_any begins_interface lines)) lines

-- what a text says is a class file, where a class file may have what each of its lines says
abbrev pub IsAClassFile : Type 0
IsAClassFile = (text bytes : List ℕ) → IsAssembled text bytes → are_taken (meanings text) ≡ true → (file : ClassFile) × IsClassFile bytes file

-- and it is none where it may not have what some line says
abbrev pub IsNoOtherClassFile : Type 0
IsNoOtherClassFile = (text bytes : List ℕ) → IsAssembled text bytes → are_taken (meanings text) ≡ false → (file : ClassFile) → IsClassFile bytes file → ⊥
