-- One attribute of a method (JVMS 4.7), where the code that was found so far is given.
use Rattle.std.specs.Prelude.{ℕ, Bool, ◌&&◌, List, Option, Some, is_none}
use Rattle.std.specs.Int.{w32}
use Rattle.class_grammar.specs.Parts.{Part, ◌>>=◌, ◌>>◌, either, done, demand, room, here, bytes_of, number}
use Rattle.class_grammar.specs.Constants.{class_fault, cut_off}
use Rattle.class_grammar.specs.Members.{name_part, is_code_name, code_body}
use Rattle.jx_base.specs.declared.class_file.Code.{Code}
use Rattle.jx_base.specs.declared.class_file.Constant.{Constant}
use Rattle.jx_base.specs.declared.fault.ClassFault.{ClassFault}
use Rattle.jx_base.specs.declared.fault.ClassKind.TheVariants as kind

unfoldable pub method_attribute : ℕ → List Constant → Bool → Option Code → Part (Option Code) ClassFault
method_attribute size constants may_have code = do
  at ← here size
  name ← name_part size (cut_off size) constants
  n ← number (cut_off size) w32
  room n (cut_off size)
  either (is_code_name name)
      (do
        demand (may_have && is_none code) (class_fault at kind.Code)
        found ← code_body size at constants n
        done (Some found))
      (do
        bytes ← bytes_of (cut_off size) n
        done code)
