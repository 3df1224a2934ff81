-- What the laws ask of a system: what linking gives it, and the ranges of what its class files have.
use Rattle.std.specs.Prelude.{FitsSigned, List, codes, length, ◌≡◌, ℕ, ◌<◌, ◌≤◌, true, false, Some, IsSome, ◌⊎◌, slice_get}
use Rattle.std.specs.List.{AllByRecursion}
use Rattle.std.specs.Int.{w32, w64}
use Rattle.jx_base.specs.declared.frame.Frame.{Frame}
use Rattle.jx_base.specs.declared.program.Method.{Method}
use Rattle.jx_base.specs.declared.program.Class.{Class}
use Rattle.jx_base.specs.declared.program.Resolved.{Resolved}
use Rattle.jx_base.specs.declared.program.Resolved.TheVariants as resolved
use Rattle.jx_base.specs.declared.program.System.{System}
use Rattle.jx_base.specs.declared.program.Template.{Template}
use Rattle.program_model.specs.BuiltIn.{built_in_count, built_in_table, object_class, string_class, builder_class, portal_class}
use Rattle.program_model.specs.Instructions.{Reading, instruction_at, operand, index_operand}
use Rattle.program_model.specs.Lookup.{class_at, method_at, selector_at, template_at, constant_at, is_below, is_interface, class_named, shape_fits_class, class_fits, ObjectShape}
use Rattle.link_model.specs.LinkFaults.{dimensions_of}
use Rattle.machine_model.specs.ObjectRows.{field_type}
use Rattle.class_grammar.specs.Opcodes.{row_at}
use Rattle.jx_base.specs.declared.ids.ClassId.{ClassId}
use Rattle.jx_base.specs.declared.row.Row.TheVariants as row
use Rattle.machine_model.specs.State.{static_types, code_of, code_bytes, class_of_frame, stack_limit, frame_with, pc_behind, handler_in}
use Rattle.machine_model.specs.NumericRows.{Locals, Stack, numeric_row}
use Rattle.machine_model.specs.NumericRows.{NumericOutcome as numeric}
use Rattle.jx_base.specs.declared.class_file.Code.{Code}
use Rattle.jx_model.specs.WellMade.{IsClass}
use Rattle.machine_laws.specs.Values.{cell_limit, IsPlaced}

-- what a constant means is in its range: a number of its width, a text of units, or a class or a static field of the system
abbrev pub IsResolvedIn : System → Resolved → Type 0
IsResolvedIn s (resolved.Int n) = FitsSigned w32 n
IsResolvedIn s (resolved.Long n) = FitsSigned w64 n
IsResolvedIn s (resolved.Str text) = AllByRecursion (λ u. u < 65536) text
IsResolvedIn s (resolved.Class c) = IsClass s c.0
IsResolvedIn s (resolved.Static c i) = i < length (static_types s)
IsResolvedIn s _ = Unit {0}

-- the built-in classes stand first, a name with dimensions is that of an array, what fits the type of one that is no interface is below it, nothing extends String or StringBuilder, numbers lie in their ranges, and heaps within their limit
pub record IsSound (s : System) : Type 0 where
  pub built_in : (c : ℕ) → c < built_in_count → class_at s c ≡ slice_get built_in_table c
  pub names : (c : ℕ) (k : Class) → c < built_in_count → slice_get built_in_table c ≡ Some k → class_named s k.name ≡ Some c
  pub arrays : (c : ℕ) (k : Class) → class_at s c ≡ Some k → 1 ≤ dimensions_of k.name → IsSome k.component
  pub memories : IsSome (class_named s (codes "[Ljx/Memory;"))
  pub receivers : (a c : ℕ) → c < built_in_count → is_interface s c ≡ false → shape_fits_class s true (ObjectShape a) c ≡ true → is_below s a c ≡ true
  pub interfaces : (c : ℕ) → c < built_in_count → is_interface s c ≡ true → c ≡ portal_class
  pub string_fields : (c i : ℕ) (type : List ℕ) → class_fits s string_class c ≡ true → field_type s c i ≡ Some type → ⊥
  pub builder_fields : (c i : ℕ) (type : List ℕ) → class_fits s builder_class c ≡ true → field_type s c i ≡ Some type → type ≡ codes "Ljava/lang/String;"
  pub starts : (m : ℕ) (c : Code) (l : Locals) → code_of s m ≡ Some c → IsPlaced s (frame_with m c l)
  pub goes_on : (f g : Frame) → IsPlaced s f → g.method ≡ f.method → g.pc ≡ pc_behind s f → IsPlaced s g
  pub jumps : (f g : Frame) (r : Reading) (to : ℕ) (l : Locals) (k : Stack) → IsPlaced s f → instruction_at (code_bytes s f) f.pc ≡ Some r →
      numeric_row s (class_of_frame s f) (stack_limit s f) r.instr f.locals f.stack.values ≡ numeric.Jump to l k → g.method ≡ f.method → g.pc ≡ to → IsPlaced s g
  pub handlers : (f g : Frame) (c h : ℕ) → handler_in s c f ≡ Some h → g.method ≡ f.method → g.pc ≡ h → IsPlaced s g
  pub dimensions : (f : Frame) (r : Reading) (c : ClassId) (k : Class) → IsPlaced s f → instruction_at (code_bytes s f) f.pc ≡ Some r → row_at r.instr.opcode ≡ row.NewMultiArray →
      constant_at s (class_of_frame s f) (index_operand r.instr 0) ≡ Some (resolved.Class c) → class_at s c.0 ≡ Some k → index_operand r.instr 1 ≤ dimensions_of k.name
  pub constants : (c i : ℕ) (x : Resolved) → constant_at s c i ≡ Some x → IsResolvedIn s x
  pub operands : (f : Frame) (r : Reading) → instruction_at (code_bytes s f) f.pc ≡ Some r → FitsSigned w32 (operand r.instr 0)
  pub selectors : (m : ℕ) (x : Method) → method_at s m ≡ Some x → IsSome (selector_at s x.selector.0)
  pub heaps : (t : ℕ) (x : Template) → template_at s t ≡ Some x → x.heap ≤ cell_limit
  pub strings : (c : ℕ) → is_below s c string_class ≡ true → c ≡ string_class
  pub builders : (c : ℕ) → is_below s c builder_class ≡ true → c ≡ builder_class
  pub string_supers : (c : ℕ) → is_below s string_class c ≡ true → (c ≡ string_class) ⊎ (c ≡ object_class)
  pub builder_supers : (c : ℕ) → is_below s builder_class c ≡ true → (c ≡ builder_class) ⊎ (c ≡ object_class)
