-- The array classes of a linked system.
use Rattle.std.specs.Prelude.{◌≡◌, ℕ, ◌≤◌, ◌⊎◌, true, List, ◌∷◌, Some, IfSome, IsSome, Contains, codes}
use Rattle.class_grammar.specs.Opcodes.{row_at}
use Rattle.jx_base.specs.declared.class_file.Instr.{Instr}
use Rattle.jx_base.specs.declared.ids.ClassId.{ClassId}
use Rattle.jx_base.specs.declared.program.Class.{Class}
use Rattle.jx_base.specs.declared.program.Method.{Method}
use Rattle.jx_base.specs.declared.program.Resolved.TheVariants as resolved
use Rattle.jx_base.specs.declared.program.System.{System}
use Rattle.jx_base.specs.declared.row.Row.TheVariants as row
use Rattle.program_model.specs.Instructions.{index_operand}
use Rattle.link_model.specs.LinkFaults.{dimensions_of}
use Rattle.program_model.specs.Lookup.{class_at, class_named, class_of_type, constant_at, method_at, type_of_class}
use Rattle.program_model.specs.Types.{is_number_type, element_type}

-- a number's type, or that of a class of the system
abbrev pub IsTypeIn : System → List ℕ → Type 0
IsTypeIn s type = (is_number_type type ≡ true) ⊎ IsSome (class_of_type s type)

-- the type is that of the elements of the array class, and one of the system
pub record IsElementOf (s : System) (k : Class) (type : List ℕ) : Type 0 where
  pub name : k.name ≡ 91 ∷ type
  pub known : IsTypeIn s type

-- the system has the class of arrays of that type
abbrev pub HasArraysOf : System → List ℕ → Type 0
HasArraysOf s type = IsSome (class_named s (91 ∷ type))

-- the elements of arrays are of types of the system, which has the array classes that instructions make and those of each start; arrays of arrays have a dimension at least
pub record ArraysHold (s : System) : Type 0 where
  pub elements : (c : ℕ) (k : Class) → class_at s c ≡ Some k → IfSome k.component (IsElementOf s k)
  pub arrays : (c : ℕ) (k : Class) → class_at s c ≡ Some k → 1 ≤ dimensions_of k.name → IsSome k.component
  pub numbers : (m : ℕ) (x : Method) (i : Instr) → method_at s m ≡ Some x → Contains x.instrs i → row_at i.opcode ≡ row.NewArray → HasArraysOf s (element_type (index_operand i 0))
  pub references : (m : ℕ) (x : Method) (i : Instr) (c : ClassId) (k : Class) → method_at s m ≡ Some x → Contains x.instrs i → row_at i.opcode ≡ row.NewReferenceArray
      → constant_at s x.class.0 (index_operand i 0) ≡ Some (resolved.Class c) → class_at s c.0 ≡ Some k → HasArraysOf s (type_of_class k)
  pub dimensions : (m : ℕ) (x : Method) (i : Instr) → method_at s m ≡ Some x → Contains x.instrs i → row_at i.opcode ≡ row.NewMultiArray → 1 ≤ index_operand i 1
  pub texts : HasArraysOf s (codes "Ljava/lang/String;")
  pub memories : HasArraysOf s (codes "Ljx/Memory;")
