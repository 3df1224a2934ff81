-- Members that stand twice.
use Rattle.std.specs.Prelude.{◌≡◌, ℕ, List, [], ◌∷◌, Option, Some, None, slice_get}
use Rattle.std.specs.List.{AllByRecursion}
use Rattle.jx_base.specs.declared.class_file.ClassFile.{ClassFile}
use Rattle.jx_base.specs.Basics.{first_fault}
use Rattle.link_model.specs.declared.fault.LinkFault.{LinkFault}
use Rattle.link_model.specs.declared.fault.LinkKind.TheVariants.{Twice}
use Rattle.link_model.specs.LinkFaults.{named_fault, repeated_name}

-- the first member of a class that stands twice: one of its fields, or else one of its methods
abbrev pub twice_fault : List ℕ → ClassFile → Option LinkFault
twice_fault class f = first_fault (named_fault class Twice (repeated_name f.fields) ∷ named_fault class Twice (repeated_name f.methods) ∷ [])

-- in the file at that place no member stands twice
abbrev pub HasNoRepeats : List ClassFile → ℕ → Type 0
HasNoRepeats files p = (f : ClassFile) → slice_get files p ≡ Some f → (repeated_name f.fields ≡ None) × (repeated_name f.methods ≡ None)

-- nor in those at these places
abbrev pub HaveNoRepeats : List ClassFile → List ℕ → Type 0
HaveNoRepeats files places = AllByRecursion (HasNoRepeats files) places
