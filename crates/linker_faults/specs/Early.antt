-- The first template with a fault by its first two walks.
use Rattle.std.specs.Prelude.{◌≡◌, ◌<◌, List, length, take, Option, Some, None, MatchOption, slice_get}
use Rattle.std.specs.Option.{option_and_then}
use Rattle.jx_base.specs.Basics.{first_some}
use Rattle.jx_base.specs.declared.class_file.ClassFile.{ClassFile}
use Rattle.jx_base.specs.declared.program.Plan.{Plan}
use Rattle.linker_faults.specs.Walks.{early_fault}
use Rattle.linker_faults.specs.declared.early.EarlyFault.{EarlyFault}

-- the fault is that of the template at its place, and none before has one
pub record IsEarlyFault (plan : Plan) (files : List ClassFile) (e : EarlyFault) : Type 0 where
  pub within : e.template < length plan.templates
  pub fault : option_and_then (early_fault plan files) (slice_get plan.templates e.template) ≡ Some e.fault
  pub none_before : first_some (early_fault plan files) (take e.template plan.templates) ≡ None

-- it is the first such fault, or there is none
abbrev pub IsFirstEarlyFault : Plan → List ClassFile → Option EarlyFault → Type 0
IsFirstEarlyFault plan files found = MatchOption found (first_some (early_fault plan files) plan.templates ≡ None) (IsEarlyFault plan files)
