-- The first faults of uses, of one class and of a template.
use Rattle.std.specs.Prelude.{ℕ, List, Option}
use Rattle.std.specs.Option.{option_and_then}
use Rattle.jx_base.specs.declared.class_file.ClassFile.{ClassFile}
use Rattle.jx_base.specs.declared.program.Plan.{Plan}
use Rattle.jx_base.specs.declared.program.System.{System}
use Rattle.jx_base.specs.declared.program.Template.{Template}
use Rattle.jx_base.specs.Basics.{first_some}
use Rattle.linker_lists.specs.Listings.{listings}
use Rattle.link_model.specs.LinkFaults.{listing_at, uses_fault}
use Rattle.link_model.specs.declared.fault.LinkFault.{LinkFault}

-- the first fault of what the class at a place uses constants as
abbrev pub fault_at : System → Plan → List ClassFile → Template → ℕ → Option LinkFault
fault_at s plan files t place = option_and_then (λ x. uses_fault s plan t x.name x.file) (listing_at plan files place)

-- the first such fault of the classes of a template, in the order of its list
abbrev pub template_use_fault : System → Plan → List ClassFile → Template → Option LinkFault
template_use_fault s plan files t = first_some (λ x. uses_fault s plan t x.name x.file) (listings plan files t)
