-- The first two walks over a template.
use Rattle.std.specs.Prelude.{List, [], ◌∷◌, Option}
use Rattle.std.specs.Option.{option_and_then}
use Rattle.jx_base.specs.Basics.{first_fault, first_some}
use Rattle.jx_base.specs.declared.class_file.ClassFile.{ClassFile}
use Rattle.jx_base.specs.declared.program.Plan.{Plan}
use Rattle.jx_base.specs.declared.program.Template.{Template}
use Rattle.link_model.specs.declared.fault.LinkFault.{LinkFault}
use Rattle.link_model.specs.LinkFaults.{class_fault, listing_at, main_fault}
use Rattle.linker_lists.specs.Listings.{listings}

-- the first fault of the template's classes, each alone
abbrev pub first_class_fault : Plan → List ClassFile → Template → Option LinkFault
first_class_fault plan files t = first_some (λ x. class_fault plan files t x.place x.name x.file) (listings plan files t)

-- the fault of its main class without a main method
abbrev pub main_class_fault : Plan → List ClassFile → Template → Option LinkFault
main_class_fault plan files t = option_and_then (λ x. main_fault x.name x.file) (listing_at plan files t.main)

-- its first fault by these two walks
unfoldable pub early_fault : Plan → List ClassFile → Template → Option LinkFault
early_fault plan files t = first_fault (first_class_fault plan files t ∷ main_class_fault plan files t ∷ [])
