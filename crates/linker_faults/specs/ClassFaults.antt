-- The tests of a class alone.
use Rattle.std.specs.Prelude.{[], ◌∷◌, Option, not}
use Rattle.std.specs.List.{find}
use Rattle.std.specs.Str.{bytes_eq}
use Rattle.jx_base.specs.Basics.{first_fault}
use Rattle.link_model.specs.ClassFiles.{interface_names, super_name, this_name}
use Rattle.link_model.specs.declared.fault.LinkFault.{LinkFault}
use Rattle.link_model.specs.declared.fault.LinkKind.TheVariants.{NoClass, SuperLoop, WrongName}
use Rattle.link_model.specs.LinkFaults.{Listing, class_fault, fault_if, is_above_itself, may_extend, may_implement, named_fault}
use Rattle.linker_faults.specs.Hierarchies.{OfFiles}

-- its file has another name than the plan says
abbrev pub wrong_name_fault : Listing → Option LinkFault
wrong_name_fault x = fault_if (not (bytes_eq (this_name x.file) x.name)) x.name WrongName (this_name x.file)

-- it may not have its super
abbrev pub super_fault : OfFiles → Listing → Option LinkFault
super_fault h x = fault_if (not (may_extend h.plan h.template x.file (super_name x.file))) x.name NoClass (super_name x.file)

-- it may not have one of its interfaces
abbrev pub interface_fault : OfFiles → Listing → Option LinkFault
interface_fault h x = named_fault x.name NoClass (find (λ name. not (may_implement h.plan h.files h.template name)) (interface_names x.file))

-- a walk up from it comes back to it
abbrev pub loop_fault : OfFiles → Listing → Option LinkFault
loop_fault h x = fault_if (is_above_itself h.plan h.files h.template x.place) x.name SuperLoop x.name

-- the first fault of what it extends and implements
abbrev pub hierarchy_fault : OfFiles → Listing → Option LinkFault
hierarchy_fault h x = first_fault (super_fault h x ∷ interface_fault h x ∷ loop_fault h x ∷ [])

-- its first fault
abbrev pub first_fault_of : OfFiles → Listing → Option LinkFault
first_fault_of h x = class_fault h.plan h.files h.template x.place x.name x.file
