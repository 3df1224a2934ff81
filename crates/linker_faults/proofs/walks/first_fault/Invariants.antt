use Rattle.std.proofs.Common.{◌≡◌, drop}
use Rattle.std.specs.List.{filter_map}
use Rattle.jx_base.specs.Basics.{first_some}
use Rattle.link_model.specs.LinkFaults.{listing_at}
use Rattle.linker_faults.specs.ClassFaults.{first_fault_of}
use Rattle.linker_faults.specs.Walks.{first_class_fault}
use Rattle.linker_faults.proofs.walks.first_fault.Given as goal

abbrev pub invariant-loop-place : goal.invariant-loop-place
invariant-loop-place l =
    (l.repeats ≡ l.hierarchy.files)
    × (first_some (first_fault_of l.hierarchy) (filter_map (listing_at l.hierarchy.plan l.hierarchy.files) (drop l.place-index l.hierarchy.template.classes))
    ≡ first_class_fault l.hierarchy.plan l.hierarchy.files l.hierarchy.template)
