use Rattle.std.proofs.Common.{◌≡◌, drop, map}
use Rattle.std.specs.Prelude.{not}
use Rattle.std.specs.List.{find}
use Rattle.link_model.specs.ClassFiles.{class_name_in}
use Rattle.link_model.specs.LinkFaults.{may_implement}
use Rattle.linker_faults.proofs.relations.first_no_interface.Given as goal

abbrev pub invariant-loop-index : goal.invariant-loop-index
invariant-loop-index l =
    find (λ name. not (may_implement l.hierarchy.plan l.hierarchy.files l.hierarchy.template name)) (map (class_name_in l.file) (drop l.index-index l.file.interfaces))
    ≡ find (λ name. not (may_implement l.hierarchy.plan l.hierarchy.files l.hierarchy.template name)) (map (class_name_in l.file) l.file.interfaces)
