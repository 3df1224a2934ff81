use Rattle.std.proofs.Common.{◌≡◌, [], ◌∷◌, map, take}
use Rattle.link_model.specs.ClassFiles.{class_name_in, super_name}
use Rattle.linker_faults.specs.Hierarchies.{joined, listed_places}
use Rattle.linker_faults.proofs.hierarchy.right_above.Given as goal

abbrev pub invariant-loop-index : goal.invariant-loop-index
invariant-loop-index l =
    l.places.keys ≡ joined [] (listed_places l.classes.plan l.classes.template (super_name l.file ∷ map (class_name_in l.file) (take l.index-index l.file.interfaces)))
