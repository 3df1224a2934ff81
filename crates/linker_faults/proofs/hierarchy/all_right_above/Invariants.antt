use Rattle.std.proofs.Common.{◌≡◌, map, take}
use Rattle.linker_faults.specs.Hierarchies.{all_right_above}
use Rattle.linker_faults.proofs.hierarchy.all_right_above.Given as goal

abbrev pub invariant-loop-class : goal.invariant-loop-class
invariant-loop-class l = map (λ set. set.keys) l.above.items ≡ all_right_above l.classes.plan l.classes.template (take l.class-index l.files)
