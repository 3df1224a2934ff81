use Rattle.std.proofs.Common.{◌≡◌, take}
use Rattle.linker_faults.specs.Hierarchies.{joined}
use Rattle.linker_faults.proofs.hierarchy.add_all.Given as goal

abbrev pub invariant-loop-place : goal.invariant-loop-place
invariant-loop-place l = l.reached.keys ≡ joined l.initial.reached.keys (take l.place-index l.places)
