use Rattle.std.proofs.Common.{◌≡◌, map, take}
use Rattle.linker_search.proofs.names.class_names.Given as goal

abbrev pub invariant-loop-class : goal.invariant-loop-class
invariant-loop-class l = l.names.items ≡ map (λ k. k.name) (take l.class-index l.classes)
