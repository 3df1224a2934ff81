use Rattle.std.proofs.Common.{◌≡◌, ◌++◌, map, take}
use Rattle.linker_outline.proofs.all_classes.push_built_in.Given as goal

abbrev pub invariant-loop-class : goal.invariant-loop-class
invariant-loop-class l = l.names.items ≡ l.initial.names.items ++ map (λ k. k.name) (take l.class-index l.built_in)
