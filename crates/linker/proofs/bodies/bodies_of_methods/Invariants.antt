use Rattle.std.proofs.Common.{◌≡◌, map, take}
use Rattle.linker_names.specs.Bodies.{instructions_of_member}
use Rattle.linker.proofs.bodies.bodies_of_methods.Given as goal

abbrev pub invariant-loop-method : goal.invariant-loop-method
invariant-loop-method l = l.bodies.items ≡ map instructions_of_member (take l.method-index l.methods)
