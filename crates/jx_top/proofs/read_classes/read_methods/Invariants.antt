use Rattle.std.proofs.Common.{take}
use Rattle.jx_top.specs.ReadClasses.{AreBodies}
use Rattle.jx_top.proofs.read_classes.read_methods.Given as goal

abbrev pub invariant-loop-method : goal.invariant-loop-method
invariant-loop-method l = AreBodies (take l.method-index l.methods) l.bodies.items
