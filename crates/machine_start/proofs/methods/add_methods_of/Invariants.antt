use Rattle.std.proofs.Common.{◌≡◌, ◌++◌, take}
use Rattle.std.specs.Prelude.{filter}
use Rattle.machine_start.specs.Found.{is_declared_at}
use Rattle.machine_start.proofs.methods.add_methods_of.Given as goal

abbrev pub invariant-loop-method : goal.invariant-loop-method
invariant-loop-method l =
    l.methods.items ≡ l.initial.methods.items ++ filter (is_declared_at l.system l.class) (take l.method-index l.found)
