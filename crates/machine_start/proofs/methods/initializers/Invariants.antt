use Rattle.std.proofs.Common.{◌≡◌, take}
use Rattle.std.specs.Prelude.{flat_map}
use Rattle.machine_model.specs.MachineThreads.{is_initializer_selector}
use Rattle.machine_model.specs.Start.{static_methods}
use Rattle.machine_start.proofs.methods.initializers.Given as goal

abbrev pub invariant-loop-class : goal.invariant-loop-class
invariant-loop-class l =
    l.methods.items ≡ flat_map (static_methods l.system is_initializer_selector) (take l.class-index l.class-items)
