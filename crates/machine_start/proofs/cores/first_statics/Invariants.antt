use Rattle.std.proofs.Common.{◌≡◌, map, take}
use Rattle.machine_model.specs.State.{default_of, static_types_of}
use Rattle.machine_start.proofs.cores.first_statics.Given as goal

abbrev pub invariant-loop-class : goal.invariant-loop-class
invariant-loop-class l = l.values.items ≡ map default_of (static_types_of (take l.class-index l.system.program.classes))
