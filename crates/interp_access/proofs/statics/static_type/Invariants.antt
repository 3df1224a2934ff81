use Rattle.std.proofs.Common.{◌≡◌, slice_get}
use Rattle.machine_model.specs.State.{static_types}
use Rattle.interp_access.proofs.StaticTypes.{from}
use Rattle.interp_access.proofs.statics.static_type.Given as goal

abbrev pub invariant-loop-class : goal.invariant-loop-class
invariant-loop-class l = slice_get (from l.system.program.classes l.class-index) l.left ≡ slice_get (static_types l.system) l.place
