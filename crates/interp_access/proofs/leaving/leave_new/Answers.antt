use Rattle.interp_core.specs.Cores.{core_state}
use Rattle.interp_access.proofs.Tops.{left_new, none_new}
use Rattle.interp_access.proofs.leaving.leave_new.Goals as goal

pub returns-in-Some : goal.returns-in-Some
returns-in-Some c before new e m = left_new c.args.system.now c.leave.result before (core_state c.args.core.now) (core_state c.leave.new.core) c.args.taken c.in-Some.object c.args.made new c.in-Some.is e m c.leave.ensures.row

pub returns-in-None : goal.returns-in-None
returns-in-None c before new e m = none_new c.args.system.now before (core_state c.args.core.now) c.args.taken c.args.made new c.in-None.is e m
