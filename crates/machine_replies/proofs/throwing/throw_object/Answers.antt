use Rattle.interp_core.specs.Cores.{core_state}
use Rattle.machine_replies.proofs.Cores.{frames_past}
use Rattle.machine_replies.proofs.throwing.throw_object.Goals as goal

pub throw_at-requires : goal.throw_at-requires
throw_at-requires c = frames_past c.args.system.now (core_state c.args.core.now) c.requires
