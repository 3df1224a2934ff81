use Rattle.interp_core.specs.Cores.{core_state}
use Rattle.machine_replies.proofs.Cores.{frames_past}
use Rattle.machine_replies.proofs.throwing.raise.Goals as goal

pub raise_at-requires : goal.raise_at-requires
raise_at-requires c = frames_past c.args.system.now (core_state c.args.core.now) c.requires
