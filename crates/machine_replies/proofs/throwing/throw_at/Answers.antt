use Rattle.interp_core.specs.Cores.{core_state}
use Rattle.machine_replies.proofs.Throwings.{here_out, nowhere_out, overfull_out}
use Rattle.machine_replies.proofs.throwing.throw_at.Goals as goal

pub returns-in-Here : goal.returns-in-Here
returns-in-Here c = here_out c.args.system.now (core_state c.args.core.now) (core_state c.throw.new.core) c.args.object c.in-Here.ensures.store c.in-Here.ensures.frames

pub returns-in-Overfull : goal.returns-in-Overfull
returns-in-Overfull c = overfull_out c.args.system.now (core_state c.args.core.now) (core_state c.throw.new.core) c.args.object c.in-Overfull.ensures.frames

pub returns-in-Nowhere : goal.returns-in-Nowhere
returns-in-Nowhere c = nowhere_out c.args.system.now (core_state c.args.core.now) (core_state c.throw.new.core) c.args.object c.in-Nowhere.ensures.store c.in-Nowhere.ensures.frames
