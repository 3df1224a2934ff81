use Rattle.std.proofs.Common.{Global, Vec, ap, reverse}
use Rattle.jx_base.specs.declared.frame.Frame.{Frame}
use Rattle.interp_core.specs.Cores.{core_state}
use Rattle.machine_replies.proofs.Throwings.{raised_out}
use Rattle.machine_replies.proofs.throwing.raise_at.Goals as goal

pub returns : goal.returns
returns c =
    raised_out c.args.system.now (core_state c.args.core.now) (core_state c.make_exception-object.new.core) (core_state c.throw_at.new.core) c.args.class.0 c.make_exception-object.result c.throw_at.result
    c.make_exception-object.ensures.made (ap (λ (fs : Vec Frame Global). reverse fs.items) c.make_exception-object.ensures.frames) c.throw_at.ensures
