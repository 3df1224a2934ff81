use Rattle.jx_top.proofs.CommandSteps.{audit_put}
use Rattle.jx_top.proofs.RunEnds.{has_text}
use Rattle.jx_top.proofs.run.put_audit.Goals as goal

pub ending-requires : goal.ending-requires
ending-requires g c = c.requires.complete.complete.ended

pub returns-in-Ok-clause-puts : goal.returns-in-Ok-clause-puts
returns-in-Ok-clause-puts g c =
    audit_put c.args.system.now c.args.history.now (g.K.Sink.state c.args.sink.now) (g.K.Sink.state c.render.new.sink) _
    c.requires.complete c.requires.supported c.ending.ensures (rw c.in-Ok.is at c.render.ensures.whole)

pub returns-in-Err-clause-puts : goal.returns-in-Err-clause-puts
returns-in-Err-clause-puts g c =
    let text = has_text c.args.system.now c.args.history.now c.requires.complete c.requires.supported in
    (text.0, _, text.1, rw c.in-Err.is at c.render.ensures.prefix)
