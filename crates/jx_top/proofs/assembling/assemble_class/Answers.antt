use Rattle.jx_top.proofs.CommandSteps.{put_cause, put_puts}
use Rattle.jx_top.proofs.assembling.assemble_class.Goals as goal

pub returns-in-Ok-clause-puts : goal.returns-in-Ok-clause-puts
returns-in-Ok-clause-puts g c =
    let found = rw c.in-Ok.is at c.assemble_file.ensures.bytes in
    put_puts _ _ _ (g.K.Sink.state c.args.sink.now) (g.K.Sink.state c.put_class_file.new.sink) _ found
    (rw c.deref.ensures.value at c.put_class_file.ensures.puts)

pub returns-in-Ok-clause-cause : goal.returns-in-Ok-clause-cause
returns-in-Ok-clause-cause g c =
    let found = rw c.in-Ok.is at c.assemble_file.ensures.bytes in
    put_cause _ _ _ (g.K.Sink.state c.args.sink.now) (g.K.Sink.state c.put_class_file.new.sink) _ found
    (rw c.deref.ensures.value at c.put_class_file.ensures.puts)
