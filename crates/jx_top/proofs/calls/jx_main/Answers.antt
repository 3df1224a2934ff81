use Rattle.std.proofs.Common.{subst}
use Rattle.jx_top.specs.Commands.{Command}
use Rattle.jx_top.specs.Outcomes.{outcome_of}
use Rattle.jx_top.specs.Requests.{PutsFor}
use Rattle.jx_top.proofs.OneCommand.{one_command}
use Rattle.jx_top.proofs.calls.jx_main.Goals as goal

pub returns-in-Ok-clause-puts : goal.returns-in-Ok-clause-puts
returns-in-Ok-clause-puts g c = λ asked asks.
    let told = (g.L.Shelf.state c.args.shelf.now).told in
    let before = g.K.Sink.state c.args.sink.now in
    let now = g.K.Sink.state c.jx_serial.new.sink in
    subst (λ (x : Command). PutsFor x told before now (outcome_of c.jx_serial.result))
    (one_command _ _ asked c.in-Ok.ensures.request asks) c.jx_serial.ensures.puts
