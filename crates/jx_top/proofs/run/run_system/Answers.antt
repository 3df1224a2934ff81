use Rattle.jx_top.specs.Commands.{Run}
use Rattle.jx_top.specs.Systems.{IsSystemOf}
use Rattle.jx_top.proofs.CommandSteps.{ran_cause, ran_puts, run_stops, stop_cause, stop_puts}
use Rattle.jx_top.proofs.run.run_system.Goals as goal

pub returns-in-Ok-clause-puts : goal.returns-in-Ok-clause-puts
returns-in-Ok-clause-puts g c =
    ran_puts (g.L.Shelf.state c.args.shelf.now).told c.args.file.now c.in-Ok.system (g.K.Sink.state c.args.sink.now)
    (g.K.Sink.state c.run_linked.new.sink) _ c.in-Ok.ensures.system c.run_linked.ensures.puts

pub returns-in-Ok-clause-cause : goal.returns-in-Ok-clause-cause
returns-in-Ok-clause-cause g c =
    ran_cause (g.L.Shelf.state c.args.shelf.now).told c.args.file.now c.in-Ok.system (g.K.Sink.state c.args.sink.now)
    (g.K.Sink.state c.run_linked.new.sink) _ c.in-Ok.ensures.system c.run_linked.ensures.puts

pub returns-in-Err-clause-puts : goal.returns-in-Err-clause-puts
returns-in-Err-clause-puts g c =
    let told = (g.L.Shelf.state c.args.shelf.now).told in
    let file = c.args.file.now in
    stop_puts (Run file 1) told (g.K.Sink.state c.args.sink.now) _
    (run_stops told (λ files system. IsSystemOf files file system) file _ c.in-Err.ensures.system)

pub returns-in-Err-clause-cause : goal.returns-in-Err-clause-cause
returns-in-Err-clause-cause g c =
    let told = (g.L.Shelf.state c.args.shelf.now).told in
    let file = c.args.file.now in
    stop_cause (Run file 1) told _ (run_stops told (λ files system. IsSystemOf files file system) file _ c.in-Err.ensures.system)
