use Rattle.jx_top.specs.Commands.{Check}
use Rattle.jx_top.specs.Systems.{IsSystemOf}
use Rattle.jx_top.proofs.CommandSteps.{check_stops, stop_puts, stop_cause, counts_puts, counts_cause}
use Rattle.jx_top.proofs.check.check_system.Goals as goal

pub returns-in-Ok-clause-puts : goal.returns-in-Ok-clause-puts
returns-in-Ok-clause-puts g c =
    counts_puts (g.L.Shelf.state c.args.shelf.now).told c.args.file.now c.in-Ok.system (g.K.Sink.state c.args.sink.now)
    (g.K.Sink.state c.put_counts.new.sink) _ c.in-Ok.ensures.system c.put_counts.ensures.puts

pub returns-in-Ok-clause-cause : goal.returns-in-Ok-clause-cause
returns-in-Ok-clause-cause g c =
    counts_cause (g.L.Shelf.state c.args.shelf.now).told c.args.file.now _ c.in-Ok.system (g.K.Sink.state c.args.sink.now)
    (g.K.Sink.state c.put_counts.new.sink) _ c.in-Ok.ensures.system c.put_counts.ensures.puts

pub returns-in-Err-clause-puts : goal.returns-in-Err-clause-puts
returns-in-Err-clause-puts g c =
    let told = (g.L.Shelf.state c.args.shelf.now).told in
    let file = c.args.file.now in
    stop_puts (Check file) told (g.K.Sink.state c.args.sink.now) _ (check_stops told (λ files system. IsSystemOf files file system) file _ c.in-Err.ensures.system)

pub returns-in-Err-clause-cause : goal.returns-in-Err-clause-cause
returns-in-Err-clause-cause g c =
    let told = (g.L.Shelf.state c.args.shelf.now).told in
    let file = c.args.file.now in
    stop_cause (Check file) told _ (check_stops told (λ files system. IsSystemOf files file system) file _ c.in-Err.ensures.system)
