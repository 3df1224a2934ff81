use Rattle.linked_runs.proofs.Runs.{linked_runs}
use Rattle.test_machine.proofs.reading.run_linked.Goals as goal

pub returns-in-Ok : goal.returns-in-Ok
returns-in-Ok c = λ few. linked_runs c.args.plan c.args.files.items c.in-Ok.system c.in-Ok.ensures.linked few
