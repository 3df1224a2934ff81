use Rattle.linked_runs.proofs.Runs.{linked_runs}
use Rattle.linked_runs.proofs.laws.linked_can_run.Goals as goal

pub returns : goal.returns
returns c = linked_runs c.args.plan.now c.args.files.now c.args.system.now c.requires.linked c.requires.numbers
