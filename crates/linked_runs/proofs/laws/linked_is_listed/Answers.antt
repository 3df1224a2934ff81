use Rattle.linked_runs.proofs.Listed.{linked_listed}
use Rattle.linked_runs.proofs.ShortCodes.{linked_short}
use Rattle.linked_runs.proofs.laws.linked_is_listed.Goals as goal

pub returns : goal.returns
returns c = record {
  listed = linked_listed c.args.plan.now c.args.files.now c.args.system.now c.requires;
  short = linked_short c.args.plan.now c.args.files.now c.args.system.now c.requires;
}
