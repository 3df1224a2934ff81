use Rattle.run_alone.proofs.OneWorker.{one_template}
use Rattle.run_alone.proofs.laws.lack_has_one_template.Goals as goal

pub returns : goal.returns
returns c = one_template c.args.system.now c.args.template c.args.other c.requires.lack c.requires.other
