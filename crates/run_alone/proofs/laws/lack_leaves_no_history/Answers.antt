use Rattle.run_alone.proofs.OneWorker.{no_history}
use Rattle.run_alone.proofs.laws.lack_leaves_no_history.Goals as goal

pub returns : goal.returns
returns c = no_history c.args.system.now c.args.template c.args.history.now c.requires.lack c.requires.history
