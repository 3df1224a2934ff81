use Rattle.jx_base.specs.Histories.{past_of}
use Rattle.run_alone.proofs.OwnActs.{own_acts}
use Rattle.run_alone.proofs.laws.code_performs_its_own_acts.Goals as goal

pub returns : goal.returns
returns c = own_acts c.args.system.now (past_of c.args.history.now) c.requires
