use Rattle.jx_model.proofs.OneHistory.{is_computed, one_history}
use Rattle.jx_model.proofs.laws.one_worker_has_one_history.Goals as goal

pub returns : goal.returns
returns c = record {
  same = one_history c.args.system.now c.args.history.now c.args.other.now c.requires.history c.requires.other;
  computed = is_computed c.args.system.now c.args.history.now c.requires.history;
}
