use Rattle.std.proofs.Common.{sym, ◌∙◌}
use Rattle.run_alone.proofs.LastEntries.{goes, stays_by_domain, stays_by_yield}
use Rattle.run_alone.specs.Workers.{past_in}
use Rattle.run_alone.proofs.worker.Worker.goes_on.Goals.{then-last-eq0-via-then-last-eq0, then-last-eq0-via-else-last-eq0+then-is_yield}
use Rattle.run_alone.proofs.worker.Worker.goes_on.Goals as goal

pub returns-then-last-eq0 : goal.returns-then-last-eq0
returns-then-last-eq0 c = elim c.then-last-eq0.branch [
  | then-last-eq0-via-then-last-eq0 w ↦ sym (stays_by_domain (past_in c.args.self.now) c.last-last.result.now c.last-last.ensures w.if-last-eq0.true)
  | then-last-eq0-via-else-last-eq0+then-is_yield w ↦ sym (stays_by_yield (past_in c.args.self.now) c.last-last.result.now c.last-last.ensures (sym w.is_yield.ensures ∙ w.if-is_yield.true))
]

pub returns : goal.returns
returns c = c.can_act.ensures ∙ sym (goes (past_in c.args.self.now) c.last-last.result.now c.last-last.ensures c.if-last-eq0.false (sym c.is_yield.ensures ∙ c.if-is_yield.false))
