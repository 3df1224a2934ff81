use Rattle.std.proofs.Common.{◌∙◌, sym}
use Rattle.run_alone.proofs.LastEntries.{some_entries, turn_stays}
use Rattle.run_alone.proofs.Picking.{none_made}
use Rattle.run_alone.specs.Workers.{past_in}
use Rattle.run_alone.proofs.worker.Worker.next_domain.Goals as goal

pub returns-then-domains-eq0 : goal.returns-then-domains-eq0
returns-then-domains-eq0 c = sym (none_made (past_in c.args.self.now) (sym (c.domains.ensures c.args.system.now c.requires) ∙ c.if-domains-eq0.true))

pub goes_on-requires-clause-some : goal.goes_on-requires-clause-some
goes_on-requires-clause-some c = some_entries (past_in c.args.self.now) (λ q. c.if-domains-eq0.false (c.domains.ensures c.args.system.now c.requires ∙ q))

pub last-requires : goal.last-requires
last-requires c = some_entries (past_in c.args.self.now) (λ q. c.if-domains-eq0.false (c.domains.ensures c.args.system.now c.requires ∙ q))

pub returns-then-goes_on : goal.returns-then-goes_on
returns-then-goes_on c = turn_stays (past_in c.args.self.now) c.last.result.now c.last.ensures (sym c.goes_on.ensures ∙ c.if-goes_on.true)

pub next_in_turn-requires-clause-some : goal.next_in_turn-requires-clause-some
next_in_turn-requires-clause-some c = some_entries (past_in c.args.self.now) (λ q. c.if-domains-eq0.false (c.domains.ensures c.args.system.now c.requires ∙ q))
