use Rattle.std.proofs.Common.{◌∙◌, sym, ap}
use Rattle.std.specs.Option.{option_map}
use Rattle.jx_base.specs.declared.ids.DomainId.{DomainId}
use Rattle.run_alone.proofs.LastEntries.{turn_above, turn_least}
use Rattle.run_alone.specs.Workers.{past_in}
use Rattle.run_alone.proofs.worker.Worker.next_in_turn.Goals as goal

pub returns-in-Some : goal.returns-in-Some
returns-in-Some c =
    turn_above (past_in c.args.self.now) c.last.result.now c.in-Some.domain.0 c.last.ensures c.requires.waits
    (sym (ap (option_map (λ (d : DomainId). d.0)) c.in-Some.is) ∙ c.next_above.ensures)

pub returns-in-None : goal.returns-in-None
returns-in-None c =
    turn_least (past_in c.args.self.now) c.last.result.now (option_map (λ (d : DomainId). d.0) c.next_above-in-None.result) c.last.ensures c.requires.waits
    (sym (ap (option_map (λ (d : DomainId). d.0)) c.in-None.is) ∙ c.next_above.ensures) c.next_above-in-None.ensures
