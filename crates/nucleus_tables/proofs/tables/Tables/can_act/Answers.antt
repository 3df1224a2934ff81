use Rattle.std.proofs.Common.{◌≡◌, ◌∙◌, sym, ap, is_some, true, false}
use Rattle.std.specs.Option.{option_map}
use Rattle.nucleus_tables.proofs.DomainReads.{mapped_some, rests_can, runs_can}
use Rattle.nucleus_tables.proofs.tables.Tables.can_act.Goals as goal

pub returns-then-is_some : goal.returns-then-is_some
returns-then-is_some c =
    let some : is_some c.running.result ≡ true = sym c.is_some.ensures ∙ c.if-is_some.true in
    c.if-is_some.true
    ∙ sym (runs_can c.args.system.now c.args.self.now c.requires c.args.domain.0 (option_map (λ t. t.0) c.running.result) c.running.ensures
    (mapped_some c.running.result ∙ some))

pub returns-else-is_some : goal.returns-else-is_some
returns-else-is_some c =
    let none : is_some c.running.result ≡ false = sym c.is_some.ensures ∙ c.if-is_some.false in
    c.is_some-else-is_some.ensures
    ∙ ap is_some c.choice.ensures
    ∙ sym (rests_can c.args.system.now c.args.self.now c.requires c.args.domain.0 (option_map (λ t. t.0) c.running.result)
    c.running.ensures (mapped_some c.running.result ∙ none))
