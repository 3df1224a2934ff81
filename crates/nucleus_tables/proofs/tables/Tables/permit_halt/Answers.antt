use Rattle.std.proofs.Common.{◌∙◌, sym, ap, ℕ, Some}
use Rattle.jx_base.specs.declared.states.Why.TheVariants as why
use Rattle.nucleus_tables.proofs.Permitted.{early_halt, needless_halt}
use Rattle.nucleus_tables.specs.Inner.{past_in}
use Rattle.nucleus_tables.proofs.tables.Tables.permit_halt.Goals as goal

pub returns-in-Some-clause-why : goal.returns-in-Some-clause-why
returns-in-Some-clause-why c =
    early_halt c.args.system.now (past_in c.args.self.now) c.in-Some.boot (sym c.is_full.ensures ∙ c.if-is_full.false) (sym c.next_boot.ensures ∙ c.in-Some.is)

pub returns-in-None-clause-why : goal.returns-in-None-clause-why
returns-in-None-clause-why c =
    needless_halt c.args.system.now (past_in c.args.self.now) (sym c.is_full.ensures ∙ c.if-is_full.false) (sym c.next_boot.ensures ∙ c.in-None.is)
    ∙ ap (λ (w : ℕ). Some (why.NotFull w)) (sym c.words.ensures)
