use Rattle.std.proofs.Common.{◌∙◌, ap, sym}
use Rattle.std.specs.Option.{option_map}
use Rattle.jx_base.specs.declared.ids.DomainId.{DomainId}
use Rattle.nucleus_tables.proofs.Permitted.{early_quiet, lively_quiet, quiet_may}
use Rattle.nucleus_tables.specs.Inner.{past_in}
use Rattle.nucleus_tables.proofs.tables.Tables.permit_quiet.Goals as goal

pub returns-in-Some-default-clause-why : goal.returns-in-Some-default-clause-why
returns-in-Some-default-clause-why c =
    early_quiet c.args.system.now (past_in c.args.self.now) c.in-Some-default.boot (sym c.next_boot.ensures ∙ c.in-Some-default.is-0)

pub returns-in-None-Some-clause-why : goal.returns-in-None-Some-clause-why
returns-in-None-Some-clause-why c =
    lively_quiet c.args.system.now (past_in c.args.self.now) c.in-None-Some.domain (sym c.next_boot.ensures ∙ c.in-None-Some.is-0)
    (sym c.first_alive.ensures ∙ ap (option_map (λ (d : DomainId). d.0)) c.in-None-Some.is-1)

pub returns-in-None-None-clause-may : goal.returns-in-None-None-clause-may
returns-in-None-None-clause-may c =
    quiet_may c.args.system.now (past_in c.args.self.now) (sym c.next_boot.ensures ∙ c.in-None-None.is-0)
    (sym c.first_alive.ensures ∙ ap (option_map (λ (d : DomainId). d.0)) c.in-None-None.is-1)
