use Rattle.std.proofs.Common.{◌∙◌, sym}
use Rattle.nucleus_tables.proofs.Permitted.{no_boot, other_boot}
use Rattle.nucleus_tables.specs.Inner.{past_in}
use Rattle.table_threads.proofs.Records.{not_that}
use Rattle.nucleus_tables.proofs.tables.Tables.permit_create.Goals as goal

pub returns-in-None-clause-why : goal.returns-in-None-clause-why
returns-in-None-clause-why c = no_boot c.args.system.now (past_in c.args.self.now) c.args.template (sym c.next_boot.ensures ∙ c.in-None.is)

pub returns-else-boot-template-clause-why : goal.returns-else-boot-template-clause-why
returns-else-boot-template-clause-why c =
    other_boot c.args.system.now (past_in c.args.self.now) c.args.template c.in-Some.boot (sym c.next_boot.ensures ∙ c.in-Some.is)
    (not_that c.in-Some.boot c.args.template (λ q. c.if-boot-template.false (sym q)))
