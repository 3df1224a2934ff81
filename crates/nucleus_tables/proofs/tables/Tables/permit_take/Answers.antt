use Rattle.std.proofs.Common.{◌∙◌, sym}
use Rattle.nucleus_tables.proofs.PermittedCalls.{its_service, no_call}
use Rattle.nucleus_tables.proofs.tables.Tables.permit_take.Goals as goal

pub permit_take_of-requires-clause-service : goal.permit_take_of-requires-clause-service
permit_take_of-requires-clause-service c = its_service c.args.system.now c.args.self.now c.requires.tables c.args.call.0 c.in-Some.made (sym c.call.ensures ∙ c.in-Some.is)

pub returns-in-None-clause-why : goal.returns-in-None-clause-why
returns-in-None-clause-why c = no_call c.args.system.now c.args.self.now c.requires.tables c.args.domain.0 c.args.call.0 (sym c.call.ensures ∙ c.in-None.is)
