use Rattle.std.proofs.Common.{ap}
use Rattle.std.specs.Option.{option_map}
use Rattle.nucleus_tables.proofs.Owners.{told, unowned}
use Rattle.nucleus_tables.proofs.tables.Tables.owns.Goals as goal

pub returns-in-Some : goal.returns-in-Some
returns-in-Some c =
    told c.args.self.now.services.services c.args.domain.0 c.args.service.0 c.in-Some.owner.0 c.in-Some.field-0-1 (option_map (λ o. (o.0.0, o.1)) c.owner.result)
    (ap (option_map (λ o. (o.0.0, o.1))) c.in-Some.is) c.owner.ensures.owner

pub returns-in-None : goal.returns-in-None
returns-in-None c = unowned c.args.self.now.services.services c.args.domain.0 c.args.service.0 (c.owner.ensures.made c.in-None.is)
