use Rattle.std.proofs.Common.{◌∙◌, ap}
use Rattle.std.specs.Option.{option_map}
use Rattle.nucleus_calls.proofs.Asked.{method_is, no_method, owned}
use Rattle.nucleus_calls.proofs.asking.has_service_method.Goals as goal

pub returns-in-Some : goal.returns-in-Some
returns-in-Some c =
    let o = owned c.args.tables.now.services c.args.service.0 c.in-Some.field-0-0.0 c.in-Some.interface (option_map (λ o. (o.0.0, o.1)) c.owner.result)
    (ap (option_map (λ o. (o.0.0, o.1))) c.in-Some.is) c.owner.ensures.owner in
    c.has_method.ensures ∙ method_is c.args.system.now c.args.tables.now c.requires c.args.service.0 c.args.method.0 c.in-Some.interface o.interface

pub returns-in-None : goal.returns-in-None
returns-in-None c = no_method c.args.system.now c.args.tables.now c.requires c.args.service.0 c.args.method.0 (c.owner.ensures.made c.in-None.is)
