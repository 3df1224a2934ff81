use Rattle.std.proofs.Common.{◌∙◌, ap}
use Rattle.std.specs.Option.{option_map}
use Rattle.nucleus_calls.proofs.Asked.{nobody_lives, owned, owner_lives}
use Rattle.nucleus_calls.proofs.asking.has_live_owner.Goals as goal

pub returns-in-Some : goal.returns-in-Some
returns-in-Some c =
    let o = owned c.args.tables.now.services c.args.service.0 c.in-Some.owner.0 c.in-Some.field-0-1 (option_map (λ o. (o.0.0, o.1)) c.owner.result)
    (ap (option_map (λ o. (o.0.0, o.1))) c.in-Some.is) c.owner.ensures.owner in
    c.lives.ensures ∙ owner_lives c.args.system.now c.args.tables.now c.requires c.args.service.0 c.in-Some.owner.0 o.owner

pub returns-in-None : goal.returns-in-None
returns-in-None c = nobody_lives c.args.system.now c.args.tables.now c.requires c.args.service.0 (c.owner.ensures.made c.in-None.is)
