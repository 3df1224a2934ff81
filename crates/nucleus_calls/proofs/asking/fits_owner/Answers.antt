use Rattle.std.proofs.Common.{◌∙◌, ap}
use Rattle.std.specs.Option.{option_map}
use Rattle.nucleus_calls.proofs.Asked.{fits_no_owner, fits_owner_is, owned}
use Rattle.nucleus_calls.proofs.asking.fits_owner.Goals as goal

pub returns-in-Some : goal.returns-in-Some
returns-in-Some c =
    let o = owned c.args.tables.now.services c.args.service.0 c.in-Some.owner.0 c.in-Some.field-0-1 (option_map (λ o. (o.0.0, o.1)) c.owner.result)
    (ap (option_map (λ o. (o.0.0, o.1))) c.in-Some.is) c.owner.ensures.owner in
    c.fits_domain.ensures ∙ fits_owner_is c.args.system.now c.args.tables.now c.requires c.args.service.0 c.in-Some.owner.0 c.args.parcel.now o.owner

pub returns-in-None : goal.returns-in-None
returns-in-None c = fits_no_owner c.args.system.now c.args.tables.now c.requires c.args.service.0 c.args.parcel.now (c.owner.ensures.made c.in-None.is)
