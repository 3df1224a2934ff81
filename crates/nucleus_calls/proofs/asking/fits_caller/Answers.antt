use Rattle.std.proofs.Common.{◌∙◌, sym}
use Rattle.nucleus_calls.proofs.Asked.{fits_caller_is, fits_no_caller}
use Rattle.nucleus_calls.proofs.asking.fits_caller.Goals as goal

pub returns-in-Some : goal.returns-in-Some
returns-in-Some c =
    c.fits_domain.ensures ∙ fits_caller_is c.args.system.now c.args.tables.now c.requires c.args.call.0 c.in-Some.call c.args.parcel.now (sym c.call.ensures ∙ c.in-Some.is)

pub returns-in-None : goal.returns-in-None
returns-in-None c = fits_no_caller c.args.system.now c.args.tables.now c.requires c.args.call.0 c.args.parcel.now (sym c.call.ensures ∙ c.in-None.is)
