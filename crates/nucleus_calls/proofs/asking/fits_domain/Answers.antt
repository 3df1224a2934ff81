use Rattle.std.proofs.Common.{◌∙◌, sym}
use Rattle.nucleus_calls.proofs.Asked.{fits_is, fits_nobody}
use Rattle.nucleus_calls.proofs.asking.fits_domain.Goals as goal

pub returns-in-Some : goal.returns-in-Some
returns-in-Some c =
    c.fits.ensures ∙ fits_is c.args.system.now c.args.tables.now c.requires c.args.domain.0 c.args.parcel.now c.in-Some.state (sym c.state.ensures ∙ c.in-Some.is)

pub returns-in-None : goal.returns-in-None
returns-in-None c = fits_nobody c.args.system.now c.args.tables.now c.requires c.args.domain.0 c.args.parcel.now (sym c.state.ensures ∙ c.in-None.is)
