use Rattle.std.proofs.Common.{◌∙◌, sym}
use Rattle.interp_access.proofs.RowForms.{literal_at, no_literal}
use Rattle.interp_access.proofs.constants.literal_of.Goals as goal

pub returns-in_err-place : goal.returns-in_err-place
returns-in_err-place c = c.from_residual.ensures ∙ sym (no_literal c.args.literals.now c.args.text.now c.in_err-place.ensures)

pub returns : goal.returns
returns c = literal_at c.args.literals.now c.args.text.now c.in_ok-place.place c.index-literals-place.result c.in_ok-place.ensures
