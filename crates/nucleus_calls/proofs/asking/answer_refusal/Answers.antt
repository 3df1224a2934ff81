use Rattle.std.proofs.Common.{◌∙◌, sym}
use Rattle.jx_model.specs.Replies.{sent_back}
use Rattle.nucleus_calls.proofs.Asked.{discarded, not_held_back, sent, unfit_back}
use Rattle.nucleus_calls.proofs.asking.answer_refusal.Goals as goal

pub returns-then-not-has_live_caller : goal.returns-then-not-has_live_caller
unfolding sent_back
returns-then-not-has_live_caller c = discarded _ _ _ (sym c.has_live_caller.ensures ∙ c.if-not-has_live_caller.true)

pub returns-then-not-holds_parcel : goal.returns-then-not-holds_parcel
unfolding sent_back
returns-then-not-holds_parcel c = not_held_back _ _ _ (sym c.has_live_caller.ensures ∙ c.if-not-has_live_caller.false) (sym c.holds_parcel.ensures ∙ c.if-not-holds_parcel.true)

pub returns-then-not-fits_caller : goal.returns-then-not-fits_caller
unfolding sent_back
returns-then-not-fits_caller c =
    unfit_back _ _ _ (sym c.has_live_caller.ensures ∙ c.if-not-has_live_caller.false) (sym c.holds_parcel.ensures ∙ c.if-not-holds_parcel.false)
    (sym c.fits_caller.ensures ∙ c.if-not-fits_caller.true)

pub returns-else-not-fits_caller : goal.returns-else-not-fits_caller
unfolding sent_back
returns-else-not-fits_caller c =
    sent _ _ _ (sym c.has_live_caller.ensures ∙ c.if-not-has_live_caller.false) (sym c.holds_parcel.ensures ∙ c.if-not-holds_parcel.false)
    (sym c.fits_caller.ensures ∙ c.if-not-fits_caller.false)
