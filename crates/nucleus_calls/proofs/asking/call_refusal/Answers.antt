use Rattle.std.proofs.Common.{◌∙◌, sym}
use Rattle.jx_model.specs.Replies.{called, reply_to}
use Rattle.nucleus_calls.proofs.Asked.{gone, lacks_method, not_held, queued, unfit}
use Rattle.nucleus_calls.proofs.asking.call_refusal.Goals as goal

pub returns-then-not-holds_asked : goal.returns-then-not-holds_asked
unfolding reply_to called
returns-then-not-holds_asked c = not_held _ _ _ _ _ (sym c.holds_asked.ensures ∙ c.if-not-holds_asked.true)

pub returns-then-not-has_live_owner : goal.returns-then-not-has_live_owner
unfolding reply_to called
returns-then-not-has_live_owner c = gone _ _ _ _ _ (sym c.holds_asked.ensures ∙ c.if-not-holds_asked.false) (sym c.has_live_owner.ensures ∙ c.if-not-has_live_owner.true)

pub returns-then-not-has_service_method : goal.returns-then-not-has_service_method
unfolding reply_to called
returns-then-not-has_service_method c =
    lacks_method _ _ _ _ _ (sym c.holds_asked.ensures ∙ c.if-not-holds_asked.false) (sym c.has_live_owner.ensures ∙ c.if-not-has_live_owner.false)
    (sym c.has_service_method.ensures ∙ c.if-not-has_service_method.true)

pub returns-then-not-fits_owner : goal.returns-then-not-fits_owner
unfolding reply_to called
returns-then-not-fits_owner c =
    unfit _ _ _ _ _ (sym c.holds_asked.ensures ∙ c.if-not-holds_asked.false) (sym c.has_live_owner.ensures ∙ c.if-not-has_live_owner.false)
    (sym c.has_service_method.ensures ∙ c.if-not-has_service_method.false) (sym c.fits_owner.ensures ∙ c.if-not-fits_owner.true)

pub returns-else-not-fits_owner : goal.returns-else-not-fits_owner
unfolding reply_to called
returns-else-not-fits_owner c =
    queued _ _ _ _ _ (sym c.holds_asked.ensures ∙ c.if-not-holds_asked.false) (sym c.has_live_owner.ensures ∙ c.if-not-has_live_owner.false)
    (sym c.has_service_method.ensures ∙ c.if-not-has_service_method.false) (sym c.fits_owner.ensures ∙ c.if-not-fits_owner.false)
