use Rattle.std.proofs.Common.{◌∙◌, ap, not, sym, Bool, Option, ℕ, is_some}
use Rattle.std.specs.Option.{option_map}
use Rattle.jx_base.specs.declared.act.Refusal.TheVariants as refusal
use Rattle.jx_base.specs.declared.act.Reply.TheVariants as reply
use Rattle.jx_base.proofs.BasicLaws.{ap2}
use Rattle.jx_model.specs.Replies.{◌refuses◌else◌}
use Rattle.portal_table.specs.ServiceLists.{service_bound}
use Rattle.portal_table.specs.declared.services.Portal.{Portal}
use Rattle.portal_table.proofs.services.Services.bind.Goals as goal

pub returns-then-not-holds-clause-reply : goal.returns-then-not-holds-clause-reply
unfolding ◌refuses◌else◌
returns-then-not-holds-clause-reply c =
    let x = c.args.self.now in
    sym (ap (λ (b : Bool). not b refuses refusal.NotHeld else is_some (service_bound x c.args.name.now) refuses refusal.Taken else reply.Done) (sym c.holds.ensures ∙ c.if-not-holds.true))

pub returns-in-Some-clause-reply : goal.returns-in-Some-clause-reply
unfolding ◌refuses◌else◌
returns-in-Some-clause-reply c =
    sym (ap2 (λ (b : Bool) (o : Option ℕ). not b refuses refusal.NotHeld else is_some o refuses refusal.Taken else reply.Done)
    (sym c.holds.ensures ∙ c.if-not-holds.false)
    (sym c.bound.ensures.service ∙ ap (option_map (λ (p : Portal). p.service.0)) c.in-Some.is))

pub returns-in-None-clause-reply : goal.returns-in-None-clause-reply
unfolding ◌refuses◌else◌
returns-in-None-clause-reply c =
    sym (ap2 (λ (b : Bool) (o : Option ℕ). not b refuses refusal.NotHeld else is_some o refuses refusal.Taken else reply.Done)
    (sym c.holds.ensures ∙ c.if-not-holds.false)
    (sym c.bound.ensures.service ∙ ap (option_map (λ (p : Portal). p.service.0)) c.in-None.is))
