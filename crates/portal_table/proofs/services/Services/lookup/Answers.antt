use Rattle.std.proofs.Common.{◌∙◌, ap, subst, sym, Option}
use Rattle.std.specs.Prelude.{IfSome}
use Rattle.std.specs.Option.{option_map}
use Rattle.jx_model.specs.Replies.{portal_reply}
use Rattle.portal_table.specs.ServiceLists.{portal_of}
use Rattle.portal_table.specs.ServicesInside.{IsPortal}
use Rattle.portal_table.specs.declared.services.Portal.{Portal}
use Rattle.portal_table.proofs.ServiceReads.{portal_made}
use Rattle.portal_table.proofs.services.Services.lookup.Goals as goal

pub hold-requires-clause-service : goal.hold-requires-clause-service
hold-requires-clause-service c =
    portal_made c.args.self.now c.in-Some.portal.service.0 c.in-Some.portal.interface (subst (λ (o : Option Portal). IfSome o (IsPortal c.args.self.now)) c.in-Some.is c.bound.ensures.interface)

pub returns-in-Some-clause-reply : goal.returns-in-Some-clause-reply
unfolding portal_reply
returns-in-Some-clause-reply c =
    sym (ap (portal_of c.args.self.now) (sym c.bound.ensures.service ∙ ap (option_map (λ (p : Portal). p.service.0)) c.in-Some.is)
    ∙ ap (portal_reply c.in-Some.portal.service.0) (subst (λ (o : Option Portal). IfSome o (IsPortal c.args.self.now)) c.in-Some.is c.bound.ensures.interface))
