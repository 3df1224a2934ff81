use Rattle.std.proofs.Common.{◌∙◌, ap, sym, true, false}
use Rattle.std.specs.Option.{option_map}
use Rattle.table_reads.specs.TableReads.{flag_at}
use Rattle.portal_table.specs.ServiceLists.{ServicesState}
use Rattle.portal_table.specs.ServicesInside.{record_of}
use Rattle.portal_table.specs.declared.services.Portal.{Portal}
use Rattle.portal_table.proofs.ServiceReads.{live_found, live_none}
use Rattle.portal_table.proofs.services.Services.live_portal.Goals as goal

pub returns-in_err-owner-clause-service : goal.returns-in_err-owner-clause-service
returns-in_err-owner-clause-service c =
    ap (option_map (λ (p : Portal). p.service.0)) c.from_residual.ensures
    ∙ sym (live_none c.args.self.now c.args.service.0 (sym c.get.ensures ∙ ap (option_map record_of) c.in_err-owner.was))

pub returns-then-is_set-clause-service : goal.returns-then-is_set-clause-service
returns-then-is_set-clause-service c =
    sym (live_found c.args.self.now c.args.service.0 c.in_ok-owner.field-0 true (sym c.get.ensures ∙ ap (option_map record_of) c.in_ok-owner.was)
    (ap (λ (x : ServicesState). flag_at x.ended c.in_ok-owner.field-0.owner.0) (sym c.self.view_is) ∙ sym c.is_set.ensures.flag ∙ c.if-is_set.true))

pub returns-clause-service : goal.returns-clause-service
returns-clause-service c =
    sym (live_found c.args.self.now c.args.service.0 c.in_ok-owner.field-0 false (sym c.get.ensures ∙ ap (option_map record_of) c.in_ok-owner.was)
    (ap (λ (x : ServicesState). flag_at x.ended c.in_ok-owner.field-0.owner.0) (sym c.self.view_is) ∙ sym c.is_set.ensures.flag ∙ c.if-is_set.false))
