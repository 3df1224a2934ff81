use Rattle.std.proofs.Common.{◌≡◌, ◌∙◌, ◌++◌, ◌∷◌, [], ◌<◌, ap, sym, Bool, true, false, arith, length, if◌then◌else◌}
use Rattle.std.specs.Prelude.{nat_lt}
use Rattle.jx_base.proofs.BasicLaws.{ap2}
use Rattle.domain_table.specs.DomainLists.{DomainsState}
use Rattle.nucleus_calls.proofs.ServicesMade.{made_below, made_in_room, none_in_room, none_made}
use Rattle.portal_table.specs.ServiceLists.{ServicesState, new_service}
use Rattle.nucleus_calls.proofs.portals.make_service.Goals as goal

pub serve-requires-clause-services : goal.serve-requires-clause-services
serve-requires-clause-services c =
    let few : length c.args.tables.now.services.services < 256 = made_below c.args.tables.now.services c.args.iface c.in-Service.service c.in-Service.iface (sym c.in-Service.is ∙ c.export.ensures.reply) in
    omega (arith, few, c.requires.serving)

pub returns-in-Service-clause-after : goal.returns-in-Service-clause-after
returns-in-Service-clause-after c =
    let old : ServicesState = c.args.tables.now.services in
    let room : nat_lt (length old.services) 256 ≡ true = made_in_room old c.args.iface c.in-Service.service c.in-Service.iface (sym c.in-Service.is ∙ c.export.ensures.reply) in
    ap2 (λ (services : ServicesState) (domains : DomainsState). record c.args.tables.now { services = services; domains = domains })
    (c.export.ensures.after ∙ ap (λ (b : Bool). if b then record old { services = old.services ++ new_service c.args.domain.0 c.args.iface ∷ [] } else old) room)
    c.serve.ensures

pub returns-in_default : goal.returns-in_default
returns-in_default c =
    let old : ServicesState = c.args.tables.now.services in
    let room : nat_lt (length old.services) 256 ≡ false = none_in_room old c.args.iface c.export.result c.export.ensures.reply c.in_default.not-Service in
    record {
      reply = c.export.ensures.reply;
      after = ap (λ (services : ServicesState). record c.args.tables.now { services = services }) (c.export.ensures.after ∙ ap (λ (b : Bool). if b then record old { services = old.services ++ new_service c.args.domain.0 c.args.iface ∷ [] } else old) room)
          ∙ sym (none_made c.args.tables.now c.args.domain.0 c.args.iface c.args.threads c.export.result c.in_default.not-Service);
    }
