use Rattle.std.proofs.Common.{◌≡◌, sym, ◌∙◌, ap, subst, true, List, take}
use Rattle.std.proofs.lemmas.List.{take_all}
use Rattle.jx_base.specs.declared.value.Node.{Node}
use Rattle.jx_base.specs.declared.value.Word.{Word}
use Rattle.portal_table.specs.ServiceLists.{IsService, ServicesState}
use Rattle.parcel_carriage.specs.Words.{has_portal, portal_in, with_held}
use Rattle.parcel_carriage.proofs.PortalSteps.{node_held, node_portal, parcel_held, root_portal, service_still, stands_all}
use Rattle.parcel_carriage.proofs.carriage.give_portals.Goals as goal

pub give_words-requires-clause-services : goal.give_words-requires-clause-services
give_words-requires-clause-services c k q =
    stands_all (IsService c.args.services.now) c.args.parcel.now k c.requires.services
    (root_portal c.args.parcel.now.roots c.args.parcel.now.nodes k (ap (λ (ws : List Word). has_portal ws k) (sym c.as_slice.ensures) ∙ q))

pub give_words-requires-in-loop-node-clause-services :
    goal.give_words-requires-in-loop-node-clause-services
give_words-requires-in-loop-node-clause-services c k q =
    let roots = c.args.parcel.now.roots in let nodes = c.as_slice-node-items.result.now in
    let there : portal_in roots nodes k ≡ true =
    node_portal c.args.domain.0 c.args.services.now roots nodes c.loop-node.node-index c.node-item.result c.as_slice-in-loop-node.result.now c.loop-node-test.true c.node-item.is c.as_slice-in-loop-node.ensures k q in
    let made : IsService c.args.services.now k =
    stands_all (IsService c.args.services.now) c.args.parcel.now k c.requires.services (ap (λ (ns : List Node). portal_in roots ns k) (sym c.as_slice-node-items.ensures) ∙ there) in
    subst (λ (x : ServicesState). IsService x k) (sym c.loop-node.invariant)
    (service_still c.args.domain.0 (portal_in roots (take c.loop-node.node-index nodes)) c.args.services.now k made)

pub loop-node-preserved : goal.loop-node-preserved
loop-node-preserved c =
    c.give_words-in-loop-node.ensures
    ∙ ap (with_held c.args.domain.0 (has_portal c.as_slice-in-loop-node.result.now)) c.loop-node.invariant
    ∙ node_held c.args.domain.0 c.args.services.now c.args.parcel.now.roots c.as_slice-node-items.result.now c.loop-node.node-index c.node-item.result c.as_slice-in-loop-node.result.now c.loop-node-test.true c.node-item.is c.as_slice-in-loop-node.ensures

pub returns : goal.returns
returns c =
    c.loop-node.invariant
    ∙ ap (λ (ns : List Node). with_held c.args.domain.0 (portal_in c.args.parcel.now.roots ns) c.args.services.now)
    (take_all c.loop-node.node-index c.as_slice-node-items.result.now c.loop-node-test.false ∙ c.as_slice-node-items.ensures)
    ∙ parcel_held c.args.domain.0 c.args.services.now c.args.parcel.now
