use Rattle.std.proofs.Common.{◌≡◌, take}
use Rattle.parcel_carriage.specs.Words.{portal_in, with_held}
use Rattle.parcel_carriage.proofs.carriage.give_portals.Given as goal

abbrev pub invariant-loop-node : goal.invariant-loop-node
invariant-loop-node l =
    l.services ≡ with_held l.domain.0 (portal_in l.parcel.roots (take l.node-index l.node-items)) l.fn.services
