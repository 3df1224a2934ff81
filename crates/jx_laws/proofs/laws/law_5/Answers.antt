use Rattle.jx_laws.proofs.HandedOn.{parcels_held}
use Rattle.jx_laws.proofs.PortalsMade.{portals_kept}
use Rattle.jx_laws.proofs.Received.{portals_received}
use Rattle.jx_laws.proofs.laws.law_5.Goals as goal

pub returns : goal.returns
returns c = record { called = portals_received _ _ c.requires; handed = parcels_held _ _ c.requires; kept = portals_kept _ _ c.requires }
