use Rattle.jx_laws.proofs.Revoked.{revocation_holds}
use Rattle.jx_laws.proofs.Validity.{ends_just}
use Rattle.jx_laws.proofs.laws.law_1.Goals as goal

pub returns : goal.returns
returns c = record { refused = revocation_holds _ _ c.requires; nothing_else = ends_just _ }
