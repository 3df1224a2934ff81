use Rattle.jx_laws.proofs.Freed.{freed_holds}
use Rattle.jx_laws.proofs.InBounds.{in_bounds}
use Rattle.jx_laws.proofs.laws.law_4.Goals as goal

pub returns : goal.returns
returns c = record { freed = freed_holds _ _ c.requires; in_bounds = in_bounds _ _ c.requires }
