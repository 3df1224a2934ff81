use Rattle.jx_model.specs.Tables.{named_service}
use Rattle.portal_table.proofs.NameChains.{Looks, next_place}
use Rattle.portal_table.proofs.names.Names.find.Given as goal

abbrev pub invariant-loop-place : goal.invariant-loop-place
invariant-loop-place l = Looks l.self-inside.units.items l.self-inside.binds.items l.name (named_service l.self.binds l.name) l.place

-- the places go down
abbrev pub decreases-loop-place : goal.decreases-loop-place
decreases-loop-place l = next_place l.place
