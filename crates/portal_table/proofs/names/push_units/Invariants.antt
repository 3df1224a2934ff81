use Rattle.std.proofs.Common.{◌≡◌, ◌++◌, take, vec_capacity}
use Rattle.portal_table.proofs.names.push_units.Given as goal

-- the units so far stand behind the others, in the same room
abbrev pub invariant-loop-unit : goal.invariant-loop-unit
invariant-loop-unit l = (l.units.items ≡ l.initial.units.items ++ take l.unit-index l.name) × (vec_capacity l.units ≡ vec_capacity l.initial.units)
