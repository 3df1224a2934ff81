use Rattle.std.proofs.Common.{◌≡◌, take}
use Rattle.portal_table.specs.NameLists.{digest_of}
use Rattle.portal_table.proofs.names.digest.Given as goal

-- the digest of the units so far
abbrev pub invariant-loop-unit : goal.invariant-loop-unit
invariant-loop-unit l = l.digest ≡ digest_of (take l.unit-index l.units)
