use Rattle.std.proofs.Common.{◌≡◌, take}
use Rattle.jx_base.proofs.listed.text_of.Given as goal

abbrev pub invariant-loop-byte : goal.invariant-loop-byte
invariant-loop-byte l = l.units.items ≡ take l.byte-index l.ascii
