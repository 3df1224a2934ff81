use Rattle.std.proofs.Common.{◌≡◌, drop}
use Rattle.jx_base.specs.ClassNames.{slash, have_slashes_side_by_side}
use Rattle.jx_base.proofs.class_name.has_filled_parts.Given as goal

abbrev pub invariant-loop-byte : goal.invariant-loop-byte
invariant-loop-byte l = have_slashes_side_by_side l.previous (drop l.byte-index l.name) ≡ have_slashes_side_by_side slash l.name
