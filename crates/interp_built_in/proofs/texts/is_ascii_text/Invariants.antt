use Rattle.std.proofs.Common.{◌≡◌, drop}
use Rattle.std.specs.Str.{bytes_eq}
use Rattle.interp_built_in.proofs.texts.is_ascii_text.Given as goal

abbrev pub invariant-loop-i : goal.invariant-loop-i
invariant-loop-i l = bytes_eq (drop l.i l.bytes) (drop l.i l.units) ≡ bytes_eq l.bytes l.units
