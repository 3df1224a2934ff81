use Rattle.std.proofs.Common.{◌≡◌, drop}
use Rattle.std.specs.Str.{bytes_eq}
use Rattle.linker_faults.proofs.ascii.is_text.Given as goal

abbrev pub invariant-loop-i : goal.invariant-loop-i
invariant-loop-i l = bytes_eq (drop l.i l.name) (drop l.i l.bytes) ≡ bytes_eq l.name l.bytes
