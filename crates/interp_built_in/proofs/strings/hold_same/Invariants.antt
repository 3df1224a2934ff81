use Rattle.std.proofs.Common.{◌≡◌, drop, map}
use Rattle.std.specs.Str.{bytes_eq}
use Rattle.machine_model.specs.BuiltInMethods.{unit_of}
use Rattle.interp_built_in.proofs.strings.hold_same.Given as goal

abbrev pub invariant-loop-i : goal.invariant-loop-i
invariant-loop-i l =
    bytes_eq (map unit_of (drop l.i l.cells)) (map unit_of (drop l.i l.others)) ≡ bytes_eq (map unit_of l.cells) (map unit_of l.others)
