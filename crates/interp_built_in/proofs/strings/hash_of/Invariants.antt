use Rattle.std.proofs.Common.{◌≡◌, drop, map, pos}
use Rattle.machine_model.specs.BuiltInMethods.{unit_of, hash_of}
use Rattle.interp_built_in.proofs.strings.hash_of.Given as goal

abbrev pub invariant-loop-cell : goal.invariant-loop-cell
invariant-loop-cell l = hash_of l.hash (map unit_of (drop l.cell-index l.cells)) ≡ hash_of (pos 0) (map unit_of l.cells)
