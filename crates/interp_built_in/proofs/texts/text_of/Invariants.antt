use Rattle.std.proofs.Common.{◌≡◌, map, take}
use Rattle.machine_model.specs.BuiltInMethods.{unit_of}
use Rattle.interp_built_in.proofs.texts.text_of.Given as goal

abbrev pub invariant-loop-cell : goal.invariant-loop-cell
invariant-loop-cell l = l.units.items ≡ map unit_of (take l.cell-index l.cells)
