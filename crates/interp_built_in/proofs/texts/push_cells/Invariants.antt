use Rattle.std.proofs.Common.{◌≡◌, ◌++◌, map, take}
use Rattle.machine_model.specs.BuiltInMethods.{text_cells, unit_of}
use Rattle.interp_built_in.proofs.texts.push_cells.Given as goal

abbrev pub invariant-loop-cell : goal.invariant-loop-cell
invariant-loop-cell l = l.cells.items ≡ l.fn.cells.items ++ text_cells (map unit_of (take l.cell-index l.more))
