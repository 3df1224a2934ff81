use Rattle.std.proofs.Common.{◌≡◌, ◌++◌, take}
use Rattle.machine_model.specs.BuiltInMethods.{text_cells}
use Rattle.interp_built_in.proofs.texts.push_ascii.Given as goal

abbrev pub invariant-loop-byte : goal.invariant-loop-byte
invariant-loop-byte l = l.cells.items ≡ l.fn.cells.items ++ text_cells (take l.byte-index l.byte-items)
