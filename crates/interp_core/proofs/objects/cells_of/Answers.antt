use Rattle.std.proofs.Common.{◌∙◌, sym}
use Rattle.interp_core.specs.Cores.{store_of}
use Rattle.interp_core.proofs.Filling.{cells_same, no_cells}
use Rattle.interp_core.proofs.objects.cells_of.Goals as goal

pub returns-then-has_object : goal.returns-then-has_object
returns-then-has_object c = c.cells.ensures ∙ sym (cells_same (store_of c.args.core.now) c.args.object)

pub returns-else-has_object : goal.returns-else-has_object
returns-else-has_object c = sym (no_cells (store_of c.args.core.now) c.args.object c.if-has_object.ensures)
