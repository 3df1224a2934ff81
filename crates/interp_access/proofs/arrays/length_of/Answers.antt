use Rattle.std.proofs.Common.{length, ap, arith}
use Rattle.interp_core.specs.Cores.{store_of}
use Rattle.interp_access.proofs.RowForms.{small_cells}
use Rattle.interp_access.proofs.arrays.length_of.Goals as goal

pub count_of-count-requires : goal.count_of-count-requires
count_of-count-requires c = omega (arith, ap length c.cells_of.ensures, small_cells (store_of c.args.core.now) c.args.array c.requires.small)
