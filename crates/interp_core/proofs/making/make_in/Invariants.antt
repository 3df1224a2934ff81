use Rattle.std.proofs.Common.{◌≡◌, ◌+◌, ◌-◌, ◌++◌, ◌∷◌, [], length}
use Rattle.interp_core.specs.Making.{contents_cells}
use Rattle.interp_core.proofs.Filling.{filled}
use Rattle.interp_core.proofs.making.make_in.Given as goal

abbrev pub invariant-loop-cell : goal.invariant-loop-cell
invariant-loop-cell l = record {
  objects : l.heap.objects ≡ l.fn.heap.objects ++ record { class = l.fn.class; cells = filled (contents_cells l.contents) l.cell } ∷ [];
  left : l.heap.left ≡ l.fn.heap.left - (length (contents_cells l.contents) + 2);
}
