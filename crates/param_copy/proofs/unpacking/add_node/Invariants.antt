use Rattle.std.proofs.Common.{◌≡◌, ◌+◌, ◌-◌, ◌++◌, ◌∷◌, [], map, take, length, replicate}
use Rattle.jx_base.specs.declared.value.Value.TheVariants as value
use Rattle.program_model.specs.Parcels.{value_of}
use Rattle.param_copy.proofs.unpacking.add_node.Given as goal

abbrev pub invariant-loop-cell : goal.invariant-loop-cell
invariant-loop-cell l = record {
  objects : l.heap.objects ≡ l.fn.heap.objects ++ record {
    class = l.node.class;
    cells = map (value_of l.first) (take l.cell l.node.cells) ++ replicate (length l.node.cells - l.cell) value.Null;
  } ∷ [];
  left : l.heap.left ≡ l.fn.heap.left - (length l.node.cells + 2);
}
