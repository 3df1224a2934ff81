use Rattle.std.proofs.Common.{◌∙◌, sym, ap, length, arith}
use Rattle.domain_heap.specs.Heaps.{HeapState}
use Rattle.interp_core.specs.Cores.{store_of}
use Rattle.interp_core.proofs.Filling.{cells_same, with_cell_is, with_no_cell}
use Rattle.interp_core.proofs.objects.put_cell.Goals as goal

pub put-requires : goal.put-requires
put-requires c =
    let same = c.cells_of.ensures ∙ cells_same (store_of c.args.core.now) c.args.object in
    omega (arith, ap length same, c.if-cell-cells_of.true)

pub returns-then-cell-cells_of-clause-store : goal.returns-then-cell-cells_of-clause-store
returns-then-cell-cells_of-clause-store c =
    let old = store_of c.args.core.now in
    ap (λ (h : HeapState). record old { objects = h.objects; left = h.left }) c.put.ensures ∙ sym (with_cell_is old c.args.object c.args.cell c.args.value)

pub returns-else-cell-cells_of-clause-store : goal.returns-else-cell-cells_of-clause-store
returns-else-cell-cells_of-clause-store c = sym (with_no_cell (store_of c.args.core.now) c.args.object c.args.cell c.args.value (omega (arith, ap length c.cells_of.ensures, c.if-cell-cells_of.false)))
