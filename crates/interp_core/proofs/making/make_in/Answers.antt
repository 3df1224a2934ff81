-- The newest object, with its cells filled so far.
use Rattle.std.proofs.Common.{◌≡◌, ◌<◌, ◌∙◌, ◌++◌, ◌∷◌, [], ap, length, arith}
use Rattle.domain_heap.specs.Heaps.{HeapState, with_cell}
use Rattle.program_model.specs.Parcels.{cells_at}
use Rattle.interp_core.specs.Making.{contents_cells}
use Rattle.interp_core.proofs.Filling.{cells_last, with_cell_last, filled, length_filled, fill_more, some_place}
use Rattle.interp_core.proofs.making.make_in.Goals as goal

pub put-requires : goal.put-requires
put-requires c =
    let cells = contents_cells c.args.contents in let objects = c.args.heap.now.objects in
    let i : c.loop-cell.cell < length cells = omega (arith, c.cell_count-count.ensures, c.loop-cell-test.true) in
    let at = (some_place _ _ _ c.in_ok-object.ensures.place).1 in
    let e : cells_at c.loop-cell.heap.objects c.in_ok-object.object ≡ filled cells c.loop-cell.cell =
    ap (cells_at c.loop-cell.heap.objects) at
    ∙ ap (λ os. cells_at os (length objects)) c.loop-cell.invariant.objects
    ∙ cells_last objects (record { class = c.args.class; cells = filled cells c.loop-cell.cell }) in
    omega (arith, ap length e, length_filled cells c.loop-cell.cell (omega arith), i)

pub loop-cell-preserved : goal.loop-cell-preserved
loop-cell-preserved c =
    let cells = contents_cells c.args.contents in let objects = c.args.heap.now.objects in
    let i : c.loop-cell.cell < length cells = omega (arith, c.cell_count-count.ensures, c.loop-cell-test.true) in
    let at = (some_place _ _ _ c.in_ok-object.ensures.place).1 in
    let now = filled cells c.loop-cell.cell in
    record {
      objects =
          ap (λ (h : HeapState). h.objects) c.put.ensures
          ∙ ap (λ r. with_cell c.loop-cell.heap.objects r c.loop-cell.cell c.content_at.result) at
          ∙ ap (λ os. with_cell os (length objects) c.loop-cell.cell c.content_at.result) c.loop-cell.invariant.objects
          ∙ with_cell_last objects (record { class = c.args.class; cells = now }) c.loop-cell.cell c.content_at.result
          ∙ ap (λ xs. objects ++ record { class = c.args.class; cells = xs } ∷ []) (fill_more cells c.loop-cell.cell c.content_at.result i c.content_at.ensures);
      left = ap (λ (h : HeapState). h.left) c.put.ensures ∙ c.loop-cell.invariant.left;
    }
