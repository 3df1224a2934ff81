use Rattle.std.proofs.Common.{arith, ap, ◌∙◌, ◌≡◌, ◌+◌, ◌-◌, ◌<◌, ◌≤◌, ◌++◌, ◌∷◌, [], Bool, true, Some, None, length, get_or, if◌then◌else◌, set, pos}
use Rattle.std.proofs.lemmas.List.{get_or_default}
use Rattle.std.specs.Prelude.{nat_le}
use Rattle.std.proofs.lemmas.Bool.Decides.{nat_tests}
use Rattle.std.proofs.lemmas.Option.{none-some, same_Some}
use Rattle.jx_base.specs.declared.value.Value.TheVariants as value
use Rattle.jx_base.specs.declared.value.Word.TheVariants as word
use Rattle.program_model.specs.ParcelParts.{node_size}
use Rattle.program_model.specs.Parcels.{cells_at, value_of, unpacked_object}
use Rattle.domain_heap.specs.Heaps.{HeapState, with_cell}
use Rattle.param_copy.proofs.NodeSteps.{cells_last, with_cell_last, filled, length_filled, fill_more, fill_all}
use Rattle.param_copy.proofs.unpacking.add_node.Goals as goal

pub overflow_cast-words : goal.overflow_cast-words
unfolding node_size
overflow_cast-words c =
    let n = ap length c.as_slice-words.ensures in
    let l : length c.as_slice-words.result.now < 4294967296 = omega (arith, n, c.requires.small) in
    omega arith

pub unreachable-requires : goal.unreachable-requires
unfolding node_size
unreachable-requires c =
    let n = ap length c.as_slice-words.ensures in
    let l : length c.as_slice-words.result.now + 2 ≤ c.args.heap.now.left = omega (arith, n, c.requires.room) in
    let room : nat_le (length c.as_slice-words.result.now + 2) c.args.heap.now.left ≡ true = grind (arith, nat_tests) in
    none-some (length c.args.heap.now.objects) (c.in_default.ensures.place ∙ ap (λ (b : Bool). if b then Some (length c.args.heap.now.objects) else None) room)

pub overflow_cast-cell : goal.overflow_cast-cell
unfolding node_size
overflow_cast-cell c =
    let n = ap length c.as_slice-words.ensures in
    let l : c.loop-cell.cell < 4294967296 = omega (arith, n, c.requires.small, c.loop-cell-test.true) in
    omega arith

pub put-requires : goal.put-requires
unfolding node_size
put-requires c =
    let words = c.args.node.now.cells in let objects = c.args.heap.now.objects in
    let n = ap length c.as_slice-words.ensures in
    let i : c.loop-cell.cell < length words = omega (arith, n, c.loop-cell-test.true) in
    let l : length c.as_slice-words.result.now + 2 ≤ c.args.heap.now.left = omega (arith, n, c.requires.room) in
    let room : nat_le (length c.as_slice-words.result.now + 2) c.args.heap.now.left ≡ true = grind (arith, nat_tests) in
    let at : c.in-Some.object ≡ length objects = same_Some _ _ (c.in-Some.ensures.place ∙ ap (λ (b : Bool). if b then Some (length objects) else None) room) in
    let cells = filled (value_of c.args.first) value.Null words c.loop-cell.cell in
    let e : cells_at c.loop-cell.heap.objects c.in-Some.object ≡ cells =
    ap (cells_at c.loop-cell.heap.objects) at
    ∙ ap (λ os. cells_at os (length objects)) c.loop-cell.invariant.objects
    ∙ cells_last objects (record { class = c.args.node.now.class; cells = cells }) in
    omega (arith, ap length e, length_filled (value_of c.args.first) value.Null words c.loop-cell.cell (omega arith), i)

pub loop-cell-preserved : goal.loop-cell-preserved
unfolding node_size
loop-cell-preserved c =
    let words = c.args.node.now.cells in let objects = c.args.heap.now.objects in let f = value_of c.args.first in
    let n = ap length c.as_slice-words.ensures in
    let i : c.loop-cell.cell < length words = omega (arith, n, c.loop-cell-test.true) in
    let l : length c.as_slice-words.result.now + 2 ≤ c.args.heap.now.left = omega (arith, n, c.requires.room) in
    let room : nat_le (length c.as_slice-words.result.now + 2) c.args.heap.now.left ≡ true = grind (arith, nat_tests) in
    let at : c.in-Some.object ≡ length objects = same_Some _ _ (c.in-Some.ensures.place ∙ ap (λ (b : Bool). if b then Some (length objects) else None) room) in
    let cells = filled f value.Null words c.loop-cell.cell in
    let v : c.value_of.result ≡ f (get_or words c.loop-cell.cell word.Null) =
    c.value_of.ensures
    ∙ ap f (ap (λ xs. get_or xs c.loop-cell.cell (word.Int (pos 0))) c.as_slice-words.ensures ∙ get_or_default words c.loop-cell.cell (word.Int (pos 0)) word.Null i) in
    record {
      objects =
          ap (λ (s : HeapState). s.objects) c.put.ensures
          ∙ ap (λ r. with_cell c.loop-cell.heap.objects r c.loop-cell.cell c.value_of.result) at
          ∙ ap (λ os. with_cell os (length objects) c.loop-cell.cell c.value_of.result) c.loop-cell.invariant.objects
          ∙ with_cell_last objects (record { class = c.args.node.now.class; cells = cells }) c.loop-cell.cell c.value_of.result
          ∙ ap (λ x. objects ++ record { class = c.args.node.now.class; cells = set cells c.loop-cell.cell x } ∷ []) v
          ∙ ap (λ xs. objects ++ record { class = c.args.node.now.class; cells = xs } ∷ []) (fill_more f value.Null words c.loop-cell.cell word.Null i);
      left = ap (λ (s : HeapState). s.left) c.put.ensures ∙ c.loop-cell.invariant.left;
    }

pub returns : goal.returns
unfolding node_size unpacked_object
returns c =
    let words = c.args.node.now.cells in let objects = c.args.heap.now.objects in let f = value_of c.args.first in
    let n = ap length c.as_slice-words.ensures in
    let l : length words ≤ c.loop-cell.cell = omega (arith, n, c.loop-cell-test.false) in
    let os = c.loop-cell.invariant.objects ∙ ap (λ xs. objects ++ record { class = c.args.node.now.class; cells = xs } ∷ []) (fill_all f value.Null words c.loop-cell.cell l) in
    let left : c.loop-cell.heap.left ≡ c.args.heap.now.left - (0 + (2 + length words)) = omega (arith, c.loop-cell.invariant.left) in
    λ j. record { objects = os j; left = left j }
