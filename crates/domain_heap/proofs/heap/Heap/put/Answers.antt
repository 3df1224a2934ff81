use Rattle.std.proofs.Common.{arith, sym, ap, ◌∙◌, ◌≡◌, ◌+◌, length, slice_set, map}
use Rattle.domain_heap.specs.Heaps.{HeapState, with_cell}
use Rattle.domain_heap.specs.Layout.{object_of}
use Rattle.domain_heap.proofs.Runs.{same_objects, same_count, read_place, read_count, laid_at, objects_set, object_at, has_object, with_cell_at}
use Rattle.domain_heap.proofs.heap.Heap.put.Goals as goal

pub index-place-requires : goal.index-place-requires
index-place-requires c =
    let h = c.self.inside in
    let n = same_count h c.args.self.now c.self.view_is in
    let l = has_object c.args.self.now.objects c.args.object c.args.cell c.requires in
    omega (arith, n, l, h.places.ok.0)

pub index_mut-requires : goal.index_mut-requires
index_mut-requires c =
    let h = c.self.inside in let p = c.index-place.result.now in
    let l = has_object c.args.self.now.objects c.args.object c.args.cell c.requires in
    let e = read_place h c.args.self.now c.self.view_is c.args.object p l c.index-place.ensures in
    let at = laid_at 0 h.places.items (length h.cells.items) c.self.invariant.laid c.args.object p e in
    let n = read_count h c.args.self.now c.self.view_is c.self.invariant c.args.object p e in
    omega (arith, at.1, n, c.requires, h.cells.ok.0)

pub returns : goal.returns
returns c =
    let h = c.self.inside in let p = c.index-place.result.now in let state = c.args.self.now in
    let l = has_object state.objects c.args.object c.args.cell c.requires in
    let e = read_place h state c.self.view_is c.args.object p l c.index-place.ensures in
    let n = read_count h state c.self.view_is c.self.invariant c.args.object p e in
    let objects = objects_set 0 h.places.items h.cells.items (length h.cells.items) c.self.invariant.laid c.args.object p c.args.cell c.args.value e (omega (arith, n, c.requires)) in
    let was = with_cell_at (map (object_of h.cells.items) h.places.items) c.args.object c.args.cell c.args.value (object_of h.cells.items p) (object_at h.places.items h.cells.items c.args.object p e) in
    let new : with_cell state.objects c.args.object c.args.cell c.args.value ≡ map (object_of (slice_set h.cells.items (p.at + c.args.cell) c.args.value)) h.places.items =
    ap (λ os. with_cell os c.args.object c.args.cell c.args.value) (sym (same_objects h state c.self.view_is)) ∙ was ∙ sym objects in
    let left : h.left ≡ state.left = ap (λ (s : HeapState). s.left) c.self.view_is in
    let back = sym new in
    λ j. record { objects = back j; left = left j }
