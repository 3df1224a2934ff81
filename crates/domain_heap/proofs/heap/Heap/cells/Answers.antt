use Rattle.std.proofs.Common.{arith, sym, ap, ◌∙◌, ◌≡◌, ◌+◌, length, ℕ, ◌-◌, take, drop}
use Rattle.domain_heap.proofs.Runs.{read_place, read_cells, laid_at}
use Rattle.domain_heap.proofs.heap.Heap.cells.Goals as goal

pub slice_bounds-result-end : goal.slice_bounds-result-end
slice_bounds-result-end c =
    let h = c.self.inside in let p = c.index-place.result.now in
    let e = read_place h c.args.self.now c.self.view_is c.args.object p c.requires c.index-place.ensures in
    let at = laid_at 0 h.places.items (length h.cells.items) c.self.invariant.laid c.args.object p e in
    omega (arith, at.1, ap length c.as_slice.ensures.value)

pub returns : goal.returns
returns c =
    let h = c.self.inside in let p = c.index-place.result.now in
    let e = read_place h c.args.self.now c.self.view_is c.args.object p c.requires c.index-place.ensures in
    let n : p.at + p.count - p.at ≡ p.count = omega arith in
    ap (λ (k : ℕ). take k (drop p.at c.as_slice.result.now)) n
    ∙ ap (λ xs. take p.count (drop p.at xs)) c.as_slice.ensures.value
    ∙ sym (read_cells h c.args.self.now c.self.view_is c.args.object p e)
