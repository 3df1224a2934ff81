use Rattle.std.proofs.Common.{arith, ap, ◌∙◌, ◌≡◌, ◌+◌, length, ℕ, true}
use Rattle.domain_heap.specs.Heaps.{HeapState}
use Rattle.jx_base.specs.declared.value.Value.TheVariants as value
use Rattle.std.specs.Result.{is_ok}
use Rattle.std.specs.Prelude.{not, replicate, vec_len}
use Rattle.std.proofs.lemmas.List.{length-append, length-replicate, length_push}
use Rattle.domain_heap.proofs.Runs.{more_places, more_cells, laid_longer, made_heap, same_objects}
use Rattle.domain_heap.proofs.heap.Heap.make.Goals as goal

pub invariant_of-self : goal.invariant_of-self
invariant_of-self c =
    let h = c.self.inside in
    let pushed : is_ok c.push.result ≡ true = c.is_err.ensures.negation ∙ ap not c.if-is_err.false in
    let resized : is_ok c.resize.result ≡ true = c.is_err-else-is_err.ensures.negation ∙ ap not c.if-is_err-2.false in
    let at : c.len-at.result ≡ length h.cells.items = omega (arith, c.len-at.ensures, h.cells.ok.0) in
    let places = more_places h.places.items c.push.new.self.items c.args.class c.len-at.result (length h.cells.items) c.args.count (rw pushed at c.push.ensures.items) at in
    let cells = more_cells h.cells.items c.resize.new.self.items c.len-at.result (vec_len h.cells) c.args.count (rw resized at c.resize.ensures.items) at (omega (arith, h.cells.ok.0)) in
    let count : length c.resize.new.self.items ≡ length h.cells.items + c.args.count = ap length cells ∙ length-append h.cells.items (replicate c.args.count value.Null) ∙ ap (λ (n : ℕ). length h.cells.items + n) (length-replicate c.args.count value.Null) in
    let objects : length c.push.new.self.items ≡ length h.places.items + 1 = ap length places ∙ length_push h.places.items _ in
    record {
      laid = laid_longer h.places.items c.push.new.self.items (length h.cells.items) (length c.resize.new.self.items) c.args.class c.args.count c.self.invariant.laid places count;
      small = omega (arith, count, objects, c.self.invariant.small);
      cells_fit = omega (arith, count, c.self.invariant.cells_fit, c.resize.ensures.capacity);
      places_fit = omega (arith, objects, c.self.invariant.places_fit, c.push.ensures.capacity);
    }

pub returns-clause-after : goal.returns-clause-after
returns-clause-after c =
    let h = c.self.inside in let state = c.args.self.now in
    let pushed : is_ok c.push.result ≡ true = c.is_err.ensures.negation ∙ ap not c.if-is_err.false in
    let resized : is_ok c.resize.result ≡ true = c.is_err-else-is_err.ensures.negation ∙ ap not c.if-is_err-2.false in
    let at : c.len-at.result ≡ length h.cells.items = omega (arith, c.len-at.ensures, h.cells.ok.0) in
    let places = more_places h.places.items c.push.new.self.items c.args.class c.len-at.result (length h.cells.items) c.args.count (rw pushed at c.push.ensures.items) at in
    let cells = more_cells h.cells.items c.resize.new.self.items c.len-at.result (vec_len h.cells) c.args.count (rw resized at c.resize.ensures.items) at (omega (arith, h.cells.ok.0)) in
    let left : h.left ≡ state.left = ap (λ (s : HeapState). s.left) c.self.view_is in
    made_heap h.places.items c.push.new.self.items h.cells.items c.resize.new.self.items state c.args.class c.args.count h.left c.self.invariant.laid
    places cells (same_objects h state c.self.view_is) left (omega (arith, left))
