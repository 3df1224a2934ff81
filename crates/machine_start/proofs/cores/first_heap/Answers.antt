use Rattle.std.proofs.Common.{◌≡◌, ◌+◌, ◌≤◌, ◌∙◌, ap, arith}
use Rattle.domain_heap.specs.Heaps.{HeapState, with_object}
use Rattle.jx_base.specs.declared.ids.ClassId.{ClassId}
use Rattle.machine_model.specs.Start.{object_of}
use Rattle.program_model.specs.BuiltIn.{out_of_memory_error}
use Rattle.machine_start.proofs.FirstHeap.{has_made}
use Rattle.machine_start.proofs.cores.first_heap.Goals as goal

pub returns-clause-objects : goal.returns-clause-objects
unfolding object_of out_of_memory_error
returns-clause-objects c =
    let error : ClassId = record { 0 = 16 } in
    let start = c.in_ok-heap.heap in
    let opened = c.in_ok-heap.ensures in
    let left : start.left ≡ c.args.cells = ap (λ (h : HeapState). h.left) opened in
    let one = has_made start c.make.new.self error 1 c.make.ensures.after (omega (arith, left, c.requires)) in
    let less : 0 + 2 ≤ c.make.new.self.left = omega (arith, left, c.requires, ap (λ (h : HeapState). h.left) one) in
    let two = has_made c.make.new.self c.make-2.new.self c.args.array 0 c.make-2.ensures.after less in
    ap (λ (h : HeapState). h.objects) (two ∙ ap (λ h. with_object h c.args.array 0) (one ∙ ap (λ h. with_object h error 1) opened))
