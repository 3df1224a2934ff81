use Rattle.std.proofs.Common.{sym, ap, ◌∙◌, ◌<◌, length, slice_get}
use Rattle.std.proofs.lemmas.Option.{slice_get-get_or}
use Rattle.domain_heap.proofs.Runs.{has_object}
use Rattle.domain_heap.proofs.heap.Heap.get.Goals as goal

pub cells-requires : goal.cells-requires
cells-requires c = has_object _ _ _ c.requires

pub returns : goal.returns
returns c =
    let l : c.args.cell < length c.cells.result.now = rw c.cells.ensures c.requires in
    ap (λ xs. slice_get xs c.args.cell) (sym c.cells.ensures) ∙ slice_get-get_or c.cells.result.now c.args.cell _ l
