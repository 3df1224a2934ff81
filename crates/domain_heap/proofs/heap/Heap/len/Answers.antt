use Rattle.std.proofs.Common.{sym}
use Rattle.domain_heap.proofs.Runs.{read_place, read_count}
use Rattle.domain_heap.proofs.heap.Heap.len.Goals as goal

pub returns : goal.returns
returns c =
    let h = c.self.inside in let p = c.index.result.now in
    let e = read_place h c.args.self.now c.self.view_is c.args.object p c.requires c.index.ensures in
    sym (read_count h c.args.self.now c.self.view_is c.self.invariant c.args.object p e)
