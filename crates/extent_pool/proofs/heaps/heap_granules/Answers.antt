use Rattle.std.proofs.Common.{◌∙◌, sym}
use Rattle.extent_pool.proofs.HeapSizes.{granules_found, granules_none}
use Rattle.extent_pool.proofs.heaps.heap_granules.Goals as goal

pub returns-in-Some-clause-granules : goal.returns-in-Some-clause-granules
returns-in-Some-clause-granules c =
    let h = c.in-Some.ensures.lookup in
    let e = c.as_slice.ensures in
    c.granules_of.ensures.granules ∙ sym (granules_found c.args.system.now c.args.template c.in-Some.found.now (rw e at h.3.0) (rw e at h.1))

pub returns-in-None-clause-granules : goal.returns-in-None-clause-granules
returns-in-None-clause-granules c =
    let h = c.in-None.ensures.lookup in
    let e = c.as_slice.ensures in
    sym (granules_none c.args.system.now c.args.template (rw e at h.3))
