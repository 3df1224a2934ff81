use Rattle.std.proofs.Common.{◌≡◌}
use Rattle.std.specs.Vec.Iter.{into_iter_items}
use Rattle.asm_constants.specs.Pools.{with_all_new}
use Rattle.asm_constants.proofs.pool.Pool.add_all.Given as goal

abbrev pub invariant-loop-content : goal.invariant-loop-content
invariant-loop-content l =
    (goal.iterator-loop-content).can_next l.content-iterator
    × (goal.iterator-loop-content).is_finite l.content-iterator
    × (with_all_new l.self (into_iter_items l.content-iterator) ≡ with_all_new l.initial.self l.fn.contents.items)
