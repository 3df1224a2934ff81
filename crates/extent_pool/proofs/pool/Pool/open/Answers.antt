use Rattle.extent_pool.proofs.Pools.{whole_apart, whole_sum, whole_view}
use Rattle.std.proofs.Common.{arith}
use Rattle.extent_pool.proofs.pool.Pool.open.Goals as goal

pub invariant_of-result : goal.invariant_of-result
invariant_of-result c =
    let holes = c.in_ok-holes.holes.items in
    record {
      apart = whole_apart c.args.granules holes c.in_ok-holes.ensures.items;
      counted = whole_sum c.args.granules holes c.in_ok-holes.ensures.items;
      room = c.in_ok-holes.ensures.room;
      small = omega arith;
    }

pub returns : goal.returns
returns c = whole_view c.args.granules c.in_ok-holes.holes.items c.in_ok-holes.ensures.items
