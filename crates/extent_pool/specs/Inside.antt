-- What a pool is seen as.
use Rattle.std.specs.Prelude.{◌≡◌, ◌+◌, ◌*◌, ◌^◌, ◌<◌, ◌≤◌, Bool, List, sum_by, vec_capacity}
use Rattle.extent_pool.specs.declared.pool.Pool.TheInside.{Inside}
use Rattle.extent_pool.specs.Holes.{AreApart, granules_of}

-- for each granule whether it is taken
abbrev pub taken_granules : Inside → List Bool
taken_granules p = granules_of p.granules p.holes.items

-- the holes lie apart, their granules are counted, and there is room for all holes that there can be
pub record IsPool (p : Inside) : Type 0 where
  pub apart : AreApart 0 (p.granules + 1) p.holes.items
  pub counted : sum_by (λ h. h.count) p.holes.items ≡ p.spare
  pub room : p.granules + 2 ≤ 2 * vec_capacity p.holes
  pub small : p.granules < 2 ^ 32
