use Rattle.std.proofs.Common.{◌≡◌, ◌++◌}
use Rattle.std.specs.Prelude.{flat_map}
use Rattle.asm_constants.specs.Pools.{constant_bytes, pool_bytes}
use Rattle.asm_constants.proofs.pool.Pool.bytes.Given as goal

abbrev pub invariant-loop-content : goal.invariant-loop-content
invariant-loop-content l = l.bytes.items ++ flat_map (constant_bytes l.self) l.content-iterator ≡ pool_bytes l.self
