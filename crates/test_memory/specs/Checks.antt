-- What the tests ask of heaps and of pools before a call.
use Rattle.std.specs.Prelude.{ℕ, ◌+◌, Bool, true, ◌||◌, nat_le, nat_lt}
use Rattle.jx_base.specs.declared.value.Value.{Value}
use Rattle.jx_base.specs.declared.value.Value.TheVariants as value
use Rattle.extent_pool.specs.declared.hole.Hole.{Hole}

-- whether a value refers to one of the first n objects, if to any
abbrev pub is_placed : ℕ → Value → Bool
is_placed n (value.Ref r) = nat_lt r n
is_placed n _ = true

-- whether the hole has none of these n granules
abbrev pub lies_apart : ℕ → ℕ → Hole → Bool
lies_apart at n h = nat_le (h.at + h.count) at || nat_le (at + n) h.at
