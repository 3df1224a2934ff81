-- Numbers that acts are given.
use Rattle.std.specs.Prelude.{ℕ, ℤ, Option, Some, None, if◌then◌else◌}
use Rattle.jx_base.specs.Basics.{not_below_zero}
use Rattle.jx_model.specs.Replies.{is_positive_up_to}
use Rattle.program_model.specs.Limits.{allocation_limit}

-- the bytes of an allocation of so many, where there is one of so many
abbrev pub allocation : ℤ → Option ℕ
allocation n = if is_positive_up_to allocation_limit n then Some (not_below_zero n) else None
