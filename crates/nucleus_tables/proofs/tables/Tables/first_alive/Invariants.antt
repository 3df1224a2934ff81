use Rattle.std.proofs.Common.{◌≡◌, ◌-◌, ◌≤◌}
use Rattle.std.specs.Prelude.{find}
use Rattle.std.specs.List.{range_with_len}
use Rattle.jx_model.specs.Permits.{can_act, first_alive}
use Rattle.nucleus_tables.specs.Inner.{past_in}
use Rattle.nucleus_tables.proofs.tables.Tables.first_alive.Given as goal

-- the first domain that can act is the first from here on
abbrev pub invariant-loop-number : goal.invariant-loop-number
invariant-loop-number l =
    (l.number ≤ l.number-end)
    × (first_alive (past_in l.self) ≡ find (can_act (past_in l.self)) (range_with_len l.number (l.number-end - l.number)))
