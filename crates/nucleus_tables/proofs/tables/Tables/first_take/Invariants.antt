use Rattle.std.proofs.Common.{◌≡◌, ◌-◌, ◌≤◌, drop}
use Rattle.jx_base.specs.Basics.{first_some}
use Rattle.jx_model.specs.Permits.{take_at}
use Rattle.jx_model.specs.Threads.{service_threads}
use Rattle.nucleus_tables.specs.Inner.{past_in}
use Rattle.nucleus_tables.proofs.tables.Tables.first_take.Given as goal

-- the first take is the first from this thread on
abbrev pub invariant-loop-number : goal.invariant-loop-number
invariant-loop-number l =
    (1 ≤ l.number) × (l.number ≤ l.number-end)
    × (first_some (λ k. take_at (past_in l.self) l.domain.0 k.0) (service_threads (past_in l.self) l.domain.0)
    ≡ first_some (λ k. take_at (past_in l.self) l.domain.0 k.0) (drop (l.number - 1) (service_threads (past_in l.self) l.domain.0)))
