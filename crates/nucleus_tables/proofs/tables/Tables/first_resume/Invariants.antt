use Rattle.std.proofs.Common.{◌≡◌, ◌-◌, ◌≤◌}
use Rattle.std.specs.List.{range_with_len}
use Rattle.jx_base.specs.Basics.{first_some}
use Rattle.jx_model.specs.Permits.{resume_at}
use Rattle.jx_model.specs.Threads.{threads_of}
use Rattle.nucleus_tables.specs.Inner.{past_in}
use Rattle.nucleus_tables.proofs.tables.Tables.first_resume.Given as goal

-- the first resume is the first from this thread on
abbrev pub invariant-loop-number : goal.invariant-loop-number
invariant-loop-number l =
    (l.number ≤ l.number-end)
    × (first_some (resume_at (past_in l.self) l.domain.0) (threads_of (past_in l.self) l.domain.0)
    ≡ first_some (resume_at (past_in l.self) l.domain.0) (range_with_len l.number (l.number-end - l.number)))
