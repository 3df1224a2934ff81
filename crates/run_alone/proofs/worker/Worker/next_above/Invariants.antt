use Rattle.std.proofs.Common.{◌≡◌, ◌-◌, ◌≤◌, ◌&&◌, ℕ}
use Rattle.std.specs.Prelude.{find, nat_lt}
use Rattle.std.specs.List.{range_with_len}
use Rattle.jx_model.specs.Permits.{can_act}
use Rattle.jx_model.specs.SingleWorker as Spec
use Rattle.run_alone.specs.Workers.{past_in}
use Rattle.run_alone.proofs.worker.Worker.next_above.Given as goal

-- the least domain above that number is the first from here on
abbrev pub invariant-loop-number : goal.invariant-loop-number
invariant-loop-number l =
    (l.number ≤ l.number-end)
    × (Spec.next_above (past_in l.self) l.above ≡ find (λ (k : ℕ). nat_lt l.above k && can_act (past_in l.self) k) (range_with_len l.number (l.number-end - l.number)))
