use Rattle.std.proofs.Common.{◌≡◌, ◌≤◌, ◌++◌, ◌-◌, take, length}
use Rattle.interp_num.proofs.depth.take_run.Given as goal

abbrev pub invariant-loop-count : goal.invariant-loop-count
invariant-loop-count l = (l.count ≤ length l.run) × (length l.run ≡ length l.fn.run) × (take l.count l.run ++ l.stack.values ≡ l.fn.stack.values) × (l.stack.room ≡ l.fn.stack.room)

abbrev pub decreases-loop-count : goal.decreases-loop-count
decreases-loop-count l = length l.initial.run - l.count
