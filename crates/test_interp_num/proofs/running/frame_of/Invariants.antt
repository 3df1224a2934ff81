use Rattle.std.proofs.Common.{◌≡◌, ◌+◌, length}
use Rattle.machine_model.specs.NumericRows.{depth_of}
use Rattle.test_interp_num.proofs.running.frame_of.Given as goal

abbrev pub invariant-loop-n : goal.invariant-loop-n
invariant-loop-n l = length l.held ≡ length l.fn.locals

abbrev pub invariant-loop-value : goal.invariant-loop-value
invariant-loop-value l = (depth_of l.operands.values + l.left ≡ l.stack) × (l.operands.room ≡ l.stack)
