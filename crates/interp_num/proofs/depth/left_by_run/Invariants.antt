use Rattle.std.proofs.Common.{◌≡◌, ◌+◌, take}
use Rattle.machine_model.specs.NumericRows.{depth_of}
use Rattle.interp_num.proofs.depth.left_by_run.Given as goal

abbrev pub invariant-loop-value : goal.invariant-loop-value
invariant-loop-value l = depth_of (take l.value-index l.run) + l.left ≡ l.most
