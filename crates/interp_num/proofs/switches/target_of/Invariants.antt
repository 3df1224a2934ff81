use Rattle.std.proofs.Common.{◌≡◌, length, drop, ◌-◌}
use Rattle.machine_model.specs.NumericRows.{target_of}
use Rattle.interp_num.proofs.switches.target_of.Given as goal

abbrev pub invariant-loop-place : goal.invariant-loop-place
invariant-loop-place l = target_of (drop l.place l.operands) l.key l.default ≡ target_of (drop 2 l.operands) l.key l.default

abbrev pub decreases-loop-place : goal.decreases-loop-place
decreases-loop-place l = length l.initial.operands - l.place
