use Rattle.std.proofs.Common.{◌≡◌, ◌-◌}
use Rattle.interp_core.specs.Cores.{core_state, running_stack}
use Rattle.interp_access.specs.Nested.{has_negative}
use Rattle.interp_access.proofs.nested.has_negative.Given as goal

abbrev pub invariant-loop-above : goal.invariant-loop-above
invariant-loop-above l = has_negative (running_stack (core_state l.core)) l.above (l.count - l.above) ≡ has_negative (running_stack (core_state l.core)) 0 l.count
