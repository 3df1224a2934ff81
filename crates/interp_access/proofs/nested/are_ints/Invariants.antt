use Rattle.std.proofs.Common.{◌≡◌, ◌-◌}
use Rattle.interp_core.specs.Cores.{core_state, running_stack}
use Rattle.interp_access.specs.Nested.{are_ints}
use Rattle.interp_access.proofs.nested.are_ints.Given as goal

abbrev pub invariant-loop-above : goal.invariant-loop-above
invariant-loop-above l = are_ints (running_stack (core_state l.core)) l.above (l.count - l.above) ≡ are_ints (running_stack (core_state l.core)) 0 l.count
