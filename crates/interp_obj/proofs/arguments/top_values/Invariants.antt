use Rattle.std.proofs.Common.{◌≡◌, ◌≤◌, ◌<◌, drop, take, length, reverse}
use Rattle.interp_core.specs.Cores.{core_state, running_stack}
use Rattle.interp_obj.proofs.arguments.top_values.Given as goal

abbrev pub invariant-loop-above : goal.invariant-loop-above
invariant-loop-above l =
    (l.values.items ≡ reverse (drop l.above (take l.count (running_stack (core_state l.core)))))
    × ((l.above ≤ l.count) × (l.above < l.count → l.count ≤ length (running_stack (core_state l.core))))

abbrev pub decreases-loop-above : goal.decreases-loop-above
decreases-loop-above l = l.above
