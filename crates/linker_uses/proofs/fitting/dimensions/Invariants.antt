use Rattle.std.proofs.Common.{◌≡◌, ◌+◌, ◌-◌, ◌≤◌, drop, length}
use Rattle.link_model.specs.LinkFaults.{dimensions_of}
use Rattle.linker_uses.proofs.fitting.dimensions.Given as goal

abbrev pub invariant-loop-unit : goal.invariant-loop-unit
invariant-loop-unit l = (l.count ≤ length l.class) × (dimensions_of l.class ≡ l.count + dimensions_of (drop l.count l.class))

abbrev pub decreases-loop-unit : goal.decreases-loop-unit
decreases-loop-unit l = length l.class - l.count
