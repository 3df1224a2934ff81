use Rattle.std.proofs.Common.{◌≡◌, ◌+◌, true, false, if◌then◌else◌}
use Rattle.memory_space.specs.SpaceLists.{has_bytes, swept}
use Rattle.table_objects.specs.ObjectChanges.{count_of}
use Rattle.memory_space.proofs.space.Space.sweep.Given as goal

abbrev pub invariant-loop-more : goal.invariant-loop-more
invariant-loop-more l = (l.more ≡ true → swept l.self ≡ swept l.fn.self) × (l.more ≡ false → l.self ≡ swept l.fn.self)

abbrev pub decreases-loop-more : goal.decreases-loop-more
decreases-loop-more l = if l.more then count_of has_bytes l.self.extents + 1 else 0
