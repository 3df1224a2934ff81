use Rattle.std.proofs.Common.{◌≡◌, take}
use Rattle.memory_space.specs.SpaceLists.{objects_in, with_objects}
use Rattle.parcel_carriage.specs.Changes.{stands_in, with_those}
use Rattle.parcel_carriage.proofs.changes.change_each.Given as goal

abbrev pub invariant-loop-place : goal.invariant-loop-place
invariant-loop-place l =
    l.space ≡ with_objects l.fn.space
    (with_those l.change (stands_in l.roots (take l.place l.nodes)) (objects_in l.fn.space))
