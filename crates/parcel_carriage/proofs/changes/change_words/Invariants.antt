use Rattle.std.proofs.Common.{◌≡◌, take}
use Rattle.memory_space.specs.SpaceLists.{objects_in, with_objects}
use Rattle.parcel_carriage.specs.Changes.{is_new, with_those}
use Rattle.parcel_carriage.proofs.changes.change_words.Given as goal

abbrev pub invariant-loop-place : goal.invariant-loop-place
invariant-loop-place l =
    l.space ≡ with_objects l.initial.space
    (with_those l.change (is_new l.roots l.nodes (take l.place l.words)) (objects_in l.initial.space))
