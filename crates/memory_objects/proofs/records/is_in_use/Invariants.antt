use Rattle.std.proofs.Common.{◌≡◌, false}
use Rattle.std.specs.List.{list_any}
use Rattle.jx_base.specs.Basics.{up_to}
use Rattle.memory_objects.proofs.UsedExtents.{is_use}
use Rattle.memory_objects.proofs.records.is_in_use.Given as goal

abbrev pub invariant-loop-place : goal.invariant-loop-place
invariant-loop-place l = list_any (is_use l.parts l.records l.extent) (up_to l.place) ≡ false
