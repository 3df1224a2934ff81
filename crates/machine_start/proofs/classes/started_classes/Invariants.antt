use Rattle.std.proofs.Common.{◌≡◌, take}
use Rattle.machine_model.specs.Start.{started_classes}
use Rattle.machine_start.proofs.classes.started_classes.Given as goal

abbrev pub invariant-loop-place : goal.invariant-loop-place
invariant-loop-place l = l.classes.keys ≡ started_classes l.system (take l.place-index l.places)
