use Rattle.std.proofs.Common.{◌≡◌, take}
use Rattle.boot_classes.specs.Rows.{throwables_of}
use Rattle.boot_classes.proofs.throwables.throwables.Given as goal

abbrev pub invariant-loop-row : goal.invariant-loop-row
invariant-loop-row l = l.classes.items ≡ throwables_of (take l.row-index l.rows)
