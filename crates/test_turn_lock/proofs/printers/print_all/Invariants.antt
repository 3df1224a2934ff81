use Rattle.std.proofs.Common.{◌≡◌, false}
use Rattle.test_turn_lock.proofs.printers.print_all.Given as goal

abbrev pub invariant-loop-unit : goal.invariant-loop-unit
invariant-loop-unit g l = (l.pass.lock ≡ l.turn) × (l.pass.holds ≡ false)
