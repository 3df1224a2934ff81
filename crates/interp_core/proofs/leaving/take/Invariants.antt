use Rattle.std.proofs.Common.{◌≡◌, drop}
use Rattle.interp_core.proofs.leaving.take.Given as goal

abbrev pub invariant-loop : goal.invariant-loop
invariant-loop l = l.stack ≡ record l.fn.stack { values = drop l.counter l.fn.stack.values }
