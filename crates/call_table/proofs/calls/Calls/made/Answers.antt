use Rattle.std.proofs.Common.{arith}
use Rattle.call_table.proofs.calls.Calls.made.Goals as goal

pub overflow_cast-result : goal.overflow_cast-result
overflow_cast-result c = record { fits = omega (arith, c.len.ensures, c.self.inside.calls.ok.0, c.self.invariant.count, c.self.invariant.small) }
