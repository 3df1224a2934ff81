use Rattle.std.proofs.Common.{arith}
use Rattle.test_memory.proofs.Placed.{closed}
use Rattle.test_memory.proofs.packed.are_closed.Goals as goal

pub returns : goal.returns
returns c = λ _. closed c.args.heap.now.objects (λ k l. c.loop-object.invariant k (omega (arith, l)))
