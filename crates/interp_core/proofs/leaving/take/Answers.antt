use Rattle.interp_core.proofs.Leavings.{one_taken}
use Rattle.interp_core.proofs.leaving.take.Goals as goal

pub loop-preserved : goal.loop-preserved
loop-preserved c = one_taken c.args.stack.now c.loop.stack _ c.loop.counter c.loop.invariant c.pop.ensures.rest
