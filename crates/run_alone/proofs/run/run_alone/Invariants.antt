use Rattle.run_alone.proofs.Measures.{left_of}
use Rattle.run_alone.specs.Workers.{HasCome}
use Rattle.run_alone.proofs.run.run_alone.Given as goal

abbrev pub invariant-loop-going : goal.invariant-loop-going
invariant-loop-going l = HasCome l.system l.worker l.going

abbrev pub decreases-loop-going : goal.decreases-loop-going
decreases-loop-going l = left_of l.system l.worker l.going
