use Rattle.std.proofs.Common.{ℕ}
use Rattle.interp_core.specs.Cores.{store_of}
use Rattle.machine_model.specs.State.{State}
use Rattle.domain_machine.specs.Works.{IsAtWork, Reaches, at_work, working}
use Rattle.domain_machine.proofs.working.run_thread.Given as goal

abbrev pub invariant-loop-thread : goal.invariant-loop-thread
invariant-loop-thread l =
    (st : State) (k : ℕ) → IsAtWork (store_of l.fn.core) l.fn.fuel (working l.fn.core l.fn.thread) st k → Reaches l.system k st (at_work st k (store_of l.core) l.fuel (working l.core l.thread))

abbrev pub decreases-loop-thread : goal.decreases-loop-thread
decreases-loop-thread l = l.fuel
