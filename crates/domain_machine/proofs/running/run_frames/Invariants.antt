use Rattle.std.proofs.Common.{ℕ, ◌≤◌}
use Rattle.interp_core.specs.Cores.{core_state}
use Rattle.machine_model.specs.State.{Going, State, Thread}
use Rattle.domain_machine.specs.Works.{IsGoingOn, Reaches, come_to}
use Rattle.domain_machine.proofs.running.run_frames.Given as goal

abbrev pub invariant-loop-fuel : goal.invariant-loop-fuel
invariant-loop-fuel l =
    ((st : State) (k : ℕ) (x : Thread) → IsGoingOn (core_state l.fn.core) l.fn.fuel st k x → Reaches l.system k st (come_to st k x (core_state l.core) l.fuel Going)) × (l.fuel ≤ l.fn.fuel)

abbrev pub decreases-loop-fuel : goal.decreases-loop-fuel
decreases-loop-fuel l = l.fuel
