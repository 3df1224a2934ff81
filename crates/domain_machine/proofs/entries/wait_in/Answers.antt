use Rattle.std.proofs.Common.{ℕ, None, ap}
use Rattle.machine_model.specs.MachineThreads.{at_rest, with_less_fuel}
use Rattle.domain_machine.specs.Entering.{held_state}
use Rattle.domain_machine.proofs.entries.wait_in.Goals as goal

pub returns : goal.returns
unfolding at_rest with_less_fuel
returns c = ap (λ (n : ℕ). record (held_state c.args.held.now) { fuel = n; running = None }) c.spend.ensures
