use Rattle.interp_core.specs.Cores.{core_state}
use Rattle.domain_machine.proofs.Goings.{can_step}
use Rattle.domain_machine.proofs.Stopping.{fuel_gone, past_code}
use Rattle.domain_machine.proofs.running.stop_without_fuel.Goals as goal

pub next_instr-requires-clause-frames : goal.next_instr-requires-clause-frames
next_instr-requires-clause-frames c = (can_step c.args.system.now (core_state c.args.core.now) 0 c.requires.system c.requires.core).0.core.frames

pub next_instr-requires-clause-instructions : goal.next_instr-requires-clause-instructions
next_instr-requires-clause-instructions c = (can_step c.args.system.now (core_state c.args.core.now) 0 c.requires.system c.requires.core).1

pub returns-in-Some-clause-stops : goal.returns-in-Some-clause-stops
returns-in-Some-clause-stops c st k x h = fuel_gone c.args.system.now st k x (core_state c.args.core.now) c.in-Some.field-0.now h c.in-Some.ensures

pub returns-in-None-clause-stops : goal.returns-in-None-clause-stops
returns-in-None-clause-stops c st k x h = past_code c.args.system.now st k x (core_state c.args.core.now) h c.in-None.ensures
