use Rattle.domain_machine.proofs.Lives.{started}
use Rattle.domain_machine.proofs.machine.Machine.start.Goals as goal

pub returns : goal.returns
returns c = started c.args.system.now c.args.template c.in_ok-held.held c.in_ok-held.bad c.fate_after.result c.requires.system c.requires.template c.fate_after.ensures c.in_ok-held.ensures
