use Rattle.std.proofs.Common.{Option, subst}
use Rattle.domain_machine.specs.declared.next.Next.{Next}
use Rattle.domain_machine.specs.Advancing.{Arrives}
use Rattle.domain_machine.specs.Entering.{held_state}
use Rattle.domain_machine.proofs.Lives.{run_badly, run_on}
use Rattle.domain_machine.proofs.machine.Machine.run.Goals as goal

pub returns-in-Some : goal.returns-in-Some
returns-in-Some c t own past d h l =
    let s = c.args.system.now in let st = held_state c.self.inside.held in let new = held_state c.run_held.new.held in
    run_on s c.args.self.now c.self.inside.fate st c.self.view_is t own past d h c.in-OnTheWay.is new c.in-Some.next (subst (λ (o : Option Next). Arrives s st new o) c.in-Some.is c.in_ok-next-in-OnTheWay.ensures)

pub returns-in-None : goal.returns-in-None
returns-in-None c t own past d h l =
    let s = c.args.system.now in let st = held_state c.self.inside.held in let new = held_state c.run_held.new.held in
    run_badly s c.args.self.now c.self.inside.fate st c.self.view_is t own past d h c.in-OnTheWay.is new (subst (λ (o : Option Next). Arrives s st new o) c.in-None.is c.in_ok-next-in-OnTheWay.ensures)
