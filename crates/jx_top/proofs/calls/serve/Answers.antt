use Rattle.std.proofs.Common.{subst, sym}
use Rattle.jx_top.specs.Commands.{Command}
use Rattle.jx_top.specs.Outcomes.{outcome_of}
use Rattle.jx_top.specs.Requests.{HasCauseFor, PutsFor}
use Rattle.jx_top.proofs.CommandSteps.{run_is}
use Rattle.jx_top.proofs.calls.serve.Goals as goal

pub run_system-requires : goal.run_system-requires
run_system-requires g c = let serial = rw c.in-Run.is at c.requires in rw c.as_str.ensures.value serial.system

pub check_system-requires : goal.check_system-requires
check_system-requires g c = let serial = rw c.in-Check.is at c.requires in rw c.as_str-in-Check.ensures.value serial

pub returns-in-Run-clause-puts : goal.returns-in-Run-clause-puts
returns-in-Run-clause-puts g c =
    let told = (g.L.Shelf.state c.args.shelf.now).told in
    let before = g.K.Sink.state c.args.sink.now in
    let now = g.K.Sink.state c.run_system.new.sink in
    subst (λ (x : Command). PutsFor x told before now (outcome_of c.run_system.result))
    (sym (run_is _ _ _ c.in-Run.is c.requires))
    (rw c.as_str.ensures.value at c.run_system.ensures.puts)

pub returns-in-Run-clause-cause : goal.returns-in-Run-clause-cause
returns-in-Run-clause-cause g c =
    let told = (g.L.Shelf.state c.args.shelf.now).told in
    subst (λ (x : Command). HasCauseFor x told (outcome_of c.run_system.result))
    (sym (run_is _ _ _ c.in-Run.is c.requires))
    (rw c.as_str.ensures.value at c.run_system.ensures.cause)

pub returns-in-Check-clause-puts : goal.returns-in-Check-clause-puts
returns-in-Check-clause-puts g c = rw c.in-Check.is (rw c.as_str-in-Check.ensures.value at c.check_system.ensures.puts)

pub returns-in-Asm-clause-puts : goal.returns-in-Asm-clause-puts
returns-in-Asm-clause-puts g c = rw c.in-Asm.is (rw c.as_str-in-Asm.ensures.value at c.assemble_class.ensures.puts)
