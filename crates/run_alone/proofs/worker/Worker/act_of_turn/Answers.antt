use Rattle.std.proofs.Common.{subst}
use Rattle.jx_base.specs.declared.act.Act.TheVariants as act
use Rattle.domain_machine.specs.declared.next.Next.TheVariants as next
use Rattle.run_alone.proofs.TurnActs.{chooses, finds_choice, finds_code}
use Rattle.run_alone.specs.Workers.{SaysNext}
use Rattle.run_alone.proofs.worker.Worker.act_of_turn.Goals as goal

pub unreachable-requires : goal.unreachable-requires
unreachable-requires c =
    let s = c.args.system.now in let w = c.args.self.now in let d = c.args.domain.0 in let v = c.next_of.new.self in
    chooses s w c.requires.worker d c.requires.live v (subst (SaysNext s w v d) c.in-Idle.is c.in_ok-act.ensures) c.in-None.ensures

pub returns-in-Act : goal.returns-in-Act
returns-in-Act c =
    let s = c.args.system.now in let w = c.args.self.now in let d = c.args.domain.0 in let v = c.next_of.new.self in
    finds_code s w c.requires.worker d c.requires.live v (next.Act c.in-Act.act) c.in-Act.act (subst (SaysNext s w v d) c.in-Act.is c.in_ok-act.ensures) (λ t i. i)

pub returns-in-End : goal.returns-in-End
returns-in-End c =
    let s = c.args.system.now in let w = c.args.self.now in let d = c.args.domain.0 in let v = c.next_of.new.self in
    finds_code s w c.requires.worker d c.requires.live v (next.End c.in-End.reason) (act.End c.in-End.reason) (subst (SaysNext s w v d) c.in-End.is c.in_ok-act.ensures) (λ t i. i)

pub returns-in-Some : goal.returns-in-Some
returns-in-Some c =
    let s = c.args.system.now in let w = c.args.self.now in let d = c.args.domain.0 in let v = c.next_of.new.self in
    finds_choice s w c.requires.worker d c.requires.live v c.in-Some.act c.requires.room (subst (SaysNext s w v d) c.in-Idle.is c.in_ok-act.ensures) c.in-Some.ensures
