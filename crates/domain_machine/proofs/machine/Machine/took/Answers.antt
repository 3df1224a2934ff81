use Rattle.std.proofs.Common.{ap, inl, inr, subst, sym}
use Rattle.domain_machine.specs.Entering.{held_state}
use Rattle.domain_machine.specs.Fates.{IsSettled}
use Rattle.domain_machine.specs.Machines.{MachineState}
use Rattle.domain_machine.proofs.Lives.{has_ended, has_taken, life_earlier, newest, none_after, takes}
use Rattle.domain_machine.proofs.machine.Machine.took.Goals as goal

pub arrive-requires : goal.arrive-requires
arrive-requires c =
    let r = c.requires in
    (r.template, (r.own, (newest r.past r.domain c.args.entry.now r.own r.life.own_are).before, (r.domain, (r.stands_for, life_earlier c.args.system.now c.args.entry.now r.own r.past r.domain r.life))))

pub take_entry-requires-clause-entry : goal.take_entry-requires-clause-entry
take_entry-requires-clause-entry c =
    let s = c.args.system.now in let e = c.args.entry.now in let r = c.requires in
    let a = c.in_ok-arrive.ensures r.template r.own (newest r.past r.domain e r.own r.life.own_are).before r.domain r.stands_for (life_earlier s e r.own r.past r.domain r.life) in
    takes s c.arrive.new.self c.self.inside.fate (held_state c.self.inside.held) c.self.view_is e r.template r.own r.past r.domain a.0 r.from r.life c.in-AtAct.is

pub returns-in_ok-bad-in-AtAct : goal.returns-in_ok-bad-in-AtAct
returns-in_ok-bad-in-AtAct c t own past d h f l =
    let s = c.args.system.now in let e = c.args.entry.now in
    let a = c.in_ok-arrive.ensures t own (newest past d e own l.own_are).before d h (life_earlier s e own past d l) in
    has_taken s c.arrive.new.self c.self.inside.fate (held_state c.self.inside.held) c.self.view_is e t own past d a.0 f l c.in-AtAct.is c.take_entry.new.held c.in_ok-bad-in-AtAct.bad c.fate_after-self-inside.result c.fate_after-self-inside.ensures c.in_ok-bad-in-AtAct.ensures

pub returns-in-MetBadCode : goal.returns-in-MetBadCode
returns-in-MetBadCode c t own past d h f l =
    let s = c.args.system.now in let e = c.args.entry.now in
    let a = c.in_ok-arrive.ensures t own (newest past d e own l.own_are).before d h (life_earlier s e own past d l) in
    has_ended s c.arrive.new.self c.self.inside.fate (held_state c.self.inside.held) c.self.view_is e t own past d a.0 f l c.in-MetBadCode.is (held_state c.self.inside.held)

pub returns-in-OnTheWay : goal.returns-in-OnTheWay
returns-in-OnTheWay c t own past d h f l =
    let s = c.args.system.now in let e = c.args.entry.now in
    let a = c.in_ok-arrive.ensures t own (newest past d e own l.own_are).before d h (life_earlier s e own past d l) in
    elim c.in-OnTheWay.is [
      | inl w ↦ absurd (subst IsSettled w (subst IsSettled (ap (λ (m : MachineState). m.fate) (sym c.self.view_is)) a.1))
      | inr w ↦ absurd (none_after s c.arrive.new.self c.self.inside.fate (held_state c.self.inside.held) c.self.view_is e t own past d a.0 f l w)
    ]
