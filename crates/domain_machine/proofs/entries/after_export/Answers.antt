use Rattle.std.proofs.Common.{subst, sym}
use Rattle.jx_base.specs.declared.act.Act.TheVariants as act
use Rattle.jx_base.specs.declared.act.Reply.{Reply}
use Rattle.jx_base.specs.declared.act.Reply.TheVariants as reply
use Rattle.machine_model.specs.AfterEntry.{after_act, after_reply}
use Rattle.machine_model.specs.State.{State}
use Rattle.domain_machine.specs.Entering.{Leads, held_state}
use Rattle.domain_machine.specs.Taking.{exported_from}
use Rattle.domain_machine.proofs.Takes.{exported_without}
use Rattle.domain_machine.proofs.entries.after_export.Goals as goal

pub export_in-requires-clause-reply : goal.export_in-requires-clause-reply
export_in-requires-clause-reply c x h = c.requires.export.made c.in-Service.service c.in-Service.field-1 c.in-Service.is x h

pub returns-in-Service : goal.returns-in-Service
unfolding after_act
returns-in-Service c x h =
    let s = c.args.system.now in let st = held_state c.args.held.now in let k = c.args.place in
    let made = exported_from st x c.args.iface c.args.threads c.in-Service.service in
    let said = reply.Service c.in-Service.service c.in-Service.field-1 in
    let w = subst (λ (r : Reply). Leads k (after_reply s made k x r) c.export_in.new.held c.in_ok-bad.bad) c.in-Service.is (c.in_ok-bad.ensures x h) in
    subst (λ (r : Reply). Leads k (after_act s st k x (act.Export c.args.iface c.args.threads) r) c.export_in.new.held c.in_ok-bad.bad) (sym c.in-Service.is) w

pub returns : goal.returns
returns c x h =
    let s = c.args.system.now in let st = held_state c.args.held.now in let k = c.args.place in
    subst (λ (z : State). Leads k z c.reply_in.new.held c.in_ok-bad-2.bad) (exported_without s st k x c.args.iface c.args.threads c.args.reply.now (λ service n e. c.in_default.not-Service service n e)) (c.in_ok-bad-2.ensures x h)
