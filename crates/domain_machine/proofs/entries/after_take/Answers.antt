use Rattle.std.proofs.Common.{subst, sym, ◌∙◌}
use Rattle.jx_base.specs.declared.act.Act.TheVariants as act
use Rattle.jx_base.specs.declared.act.Reply.{Reply}
use Rattle.machine_model.specs.AfterEntry.{after_act}
use Rattle.domain_machine.specs.Entering.{Leads, held_state}
use Rattle.domain_machine.proofs.Takes.{taken_without}
use Rattle.domain_machine.proofs.entries.after_take.Goals as goal

pub returns-in_ok-bad-in-Job : goal.returns-in_ok-bad-in-Job
unfolding after_act
returns-in_ok-bad-in-Job c x h =
    let s = c.args.system.now in let st = held_state c.args.held.now in
    subst (λ (r : Reply). Leads c.args.place (after_act s st c.args.place x (act.Take c.args.call) r) c.call_in.new.held c.in_ok-bad-in-Job.bad) (sym c.in-Job.is) (c.in_ok-bad-in-Job.ensures x h)

pub returns-in_default : goal.returns-in_default
returns-in_default c x h =
    c.behind_in.ensures x h ∙ taken_without c.args.system.now (held_state c.args.held.now) c.args.place x c.args.call c.args.reply.now c.requires.job (λ service method p e. c.in_default.not-Job service method p e)
