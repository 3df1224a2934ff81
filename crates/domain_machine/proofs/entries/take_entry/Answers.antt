use Rattle.std.proofs.Common.{None, Some, false, refl, ap, subst, sym, ◌∙◌}
use Rattle.jx_base.specs.declared.act.Act.TheVariants as act
use Rattle.jx_model.specs.Permits.{is_choice}
use Rattle.machine_model.specs.AfterEntry.{after_act, with_running_thread}
use Rattle.machine_model.specs.MachineThreads.{at_rest}
use Rattle.machine_model.specs.State.{State}
use Rattle.domain_machine.specs.declared.held.Held.{Held}
use Rattle.domain_machine.specs.Entering.{Leads, held_state}
use Rattle.domain_machine.proofs.Takes.{ended_by, exportable, known, lead_entry, place_within, plain, replied}
use Rattle.domain_machine.proofs.Arms.{called}
use Rattle.domain_machine.proofs.entries.take_entry.Goals as goal

pub after_take-requires-clause-there : goal.after_take-requires-clause-there
after_take-requires-clause-there c = place_within c.args.held.now c.args.entry.now.thread.0 c.requires.entry.of.thread c.requires.entry.of.there

pub resume_in-requires-clause-there : goal.resume_in-requires-clause-there
resume_in-requires-clause-there c = place_within c.args.held.now c.args.entry.now.thread.0 c.requires.entry.of.thread c.requires.entry.of.there

pub after_call-requires-clause-there : goal.after_call-requires-clause-there
after_call-requires-clause-there c = place_within c.args.held.now c.args.entry.now.thread.0 c.requires.entry.of.thread c.requires.entry.of.there

pub after_export-requires-clause-there : goal.after_export-requires-clause-there
after_export-requires-clause-there c = place_within c.args.held.now c.args.entry.now.thread.0 c.requires.entry.of.thread c.requires.entry.of.there

pub behind_in-requires-clause-there : goal.behind_in-requires-clause-there
behind_in-requires-clause-there c = place_within c.args.held.now c.args.entry.now.thread.0 c.requires.entry.of.thread c.requires.entry.of.there

pub reply_in-requires-clause-there : goal.reply_in-requires-clause-there
reply_in-requires-clause-there c = place_within c.args.held.now c.args.entry.now.thread.0 c.requires.entry.of.thread c.requires.entry.of.there

pub after_take-requires-clause-reply : goal.after_take-requires-clause-reply
after_take-requires-clause-reply c = replied c.args.system.now (held_state c.args.held.now) c.args.entry.now c.requires.system c.requires.entry (sym c.ends_code.ensures ∙ c.if-ends_code.false)

pub resume_in-requires-clause-reply : goal.resume_in-requires-clause-reply
resume_in-requires-clause-reply c = replied c.args.system.now (held_state c.args.held.now) c.args.entry.now c.requires.system c.requires.entry (sym c.ends_code.ensures ∙ c.if-ends_code.false)

pub after_call-requires-clause-reply : goal.after_call-requires-clause-reply
after_call-requires-clause-reply c = replied c.args.system.now (held_state c.args.held.now) c.args.entry.now c.requires.system c.requires.entry (sym c.ends_code.ensures ∙ c.if-ends_code.false)

pub after_take-requires-clause-job : goal.after_take-requires-clause-job
after_take-requires-clause-job c = c.requires.entry.job c.in-Take.call c.in-Take.is

pub behind_in-requires-clause-core : goal.behind_in-requires-clause-core
behind_in-requires-clause-core c = known c.args.system.now (held_state c.args.held.now) c.args.entry.now c.requires.system c.requires.entry (sym c.ends_code.ensures ∙ c.if-ends_code.false)

pub after_call-requires-clause-running : goal.after_call-requires-clause-running
unfolding is_choice
after_call-requires-clause-running c = c.requires.entry.of.act (ap is_choice c.in-Call.is)

pub after_export-requires-clause-running : goal.after_export-requires-clause-running
unfolding is_choice
after_export-requires-clause-running c = c.requires.entry.of.act (ap is_choice c.in-Export.is)

pub after_export-requires-clause-export : goal.after_export-requires-clause-export
after_export-requires-clause-export c = exportable c.args.system.now (held_state c.args.held.now) c.args.entry.now c.requires.system c.requires.entry c.in-Export.iface c.in-Export.threads c.in-Export.is

pub end_in-requires : goal.end_in-requires
end_in-requires c = place_within c.args.held.now c.args.entry.now.thread.0 c.requires.entry.of.thread c.requires.entry.of.there

pub reply_in-requires-clause-running : goal.reply_in-requires-clause-running
reply_in-requires-clause-running c = c.requires.entry.of.act (plain c.args.system.now (held_state c.args.held.now) c.args.entry.now.thread.0 c.requires.entry.of.thread c.args.entry.now.act c.args.entry.now.reply (sym c.ends_code.ensures ∙ c.if-ends_code.false)
    c.in_default.not-Take c.in_default.not-Resume c.in_default.not-Go c.in_default.not-Call c.in_default.not-Export c.in_default.not-Yield).1

pub reply_in-requires-clause-reply : goal.reply_in-requires-clause-reply
reply_in-requires-clause-reply c = replied c.args.system.now (held_state c.args.held.now) c.args.entry.now c.requires.system c.requires.entry (sym c.ends_code.ensures ∙ c.if-ends_code.false)

pub returns-then-ends_code : goal.returns-then-ends_code
returns-then-ends_code c =
    let s = c.args.system.now in let st = held_state c.args.held.now in let e = c.args.entry.now in let x = c.requires.entry.of.thread in
    lead_entry s st e x e.act c.end_in.new.held false c.requires.entry.of.there refl (c.end_in.ensures x c.requires.entry.of.there ∙ ended_by s st e.thread.0 x e.act e.reply (sym c.ends_code.ensures ∙ c.if-ends_code.true))

pub returns-in_ok-after_take-in-Take : goal.returns-in_ok-after_take-in-Take
returns-in_ok-after_take-in-Take c =
    let s = c.args.system.now in let st = held_state c.args.held.now in let e = c.args.entry.now in let x = c.requires.entry.of.thread in
    lead_entry s st e x (act.Take c.in-Take.call) c.after_take.new.held c.in_ok-after_take-in-Take.field-0 c.requires.entry.of.there c.in-Take.is (c.in_ok-after_take-in-Take.ensures x c.requires.entry.of.there)

pub returns-in_ok-resume_in-in-Resume : goal.returns-in_ok-resume_in-in-Resume
unfolding after_act
returns-in_ok-resume_in-in-Resume c =
    let s = c.args.system.now in let st = held_state c.args.held.now in let e = c.args.entry.now in let x = c.requires.entry.of.thread in
    lead_entry s st e x (act.Resume c.in-Resume.field-0) c.resume_in.new.held c.in_ok-resume_in-in-Resume.field-0 c.requires.entry.of.there c.in-Resume.is (c.in_ok-resume_in-in-Resume.ensures x c.requires.entry.of.there)

pub returns-in-Go : goal.returns-in-Go
unfolding after_act with_running_thread
returns-in-Go c =
    let s = c.args.system.now in let st = held_state c.args.held.now in let e = c.args.entry.now in let x = c.requires.entry.of.thread in
    let new : Held = record c.args.held.now { running = Some e.thread.0 } in
    lead_entry s st e x (act.Go c.in-Go.field-0) new false c.requires.entry.of.there c.in-Go.is refl

pub returns-in_ok-after_call-in-Call : goal.returns-in_ok-after_call-in-Call
returns-in_ok-after_call-in-Call c =
    let s = c.args.system.now in let st = held_state c.args.held.now in let e = c.args.entry.now in let x = c.requires.entry.of.thread in
    lead_entry s st e x (act.Call c.in-Call.service c.in-Call.method c.in-Call.parcel) c.after_call.new.held c.in_ok-after_call-in-Call.field-0 c.requires.entry.of.there c.in-Call.is
    (subst (λ (z : State). Leads e.thread.0 z c.after_call.new.held c.in_ok-after_call-in-Call.field-0) (called s st e.thread.0 x c.in-Call.service c.in-Call.method c.in-Call.parcel e.reply) (c.in_ok-after_call-in-Call.ensures x c.requires.entry.of.there))

pub returns-in_ok-bad-in-Export : goal.returns-in_ok-bad-in-Export
returns-in_ok-bad-in-Export c =
    let s = c.args.system.now in let st = held_state c.args.held.now in let e = c.args.entry.now in let x = c.requires.entry.of.thread in
    lead_entry s st e x (act.Export c.in-Export.iface c.in-Export.threads) c.after_export.new.held c.in_ok-bad-in-Export.bad c.requires.entry.of.there c.in-Export.is (c.in_ok-bad-in-Export.ensures x c.requires.entry.of.there)

pub returns-in-Yield : goal.returns-in-Yield
unfolding after_act at_rest
returns-in-Yield c =
    let s = c.args.system.now in let st = held_state c.args.held.now in let e = c.args.entry.now in let x = c.requires.entry.of.thread in
    let new : Held = record c.behind_in.new.held { running = None } in
    lead_entry s st e x act.Yield new false c.requires.entry.of.there c.in-Yield.is (ap at_rest (c.behind_in.ensures x c.requires.entry.of.there))

pub returns-in_ok-reply_in-in_default : goal.returns-in_ok-reply_in-in_default
returns-in_ok-reply_in-in_default c =
    let s = c.args.system.now in let st = held_state c.args.held.now in let e = c.args.entry.now in let x = c.requires.entry.of.thread in
    let w = plain s st e.thread.0 x e.act e.reply (sym c.ends_code.ensures ∙ c.if-ends_code.false) c.in_default.not-Take c.in_default.not-Resume c.in_default.not-Go c.in_default.not-Call c.in_default.not-Export c.in_default.not-Yield in
    lead_entry s st e x e.act c.reply_in.new.held c.in_ok-reply_in-in_default.field-0 c.requires.entry.of.there refl
    (subst (λ (z : State). Leads e.thread.0 z c.reply_in.new.held c.in_ok-reply_in-in_default.field-0) w.0 (c.in_ok-reply_in-in_default.ensures x c.requires.entry.of.there))
