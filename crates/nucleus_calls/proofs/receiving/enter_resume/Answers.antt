use Rattle.std.proofs.Common.{◌∙◌, ap, subst, sym}
use Rattle.jx_base.specs.declared.act.Act.{Act}
use Rattle.jx_base.specs.declared.act.Act.TheVariants as act
use Rattle.jx_base.specs.declared.act.Reply.{Reply}
use Rattle.jx_model.specs.Replies.{reply_to}
use Rattle.journal.specs.Journals.{HasRoomFor, JournalState}
use Rattle.nucleus_tables.proofs.Entered.{replied}
use Rattle.nucleus_calls.proofs.ResumedCalls.{resume_entered, resumed_from, resumed_handed, resumed_room, resumed_tables}
use Rattle.nucleus_calls.specs.CallActs.{after_resume}
use Rattle.nucleus_tables.specs.Entering.{thread_state_after}
use Rattle.nucleus_tables.specs.Inner.{with_put}
use Rattle.nucleus_tables.specs.declared.tables.Tables.{Tables}
use Rattle.table_threads.specs.CallChanges.{entry}
use Rattle.nucleus_calls.proofs.receiving.enter_resume.Goals as goal

pub answer-requires-clause-resumable : goal.answer-requires-clause-resumable
answer-requires-clause-resumable c = resumed_from c.args.system.now c.args.tables.now c.args.domain.0 c.args.thread c.args.call c.requires.permitted

pub copy_reply-requires : goal.copy_reply-requires
unfolding reply_to
copy_reply-requires c =
    (resumed_handed c.args.system.now c.args.tables.now c.args.domain.0 c.args.thread c.args.call c.requires.permitted c.in-Ok.answer c.in-Ok.ensures).kind

pub resume-requires-clause-answer : goal.resume-requires-clause-answer
unfolding reply_to
resume-requires-clause-answer c = c.in-Ok.ensures

pub put_copied-requires-clause-room : goal.put_copied-requires-clause-room
unfolding reply_to
put_copied-requires-clause-room c =
    let s = c.args.system.now in
    let old : Tables = c.args.tables.now in
    let r : Reply = c.in-Ok.answer in
    subst (λ (j : JournalState). HasRoomFor j (entry c.args.domain.0 c.args.thread.0 (act.Resume c.args.call) r))
    (sym (ap (λ (z : Tables). z.journal) (c.resume.ensures ∙ resumed_tables s old c.args.domain.0 c.args.thread c.args.call c.requires.permitted r c.in-Ok.ensures)))
    (resumed_room s old c.args.domain.0 c.args.thread c.args.call c.requires.permitted r c.in-Ok.ensures)

pub returns : goal.returns
unfolding reply_to
returns c =
    let s = c.args.system.now in
    let old : Tables = c.args.tables.now in
    let r : Reply = c.in-Ok.answer in
    let a : Act = act.Resume c.args.call in
    replied s old c.put_copied.new.self (after_resume old c.args.domain.0 c.args.thread.0 c.args.call (thread_state_after old c.args.domain.0 c.args.thread.0 (act.Go c.args.thread)) r) c.args.domain.0 c.args.thread a r c.put_copied.result
    (resume_entered s old c.args.domain.0 c.args.thread c.args.call c.requires.permitted r c.in-Ok.ensures)
    (c.put_copied.ensures.after ∙ ap (λ (z : Tables). with_put z (entry c.args.domain.0 c.args.thread.0 a r)) c.resume.ensures)
    c.put_copied.ensures.step
