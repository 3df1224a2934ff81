use Rattle.std.proofs.Common.{◌∙◌, ap, subst, sym}
use Rattle.jx_base.specs.declared.act.Act.{Act}
use Rattle.jx_base.specs.declared.act.Act.TheVariants as act
use Rattle.jx_base.specs.declared.act.Reply.{Reply}
use Rattle.jx_model.specs.Replies.{reply_to}
use Rattle.journal.specs.Journals.{HasRoomFor, JournalState}
use Rattle.nucleus_tables.proofs.Entered.{replied}
use Rattle.nucleus_calls.proofs.TakenCalls.{take_entered, taken_handed, taken_queued, taken_room, taken_tables}
use Rattle.nucleus_calls.specs.CallActs.{after_take}
use Rattle.nucleus_tables.specs.Inner.{with_put}
use Rattle.nucleus_tables.specs.declared.tables.Tables.{Tables}
use Rattle.table_threads.specs.CallChanges.{entry}
use Rattle.nucleus_calls.proofs.receiving.enter_take.Goals as goal

pub job-requires-clause-made : goal.job-requires-clause-made
job-requires-clause-made c =
    let q = taken_queued c.args.system.now c.args.tables.now c.args.domain.0 c.args.thread.0 c.args.call c.requires.permitted in (q.low, q.high)

pub copy_reply-requires : goal.copy_reply-requires
unfolding reply_to
copy_reply-requires c =
    (taken_handed c.args.system.now c.args.tables.now c.args.domain.0 c.args.thread.0 c.args.call c.requires.permitted c.in-Ok.job c.in-Ok.ensures).kind

pub take-requires-clause-job : goal.take-requires-clause-job
unfolding reply_to
take-requires-clause-job c = c.in-Ok.ensures

pub put_copied-requires-clause-room : goal.put_copied-requires-clause-room
unfolding reply_to
put_copied-requires-clause-room c =
    let s = c.args.system.now in
    let old : Tables = c.args.tables.now in
    let r : Reply = c.in-Ok.job in
    subst (λ (j : JournalState). HasRoomFor j (entry c.args.domain.0 c.args.thread.0 (act.Take c.args.call) r))
    (sym (ap (λ (z : Tables). z.journal) (c.take.ensures ∙ taken_tables s old c.args.domain.0 c.args.thread.0 c.args.call c.requires.permitted r c.in-Ok.ensures)))
    (taken_room s old c.args.domain.0 c.args.thread.0 c.args.call c.requires.permitted r c.in-Ok.ensures)

pub returns : goal.returns
unfolding reply_to
returns c =
    let s = c.args.system.now in
    let old : Tables = c.args.tables.now in
    let r : Reply = c.in-Ok.job in
    let a : Act = act.Take c.args.call in
    replied s old c.put_copied.new.self (after_take old c.args.domain.0 c.args.thread.0 c.args.call r) c.args.domain.0 c.args.thread a r c.put_copied.result
    (take_entered s old c.args.domain.0 c.args.thread.0 c.args.call c.requires.permitted r c.in-Ok.ensures)
    (c.put_copied.ensures.after ∙ ap (λ (z : Tables). with_put z (entry c.args.domain.0 c.args.thread.0 a r)) c.take.ensures)
    c.put_copied.ensures.step
