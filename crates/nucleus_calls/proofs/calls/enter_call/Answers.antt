use Rattle.std.proofs.Common.{◌∙◌, sym, ap, subst}
use Rattle.jx_base.specs.declared.act.Act.{Act}
use Rattle.jx_base.specs.declared.act.Act.TheVariants as act
use Rattle.jx_base.specs.declared.act.Reply.{Reply}
use Rattle.journal.specs.Journals.{HasRoomFor, JournalState}
use Rattle.nucleus_tables.proofs.Entered.{replied}
use Rattle.nucleus_tables.proofs.Room.{no_parcel}
use Rattle.nucleus_calls.proofs.QueuedCalls.{call_answers, call_entered, call_keeps}
use Rattle.nucleus_tables.proofs.Room.{has_room}
use Rattle.nucleus_calls.specs.CallActs.{after_call}
use Rattle.nucleus_tables.specs.Inner.{with_put}
use Rattle.nucleus_tables.specs.declared.tables.Tables.{Tables}
use Rattle.table_threads.specs.CallChanges.{entry}
use Rattle.nucleus_calls.proofs.calls.enter_call.Goals as goal

pub put-requires-clause-room : goal.put-requires-clause-room
put-requires-clause-room c =
    let s = c.args.system.now in
    let old : Tables = c.args.tables.now in
    let r : Reply = c.ask-reply.result in
    let a : Act = act.Call c.args.service c.args.method c.args.parcel in
    subst (λ (j : JournalState). HasRoomFor j (entry c.args.domain.0 c.args.thread.0 a r))
    (sym (ap (λ (z : Tables). z.journal) c.ask-reply.ensures.after ∙ call_keeps s old c.args.domain c.args.thread c.args.service c.args.method c.args.parcel r))
    (has_room s old c.args.domain.0 c.args.thread.0 a r c.requires.permitted (no_parcel r (call_answers s old c.args.domain c.args.thread c.args.service c.args.method c.args.parcel r c.ask-reply.ensures.kind)))

pub put-requires-clause-reply : goal.put-requires-clause-reply
put-requires-clause-reply c =
    call_answers c.args.system.now c.args.tables.now c.args.domain c.args.thread c.args.service c.args.method c.args.parcel c.ask-reply.result c.ask-reply.ensures.kind

pub returns : goal.returns
returns c =
    let s = c.args.system.now in
    let old : Tables = c.args.tables.now in
    let r : Reply = c.ask-reply.result in
    let a : Act = act.Call c.args.service c.args.method c.args.parcel in
    replied s old c.put.new.self (after_call old c.args.domain c.args.thread c.args.service c.args.parcel r) c.args.domain.0 c.args.thread a r c.put.result
    (call_entered s old c.args.domain c.args.thread c.args.service c.args.method c.args.parcel r c.requires.permitted c.ask-reply.ensures.kind c.ask-reply.ensures.reply)
    (c.put.ensures.after ∙ ap (λ (z : Tables). with_put z (entry c.args.domain.0 c.args.thread.0 a r)) c.ask-reply.ensures.after)
    c.put.ensures.step
