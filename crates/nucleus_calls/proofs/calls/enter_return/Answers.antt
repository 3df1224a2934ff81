use Rattle.std.proofs.Common.{◌∙◌, refl, sym, ap, subst, is_some}
use Rattle.jx_base.specs.declared.act.Act.{Act}
use Rattle.jx_base.specs.declared.act.Act.TheVariants as act
use Rattle.jx_base.specs.declared.act.Reply.{Reply}
use Rattle.jx_base.specs.declared.ids.ServiceId.{ServiceId}
use Rattle.jx_base.specs.declared.states.AnswerKind.TheVariants as kind
use Rattle.journal.specs.Journals.{HasRoomFor, JournalState}
use Rattle.jx_model.specs.Calls.{answer_kind}
use Rattle.jx_model.specs.Permits.{is_halt}
use Rattle.nucleus_calls.proofs.CallMoves.{call_fits}
use Rattle.nucleus_calls.proofs.AnsweredCalls.{answer_keeps, return_entered, return_finds, sent_answers}
use Rattle.nucleus_tables.proofs.Entered.{replied}
use Rattle.nucleus_tables.proofs.Room.{no_parcel}
use Rattle.nucleus_tables.proofs.Room.{has_room}
use Rattle.nucleus_calls.specs.CallActs.{after_answer}
use Rattle.nucleus_tables.specs.Inner.{past_in, with_put}
use Rattle.nucleus_tables.specs.Portals.{HasNoParcel}
use Rattle.nucleus_tables.specs.declared.tables.Tables.{Tables}
use Rattle.table_threads.specs.CallChanges.{entry}
use Rattle.nucleus_calls.proofs.calls.enter_return.Goals as goal

pub unwrap-service-requires : goal.unwrap-service-requires
unwrap-service-requires c =
    ap is_some c.service.ensures ∙ (return_finds c.args.system.now c.args.tables.now c.args.domain.0 c.args.thread.0 c.args.call c.args.parcel c.requires.permitted).service

pub send_back-reply-requires : goal.send_back-reply-requires
unfolding is_halt
send_back-reply-requires c =
    let f = return_finds c.args.system.now c.args.tables.now c.args.domain.0 c.args.thread.0 c.args.call c.args.parcel c.requires.permitted in
    record {
      tables = c.requires.permitted.tables;
      pending = f.pending;
      room = call_fits c.args.system.now c.args.tables.now c.args.domain.0 c.args.thread.0 (act.Return c.args.call c.args.parcel) c.requires.permitted refl;
      thread = f.thread;
    }

pub put-requires : goal.put-requires
put-requires c =
    let s = c.args.system.now in
    let old : Tables = c.args.tables.now in
    let r : Reply = c.send_back-reply.result in
    let answers : HasNoParcel r = subst HasNoParcel (sym c.send_back-reply.ensures.reply) (sent_answers s (past_in old) c.args.domain.0 c.args.call.0 c.args.parcel) in
    record {
      room =
          subst (λ (j : JournalState). HasRoomFor j (entry c.args.domain.0 c.args.thread.0 (act.Return c.args.call c.args.parcel) r))
          (sym (ap (λ (z : Tables). z.journal) c.send_back-reply.ensures.after ∙ answer_keeps old c.args.domain.0 c.args.thread.0 c.args.call _ r _ c.args.parcel))
          (has_room s old c.args.domain.0 c.args.thread.0 (act.Return c.args.call c.args.parcel) r c.requires.permitted (no_parcel r answers));
      reply = answers;
    }

pub returns : goal.returns
unfolding answer_kind
returns c =
    let s = c.args.system.now in
    let old : Tables = c.args.tables.now in
    let r : Reply = c.send_back-reply.result in
    let k : ServiceId = c.unwrap-service.result in
    let a : Act = act.Return c.args.call c.args.parcel in
    replied s old c.put.new.self (after_answer old c.args.domain.0 c.args.thread.0 c.args.call kind.Value r k c.args.parcel) c.args.domain.0 c.args.thread a r c.put.result
    (return_entered s old c.args.domain.0 c.args.thread.0 c.args.call c.args.parcel r kind.Value k (sym c.unwrap-service.ensures ∙ c.service.ensures) c.requires.permitted refl c.send_back-reply.ensures.reply)
    (c.put.ensures.after ∙ ap (λ (z : Tables). with_put z (entry c.args.domain.0 c.args.thread.0 a r)) c.send_back-reply.ensures.after)
    c.put.ensures.step
