use Rattle.std.proofs.Common.{◌∙◌, ap, subst, sym}
use Rattle.jx_base.specs.declared.act.Act.{Act}
use Rattle.jx_base.specs.declared.act.Act.TheVariants as act
use Rattle.jx_base.specs.declared.act.Reply.{Reply}
use Rattle.journal.specs.Journals.{HasRoomFor, JournalState}
use Rattle.nucleus_tables.proofs.LiveDomains.{live_record}
use Rattle.nucleus_tables.proofs.DomainReads.{live_numbered}
use Rattle.nucleus_calls.proofs.PortalActs.{export_answers, export_entered, exporter_lives}
use Rattle.nucleus_tables.proofs.Room.{no_parcel}
use Rattle.nucleus_tables.proofs.Entered.{replied}
use Rattle.nucleus_tables.proofs.Room.{has_room}
use Rattle.nucleus_calls.proofs.ServicesMade.{keeps_journal}
use Rattle.nucleus_tables.specs.Inner.{past_in, with_put}
use Rattle.nucleus_tables.specs.Portals.{HasNoParcel, with_service}
use Rattle.nucleus_tables.specs.declared.tables.Tables.{Tables}
use Rattle.program_model.specs.Limits.{thread_limit}
use Rattle.table_threads.specs.CallChanges.{entry}
use Rattle.nucleus_calls.proofs.portals.enter_export.Goals as goal

pub make_service-reply-requires-clause-domain : goal.make_service-reply-requires-clause-domain
make_service-reply-requires-clause-domain c =
    let h = c.requires.permitted in
    live_numbered c.args.system.now c.args.tables.now c.args.domain.0 h.tables (exporter_lives c.args.system.now (past_in c.args.tables.now) c.args.domain.0 c.args.thread.0 c.args.iface c.args.threads h.thread)

pub make_service-reply-requires-clause-live : goal.make_service-reply-requires-clause-live
make_service-reply-requires-clause-live c =
    let h = c.requires.permitted in
    live_record c.args.system.now c.args.tables.now h.tables c.args.domain.0 (exporter_lives c.args.system.now (past_in c.args.tables.now) c.args.domain.0 c.args.thread.0 c.args.iface c.args.threads h.thread)

pub make_service-reply-requires-clause-count : goal.make_service-reply-requires-clause-count
unfolding thread_limit
make_service-reply-requires-clause-count c = (c.requires.permitted.may_come.well_made.1, c.requires.permitted.may_come.well_made.2)

pub put-requires-clause-room : goal.put-requires-clause-room
put-requires-clause-room c =
    let r : Reply = c.make_service-reply.result in
    let answers : HasNoParcel r = subst HasNoParcel (sym c.make_service-reply.ensures.reply) (export_answers c.args.tables.now.services c.args.iface) in
    subst (λ (j : JournalState). HasRoomFor j (entry c.args.domain.0 c.args.thread.0 (act.Export c.args.iface c.args.threads) r))
    (sym (ap (λ (x : Tables). x.journal) c.make_service-reply.ensures.after ∙ keeps_journal c.args.tables.now c.args.domain.0 c.args.iface c.args.threads r))
    (has_room c.args.system.now c.args.tables.now c.args.domain.0 c.args.thread.0 (act.Export c.args.iface c.args.threads) r c.requires.permitted (no_parcel r answers))

pub put-requires-clause-reply : goal.put-requires-clause-reply
put-requires-clause-reply c = subst HasNoParcel (sym c.make_service-reply.ensures.reply) (export_answers c.args.tables.now.services c.args.iface)

pub returns : goal.returns
returns c =
    let old : Tables = c.args.tables.now in
    let r : Reply = c.make_service-reply.result in
    let a : Act = act.Export c.args.iface c.args.threads in
    replied c.args.system.now old c.put.new.self (with_service old c.args.domain.0 c.args.iface c.args.threads r) c.args.domain.0 c.args.thread a r c.put.result
    (export_entered c.args.system.now old c.args.domain.0 c.args.thread.0 c.args.iface c.args.threads r c.requires.permitted c.make_service-reply.ensures.reply)
    (c.put.ensures.after ∙ ap (λ (x : Tables). with_put x (entry c.args.domain.0 c.args.thread.0 a r)) c.make_service-reply.ensures.after)
    c.put.ensures.step
