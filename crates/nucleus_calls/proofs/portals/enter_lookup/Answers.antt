use Rattle.std.proofs.Common.{◌∙◌, ap, subst, sym}
use Rattle.jx_base.specs.declared.act.Act.{Act}
use Rattle.jx_base.specs.declared.act.Act.TheVariants as act
use Rattle.jx_base.specs.declared.act.Reply.{Reply}
use Rattle.nucleus_tables.proofs.DomainReads.{live_numbered}
use Rattle.nucleus_calls.proofs.PortalActs.{lookup_answers, lookup_entered, seeker_lives}
use Rattle.nucleus_tables.proofs.Room.{no_parcel}
use Rattle.nucleus_tables.proofs.Entered.{replied}
use Rattle.nucleus_tables.proofs.Room.{has_room}
use Rattle.nucleus_tables.specs.Inner.{past_in, with_put}
use Rattle.nucleus_tables.specs.Portals.{HasNoParcel, with_services}
use Rattle.nucleus_tables.specs.declared.tables.Tables.{Tables}
use Rattle.portal_table.specs.ServiceLists.{ServicesState, after_lookup}
use Rattle.table_threads.specs.CallChanges.{entry}
use Rattle.nucleus_calls.proofs.portals.enter_lookup.Goals as goal

pub lookup-reply-requires : goal.lookup-reply-requires
lookup-reply-requires c =
    let h = c.requires.permitted in
    live_numbered c.args.system.now c.args.tables.now c.args.domain.0 h.tables (seeker_lives c.args.system.now (past_in c.args.tables.now) c.args.domain.0 c.args.thread.0 c.args.name h.thread)

pub put-requires-clause-room : goal.put-requires-clause-room
put-requires-clause-room c =
    let answers : HasNoParcel c.lookup-reply.result = subst HasNoParcel (sym c.lookup-reply.ensures.reply) (lookup_answers c.args.tables.now.services c.args.name) in
    has_room c.args.system.now c.args.tables.now c.args.domain.0 c.args.thread.0 (act.Lookup c.args.name) c.lookup-reply.result c.requires.permitted (no_parcel c.lookup-reply.result answers)

pub put-requires-clause-reply : goal.put-requires-clause-reply
put-requires-clause-reply c = subst HasNoParcel (sym c.lookup-reply.ensures.reply) (lookup_answers c.args.tables.now.services c.args.name)

pub returns : goal.returns
returns c =
    let old : Tables = c.args.tables.now in
    let r : Reply = c.lookup-reply.result in
    let a : Act = act.Lookup c.args.name in
    replied c.args.system.now old c.put.new.self (with_services old (after_lookup old.services c.args.domain.0 c.args.name)) c.args.domain.0 c.args.thread a r c.put.result
    (lookup_entered c.args.system.now old c.args.domain.0 c.args.thread.0 c.args.name r c.requires.permitted c.lookup-reply.ensures.reply)
    (c.put.ensures.after ∙ ap (λ (services : ServicesState). with_put (with_services old services) (entry c.args.domain.0 c.args.thread.0 a r)) c.lookup-reply.ensures.after)
    c.put.ensures.step
