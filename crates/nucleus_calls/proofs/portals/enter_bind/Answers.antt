use Rattle.std.proofs.Common.{◌∙◌, ap, subst, sym}
use Rattle.jx_base.specs.declared.act.Act.{Act}
use Rattle.jx_base.specs.declared.act.Act.TheVariants as act
use Rattle.jx_base.specs.declared.act.Reply.{Reply}
use Rattle.nucleus_calls.proofs.PortalActs.{bind_answers, bind_entered, name_fits}
use Rattle.nucleus_tables.proofs.Room.{no_parcel}
use Rattle.nucleus_tables.proofs.Entered.{replied}
use Rattle.nucleus_tables.proofs.Room.{has_room}
use Rattle.nucleus_tables.specs.Inner.{with_put}
use Rattle.nucleus_tables.specs.Portals.{HasNoParcel, with_services}
use Rattle.nucleus_tables.specs.declared.tables.Tables.{Tables}
use Rattle.portal_table.specs.ServiceLists.{ServicesState, after_bind}
use Rattle.table_threads.specs.CallChanges.{entry}
use Rattle.nucleus_calls.proofs.portals.enter_bind.Goals as goal

pub bind-reply-requires : goal.bind-reply-requires
bind-reply-requires c =
    record { room = name_fits c.args.system.now c.args.tables.now c.args.domain.0 c.args.thread.0 c.args.name c.args.service c.requires.permitted }

pub put-requires-clause-room : goal.put-requires-clause-room
put-requires-clause-room c =
    let answers : HasNoParcel c.bind-reply.result = subst HasNoParcel (sym c.bind-reply.ensures.reply) (bind_answers c.args.tables.now.services c.args.domain.0 c.args.name c.args.service.0) in
    has_room c.args.system.now c.args.tables.now c.args.domain.0 c.args.thread.0 (act.Bind c.args.name c.args.service) c.bind-reply.result c.requires.permitted (no_parcel c.bind-reply.result answers)

pub put-requires-clause-reply : goal.put-requires-clause-reply
put-requires-clause-reply c = subst HasNoParcel (sym c.bind-reply.ensures.reply) (bind_answers c.args.tables.now.services c.args.domain.0 c.args.name c.args.service.0)

pub returns : goal.returns
returns c =
    let old : Tables = c.args.tables.now in
    let r : Reply = c.bind-reply.result in
    let a : Act = act.Bind c.args.name c.args.service in
    replied c.args.system.now old c.put.new.self (with_services old (after_bind old.services c.args.domain.0 c.args.name c.args.service.0)) c.args.domain.0 c.args.thread a r c.put.result
    (bind_entered c.args.system.now old c.args.domain.0 c.args.thread.0 c.args.name c.args.service r c.requires.permitted c.bind-reply.ensures.reply)
    (c.put.ensures.after ∙ ap (λ (services : ServicesState). with_put (with_services old services) (entry c.args.domain.0 c.args.thread.0 a r)) c.bind-reply.ensures.after)
    c.put.ensures.step
