use Rattle.std.proofs.Common.{◌∙◌, refl, sym, ap, ◌+◌, arith}
use Rattle.jx_base.specs.declared.act.Act.TheVariants as act
use Rattle.jx_base.specs.declared.act.Reply.TheVariants as reply
use Rattle.jx_base.specs.declared.ids.CallId.{CallId}
use Rattle.jx_model.specs.Calls.{calls_made}
use Rattle.jx_model.specs.Permits.{is_halt, zero_may}
use Rattle.nucleus_calls.proofs.CallMoves.{acting_there, call_fits, next_is, places_count}
use Rattle.nucleus_calls.proofs.Carrying.{call_carries}
use Rattle.nucleus_calls.proofs.QueuedCalls.{asks_service}
use Rattle.nucleus_calls.specs.Asking.{refused_or}
use Rattle.nucleus_tables.specs.Inner.{past_in}
use Rattle.nucleus_calls.proofs.calls.ask.Goals as goal

pub queue_call-requires-clause-calls : goal.queue_call-requires-clause-calls
unfolding is_halt
queue_call-requires-clause-calls c =
    call_fits c.args.system.now c.args.tables.now c.args.domain.0 c.args.thread.0 (act.Call c.args.service c.args.method c.args.parcel.now) c.requires refl

pub queue_call-requires-clause-places : goal.queue_call-requires-clause-places
unfolding is_halt
queue_call-requires-clause-places c =
    let fits = call_fits c.args.system.now c.args.tables.now c.args.domain.0 c.args.thread.0 (act.Call c.args.service c.args.method c.args.parcel.now) c.requires refl in
    let count = places_count c.args.system.now c.args.tables.now c.requires.tables in
    let calls = c.requires.tables.call_room in
    let places = c.requires.tables.place_room in
    omega (arith, fits, count, calls, places)

pub queue_call-requires-clause-service : goal.queue_call-requires-clause-service
queue_call-requires-clause-service c =
    asks_service c.args.system.now c.args.tables.now c.args.domain.0 c.args.service c.args.method c.args.parcel.now (record { 0 = calls_made (past_in c.args.tables.now) + 1 }) c.requires.tables
    (ap (λ o. refused_or o (reply.Queued (record { 0 = calls_made (past_in c.args.tables.now) + 1 }))) (sym c.in-None.is) ∙ c.call_refusal.ensures)

pub queue_call-requires-clause-thread : goal.queue_call-requires-clause-thread
unfolding is_halt zero_may
queue_call-requires-clause-thread c =
    acting_there c.args.system.now c.args.tables.now c.args.domain.0 c.args.thread.0 (act.Call c.args.service c.args.method c.args.parcel.now) c.requires refl refl

pub queue_call-requires-clause-carried : goal.queue_call-requires-clause-carried
unfolding is_halt
queue_call-requires-clause-carried c =
    let s = c.args.system.now in
    let x = c.args.tables.now in
    call_carries s x c.args.domain.0 c.args.service c.args.method c.args.parcel.now (record { 0 = calls_made (past_in x) + 1 }) c.requires.tables
    (call_fits s x c.args.domain.0 c.args.thread.0 (act.Call c.args.service c.args.method c.args.parcel.now) c.requires refl)
    (ap (λ o. refused_or o (reply.Queued (record { 0 = calls_made (past_in x) + 1 }))) (sym c.in-None.is) ∙ c.call_refusal.ensures)

pub returns-in-None-clause-reply : goal.returns-in-None-clause-reply
returns-in-None-clause-reply c =
    c.queue_call.ensures.reply
    ∙ ap (λ (k : CallId). reply.Queued k) (next_is c.args.system.now c.args.tables.now c.requires.tables)
    ∙ ap (λ o. refused_or o (reply.Queued (record { 0 = calls_made (past_in c.args.tables.now) + 1 }))) (sym c.in-None.is) ∙ c.call_refusal.ensures
