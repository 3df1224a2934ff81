use Rattle.std.proofs.Common.{◌≡◌, ◌∙◌, ℕ, ◌-◌, ap, is_some, sym, Some}
use Rattle.jx_base.specs.declared.act.Act.TheVariants as act
use Rattle.jx_base.specs.declared.states.CallState.TheVariants as call
use Rattle.jx_base.specs.declared.states.ThreadState.TheVariants as thread
use Rattle.jx_base.proofs.BasicLaws.{ap2}
use Rattle.jx_model.specs.Portals.{received_parcel}
use Rattle.call_table.specs.CallLists.{CallsState, in_state}
use Rattle.domain_table.specs.DomainLists.{DomainsState}
use Rattle.nucleus_calls.proofs.TakenCalls.{no_job, taken_first, taken_handed, taken_there, taker_numbered, taker_there}
use Rattle.nucleus_calls.specs.CallActs.{after_take, with_call, with_received, with_thread}
use Rattle.nucleus_tables.specs.declared.tables.Tables.{Tables}
use Rattle.table_threads.specs.Changes.{changed_at}
use Rattle.nucleus_calls.proofs.receiving.take.Goals as goal

pub unwrap-requires : goal.unwrap-requires
unwrap-requires c = ap is_some (c.call.ensures ∙ taken_there c.args.system.now c.args.tables.now c.args.domain.0 c.args.thread.0 c.args.call c.requires.permitted)

pub take-requires : goal.take-requires
take-requires c =
    ap is_some (taken_first c.args.system.now c.args.tables.now c.args.domain.0 c.args.thread.0 c.args.call c.requires.permitted c.unwrap.result (sym c.call.ensures ∙ c.unwrap.ensures))

pub set_thread-requires : goal.set_thread-requires
set_thread-requires c = taker_there c.args.system.now c.args.tables.now c.args.domain.0 c.args.thread.0 c.args.call c.requires.permitted

pub receive-requires-clause-domain : goal.receive-requires-clause-domain
receive-requires-clause-domain c = taker_numbered c.args.system.now c.args.tables.now c.args.domain.0 c.args.thread.0 c.args.call c.requires.permitted

pub receive-requires-clause-parcel : goal.receive-requires-clause-parcel
unfolding received_parcel
receive-requires-clause-parcel c =
    let m = taken_handed c.args.system.now c.args.tables.now c.args.domain.0 c.args.thread.0 c.args.call c.requires.permitted c.args.job.now c.requires.job in
    let r = (m.carried c.in-Job.parcel (ap (received_parcel (act.Take c.args.call)) c.in-Job.is)).receive in
    record { portals = r.portals; kept = r.kept; riding = r.riding }

pub returns-in-Job : goal.returns-in-Job
unfolding received_parcel
returns-in-Job c =
    let old : Tables = c.args.tables.now in
    let first : Some c.take.result.0 ≡ Some c.args.call.0 =
    c.take.ensures.number ∙ taken_first c.args.system.now old c.args.domain.0 c.args.thread.0 c.args.call c.requires.permitted c.unwrap.result (sym c.call.ensures ∙ c.unwrap.ensures) in
    let number : c.take.result.0 ≡ c.args.call.0 = cc in
    c.receive.ensures
    ∙ ap (λ (y : Tables). with_received y c.args.domain.0 (Some c.in-Job.parcel))
    (ap2 (λ (domains : DomainsState) (calls : CallsState). let y : Tables = record old { domains = domains; calls = calls } in y)
    c.set_thread.ensures
    (c.take.ensures.after ∙ ap (λ (n : ℕ). let calls : CallsState = record old.calls { calls = changed_at (n - 1) (in_state call.Running) old.calls.calls } in calls) number))
    ∙ ap (after_take old c.args.domain.0 c.args.thread.0 c.args.call) (sym c.in-Job.is)

pub returns-in_default : goal.returns-in_default
returns-in_default c =
    let old : Tables = c.args.tables.now in
    let first : Some c.take.result.0 ≡ Some c.args.call.0 =
    c.take.ensures.number ∙ taken_first c.args.system.now old c.args.domain.0 c.args.thread.0 c.args.call c.requires.permitted c.unwrap.result (sym c.call.ensures ∙ c.unwrap.ensures) in
    let number : c.take.result.0 ≡ c.args.call.0 = cc in
    ap2 (λ (domains : DomainsState) (calls : CallsState). let y : Tables = record old { domains = domains; calls = calls } in y)
    c.set_thread.ensures
    (c.take.ensures.after ∙ ap (λ (n : ℕ). let calls : CallsState = record old.calls { calls = changed_at (n - 1) (in_state call.Running) old.calls.calls } in calls) number)
    ∙ ap (with_received (with_call (with_thread old c.args.domain.0 c.args.thread.0 (thread.Serving c.args.call)) c.args.call call.Running) c.args.domain.0)
    (sym (no_job c.args.call c.args.job.now c.in_default.not-Job))
