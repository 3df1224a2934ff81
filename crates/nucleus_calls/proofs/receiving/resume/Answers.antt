use Rattle.std.proofs.Common.{◌∙◌, ℕ, ap, sym, None, Some}
use Rattle.jx_base.specs.declared.act.Act.TheVariants as act
use Rattle.jx_base.specs.declared.states.CallState.TheVariants as call
use Rattle.jx_base.specs.declared.states.ThreadState.{ThreadState}
use Rattle.jx_model.specs.Portals.{received_parcel}
use Rattle.domain_table.specs.DomainLists.{DomainsState, with_state}
use Rattle.nucleus_calls.proofs.ResumedCalls.{no_answer, resumed_answered, resumed_handed, resumed_places, resumer_numbered, resumer_there, three_same}
use Rattle.nucleus_calls.specs.CallActs.{after_resume, with_answer_at, with_call, with_received, with_thread}
use Rattle.nucleus_tables.specs.Entering.{thread_state_after}
use Rattle.nucleus_tables.specs.declared.tables.Tables.{Tables}
use Rattle.table_threads.specs.ThreadChanges.{own_changed}
use Rattle.nucleus_calls.proofs.receiving.resume.Goals as goal

pub resumed-state-requires : goal.resumed-state-requires
resumed-state-requires c = resumer_there c.args.system.now c.args.tables.now c.args.domain.0 c.args.thread c.args.call c.requires.permitted

pub set_thread-requires : goal.set_thread-requires
set_thread-requires c = resumer_there c.args.system.now c.args.tables.now c.args.domain.0 c.args.thread c.args.call c.requires.permitted

pub resume-requires : goal.resume-requires
resume-requires c = resumed_answered c.args.system.now c.args.tables.now c.args.domain.0 c.args.thread c.args.call c.requires.permitted

pub answer-requires : goal.answer-requires
answer-requires c = resumed_places c.args.system.now c.args.tables.now c.args.domain.0 c.args.thread c.args.call c.requires.permitted

pub receive-requires-clause-domain : goal.receive-requires-clause-domain
receive-requires-clause-domain c = resumer_numbered c.args.system.now c.args.tables.now c.args.domain.0 c.args.thread c.args.call c.requires.permitted

pub receive-requires-clause-parcel : goal.receive-requires-clause-parcel
unfolding received_parcel
receive-requires-clause-parcel c =
    let m = resumed_handed c.args.system.now c.args.tables.now c.args.domain.0 c.args.thread c.args.call c.requires.permitted c.args.answer.now c.requires.answer in
    let r = (m.carried c.in-Value.parcel (ap (received_parcel (act.Resume c.args.call)) c.in-Value.is)).receive in
    record { portals = r.portals; kept = r.kept; riding = r.riding }

pub receive-requires-in-Thrown-clause-domain : goal.receive-requires-in-Thrown-clause-domain
receive-requires-in-Thrown-clause-domain c = resumer_numbered c.args.system.now c.args.tables.now c.args.domain.0 c.args.thread c.args.call c.requires.permitted

pub receive-requires-in-Thrown-clause-parcel : goal.receive-requires-in-Thrown-clause-parcel
unfolding received_parcel
receive-requires-in-Thrown-clause-parcel c =
    let m = resumed_handed c.args.system.now c.args.tables.now c.args.domain.0 c.args.thread c.args.call c.requires.permitted c.args.answer.now c.requires.answer in
    let r = (m.carried c.in-Thrown.parcel (ap (received_parcel (act.Resume c.args.call)) c.in-Thrown.is)).receive in
    record { portals = r.portals; kept = r.kept; riding = r.riding }

-- the domains with the thread in the state in which it goes on
abbrev gone_on : Tables → ℕ → ℕ → ThreadState → DomainsState
gone_on old d t state = record old.domains { threads = own_changed d t (with_state state) old.domains.threads }

pub returns-in-Value : goal.returns-in-Value
unfolding received_parcel
returns-in-Value c =
    let old : Tables = c.args.tables.now in
    let state : ThreadState = thread_state_after old c.args.domain.0 c.args.thread.0 (act.Go c.args.thread) in
    c.receive.ensures
    ∙ ap (λ (y : Tables). with_received y c.args.domain.0 (Some c.in-Value.parcel))
    (three_same old (c.set_thread.ensures ∙ ap (gone_on old c.args.domain.0 c.args.thread.0) c.resumed-state.ensures) c.resume.ensures c.answer.ensures)
    ∙ ap (after_resume old c.args.domain.0 c.args.thread.0 c.args.call state) (sym c.in-Value.is)

pub returns-in-Thrown : goal.returns-in-Thrown
unfolding received_parcel
returns-in-Thrown c =
    let old : Tables = c.args.tables.now in
    let state : ThreadState = thread_state_after old c.args.domain.0 c.args.thread.0 (act.Go c.args.thread) in
    c.receive-in-Thrown.ensures
    ∙ ap (λ (y : Tables). with_received y c.args.domain.0 (Some c.in-Thrown.parcel))
    (three_same old (c.set_thread.ensures ∙ ap (gone_on old c.args.domain.0 c.args.thread.0) c.resumed-state.ensures) c.resume.ensures c.answer.ensures)
    ∙ ap (after_resume old c.args.domain.0 c.args.thread.0 c.args.call state) (sym c.in-Thrown.is)

pub returns-in_default : goal.returns-in_default
returns-in_default c =
    let old : Tables = c.args.tables.now in
    let state : ThreadState = thread_state_after old c.args.domain.0 c.args.thread.0 (act.Go c.args.thread) in
    three_same old (c.set_thread.ensures ∙ ap (gone_on old c.args.domain.0 c.args.thread.0) c.resumed-state.ensures) c.resume.ensures c.answer.ensures
    ∙ ap (with_received (with_answer_at (with_call (with_thread old c.args.domain.0 c.args.thread.0 state) c.args.call call.Resumed) c.args.call None) c.args.domain.0)
    (sym (no_answer c.args.call c.args.answer.now c.in_default.not-Value c.in_default.not-Thrown))
