use Rattle.std.proofs.Common.{◌≡◌, ◌∙◌, sym, ap, Some}
use Rattle.std.specs.Prelude.{IfErr, IfOk, Result, Ok, Err}
use Rattle.std.specs.Option.{option_map}
use Rattle.jx_base.specs.declared.ids.ThreadId.{ThreadId}
use Rattle.jx_base.specs.declared.states.Why.{Why}
use Rattle.jx_base.specs.Basics.{passes}
use Rattle.jx_model.specs.Permits.{choice_thread, is_yielded, taking_thread}
use Rattle.jx_model.specs.Threads.{thread_state}
use Rattle.jx_model.specs.WhyNot.{why_not_asleep, why_not_take}
use Rattle.table_threads.proofs.Actors.{live_made}
use Rattle.nucleus_tables.proofs.DomainReads.{state_is}
use Rattle.nucleus_tables.proofs.Permitted.{asleep, goes, stays}
use Rattle.nucleus_tables.proofs.PermittedCalls.{not_taken, not_waiting, resumes_in, takes_in}
use Rattle.nucleus_tables.specs.Inner.{past_in}
use Rattle.nucleus_tables.proofs.tables.Tables.permit_asleep.Goals as goal

pub returns-then-has_yielded-clause-may : goal.returns-then-has_yielded-clause-may
returns-then-has_yielded-clause-may c =
    let past = past_in c.args.self.now in
    let d = c.args.domain.0 in
    let state : c.thread.result ≡ thread_state past d c.in-Go.thread.0 = c.thread.ensures ∙ state_is c.args.system.now c.args.self.now c.requires.tables d (live_made past d c.requires.live) c.in-Go.thread.0 in
    ap (choice_thread past d) c.in-Go.is ∙ goes past d c.in-Go.thread (ap (passes is_yielded) (sym state) ∙ sym c.has_yielded.ensures ∙ c.if-has_yielded.true)

pub returns-else-has_yielded-clause-why : goal.returns-else-has_yielded-clause-why
returns-else-has_yielded-clause-why c =
    let past = past_in c.args.self.now in
    let d = c.args.domain.0 in
    let state : c.thread.result ≡ thread_state past d c.in-Go.thread.0 = c.thread.ensures ∙ state_is c.args.system.now c.args.self.now c.requires.tables d (live_made past d c.requires.live) c.in-Go.thread.0 in
    ap (why_not_asleep past d) c.in-Go.is ∙ stays past d c.in-Go.thread (ap (passes is_yielded) (sym state) ∙ sym c.has_yielded.ensures ∙ c.if-has_yielded.false)

pub returns-in-Take-clause-may : goal.returns-in-Take-clause-may
returns-in-Take-clause-may c = by c.permit_take.result c.permit_take.ensures.may
  where
    by : (r : Result ThreadId Why) → IfOk r (λ t. taking_thread (past_in c.args.self.now) c.args.domain.0 c.in-Take.call.0 ≡ Some t.0) →
        IfOk r (λ t. choice_thread (past_in c.args.self.now) c.args.domain.0 c.args.act.now ≡ Some t.0)
    by (Ok t) m = ap (choice_thread (past_in c.args.self.now) c.args.domain.0) c.in-Take.is ∙ takes_in (past_in c.args.self.now) c.args.domain.0 c.in-Take.call t m
    by (Err w) m = tt

pub returns-in-Take-clause-why : goal.returns-in-Take-clause-why
returns-in-Take-clause-why c = by c.permit_take.result c.permit_take.ensures.why
  where
    by : (r : Result ThreadId Why) → IfErr r (λ w. why_not_take (past_in c.args.self.now) c.args.domain.0 c.in-Take.call.0 ≡ Some w) →
        IfErr r (λ w. why_not_asleep (past_in c.args.self.now) c.args.domain.0 c.args.act.now ≡ Some w)
    by (Ok t) m = tt
    by (Err w) m = ap (why_not_asleep (past_in c.args.self.now) c.args.domain.0) c.in-Take.is ∙ not_taken (past_in c.args.self.now) c.args.domain.0 c.in-Take.call w m

pub returns-in-Some-clause-may : goal.returns-in-Some-clause-may
returns-in-Some-clause-may c =
    ap (choice_thread (past_in c.args.self.now) c.args.domain.0) c.in-Resume.is
    ∙ resumes_in (past_in c.args.self.now) c.args.domain.0 c.in-Resume.call c.in-Some.thread (sym c.resuming.ensures ∙ ap (option_map (λ (t : ThreadId). t.0)) c.in-Some.is)

pub returns-in-None-clause-why : goal.returns-in-None-clause-why
returns-in-None-clause-why c =
    ap (why_not_asleep (past_in c.args.self.now) c.args.domain.0) c.in-Resume.is
    ∙ not_waiting (past_in c.args.self.now) c.args.domain.0 c.in-Resume.call (sym c.resuming.ensures ∙ ap (option_map (λ (t : ThreadId). t.0)) c.in-None.is)

pub returns-in_default : goal.returns-in_default
returns-in_default c =
    record { may = tt; why = asleep (past_in c.args.self.now) c.args.domain.0 c.args.act.now c.in_default.not-Go c.in_default.not-Take c.in_default.not-Resume }
