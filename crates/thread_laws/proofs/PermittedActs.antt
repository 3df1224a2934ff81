-- The act that a domain's code performs next is one that its running thread may perform.
use Rattle.std.proofs.Common.{◌≡◌, refl, sym, ◌∙◌, ap, subst, ℕ, zero, suc, ◌≤◌, Bool, true, false, not, ◌&&◌, [], ◌∷◌, length, Option, Some, None, arith, ◌==◌, ◌⊎◌, inl, inr}
use Rattle.std.specs.Option.{option_and_then}
use Rattle.jx_base.specs.declared.act.Act.{Act}
use Rattle.jx_base.specs.declared.act.Act.TheVariants as act
use Rattle.jx_base.specs.declared.act.Entry.{Entry}
use Rattle.jx_base.specs.declared.act.Reply.{Reply}
use Rattle.jx_base.specs.declared.act.Reply.TheVariants as reply
use Rattle.jx_base.specs.declared.ids.CallId.{CallId}
use Rattle.jx_base.specs.declared.ids.ServiceId.{ServiceId}
use Rattle.jx_base.specs.declared.program.System.{System}
use Rattle.jx_base.specs.declared.states.ThreadState.{ThreadState}
use Rattle.jx_base.specs.declared.states.ThreadState.TheVariants as thread
use Rattle.jx_base.specs.Basics.{passes}
use Rattle.jx_base.specs.Histories.{Past, own_entries}
use Rattle.jx_base.proofs.BasicLaws.{ap2, same_number}
use Rattle.jx_model.specs.Domains.{is_live}
use Rattle.jx_model.specs.Growth.{Runs}
use Rattle.jx_model.specs.Legal.{IsAdmittedPast}
use Rattle.jx_model.specs.Permits.{choice_thread, idle_thread, is_choice, is_head, is_idle_for, is_serving, may_perform, taking_thread}
use Rattle.jx_model.specs.Calls.{service_of_call}
use Rattle.jx_model.specs.Tables.{ThreadRecord, state_or_over, thread_record}
use Rattle.jx_model.specs.Threads.{is_of_thread, last_of_thread, running_thread, served_after, served_call, service_threads, serving_state, state_after, state_by_last, thread_state}
use Rattle.jx_model.proofs.Acting.{chosen, of_then, running_live, running_runs, running_within, where_passes}
use Rattle.jx_model.proofs.OneThread.{serves_same}
use Rattle.jx_model.proofs.Serving.{same_thread}
use Rattle.machine_model.specs.Machine.{domain_state, next_act}
use Rattle.machine_model.specs.MachineThreads.{thread_at}
use Rattle.machine_model.specs.Running.{state_at_act}
use Rattle.machine_model.specs.State.{State, Thread}
use Rattle.machine_laws.specs.Standing.{Stands}
use Rattle.machine_laws.proofs.CodeActs.{IsActOfCall, no_choice, not_zeros}
use Rattle.machine_laws.proofs.Standing.{standing}
use Rattle.machine_laws.proofs.StepActs.{act_of_thread}
use Rattle.table_threads.specs.ThreadChanges.{runs_as}
use Rattle.table_threads.proofs.Records.{is_that}
use Rattle.table_threads.proofs.ThreadActs.{own_thread}
use Rattle.table_threads.proofs.ThreadRecords.{running_record, service_there}
use Rattle.thread_laws.specs.Acting.{AgreesOn, RunningThreadsMayPerform}
use Rattle.thread_laws.proofs.Agreement.{actor_cases, agreement_stands, item_there}
use Rattle.thread_laws.proofs.RunningThreads.{engaged_runs, performs_no_choice, serves_own}
use Rattle.thread_laws.proofs.ServedThreads.{calls_agree}

-- ---- thread 0 serves no call

-- it is idle for no service
running_idle : {A : Type 0} (k : ℕ) (o : Option Entry) → is_idle_for k (state_by_last thread.Running o) ≡ true → A
unfolding state_by_last state_after is_idle_for
running_idle {A} k None h = cc
running_idle {A} k (Some e) h = by e.act e.reply h
  where
    by : (a : Act) (r : Reply) → is_idle_for k (state_after thread.Running a r) ≡ true → A
    by (act.Call s m p) (reply.Queued c) h = cc
    by act.Yield r h = cc
    by (act.EndThread c) r h = cc
    by _ _ h = cc

-- so it takes none
takes_none : {A : Type 0} (past : Past) (d : ℕ) (c : CallId) → choice_thread past d (act.Take c) ≡ Some 0 → A
unfolding choice_thread taking_thread idle_thread thread_state passes
takes_none past d c h =
    let x = chosen (is_head past d c.0) 0 (option_and_then (idle_thread past d) (service_of_call past c.0)) h in
    let y = of_then (service_of_call past c.0) (idle_thread past d) 0 x.1 in
    running_idle y.0 (last_of_thread past d 0) (where_passes past d 0 (is_idle_for y.0) y.2)

-- its own act leaves it so
still_none : (past : Past) (d : ℕ) (a : Act) → ((running_thread past d ≡ Some 0) × (may_perform past d 0 a ≡ true)) ⊎ ((running_thread past d ≡ None) × (is_live past d ≡ true) × (choice_thread past d a ≡ Some 0)) → served_after None a ≡ None
unfolding served_after is_choice
still_none past d (act.Take c) (inl x) = let w = performs_no_choice past d 0 (act.Take c) x.1 in cc
still_none past d (act.Take c) (inr x) = takes_none past d c x.2
still_none past d _ x = refl

pub first_serves_none : (s : System) (past : Past) (d : ℕ) → IsAdmittedPast s past → 1 ≤ d → served_call past d 0 ≡ None
unfolding served_call
first_serves_none s [] d a l = refl
first_serves_none s (e ∷ past) d a l = by (is_of_thread d 0 e) refl (first_serves_none s past d a.1 l)
  where
    by : (b : Bool) → is_of_thread d 0 e ≡ b → served_call past d 0 ≡ None → served_call (e ∷ past) d 0 ≡ None
    by false q again = serves_same e past d 0 q ∙ again
    by true q again =
        let z = same_thread d 0 e.domain.0 e.thread.0 e q (own_thread e) in
        let x = subst (λ (t : ℕ). ((running_thread past d ≡ Some t) × (may_perform past d t e.act ≡ true)) ⊎ ((running_thread past d ≡ None) × (is_live past d ≡ true) × (choice_thread past d e.act ≡ Some t))) (sym z.1) (actor_cases s past e d a.0 (sym z.0) l) in
        serves_own e past d 0 q ∙ ap (λ (o : Option CallId). served_after o e.act) again ∙ still_none past d e.act x

-- ---- a running service thread serves its call

serving_runs : (past : Past) (d t : ℕ) (c : CallId) → 1 ≤ t → t ≤ length (service_threads past d) → Runs past d t → served_call past d t ≡ Some c → passes (is_serving c.0) (thread_state past d t) ≡ true
unfolding thread_record passes state_or_over serving_state is_serving
serving_runs past d zero c m l r q = absurd (omega (arith, m))
serving_runs past d (suc t) c m l r q =
    let k = service_there past d t l in
    over (thread_state past d (suc t)) (ap (λ (x : ThreadRecord). is_serving c.0 x.state) (running_record past d (suc t) r) ∙ ap2 (λ (o : Option ServiceId) (x : Option CallId). is_serving c.0 (runs_as o x)) k.1 q ∙ serves k.0)
  where
    serves : (k : ServiceId) → is_serving c.0 (runs_as (Some k) (Some c)) ≡ true
    serves k = same_number c.0

    over : (o : Option ThreadState) → is_serving c.0 (state_or_over o) ≡ true → passes (is_serving c.0) o ≡ true
    over None h = cc
    over (Some x) h = h

-- the running thread may perform an act for what it serves
may_for_call : (s : System) (past : Past) (d t : ℕ) (a : Act) → IsAdmittedPast s past → 1 ≤ d → running_thread past d ≡ Some t → IsActOfCall (served_call past d t) a → may_perform past d t a ≡ true
unfolding may_perform
may_for_call s past d t a admitted l q = by a
  where
    r : Runs past d t
    r = running_runs past d t q

    there : t ≤ length (service_threads past d)
    there = running_within past d t q

    serving : (c : CallId) → served_call past d t ≡ Some c → passes (is_serving c.0) (thread_state past d t) ≡ true
    serving c z = served t z refl
      where
        served : (k : ℕ) → served_call past d t ≡ Some c → t ≡ k → passes (is_serving c.0) (thread_state past d t) ≡ true
        served zero z w = let v : served_call past d 0 ≡ Some c = ap (served_call past d) (sym w) ∙ z in cc (v, first_serves_none s past d admitted l)
        served (suc k) z w = serving_runs past d t c (omega (arith, w)) there r z

    first : served_call past d t ≡ None → (t ≡ 0) ⊎ ((c : CallId) × (served_call past d t ≡ Some c)) → (t == 0) ≡ true
    first z (inl x) = is_that t 0 x
    first z (inr x) = cc (z, x.1)

    by : (a : Act) → IsActOfCall (served_call past d t) a → may_perform past d t a ≡ true
    by (act.Return c p) z = serving c z
    by (act.Throw c p) z = serving c z
    by (act.EndThread k) z = first z (engaged_runs past d t there r)
    by a z = ap2 (λ (x y : Bool). not x && not y) (not_zeros a z) (no_choice a z)

-- ---- the law

-- the act that the code performs next is one that its running thread may perform
pub code_may_perform : (s : System) (past : Past) → IsAdmittedPast s past → RunningThreadsMayPerform s past
unfolding next_act thread_at
code_may_perform s past admitted d t k a l i f q e =
    let z = calls_agree s past admitted d t k here x.0 l i f stands live x.1 in
    may_for_call s past d k a admitted l q (subst (λ (o : Option CallId). IsActOfCall o a) z (act_of_thread s here k x.0 a runs x.1 e))
  where
    own : Past
    own = own_entries past d

    here : State
    here = state_at_act s (domain_state s t own)

    stands : Stands s t own here
    stands = let g = standing s t own in g.settled (domain_state s t own) g.first

    live : is_live past d ≡ true
    live = running_live past d k q

    agrees : AgreesOn past d here
    agrees = agreement_stands s past admitted d t here l i f stands

    runs : here.running ≡ Some k
    runs = agrees.running live ∙ q

    x : (x : Thread) × (thread_at here k ≡ Some x)
    x = let w = running_within past d k q in item_there here.threads k (omega (arith, w, agrees.count))
