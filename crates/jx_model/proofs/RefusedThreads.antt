-- A refused entry leaves the threads as they were, but where it answers a call.
use Rattle.std.proofs.Common.{◌≡◌, refl, sym, ◌∙◌, ap, ℕ, suc, zero, ◌≤◌, Bool, true, false, ◌&&◌, List, ◌∷◌, Option, Some, None, arith, ◌==◌, if◌then◌else◌, inl, inr, slice_get, cond}
use Rattle.std.specs.List.{find}
use Rattle.std.proofs.lemmas.Bool.Decides.{nat_tests}
use Rattle.jx_base.specs.declared.act.Act.{Act}
use Rattle.jx_base.specs.declared.act.Act.TheVariants as act
use Rattle.jx_base.specs.declared.act.Reply.{Reply}
use Rattle.jx_base.specs.declared.act.Reply.TheVariants as reply
use Rattle.jx_base.specs.declared.act.Refusal.{Refusal}
use Rattle.jx_base.specs.declared.act.Entry.{Entry}
use Rattle.jx_base.specs.declared.ids.CallId.{CallId}
use Rattle.jx_base.specs.declared.ids.ServiceId.{ServiceId}
use Rattle.jx_base.specs.declared.program.System.{System}
use Rattle.jx_base.specs.declared.value.Parcel.{Parcel}
use Rattle.jx_base.specs.declared.states.ThreadState.{ThreadState}
use Rattle.jx_base.specs.declared.states.ThreadState.TheVariants as thread
use Rattle.jx_base.specs.Basics.{passes}
use Rattle.jx_base.specs.Histories.{Past, is_own}
use Rattle.jx_model.specs.Domains.{is_live}
use Rattle.jx_model.specs.Threads.{service_threads, is_of_thread, served_call, served_after, state_after, state_by_last, serving_state, last_of_thread, thread_state, is_running_state}
use Rattle.jx_model.specs.Calls.{Asked, Answer, asked_of, answer_of, answered_by, answered_by_act, answer_by_reply, ends_server, refused_answer}
use Rattle.jx_model.specs.Permits.{acting_thread, is_halt, zero_may, may_perform, is_serving, choice_thread}
use Rattle.jx_model.specs.Replies.{reply_to, job_of, or_done, answer_reply}
use Rattle.jx_model.specs.Legal.{IsNext, IsAdmittedPast}
use Rattle.jx_model.specs.Growth.{IsIdle, IsAnsweredWith, answers_call}
use Rattle.jx_base.proofs.BasicLaws.{ap2, ap3, and_true, both, eq_of, same_number}
use Rattle.jx_model.proofs.Acting.{acting_cases, domain_cases, running_runs, running_live}
use Rattle.jx_model.proofs.OneThread.{state_with, other_thread}
use Rattle.jx_model.proofs.CallSteps.{answer_made}
use Rattle.jx_model.proofs.Serving.{in_domain, returns_it, throws_it, served, unanswered, last_serves, running_serves, after_return, after_throw, not_ended_yet}
use Rattle.jx_model.proofs.Refusals.{same_domains}
use Rattle.std.specs.Option.{option_and_then, option_map}

-- ---- what a refused act is none of

pub no_job : {A : Type 0} (r : Refusal) (o : Option Asked) → reply.Refused r ≡ job_of o → A
unfolding job_of
no_job r None h = cc
no_job r (Some a) h = cc

pub no_result : {A : Type 0} (r : Refusal) (o : Option Answer) → reply.Refused r ≡ or_done (option_and_then answer_reply o) → A
unfolding or_done answer_reply
no_result r None h = cc
no_result r (Some (Answer.Value p)) h = cc
no_result r (Some (Answer.Thrown p)) h = cc
no_result r (Some Answer.CopyFailed) h = cc
no_result r (Some Answer.Ended) h = cc
no_result r (Some Answer.Discarded) h = cc

-- a refused act that answers no call leaves what its thread serves
serves_on : (s : System) (past : Past) (d : ℕ) (a : Act) (r : Refusal) (old : Option CallId) → reply.Refused r ≡ reply_to s past d a → answers_call a ≡ false → served_after old a ≡ old
unfolding reply_to answers_call served_after
serves_on s past d (act.Take c) r old h n = no_job r (asked_of past c.0) h
serves_on s past d (act.Return c p) r old h n = cc
serves_on s past d (act.Throw c p) r old h n = cc
serves_on s past d _ r old h n = refl

-- a refused act leaves what its thread does
does_on : (s : System) (past : Past) (d : ℕ) (a : Act) (r : Refusal) (runs : ThreadState) → reply.Refused r ≡ reply_to s past d a → state_after runs a (reply.Refused r) ≡ runs
unfolding reply_to state_after
does_on s past d act.Yield r runs h = cc
does_on s past d (act.EndThread c) r runs h = cc
does_on s past d (act.Call k m p) r runs h = refl
does_on s past d _ r runs h = refl

no_choice : {A : Type 0} (s : System) (past : Past) (d t : ℕ) (a : Act) (r : Refusal) → choice_thread past d a ≡ Some t → reply.Refused r ≡ reply_to s past d a → A
unfolding reply_to choice_thread
no_choice s past d t (act.Take c) r q h = no_job r (asked_of past c.0) h
no_choice s past d t (act.Resume c) r q h = no_result r (answer_of past c.0) h
no_choice s past d t (act.Go k) r q h = cc
no_choice s past d t _ r q h = cc

-- ---- a thread that ran goes on

runs_after : (runs : ThreadState) (a : Act) (r : Reply) → is_running_state (state_after runs a r) ≡ true → state_after runs a r ≡ runs
unfolding state_after is_running_state
runs_after runs (act.Call k m p) (reply.Queued c) h = cc
runs_after runs (act.Call k m p) _ h = refl
runs_after runs act.Yield r h = cc
runs_after runs (act.EndThread c) r h = cc
runs_after runs _ r h = refl

-- a thread that runs does what it does where its last entry didn't make it stop
at_base : (runs : ThreadState) (o : Option Entry) → is_running_state (state_by_last runs o) ≡ true → state_by_last runs o ≡ runs
unfolding state_by_last
at_base runs None h = refl
at_base runs (Some e) h = runs_after runs e.act e.reply h

own_is : (e : Entry) (d t : ℕ) → is_of_thread d t e ≡ true → (e.domain.0 ≡ d) × (e.thread.0 ≡ t)
unfolding is_of_thread is_own
own_is e d t q = let x = both (e.domain.0 == d) (e.thread.0 == t) q in (eq_of e.domain.0 d x.0, eq_of e.thread.0 t x.1)

not_zero : (e : Entry) (d : ℕ) → 1 ≤ d → e.domain.0 ≡ d → (e.domain.0 == 0) ≡ false
not_zero e d l q = above e.domain.0 (omega (arith, l, q))
  where
    above : (n : ℕ) → 1 ≤ n → (n == 0) ≡ false
    above n l = grind (arith, nat_tests)

-- ---- returns and throws

return_keeps : (x : ThreadState) (c : CallId) (p : Parcel) (r : Reply) → state_after x (act.Return c p) r ≡ x
unfolding state_after
return_keeps x c p r = refl

throw_keeps : (x : ThreadState) (c : CallId) (p : Parcel) (r : Reply) → state_after x (act.Throw c p) r ≡ x
unfolding state_after
throw_keeps x c p r = refl

return_answers : (c : CallId) (p : Parcel) (r : Refusal) → answered_by_act c.0 (act.Return c p) (reply.Refused r) ≡ Some (refused_answer r)
unfolding answered_by_act answer_by_reply
return_answers c p r = ap (λ (b : Bool). if b then Some (refused_answer r) else None) (same_number c.0)

throw_answers : (c : CallId) (p : Parcel) (r : Refusal) → answered_by_act c.0 (act.Throw c p) (reply.Refused r) ≡ Some (refused_answer r)
unfolding answered_by_act answer_by_reply
throw_answers c p r = ap (λ (b : Bool). if b then Some (refused_answer r) else None) (same_number c.0)

returns_serves : (s : System) (past : Past) (d t : ℕ) (c : CallId) (p : Parcel) → acting_thread s past d (act.Return c p) ≡ Some t → passes (is_serving c.0) (thread_state past d t) ≡ true
unfolding is_halt zero_may may_perform choice_thread
returns_serves s past d t c p h =
    elim (domain_cases past d t (act.Return c p) (in_domain s past d t (act.Return c p) refl refl h).1) [ inl y ↦ y.1 | inr y ↦ cc y.2 ]

throws_serves : (s : System) (past : Past) (d t : ℕ) (c : CallId) (p : Parcel) → acting_thread s past d (act.Throw c p) ≡ Some t → passes (is_serving c.0) (thread_state past d t) ≡ true
unfolding is_halt zero_may may_perform choice_thread
throws_serves s past d t c p h =
    elim (domain_cases past d t (act.Throw c p) (in_domain s past d t (act.Throw c p) refl refl h).1) [ inl y ↦ y.1 | inr y ↦ cc y.2 ]

pub throws_live : (s : System) (past : Past) (d t : ℕ) (c : CallId) (p : Parcel) → acting_thread s past d (act.Throw c p) ≡ Some t → is_live past d ≡ true
unfolding is_halt zero_may may_perform choice_thread
throws_live s past d t c p h =
    elim (domain_cases past d t (act.Throw c p) (in_domain s past d t (act.Throw c p) refl refl h).1) [ inl y ↦ running_live past d t y.0 | inr y ↦ y.1 ]

served_own : (e : Entry) (past : Past) (d t : ℕ) → is_of_thread d t e ≡ true → served_call (e ∷ past) d t ≡ served_after (served_call past d t) e.act
unfolding served_call
served_own e past d t q = ap (λ (b : Bool). elim b as (λ _. Option CallId) [ true ↦ served_after (served_call past d t) e.act | false ↦ served_call past d t ]) q

idle_stays : (e : Entry) (k : ServiceId) → ((x : ThreadState) → state_after x e.act e.reply ≡ x) → state_by_last (serving_state k None) (Some e) ≡ thread.Idle k
unfolding state_by_last serving_state
idle_stays e k a = a (thread.Idle k)

module _ (s : System) (past : Past) (e : Entry) (r : Refusal) (next : IsNext s past e) (refused : e.reply ≡ reply.Refused r) where
  given : reply.Refused r ≡ reply_to s past e.domain.0 e.act
  given = sym refused ∙ next.reply

  -- a domain that was refused has a running thread, which acted
  ran : (e.domain.0 == 0) ≡ false → passes is_running_state (thread_state past e.domain.0 e.thread.0) ≡ true
  ran z = elim (acting_cases s past e.domain.0 e.thread.0 e.act next.thread) [
    | inl x ↦ cc (x.0, z)
    | inr x ↦ elim (domain_cases past e.domain.0 e.thread.0 e.act x.1) [
      | inl y ↦ running_runs past e.domain.0 e.thread.0 y.0
      | inr y ↦ no_choice s past e.domain.0 e.thread.0 e.act r y.2 given
    ]
  ]

  serves : (d t : ℕ) → answers_call e.act ≡ false → is_of_thread d t e ≡ true → served_call (e ∷ past) d t ≡ served_call past d t
  unfolding served_call
  serves d t quiet q =
      ap (λ (b : Bool). elim b as (λ _. Option CallId) [ true ↦ served_after (served_call past d t) e.act | false ↦ served_call past d t ]) q
      ∙ serves_on s past e.domain.0 e.act r (served_call past d t) given quiet

  last : (d t : ℕ) → is_of_thread d t e ≡ true → last_of_thread (e ∷ past) d t ≡ Some e
  unfolding last_of_thread
  last d t q = ap (λ (b : Bool). cond b (Some e) (find (is_of_thread d t) past)) q

  stays : (runs : ThreadState) → state_by_last runs (Some e) ≡ runs
  unfolding state_by_last
  stays runs = ap (state_after runs e.act) refused ∙ does_on s past e.domain.0 e.act r runs given

  -- the thread of the entry does what it did
  own_state : (d t : ℕ) → answers_call e.act ≡ false → is_of_thread d t e ≡ true → passes is_running_state (thread_state past d t) ≡ true → thread_state (e ∷ past) d t ≡ thread_state past d t
  unfolding thread_state passes
  own_state d zero quiet q h =
      ap (λ (o : Option Entry). Some (state_by_last thread.Running o)) (last d 0 q)
      ∙ ap Some (stays thread.Running ∙ sym (at_base thread.Running (last_of_thread past d 0) h))
  own_state d (suc t) quiet q h =
      ap3 (λ (c : Option CallId) (o : Option Entry) (ss : List ServiceId). option_map (state_with c o) (slice_get ss t)) (serves d (suc t) quiet q) (last d (suc t) q) ((same_domains s past e r next refused).threads d)
      ∙ by (slice_get (service_threads past d) t) h
    where
      by : (k : Option ServiceId) → passes is_running_state (option_map (state_with (served_call past d (suc t)) (last_of_thread past d (suc t))) k) ≡ true →
          option_map (state_with (served_call past d (suc t)) (Some e)) k ≡ option_map (state_with (served_call past d (suc t)) (last_of_thread past d (suc t))) k
      by None h = refl
      by (Some k) h =
          ap Some (stays (serving_state k (served_call past d (suc t))) ∙ sym (at_base (serving_state k (served_call past d (suc t))) (last_of_thread past d (suc t)) h))

  pub same_state : (d t : ℕ) → 1 ≤ d → (answers_call e.act && is_of_thread d t e) ≡ false → thread_state (e ∷ past) d t ≡ thread_state past d t
  same_state d t l other = by (is_of_thread d t e) refl
    where
      silent : is_of_thread d t e ≡ true → answers_call e.act ≡ false
      silent q = sym (and_true (answers_call e.act)) ∙ ap (λ (b : Bool). answers_call e.act && b) (sym q) ∙ other

      by : (b : Bool) → is_of_thread d t e ≡ b → thread_state (e ∷ past) d t ≡ thread_state past d t
      by false q = other_thread e past d t q ((same_domains s past e r next refused).threads d)
      by true q =
          let w = own_is e d t q in
          own_state d t (silent q) q (ap2 (λ (x y : ℕ). passes is_running_state (thread_state past x y)) (sym w.0) (sym w.1) ∙ ran (not_zero e d l w.0))

  -- ---- a return or throw

  -- the thread that served is idle
  idle_state : (d t : ℕ) (c : CallId) → passes (is_serving c.0) (thread_state past d t) ≡ true → is_of_thread d t e ≡ true →
      served_after (served_call past d t) e.act ≡ None → ((x : ThreadState) → state_after x e.act e.reply ≡ x) → IsIdle (e ∷ past) d t
  unfolding thread_state passes
  idle_state d zero c h q n a = running_serves c.0 (last_serves c.0 thread.Running (last_of_thread past d 0) h)
  idle_state d (suc t) c h q n a = by (slice_get (service_threads past d) t) refl h
    where
      served : served_call (e ∷ past) d (suc t) ≡ None
      served = served_own e past d (suc t) q ∙ n

      by : (k : Option ServiceId) → slice_get (service_threads past d) t ≡ k →
          passes (is_serving c.0) (option_map (state_with (served_call past d (suc t)) (last_of_thread past d (suc t))) k) ≡ true → IsIdle (e ∷ past) d (suc t)
      by None z h = cc
      by (Some k) z h = (
        k,
        ap3 (λ (c : Option CallId) (o : Option Entry) (x : Option ServiceId). option_map (state_with c o) x)
            served (last d (suc t) q) (ap (λ (ss : List ServiceId). slice_get ss t) ((same_domains s past e r next refused).threads d) ∙ z)
            ∙ ap Some (idle_stays e k a),
      )

  own_thread : is_of_thread e.domain.0 e.thread.0 e ≡ true
  unfolding is_of_thread is_own
  own_thread = ap2 (λ (x y : Bool). x && y) (same_number e.domain.0) (same_number e.thread.0)

  pub idles : (a : Act) → e.act ≡ a → answers_call a ≡ true → IsIdle (e ∷ past) e.domain.0 e.thread.0
  unfolding answers_call
  idles (act.Return c p) q h =
      idle_state e.domain.0 e.thread.0 c (returns_serves s past e.domain.0 e.thread.0 c p (ap (acting_thread s past e.domain.0) (sym q) ∙ next.thread)) own_thread
      (ap (served_after (served_call past e.domain.0 e.thread.0)) q ∙ after_return _ c p) (λ x. ap (λ (y : Act). state_after x y e.reply) q ∙ return_keeps x c p e.reply)
  idles (act.Throw c p) q h =
      idle_state e.domain.0 e.thread.0 c (throws_serves s past e.domain.0 e.thread.0 c p (ap (acting_thread s past e.domain.0) (sym q) ∙ next.thread)) own_thread
      (ap (served_after (served_call past e.domain.0 e.thread.0)) q ∙ after_throw _ c p) (λ x. ap (λ (y : Act). state_after x y e.reply) q ∙ throw_keeps x c p e.reply)
  idles _ q h = cc

  -- the call that it served has the answer of the refusal
  answer_is : (c : CallId) → IsAdmittedPast s past → served_call past e.domain.0 e.thread.0 ≡ Some c → is_live past e.domain.0 ≡ true →
      answered_by_act c.0 e.act e.reply ≡ Some (refused_answer r) → answer_of (e ∷ past) c.0 ≡ Some (refused_answer r)
  unfolding answered_by
  answer_is c h v l a =
      let k = served s past e.domain.0 e.thread.0 c h v in
      let u = unanswered s past e.domain.0 e.thread.0 c h v (not_ended_yet past e.domain.0 l) in
      answer_made e past c.0 k.low k.high
      ∙ ap (λ (o : Option Answer). elim o as (λ _. Option Answer) [ Some x ↦ Some x | None ↦ answered_by past e c.0 ]) u
      ∙ ap (λ (o : Option Answer). elim o as (λ _. Option Answer) [ Some x ↦ Some x | None ↦ if ends_server past c.0 e then Some Answer.Ended else None ]) a

  pub answers : (a : Act) → e.act ≡ a → IsAdmittedPast s past → IsAnsweredWith r a (e ∷ past)
  answers (act.Return c p) q h =
      let n = ap (acting_thread s past e.domain.0) (sym q) ∙ next.thread in
      let v = returns_it s past e.domain.0 e.thread.0 c p n in
      answer_is c h v.1 (running_live past e.domain.0 e.thread.0 v.0) (ap2 (answered_by_act c.0) q refused ∙ return_answers c p r)
  answers (act.Throw c p) q h =
      let n = ap (acting_thread s past e.domain.0) (sym q) ∙ next.thread in
      answer_is c h (throws_it s past e.domain.0 e.thread.0 c p n) (throws_live s past e.domain.0 e.thread.0 c p n) (ap2 (answered_by_act c.0) q refused ∙ throw_answers c p r)
  answers _ q h = tt
