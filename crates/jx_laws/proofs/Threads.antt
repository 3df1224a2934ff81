-- What a thread waits for and what it serves.
use Rattle.std.proofs.Common.{◌≡◌, refl, sym, ◌∙◌, ap, subst, ℕ, suc, zero, ◌+◌, Bool, true, false, cond, ◌&&◌, [], ◌∷◌, Option, Some, None, is_some, ◌==◌, if◌then◌else◌, slice_get}
use Rattle.std.specs.List.{find}
use Rattle.jx_base.specs.declared.act.Act.{Act}
use Rattle.jx_base.specs.declared.act.Act.TheVariants as act
use Rattle.jx_base.specs.declared.act.Reply.{Reply}
use Rattle.jx_base.specs.declared.act.Reply.TheVariants as reply
use Rattle.jx_base.specs.declared.act.Refusal.{Refusal}
use Rattle.jx_base.specs.declared.act.Entry.{Entry}
use Rattle.jx_base.specs.declared.ids.CallId.{CallId}
use Rattle.jx_base.specs.declared.ids.ServiceId.{ServiceId}
use Rattle.jx_base.specs.declared.ids.MethodId.{MethodId}
use Rattle.jx_base.specs.declared.value.Parcel.{Parcel}
use Rattle.jx_base.specs.declared.program.System.{System}
use Rattle.jx_base.specs.declared.states.ThreadState.{ThreadState}
use Rattle.jx_base.specs.declared.states.ThreadState.TheVariants as thread
use Rattle.jx_base.specs.Basics.{passes}
use Rattle.jx_base.specs.Histories.{Past, is_own}
use Rattle.jx_model.specs.Domains.{is_live}
use Rattle.jx_model.specs.Threads.{thread_state, thread_where, state_by_last, state_after, serving_state, served_call, is_of_thread, last_of_thread, service_threads, running_thread}
use Rattle.jx_model.specs.Calls.{is_call, asked_by, queued_as, calls_made, call_entry, service_of_call, is_resumable}
use Rattle.jx_model.specs.Permits.{acting_thread, domain_thread, may_perform, is_zero_act, is_choice, is_halt, zero_may, choice_thread, taking_thread, resuming_thread, is_head, idle_thread, is_idle_for, is_waiting_for}
use Rattle.jx_model.specs.Replies.{reply_to, called, ◌refuses◌else◌}
use Rattle.jx_model.specs.Legal.{IsNext, IsAdmittedPast}
use Rattle.jx_base.proofs.BasicLaws.{both, eq_of}
use Rattle.jx_base.proofs.NthEntries.{nth_new, nth_stays}
use Rattle.jx_model.proofs.Acting.{where_passes, chosen, of_then}
use Rattle.jx_model.proofs.Serving.{in_domain, of_none}
use Rattle.std.specs.Option.{option_and_then, option_map}

-- ---- a queued call has the next number

-- a queued reply has the number that stands in it
queued_next : (b1 b2 b3 b4 : Bool) (r1 r2 r3 r4 : Refusal) (n : ℕ) (k : CallId) →
    (b1 refuses r1 else b2 refuses r2 else b3 refuses r3 else b4 refuses r4 else reply.Queued (record { 0 = n })) ≡ reply.Queued k → k.0 ≡ n
unfolding ◌refuses◌else◌
queued_next true b2 b3 b4 r1 r2 r3 r4 n k h = cc
queued_next false true b3 b4 r1 r2 r3 r4 n k h = cc
queued_next false false true b4 r1 r2 r3 r4 n k h = cc
queued_next false false false true r1 r2 r3 r4 n k h = cc
queued_next false false false false r1 r2 r3 r4 n k h = let q : (let x : CallId = record { 0 = n } in x) ≡ k = cc (h) in ap (λ (x : CallId). x.0) (sym q)

-- a queued call has the next number
pub call_number : (s : System) (past : Past) (d : ℕ) (k : ServiceId) (m : MethodId) (p : Parcel) (c : CallId) → reply_to s past d (act.Call k m p) ≡ reply.Queued c → c.0 ≡ calls_made past + 1
unfolding reply_to called
call_number s past d k m p c h = queued_next _ _ _ _ _ _ _ _ (calls_made past + 1) c h

-- ---- who waits for a call made it

-- an entry that queued the call
pub record HasQueued (e : Entry) (c : ℕ) : Type 0 where
  pub service : ServiceId
  pub method : MethodId
  pub parcel : Parcel
  pub call : CallId
  pub act : e.act ≡ act.Call service method parcel
  pub reply : e.reply ≡ reply.Queued call
  pub number : call.0 ≡ c

-- a call that is answered with queued is queued
is_queued_call : (k : ServiceId) (m : MethodId) (p : Parcel) (c : CallId) → (is_some (asked_by (act.Call k m p)) && is_some (queued_as (reply.Queued c))) ≡ true
unfolding asked_by queued_as
is_queued_call k m p c = refl

-- such an entry is a call
pub has_queued_call : (e : Entry) (c : ℕ) → HasQueued e c → is_call e ≡ true
unfolding is_call
has_queued_call e c q =
    ap (λ (a : Act). is_some (asked_by a) && is_some (queued_as e.reply)) q.act
    ∙ ap (λ (r : Reply). is_some (asked_by (act.Call q.service q.method q.parcel)) && is_some (queued_as r)) q.reply
    ∙ is_queued_call q.service q.method q.parcel q.call

-- an act after which a thread waits queued the call
state_waits : (c : ℕ) (runs : ThreadState) (a : Act) (r : Reply) → is_waiting_for c runs ≡ false → is_waiting_for c (state_after runs a r) ≡ true →
    (k : ServiceId) × (m : MethodId) × (p : Parcel) × (n : CallId) × (a ≡ act.Call k m p) × (r ≡ reply.Queued n) × (n.0 ≡ c)
unfolding state_after is_waiting_for
state_waits c runs (act.Call k m p) (reply.Queued n) w h = (k, m, p, n, refl, refl, eq_of n.0 c h)
state_waits c runs (act.Call k m p) _ w h = cc
state_waits c runs act.Yield r w h = cc
state_waits c runs (act.EndThread k) r w h = cc
state_waits c runs _ r w h = cc

-- the last entry of a waiting thread queued the call
last_waits : (c : ℕ) (runs : ThreadState) (o : Option Entry) → is_waiting_for c runs ≡ false → is_waiting_for c (state_by_last runs o) ≡ true → (e : Entry) × (o ≡ Some e) × HasQueued e c
unfolding state_by_last
last_waits c runs None w h = cc
last_waits c runs (Some e) w h =
    let x = state_waits c runs e.act e.reply w h in
    (e, refl, record { service = x.0; method = x.1; parcel = x.2; call = x.3; act = x.4; reply = x.5; number = x.6 })

-- a service thread that nothing stopped doesn't wait
serving_waits : (c : ℕ) (k : ServiceId) (o : Option CallId) → is_waiting_for c (serving_state k o) ≡ false
unfolding serving_state is_waiting_for
serving_waits c k None = refl
serving_waits c k (Some n) = refl

-- a running thread doesn't wait
running_waits : (c : ℕ) → is_waiting_for c thread.Running ≡ false
unfolding is_waiting_for
running_waits c = refl

-- a value that passes comes of one that is there
mapped_passes : (f : ServiceId → ThreadState) (p : ThreadState → Bool) (o : Option ServiceId) → passes p (option_map f o) ≡ true → (k : ServiceId) × (p (f k) ≡ true)
unfolding passes
mapped_passes f p None h = cc
mapped_passes f p (Some k) h = (k, h)

-- the last entry of a waiting thread queued the call
pub waiting_last : (past : Past) (d t c : ℕ) → passes (is_waiting_for c) (thread_state past d t) ≡ true → (e : Entry) × (last_of_thread past d t ≡ Some e) × HasQueued e c
unfolding thread_state passes
waiting_last past d zero c h = last_waits c thread.Running (last_of_thread past d 0) (running_waits c) h
waiting_last past d (suc t) c h =
    let x = mapped_passes (λ k. state_by_last (serving_state k (served_call past d (suc t))) (last_of_thread past d (suc t))) (is_waiting_for c) (slice_get (service_threads past d) t) h in
    last_waits c (serving_state x.0 (served_call past d (suc t))) (last_of_thread past d (suc t)) (serving_waits c x.0 (served_call past d (suc t))) x.1

-- the entry of a thread is of its domain and number
pub thread_of : (d t : ℕ) (e : Entry) → is_of_thread d t e ≡ true → (e.domain.0 ≡ d) × (e.thread.0 ≡ t)
unfolding is_of_thread is_own
thread_of d t e h = let x = both (e.domain.0 == d) (e.thread.0 == t) h in (eq_of e.domain.0 d x.0, eq_of e.thread.0 t x.1)

-- the call's entry is one of this thread
pub record IsMadeBy (past : Past) (d t c : ℕ) : Type 0 where
  pub entry : Entry
  pub is : call_entry past c ≡ Some entry
  pub domain : entry.domain.0 ≡ d
  pub thread : entry.thread.0 ≡ t

-- an entry that queued the call is the call's entry
new_call : (s : System) (past : Past) (e : Entry) (c : ℕ) → IsNext s past e → HasQueued e c → call_entry (e ∷ past) c ≡ Some e
unfolding call_entry
new_call s past e c n q =
    let z = call_number s past e.domain.0 q.service q.method q.parcel q.call (ap (reply_to s past e.domain.0) (sym q.act) ∙ sym n.reply ∙ q.reply) in
    nth_new is_call e past c (has_queued_call e c q) (sym q.number ∙ z)

-- who made a call stays so
made_stays : (e : Entry) (past : Past) (d t c : ℕ) → IsMadeBy past d t c → IsMadeBy (e ∷ past) d t c
unfolding call_entry
made_stays e past d t c x = record { entry = x.entry; is = nth_stays is_call e past c x.entry x.is; domain = x.domain; thread = x.thread }

-- a call that the last entry of a thread queued was made by that thread
pub last_made : (s : System) (past : Past) (d t c : ℕ) (x : Entry) → IsAdmittedPast s past → last_of_thread past d t ≡ Some x → HasQueued x c → IsMadeBy past d t c
unfolding last_of_thread
last_made s [] d t c x a h q = cc
last_made s (e ∷ past) d t c x a h q = by (is_of_thread d t e) refl h (last_made s past d t c x a.1)
  where
    by : (b : Bool) → is_of_thread d t e ≡ b → cond b (Some e) (find (is_of_thread d t) past) ≡ Some x → (find (is_of_thread d t) past ≡ Some x → HasQueued x c → IsMadeBy past d t c) → IsMadeBy (e ∷ past) d t c
    by true p h again =
        let z : x ≡ e = cc (h) in
        let w = thread_of d t e p in record { entry = e; is = new_call s past e c a.0 (subst (λ (y : Entry). HasQueued y c) z q); domain = w.0; thread = w.1 }
    by false p h again = made_stays e past d t c (again h q)

-- who waits for a call made it
pub waiter_made : (s : System) (past : Past) (d t c : ℕ) → IsAdmittedPast s past → passes (is_waiting_for c) (thread_state past d t) ≡ true → IsMadeBy past d t c
waiter_made s past d t c a h = let x = waiting_last past d t c h in last_made s past d t c x.0 a x.1 x.2

-- ---- an idle thread serves nothing

-- a thread that is idle after its act was idle before it
state_idle : (k : ℕ) (runs : ThreadState) (a : Act) (r : Reply) → is_idle_for k (state_after runs a r) ≡ true → is_idle_for k runs ≡ true
unfolding state_after is_idle_for
state_idle k runs (act.Call j m p) (reply.Queued n) h = cc
state_idle k runs (act.Call j m p) _ h = h
state_idle k runs act.Yield r h = cc
state_idle k runs (act.EndThread j) r h = cc
state_idle k runs _ r h = h

-- an idle thread is one that serves nothing
last_idle : (k : ℕ) (runs : ThreadState) (o : Option Entry) → is_idle_for k (state_by_last runs o) ≡ true → is_idle_for k runs ≡ true
unfolding state_by_last
last_idle k runs None h = h
last_idle k runs (Some e) h = state_idle k runs e.act e.reply h

-- an idle thread has no call
serving_idle : (k : ℕ) (j : ServiceId) (o : Option CallId) → is_idle_for k (serving_state j o) ≡ true → o ≡ None
unfolding serving_state is_idle_for
serving_idle k j None h = refl
serving_idle k j (Some n) h = cc

-- a running thread isn't idle
running_idle : {A : Type 0} (k : ℕ) → is_idle_for k thread.Running ≡ true → A
unfolding is_idle_for
running_idle k h = cc

-- an idle thread serves nothing
pub idle_serves : (past : Past) (d t k : ℕ) → passes (is_idle_for k) (thread_state past d t) ≡ true → served_call past d t ≡ None
unfolding thread_state passes
idle_serves past d zero k h = zeroth (last_idle k thread.Running (last_of_thread past d 0) h)
  where
    zeroth : is_idle_for k thread.Running ≡ true → served_call past d 0 ≡ None
    zeroth h = running_idle k h
idle_serves past d (suc t) k h =
    let x = mapped_passes (λ j. state_by_last (serving_state j (served_call past d (suc t))) (last_of_thread past d (suc t))) (is_idle_for k) (slice_get (service_threads past d) t) h in
    serving_idle k x.0 (served_call past d (suc t)) (last_idle k (serving_state x.0 (served_call past d (suc t))) (last_of_thread past d (suc t)) x.1)

-- ---- takes and resumes

-- a take is of the first call of a queue, by a thread that serves nothing
pub take_first : (s : System) (past : Past) (d t : ℕ) (c : CallId) → acting_thread s past d (act.Take c) ≡ Some t → (is_head past d c.0 ≡ true) × (served_call past d t ≡ None)
unfolding is_halt zero_may domain_thread may_perform is_zero_act is_choice choice_thread taking_thread idle_thread
take_first s past d t c h =
    let n = of_none (running_thread past d) (is_live past d) t (taking_thread past d c.0) (in_domain s past d t (act.Take c) refl refl h).1 in
    let q = chosen (is_head past d c.0) t (option_and_then (idle_thread past d) (service_of_call past c.0)) n.2 in
    let k = of_then (service_of_call past c.0) (idle_thread past d) t q.1 in
    (q.0, idle_serves past d t k.0 (where_passes past d t (is_idle_for k.0) k.2))

-- a resume is by a thread that waits for the call
pub resume_waits : (s : System) (past : Past) (d t : ℕ) (c : CallId) → acting_thread s past d (act.Resume c) ≡ Some t → (is_resumable past c.0 ≡ true) × (passes (is_waiting_for c.0) (thread_state past d t) ≡ true)
unfolding is_halt zero_may domain_thread may_perform is_zero_act is_choice choice_thread resuming_thread
resume_waits s past d t c h =
    let n = of_none (running_thread past d) (is_live past d) t (if is_resumable past c.0 then thread_where past d (is_waiting_for c.0) else None) (in_domain s past d t (act.Resume c) refl refl h).1 in
    let q = chosen (is_resumable past c.0) t (thread_where past d (is_waiting_for c.0)) n.2 in (q.0, where_passes past d t (is_waiting_for c.0) q.1)
