-- What one more entry makes of a domain's running thread.
use Rattle.std.proofs.Common.{◌≡◌, refl, sym, ◌∙◌, ap, subst, ℕ, zero, suc, ◌+◌, ◌≤◌, Bool, true, false, cond, ◌&&◌, List, [], ◌∷◌, length, Option, Some, None, arith, ◌==◌, if◌then◌else◌, ◌⊎◌, inl, inr, slice_get}
use Rattle.std.specs.List.{find, range_with_len}
use Rattle.std.specs.Option.{option_map, option_and_then}
use Rattle.jx_base.specs.declared.act.Act.{Act}
use Rattle.jx_base.specs.declared.act.Act.TheVariants as act
use Rattle.jx_base.specs.declared.act.Reply.{Reply}
use Rattle.jx_base.specs.declared.act.Reply.TheVariants as reply
use Rattle.jx_base.specs.declared.act.Entry.{Entry}
use Rattle.jx_base.specs.declared.ids.CallId.{CallId}
use Rattle.jx_base.specs.declared.ids.ServiceId.{ServiceId}
use Rattle.jx_base.specs.declared.program.System.{System}
use Rattle.jx_base.specs.declared.states.ThreadState.{ThreadState}
use Rattle.jx_base.specs.declared.states.ThreadState.TheVariants as thread
use Rattle.jx_base.specs.Basics.{passes}
use Rattle.jx_base.specs.Histories.{Past, is_own}
use Rattle.jx_base.proofs.BasicLaws.{ap3, get_left, none_found, passed}
use Rattle.jx_model.specs.Calls.{Asked, asked_of, is_resumable, service_of_call}
use Rattle.jx_model.specs.Replies.{job_of, reply_to}
use Rattle.jx_model.specs.Domains.{ended_by, ended_by_act, reason_for}
use Rattle.jx_base.specs.declared.act.Reason.{Reason}
use Rattle.jx_base.specs.declared.act.Reason.TheVariants as reason
use Rattle.jx_model.specs.Growth.{Runs}
use Rattle.jx_model.specs.Legal.{IsNext, IsAdmittedPast}
use Rattle.jx_model.specs.Permits.{is_choice, is_serving, is_waiting_for, is_yielded, is_zero_act, is_head, idle_thread, may_perform, choice_thread, taking_thread, resuming_thread, going_thread}
use Rattle.jx_model.specs.Tables.{ThreadRecord, service_of_thread, thread_record, state_or_over}
use Rattle.jx_model.specs.Threads.{service_threads, threads_of, is_of_thread, served_call, served_after, state_after, state_by_last, serving_state, last_of_thread, thread_state, thread_where, is_running_state}
use Rattle.jx_model.proofs.Acting.{chosen, of_then, state_within, where_passes}
use Rattle.jx_model.proofs.OneThread.{last_same, one_runner, other_thread, ran_before, serves_same, state_with}
use Rattle.jx_model.proofs.Serving.{last_serves, running_serves, same_thread}
use Rattle.table_threads.specs.ThreadChanges.{runs_as}
use Rattle.table_threads.proofs.Records.{find_range}
use Rattle.table_threads.proofs.ThreadActs.{own_thread, runs_now, thread_there}
use Rattle.table_threads.proofs.ThreadRecords.{no_threads, running_record, same_threads, service_there}
use Rattle.thread_laws.proofs.KindsOfActs.{ends, pauses, running_after, stops}

-- ---- the state of a thread after its own entry

pub serves_own : (e : Entry) (past : Past) (d t : ℕ) → is_of_thread d t e ≡ true → served_call (e ∷ past) d t ≡ served_after (served_call past d t) e.act
unfolding served_call
serves_own e past d t h = ap (λ (b : Bool). elim b as (λ _. Option CallId) [ true ↦ served_after (served_call past d t) e.act | false ↦ served_call past d t ]) h

last_own : (e : Entry) (past : Past) (d t : ℕ) → is_of_thread d t e ≡ true → last_of_thread (e ∷ past) d t ≡ Some e
unfolding last_of_thread
last_own e past d t h = ap (λ (b : Bool). cond b (Some e) (find (is_of_thread d t) past)) h

service_kept : (e : Entry) (past : Past) (d t : ℕ) → suc t ≤ length (service_threads past d) → slice_get (service_threads (e ∷ past) d) t ≡ slice_get (service_threads past d) t
unfolding service_threads
service_kept e past d t l = get_left (service_threads past d) _ t (omega (arith, l))

-- what a thread that is there does after its own entry
pub own_state : (e : Entry) (past : Past) (d t : ℕ) → is_of_thread d t e ≡ true → t ≤ length (service_threads past d) →
    thread_state (e ∷ past) d t ≡ Some (state_after (runs_as (service_of_thread past d t) (served_after (served_call past d t) e.act)) e.act e.reply)
unfolding thread_state state_by_last
own_state e past d zero h l = ap (λ (o : Option Entry). Some (state_by_last thread.Running o)) (last_own e past d 0 h)
own_state e past d (suc t) h l =
    let k = service_there past d t l in
    ap3 (λ (c : Option CallId) (o : Option Entry) (k : Option ServiceId). option_map (state_with c o) k) (serves_own e past d (suc t) h) (last_own e past d (suc t) h) (service_kept e past d t l)
    ∙ by k.0 (slice_get (service_threads past d) t) k.1
  where
    by : (k : ServiceId) (o : Option ServiceId) → o ≡ Some k →
        option_map (state_with (served_after (served_call past d (suc t)) e.act) (Some e)) o ≡ Some (state_after (runs_as o (served_after (served_call past d (suc t)) e.act)) e.act e.reply)
    by k None q = cc
    by k (Some x) q = refl

-- where a thread runs, it would run with what it serves
pub runs_base : (past : Past) (d t : ℕ) → Runs past d t → is_running_state (runs_as (service_of_thread past d t) (served_call past d t)) ≡ true
unfolding thread_record passes state_or_over
runs_base past d t h = ap (λ (item : ThreadRecord). is_running_state item.state) (sym (running_record past d t h)) ∙ over (thread_state past d t) h
  where
    over : (o : Option ThreadState) → passes is_running_state o ≡ true → is_running_state (state_or_over o) ≡ true
    over None h = cc
    over (Some x) h = h

-- ---- the running thread goes on

-- an act that doesn't make its thread stop leaves what it does
keeps_state : (x : ThreadState) (a : Act) (r : Reply) → stops a r ≡ false → state_after x a r ≡ x
unfolding state_after
keeps_state x (act.Call k m p) (reply.Queued c) h = cc
keeps_state x act.Yield r h = cc
keeps_state x (act.EndThread k) r h = cc
keeps_state x _ _ h = refl

keeps_served : (o : Option CallId) (a : Act) (r : Reply) → stops a r ≡ false → is_choice a ≡ false → served_after o a ≡ o
unfolding served_after is_choice
keeps_served o (act.Take c) r h k = cc
keeps_served o (act.Return c p) r h k = cc
keeps_served o (act.Throw c p) r h k = cc
keeps_served o _ r h k = refl

own_runs : (e : Entry) (past : Past) (d t : ℕ) → is_of_thread d t e ≡ true → t ≤ length (service_threads past d) → stops e.act e.reply ≡ false →
    is_running_state (runs_as (service_of_thread past d t) (served_after (served_call past d t) e.act)) ≡ true → Runs (e ∷ past) d t
unfolding passes
own_runs e past d t h l n r =
    ap (passes is_running_state) (own_state e past d t h l) ∙ ap is_running_state (keeps_state (runs_as (service_of_thread past d t) (served_after (served_call past d t) e.act)) e.act e.reply n) ∙ r

-- where it is no choice
pub still_runs : (e : Entry) (past : Past) (d t : ℕ) → is_of_thread d t e ≡ true → t ≤ length (service_threads past d) → stops e.act e.reply ≡ false → is_choice e.act ≡ false → Runs past d t → Runs (e ∷ past) d t
still_runs e past d t h l n c r =
    own_runs e past d t h l n (ap (λ (o : Option CallId). is_running_state (runs_as (service_of_thread past d t) o)) (keeps_served (served_call past d t) e.act e.reply n c) ∙ runs_base past d t r)

-- ---- a thread that waits or has yielded serves its call

-- whether a thread in that state waits or has yielded
abbrev is_paused : ThreadState → Bool
is_paused (thread.Waiting c) = true
is_paused thread.Yielded = true
is_paused _ = false

-- thread 0, or it serves a call
abbrev pub IsEngaged : Past → ℕ → ℕ → Type 0
IsEngaged past d t = (t ≡ 0) ⊎ ((c : CallId) × (served_call past d t ≡ Some c))

pauses_no_choice : (a : Act) → pauses a ≡ true → is_choice a ≡ false
unfolding is_choice
pauses_no_choice (act.Call k m p) h = refl
pauses_no_choice act.Yield h = refl
pauses_no_choice _ h = cc

pauses_serve : (o : Option CallId) (a : Act) → pauses a ≡ true → served_after o a ≡ o
unfolding served_after
pauses_serve o (act.Call k m p) h = refl
pauses_serve o act.Yield h = refl
pauses_serve o _ h = cc

pub engaged_runs : (past : Past) (d t : ℕ) → t ≤ length (service_threads past d) → Runs past d t → IsEngaged past d t
unfolding serving_state is_running_state
engaged_runs past d zero l r = inl refl
engaged_runs past d (suc t) l r = let k = service_there past d t l in by (slice_get (service_threads past d) t) k.0 k.1 (served_call past d (suc t)) refl (runs_base past d (suc t) r)
  where
    by : (o : Option ServiceId) (k : ServiceId) → o ≡ Some k → (c : Option CallId) → served_call past d (suc t) ≡ c → is_running_state (runs_as o c) ≡ true → IsEngaged past d (suc t)
    by None k q c w h = cc
    by (Some x) k q None w h = cc
    by (Some x) k q (Some c) w h = inr (c, w)

-- the thread of a domain's entry is there
pub actor_there : (s : System) (past : Past) (e : Entry) (d t : ℕ) → IsNext s past e → is_of_thread d t e ≡ true → t ≤ length (service_threads past d)
actor_there s past e d t n h =
    let z = same_thread d t e.domain.0 e.thread.0 e h (own_thread e) in
    let l = thread_there s past e n in
    let m : t ≤ length (service_threads past e.domain.0) = omega (arith, l, z.1) in
    subst (λ (k : ℕ). t ≤ length (service_threads past k)) (sym z.0) m

-- and it runs, where the act is no choice
pub actor_runs : (s : System) (past : Past) (e : Entry) (d t : ℕ) → IsNext s past e → is_of_thread d t e ≡ true → 1 ≤ d → is_choice e.act ≡ false → Runs past d t
actor_runs s past e d t n h l c =
    let z = same_thread d t e.domain.0 e.thread.0 e h (own_thread e) in
    let r : Runs past e.domain.0 e.thread.0 = runs_now s past e n c (omega (arith, l, z.0)) in
    subst (λ (k : ℕ). Runs past k t) (sym z.0) (subst (λ (k : ℕ). Runs past e.domain.0 k) (sym z.1) r)

-- a thread whose last act is a call or a yield
engaged : (s : System) (past : Past) → IsAdmittedPast s past → (d t : ℕ) (e : Entry) → 1 ≤ d → last_of_thread past d t ≡ Some e → pauses e.act ≡ true → IsEngaged past d t
unfolding last_of_thread
engaged s [] h d t e l q p = cc
engaged s (g ∷ past) h d t e l q p = by (is_of_thread d t g) refl (engaged s past h.1 d t e l)
  where
    ran : g ≡ e → is_of_thread d t g ≡ true → IsEngaged (g ∷ past) d t
    ran z w =
        let p : pauses g.act ≡ true = ap (λ (x : Entry). pauses x.act) z ∙ p in
        let r = actor_runs s past g d t h.0 w l (pauses_no_choice g.act p) in
        elim (engaged_runs past d t (actor_there s past g d t h.0 w) r) [ inl x ↦ inl x | inr x ↦ inr (x.0, serves_own g past d t w ∙ pauses_serve (served_call past d t) g.act p ∙ x.1) ]

    by : (b : Bool) → is_of_thread d t g ≡ b → (last_of_thread past d t ≡ Some e → pauses e.act ≡ true → IsEngaged past d t) → IsEngaged (g ∷ past) d t
    by false w again = elim (again (sym (last_same g past d t w) ∙ q) p) [ inl x ↦ inl x | inr x ↦ inr (x.0, serves_same g past d t w ∙ x.1) ]
    by true w again = let z : Some g ≡ Some e = sym (last_own g past d t w) ∙ q in let y : g ≡ e = cc in ran y w

-- ---- a choice lets its thread run

paused_by : (x : ThreadState) (a : Act) (r : Reply) → is_paused (state_after x a r) ≡ true → (pauses a ≡ true) ⊎ (is_paused x ≡ true)
unfolding state_after
paused_by x (act.Call k m p) (reply.Queued c) h = inl refl
paused_by x act.Yield r h = inl refl
paused_by x (act.EndThread k) r h = cc
paused_by x _ _ h = inr h

serving_unpaused : {A : Type 0} (k : ServiceId) (o : Option CallId) → is_paused (serving_state k o) ≡ true → A
unfolding serving_state
serving_unpaused k None h = cc
serving_unpaused k (Some c) h = cc

paused_last : (k : ServiceId) (c : Option CallId) (o : Option Entry) → is_paused (state_by_last (serving_state k c) o) ≡ true → (e : Entry) × (o ≡ Some e) × (pauses e.act ≡ true)
unfolding state_by_last
paused_last k c None h = serving_unpaused k c h
paused_last k c (Some e) h = elim (paused_by (serving_state k c) e.act e.reply h) [ inl x ↦ (e, refl, x) | inr x ↦ serving_unpaused k c x ]

-- a paused thread would run with what it serves
paused_base : (s : System) (past : Past) (d t : ℕ) → IsAdmittedPast s past → 1 ≤ d → passes is_paused (thread_state past d t) ≡ true → is_running_state (runs_as (service_of_thread past d t) (served_call past d t)) ≡ true
unfolding thread_state passes serving_state is_running_state
paused_base s past d zero h l p = refl
paused_base s past d (suc t) h l p = by (slice_get (service_threads past d) t) p
  where
    served : (k : ServiceId) (c : Option CallId) → (c ≡ None → ⊥) → is_running_state (serving_state k c) ≡ true
    served k None n = absurd (n refl)
    served k (Some c) n = refl

    serves : IsEngaged past d (suc t) → served_call past d (suc t) ≡ None → ⊥
    serves (inl q) w = absurd (omega (arith, q))
    serves (inr x) w = let z : None ≡ Some x.0 = sym w ∙ x.1 in cc

    by : (o : Option ServiceId) → passes is_paused (option_map (state_with (served_call past d (suc t)) (last_of_thread past d (suc t))) o) ≡ true → is_running_state (runs_as o (served_call past d (suc t))) ≡ true
    by None p = cc
    by (Some k) p =
        let x = paused_last k (served_call past d (suc t)) (last_of_thread past d (suc t)) p in
        served k (served_call past d (suc t)) (serves (engaged s past h d (suc t) x.0 l x.1 x.2))

passes_more : (p q : ThreadState → Bool) → ((x : ThreadState) → p x ≡ true → q x ≡ true) → (o : Option ThreadState) → passes p o ≡ true → passes q o ≡ true
unfolding passes
passes_more p q f None h = cc
passes_more p q f (Some x) h = f x h

waiting_paused : (c : ℕ) (x : ThreadState) → is_waiting_for c x ≡ true → is_paused x ≡ true
unfolding is_waiting_for
waiting_paused c (thread.Waiting k) h = refl
waiting_paused c _ h = cc

yielded_paused : (x : ThreadState) → is_yielded x ≡ true → is_paused x ≡ true
unfolding is_yielded
yielded_paused thread.Yielded h = refl
yielded_paused _ h = cc

taken_runs : (o : Option ServiceId) (c : CallId) → is_running_state (runs_as o (Some c)) ≡ true
unfolding serving_state is_running_state
taken_runs None c = refl
taken_runs (Some k) c = refl

choice_goes : (past : Past) (d t : ℕ) (a : Act) (r : Reply) → choice_thread past d a ≡ Some t → stops a r ≡ false
unfolding choice_thread
choice_goes past d t (act.Take c) r h = refl
choice_goes past d t (act.Resume c) r h = refl
choice_goes past d t (act.Go k) r h = refl
choice_goes past d t _ r h = cc

choice_base : (s : System) (past : Past) (d t : ℕ) (a : Act) → IsAdmittedPast s past → 1 ≤ d → choice_thread past d a ≡ Some t → is_running_state (runs_as (service_of_thread past d t) (served_after (served_call past d t) a)) ≡ true
unfolding choice_thread resuming_thread going_thread served_after
choice_base s past d t (act.Take c) h l q = taken_runs (service_of_thread past d t) c
choice_base s past d t (act.Resume c) h l q =
    let x = where_passes past d t (is_waiting_for c.0) (chosen (is_resumable past c.0) t (thread_where past d (is_waiting_for c.0)) q).1 in
    paused_base s past d t h l (passes_more (is_waiting_for c.0) is_paused (waiting_paused c.0) (thread_state past d t) x)
choice_base s past d t (act.Go k) h l q =
    let x = chosen (passes is_yielded (thread_state past d k.0)) t (Some k.0) q in
    let z : k.0 ≡ t = cc (x.1) in
    paused_base s past d t h l (passes_more is_yielded is_paused yielded_paused (thread_state past d t) (ap (λ (n : ℕ). passes is_yielded (thread_state past d n)) (sym z) ∙ x.0))
choice_base s past d t _ h l q = cc

-- the thread that a choice lets run runs after it
pub chosen_runs : (s : System) (past : Past) (e : Entry) (d t : ℕ) → IsAdmittedPast s past → 1 ≤ d → is_of_thread d t e ≡ true → t ≤ length (service_threads past d) → choice_thread past d e.act ≡ Some t → Runs (e ∷ past) d t
chosen_runs s past e d t h l w u c = own_runs e past d t w u (choice_goes past d t e.act e.reply c) (choice_base s past d t e.act h l c)

-- ---- which thread runs

-- a thread that runs is there to be found
none_where : (past : Past) (d t : ℕ) (p : ThreadState → Bool) → thread_where past d p ≡ None → passes p (thread_state past d t) ≡ true → passes p (thread_state past d t) ≡ false
unfolding thread_where threads_of
none_where past d t p h r =
    let x = passed p (thread_state past d t) r in
    none_found (λ k. passes p (thread_state past d k)) 0 (length (service_threads past d) + 1) h t (omega arith) (omega (arith, state_within past d t x.0 x.1))

-- the one thread that runs is found
pub found_running : (s : System) (past : Past) (d t : ℕ) → IsAdmittedPast s past → Runs past d t → thread_where past d is_running_state ≡ Some t
found_running s past d t h r = by (thread_where past d is_running_state) refl
  where
    by : (o : Option ℕ) → thread_where past d is_running_state ≡ o → thread_where past d is_running_state ≡ Some t
    by None q = cc (none_where past d t is_running_state q r, r)
    by (Some k) q = q ∙ ap (λ (n : ℕ). let o : Option ℕ = Some n in o) (one_runner s past h d k t (where_passes past d k is_running_state q) r)

-- where none runs, none is found
pub none_running : (past : Past) (d : ℕ) → ((t : ℕ) → Runs past d t → ⊥) → thread_where past d is_running_state ≡ None
none_running past d f = by (thread_where past d is_running_state) refl
  where
    by : (o : Option ℕ) → thread_where past d is_running_state ≡ o → thread_where past d is_running_state ≡ None
    by None q = q
    by (Some k) q = absurd (f k (where_passes past d k is_running_state q))

-- ---- the running thread stops

-- a thread that serves a call is a service thread, which is idle without one
answered_stops : (past : Past) (d t c : ℕ) → t ≤ length (service_threads past d) → passes (is_serving c) (thread_state past d t) ≡ true → is_running_state (runs_as (service_of_thread past d t) None) ≡ false
unfolding thread_state passes serving_state is_running_state
answered_stops past d zero c l h = running_serves c (last_serves c thread.Running (last_of_thread past d 0) h)
answered_stops past d (suc t) c l h = let k = service_there past d t l in by (slice_get (service_threads past d) t) k.0 k.1
  where
    by : (o : Option ServiceId) (k : ServiceId) → o ≡ Some k → is_running_state (runs_as o None) ≡ false
    by None k q = cc
    by (Some x) k q = refl

-- an act that makes the running thread stop without an end of its domain leaves it stopped
stops_base : (past : Past) (d t : ℕ) (a : Act) (r : Reply) → t ≤ length (service_threads past d) → stops a r ≡ true → may_perform past d t a ≡ true → ends a ≡ false →
    is_running_state (state_after (runs_as (service_of_thread past d t) (served_after (served_call past d t) a)) a r) ≡ false
unfolding may_perform state_after served_after is_running_state
stops_base past d t (act.Call k m p) (reply.Queued c) l h q n = refl
stops_base past d t act.Yield r l h q n = refl
stops_base past d t (act.Return c p) r l h q n = answered_stops past d t c.0 l q
stops_base past d t (act.Throw c p) r l h q n = answered_stops past d t c.0 l q
stops_base past d t (act.EndThread k) r l h q n = refl
stops_base past d t (act.Exit code) r l h q n = cc
stops_base past d t (act.End why) r l h q n = cc
stops_base past d t _ r l h q n = cc

-- an entry of its own that doesn't end a domain is no end
pub ends_not : (e : Entry) (d : ℕ) → is_own d e ≡ true → reason_for (ended_by e) d ≡ None → ends e.act ≡ false
unfolding is_own ended_by ended_by_act reason_for
ends_not e d o h = by e.act h
  where
    clash : {A : Type 0} (b : Bool) (r : Reason) → b ≡ true → (if b then Some r else None) ≡ None → A
    clash true r q h = cc
    clash false r q h = cc

    by : (a : Act) → reason_for (ended_by_act e.domain.0 a e.reply) d ≡ None → ends a ≡ false
    by (act.Exit code) h = clash (e.domain.0 == d) (reason.Exit code) o h
    by (act.End why) h = clash (e.domain.0 == d) why o h
    by _ h = refl

-- an act that makes the running thread stop without an end of its domain leaves none running
pub stopped_where : (s : System) (past : Past) (e : Entry) (d t : ℕ) → IsNext s past e → IsAdmittedPast s past → is_of_thread d t e ≡ true → stops e.act e.reply ≡ true → ends e.act ≡ false → may_perform past d t e.act ≡ true → Runs past d t →
    thread_where (e ∷ past) d is_running_state ≡ None
unfolding passes
stopped_where s past e d t n h w q x m r = none_running (e ∷ past) d (λ k z. by k z (is_of_thread d k e) refl)
  where
    l : t ≤ length (service_threads past d)
    l = actor_there s past e d t n w

    stopped : passes is_running_state (thread_state (e ∷ past) d t) ≡ false
    stopped = ap (passes is_running_state) (own_state e past d t w l) ∙ stops_base past d t e.act e.reply l q m x

    by : (k : ℕ) → Runs (e ∷ past) d k → (b : Bool) → is_of_thread d k e ≡ b → ⊥
    by k z true u = let y = same_thread d k d t e u w in let v : passes is_running_state (thread_state (e ∷ past) d t) ≡ true = ap (λ (n : ℕ). passes is_running_state (thread_state (e ∷ past) d n)) (sym y.1) ∙ z in cc (stopped, v)
    by k z false u = let y = one_runner s past h d k t (ran_before s past e d k n h u z) r in let v : is_of_thread d k e ≡ true = ap (λ (n : ℕ). is_of_thread d n e) y ∙ w in cc (u, v)

-- ---- an entry of another domain

pub not_of : (e : Entry) (d t : ℕ) → is_own d e ≡ false → is_of_thread d t e ≡ false
unfolding is_of_thread
not_of e d t q = ap (λ (b : Bool). b && (e.thread.0 == t)) q

-- it gives a domain no threads
pub other_threads : (e : Entry) (past : Past) (d : ℕ) → is_own d e ≡ false → service_threads (e ∷ past) d ≡ service_threads past d
other_threads e past d q = same_threads e past d (no_threads e d q)

-- and leaves which one runs
pub other_where : (e : Entry) (past : Past) (d : ℕ) (p : ThreadState → Bool) → is_own d e ≡ false → thread_where (e ∷ past) d p ≡ thread_where past d p
unfolding thread_where threads_of
other_where e past d p q =
    ap (λ (ss : List ServiceId). find (λ t. passes p (thread_state (e ∷ past) d t)) (range_with_len 0 (length ss + 1))) (other_threads e past d q)
    ∙ find_range (λ t. passes p (thread_state (e ∷ past) d t)) (λ t. passes p (thread_state past d t)) 0 (length (service_threads past d) + 1)
    (λ t a b. ap (passes p) (other_thread e past d t (not_of e d t q) (other_threads e past d q)))

-- ---- what runs by the act

-- the running thread performs no choice
pub performs_no_choice : (past : Past) (d t : ℕ) (a : Act) → may_perform past d t a ≡ true → is_choice a ≡ false
unfolding may_perform is_choice is_zero_act
performs_no_choice past d t (act.Take c) h = cc
performs_no_choice past d t (act.Resume c) h = cc
performs_no_choice past d t (act.Go k) h = cc
performs_no_choice past d t _ h = refl

-- what lets a thread run is a choice
pub lets_by_choice : (past : Past) (d t : ℕ) (a : Act) → choice_thread past d a ≡ Some t → is_choice a ≡ true
unfolding choice_thread is_choice
lets_by_choice past d t (act.Take c) h = refl
lets_by_choice past d t (act.Resume c) h = refl
lets_by_choice past d t (act.Go k) h = refl
lets_by_choice past d t _ h = cc

pub runs_on : (a : Act) (r : Reply) (t : ℕ) (o : Option ℕ) → stops a r ≡ false → is_choice a ≡ false → running_after a r t o ≡ o
unfolding is_choice
runs_on (act.Take c) r t o h k = cc
runs_on (act.Resume c) r t o h k = cc
runs_on (act.Go n) r t o h k = cc
runs_on (act.Call k m p) (reply.Queued c) t o h q = cc
runs_on act.Yield r t o h k = cc
runs_on (act.Return c p) r t o h k = cc
runs_on (act.Throw c p) r t o h k = cc
runs_on (act.EndThread c) r t o h k = cc
runs_on (act.Exit code) r t o h k = cc
runs_on (act.End why) r t o h k = cc
runs_on _ _ t o h k = refl

pub runs_no_more : (a : Act) (r : Reply) (t : ℕ) (o : Option ℕ) → stops a r ≡ true → running_after a r t o ≡ None
runs_no_more (act.Call k m p) (reply.Queued c) t o h = refl
runs_no_more act.Yield r t o h = refl
runs_no_more (act.Return c p) r t o h = refl
runs_no_more (act.Throw c p) r t o h = refl
runs_no_more (act.EndThread c) r t o h = refl
runs_no_more (act.Exit code) r t o h = refl
runs_no_more (act.End why) r t o h = refl
runs_no_more _ _ t o h = cc

-- a thread runs after the choice that lets it: a take is answered with its job
pub runs_by_choice : (s : System) (past : Past) (d k t : ℕ) (a : Act) (r : Reply) (o : Option ℕ) → choice_thread past d a ≡ Some t → r ≡ reply_to s past k a → running_after a r t o ≡ Some t
unfolding choice_thread taking_thread reply_to job_of service_of_call
runs_by_choice s past d k t (act.Take c) r o q w =
    let x = chosen (is_head past d c.0) t (option_and_then (idle_thread past d) (service_of_call past c.0)) q in
    let y = of_then (service_of_call past c.0) (idle_thread past d) t x.1 in
    ap (λ (r : Reply). running_after (act.Take c) r t o) w ∙ job (asked_of past c.0) y.0 y.1
  where
    job : (a : Option Asked) (n : ℕ) → option_map (λ (x : Asked). x.service.0) a ≡ Some n → running_after (act.Take c) (job_of a) t o ≡ Some t
    job None n h = cc
    job (Some x) n h = refl
runs_by_choice s past d k t (act.Resume c) r o q w = refl
runs_by_choice s past d k t (act.Go n) r o q w = refl
runs_by_choice s past d k t _ r o q w = cc
