-- The records of the threads after an entry more.
use Rattle.std.proofs.Common.{◌≡◌, ◌≢◌, refl, sym, ◌∙◌, ap, ℕ, suc, zero, ◌+◌, ◌≤◌, Bool, true, false, cond, ◌&&◌, List, [], ◌∷◌, ◌++◌, length, map, Option, Some, None, arith, ◌==◌, if◌then◌else◌, slice_get, append-nil, set}
use Rattle.std.specs.List.{range_with_len, find}
use Rattle.jx_base.specs.declared.act.Act.{Act}
use Rattle.jx_base.specs.declared.act.Act.TheVariants as act
use Rattle.jx_base.specs.declared.act.Reply.{Reply}
use Rattle.jx_base.specs.declared.act.Reply.TheVariants as reply
use Rattle.jx_base.specs.declared.act.Entry.{Entry}
use Rattle.jx_base.specs.declared.ids.CallId.{CallId}
use Rattle.jx_base.specs.declared.ids.ServiceId.{ServiceId}
use Rattle.jx_base.specs.declared.states.ThreadState.{ThreadState}
use Rattle.jx_base.specs.declared.states.ThreadState.TheVariants as thread
use Rattle.jx_base.specs.Basics.{passes}
use Rattle.jx_base.specs.Histories.{Past, is_own}
use Rattle.jx_model.specs.Threads.{service_threads, new_threads_of, new_threads, threads_of, is_of_thread, served_call, served_after, state_after, state_by_last, serving_state, last_of_thread, thread_state, is_running_state}
use Rattle.jx_model.specs.Tables.{service_of_thread, ThreadRecord, thread_record, thread_records, state_or_over}
use Rattle.jx_base.proofs.BasicLaws.{ap2, ap3}
use Rattle.jx_model.proofs.OneThread.{serves_same, last_same, state_with}
use Rattle.table_threads.proofs.Records.{map_range, set_range}
use Rattle.std.specs.Option.{option_map}
use Rattle.table_threads.specs.ThreadChanges.{runs_as, thread_record_after, leaves_thread}

-- ---- one thread

serves_own : (e : Entry) (past : Past) (d t : ℕ) → is_of_thread d t e ≡ true → served_call (e ∷ past) d t ≡ served_after (served_call past d t) e.act
unfolding served_call
serves_own e past d t h = ap (λ (b : Bool). elim b as (λ _. Option CallId) [ true ↦ served_after (served_call past d t) e.act | false ↦ served_call past d t ]) h

last_own : (e : Entry) (past : Past) (d t : ℕ) → is_of_thread d t e ≡ true → last_of_thread (e ∷ past) d t ≡ Some e
unfolding last_of_thread
last_own e past d t h = ap (λ (b : Bool). cond b (Some e) (find (is_of_thread d t) past)) h

-- a thread that is there has its service
pub service_there : (past : Past) (d t : ℕ) → suc t ≤ length (service_threads past d) → (k : ServiceId) × (slice_get (service_threads past d) t ≡ Some k)
service_there past d t l = there (service_threads past d) t l
  where
    there : (xs : List ServiceId) (i : ℕ) → suc i ≤ length xs → (k : ServiceId) × (slice_get xs i ≡ Some k)
    there [] i l = absurd (omega (arith, l))
    there (x ∷ xs) zero l = (x, refl)
    there (x ∷ xs) (suc i) l = there xs i (omega (arith, l))

-- an own entry of a thread that is there makes its record of the record before
pub thread_record_own : (e : Entry) (past : Past) (d t : ℕ) → service_of_thread (e ∷ past) d t ≡ service_of_thread past d t → is_of_thread d t e ≡ true → t ≤ length (service_threads past d) →
    thread_record (e ∷ past) d t ≡ thread_record_after (thread_record past d t) e.act e.reply
unfolding thread_record thread_state state_or_over state_by_last
thread_record_own e past d zero n h l =
    ap2 (λ (o : Option Entry) (c : Option CallId). let item : ThreadRecord = record { service = None; state = state_by_last thread.Running o; serves = c } in item) (last_own e past d 0 h) (serves_own e past d 0 h)
thread_record_own e past d (suc t) n h l =
    let k = service_there past d t l in
    ap3 (λ (c : Option CallId) (o : Option Entry) (k : Option ServiceId). let item : ThreadRecord = record { service = k; state = state_or_over (option_map (state_with c o) k); serves = c } in item)
    (serves_own e past d (suc t) h) (last_own e past d (suc t) h) n
    ∙ by k.0 (slice_get (service_threads past d) t) k.1
  where
    by : (k : ServiceId) (o : Option ServiceId) → o ≡ Some k →
        (let item : ThreadRecord = record { service = o; state = state_or_over (option_map (state_with (served_after (served_call past d (suc t)) e.act) (Some e)) o); serves = served_after (served_call past d (suc t)) e.act } in item)
        ≡ record { service = o; state = state_after (runs_as o (served_after (served_call past d (suc t)) e.act)) e.act e.reply; serves = served_after (served_call past d (suc t)) e.act }
    by k None q = cc
    by k (Some s) q = refl

-- an entry of another thread leaves a thread's record
pub thread_record_other : (e : Entry) (past : Past) (d t : ℕ) → service_of_thread (e ∷ past) d t ≡ service_of_thread past d t → is_of_thread d t e ≡ false → thread_record (e ∷ past) d t ≡ thread_record past d t
unfolding thread_record thread_state state_or_over
thread_record_other e past d zero n h =
    ap2 (λ (o : Option Entry) (c : Option CallId). let item : ThreadRecord = record { service = None; state = state_by_last thread.Running o; serves = c } in item) (last_same e past d 0 h) (serves_same e past d 0 h)
thread_record_other e past d (suc t) n h =
    ap3 (λ (c : Option CallId) (o : Option Entry) (k : Option ServiceId). let item : ThreadRecord = record { service = k; state = state_or_over (option_map (state_with c o) k); serves = c } in item)
    (serves_same e past d (suc t) h) (last_same e past d (suc t) h) n

-- a thread keeps its service where its domain has the same threads
pub same_service : (e : Entry) (past : Past) (d t : ℕ) → service_threads (e ∷ past) d ≡ service_threads past d → service_of_thread (e ∷ past) d t ≡ service_of_thread past d t
same_service e past d zero h = refl
same_service e past d (suc t) h = ap (λ (ss : List ServiceId). slice_get ss t) h

-- ---- the threads of a domain

-- an entry that gives a domain no threads
pub same_threads : (e : Entry) (past : Past) (d : ℕ) → new_threads_of d e ≡ [] → service_threads (e ∷ past) d ≡ service_threads past d
unfolding service_threads
same_threads e past d h = ap (λ (xs : List ServiceId). service_threads past d ++ xs) h ∙ append-nil _

-- another domain's entry gives it none
pub no_threads : (e : Entry) (d : ℕ) → is_own d e ≡ false → new_threads_of d e ≡ []
unfolding new_threads_of
no_threads e d h = ap (λ (b : Bool). if b then new_threads e.act e.reply else []) h

-- an act that adds none
pub adds_none : (e : Entry) (d : ℕ) → new_threads e.act e.reply ≡ [] → new_threads_of d e ≡ []
unfolding new_threads_of
adds_none e d h = by (is_own d e)
  where
    by : (b : Bool) → (if b then new_threads e.act e.reply else []) ≡ []
    by true = h
    by false = refl

not_of : (e : Entry) (d t : ℕ) → is_own d e ≡ false → is_of_thread d t e ≡ false
unfolding is_of_thread
not_of e d t q = ap (λ (b : Bool). b && (e.thread.0 == t)) q

-- an entry of another domain leaves the records of a domain's threads
pub threads_of_other : (e : Entry) (past : Past) (d : ℕ) → is_own d e ≡ false → thread_records (e ∷ past) d ≡ thread_records past d
unfolding thread_records threads_of
threads_of_other e past d h =
    let n = same_threads e past d (no_threads e d h) in
    ap (λ (ss : List ServiceId). map (thread_record (e ∷ past) d) (range_with_len 0 (length ss + 1))) n
    ∙ map_range (thread_record (e ∷ past) d) (thread_record past d) 0 (length (service_threads past d) + 1) (λ t l u. thread_record_other e past d t (same_service e past d t n) (not_of e d t h))

-- a thread is one of its domain's alone
pub not_this : (a : Bool) (x t k : ℕ) → (a && (x == t)) ≡ true → k ≢ t → (a && (x == k)) ≡ false
not_this a x t k h n = grind arith

-- an entry of a thread sets that thread's record
pub threads_of_own : (e : Entry) (past : Past) (d t : ℕ) → new_threads_of d e ≡ [] → is_of_thread d t e ≡ true → t ≤ length (service_threads past d) →
    thread_records (e ∷ past) d ≡ set (thread_records past d) t (thread_record_after (thread_record past d t) e.act e.reply)
unfolding thread_records threads_of is_of_thread
threads_of_own e past d t n h l =
    let m = same_threads e past d n in
    ap (λ (ss : List ServiceId). map (thread_record (e ∷ past) d) (range_with_len 0 (length ss + 1))) m
    ∙ set_range (thread_record past d) (thread_record (e ∷ past) d) 0 (length (service_threads past d) + 1) t (omega (arith, l)) (λ k a b q. sym (thread_record_other e past d k (same_service e past d k m) (others k (λ z. q (omega (arith, z))))))
    ∙ ap (set (map (thread_record past d) (range_with_len 0 (length (service_threads past d) + 1))) t) (ap (thread_record (e ∷ past) d) (omega arith) ∙ thread_record_own e past d t (same_service e past d t m) h l)
  where
    others : (k : ℕ) → k ≢ t → is_of_thread d k e ≡ false
    others k q = not_this (is_own d e) e.thread.0 t k h q

-- ---- acts that leave their thread running

left_served : (old : Option CallId) (a : Act) (r : Reply) → leaves_thread a r ≡ true → served_after old a ≡ old
unfolding served_after
left_served old (act.Take c) r h = cc
left_served old (act.Return c p) r h = cc
left_served old (act.Throw c p) r h = cc
left_served old _ r h = refl

left_state : (x : ThreadState) (a : Act) (r : Reply) → leaves_thread a r ≡ true → state_after x a r ≡ x
unfolding state_after
left_state x (act.Call k m p) (reply.Queued c) h = cc
left_state x act.Yield r h = cc
left_state x (act.EndThread k) r h = cc
left_state x _ _ h = refl

-- what runs after its last entry does what it does where nothing makes it stop
runs_after : (x : ThreadState) (a : Act) (r : Reply) → is_running_state (state_after x a r) ≡ true → state_after x a r ≡ x
unfolding state_after is_running_state
runs_after x (act.Call k m p) (reply.Queued c) h = cc
runs_after x act.Yield r h = cc
runs_after x (act.EndThread k) r h = cc
runs_after x _ _ h = refl

runs_by_last : (x : ThreadState) (o : Option Entry) → is_running_state (state_by_last x o) ≡ true → state_by_last x o ≡ x
unfolding state_by_last
runs_by_last x None h = refl
runs_by_last x (Some e) h = runs_after x e.act e.reply h

-- the record of a running thread
pub running_record : (past : Past) (d t : ℕ) → passes is_running_state (thread_state past d t) ≡ true →
    thread_record past d t ≡ record { service = service_of_thread past d t; state = runs_as (service_of_thread past d t) (served_call past d t); serves = served_call past d t }
unfolding thread_record thread_state state_or_over passes
running_record past d zero h = ap (λ (x : ThreadState). let item : ThreadRecord = record { service = None; state = x; serves = served_call past d 0 } in item) (runs_by_last thread.Running (last_of_thread past d 0) h)
running_record past d (suc t) h = by (slice_get (service_threads past d) t) h
  where
    by : (o : Option ServiceId) → passes is_running_state (option_map (state_with (served_call past d (suc t)) (last_of_thread past d (suc t))) o) ≡ true →
        (let item : ThreadRecord = record { service = o; state = state_or_over (option_map (state_with (served_call past d (suc t)) (last_of_thread past d (suc t))) o); serves = served_call past d (suc t) } in item)
        ≡ record { service = o; state = runs_as o (served_call past d (suc t)); serves = served_call past d (suc t) }
    by None h = cc
    by (Some k) h =
        ap (λ (x : ThreadState). let item : ThreadRecord = record { service = Some k; state = x; serves = served_call past d (suc t) } in item)
        (runs_by_last (serving_state k (served_call past d (suc t))) (last_of_thread past d (suc t)) h)

-- an act that leaves a running thread as it is leaves its record
pub record_left : (past : Past) (d t : ℕ) (a : Act) (r : Reply) → passes is_running_state (thread_state past d t) ≡ true → leaves_thread a r ≡ true →
    thread_record_after (thread_record past d t) a r ≡ thread_record past d t
record_left past d t a r h l =
    ap (λ (item : ThreadRecord). thread_record_after item a r) (running_record past d t h)
    ∙ ap2 (λ (c : Option CallId) (x : ThreadState). let item : ThreadRecord = record { service = service_of_thread past d t; state = x; serves = c } in item)
    (left_served (served_call past d t) a r l)
    (left_state (runs_as (service_of_thread past d t) (served_after (served_call past d t) a)) a r l ∙ ap (runs_as (service_of_thread past d t)) (left_served (served_call past d t) a r l))
    ∙ sym (running_record past d t h)

-- ---- new threads
