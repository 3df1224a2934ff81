-- The table of the threads after each kind of act.
use Rattle.std.proofs.Common.{◌≡◌, refl, ◌∙◌, ap, subst, ℕ, suc, zero, ◌+◌, ◌≤◌, Bool, true, false, ◌&&◌, List, [], ◌∷◌, ◌++◌, length, map, Option, Some, None, arith, ◌==◌, if◌then◌else◌, inl, inr, slice_get, set}
use Rattle.jx_base.specs.declared.act.Act.{Act}
use Rattle.jx_base.specs.declared.act.Act.TheVariants as act
use Rattle.jx_base.specs.declared.act.Reply.{Reply}
use Rattle.jx_base.specs.declared.act.Reply.TheVariants as reply
use Rattle.jx_base.specs.declared.act.Entry.{Entry}
use Rattle.jx_base.specs.declared.ids.CallId.{CallId}
use Rattle.jx_base.specs.declared.ids.ClassId.{ClassId}
use Rattle.jx_base.specs.declared.ids.MethodId.{MethodId}
use Rattle.jx_base.specs.declared.ids.ThreadId.{ThreadId}
use Rattle.jx_base.specs.declared.value.Parcel.{Parcel}
use Rattle.jx_base.specs.declared.ids.ServiceId.{ServiceId}
use Rattle.jx_base.specs.declared.program.System.{System}
use Rattle.jx_base.specs.declared.states.ThreadState.TheVariants as thread
use Rattle.jx_base.specs.Basics.{passes}
use Rattle.jx_base.specs.Histories.{Past, is_own}
use Rattle.jx_model.specs.Domains.{is_birth, domains_made}
use Rattle.jx_model.specs.Threads.{service_threads, new_threads_of, new_threads, threads_of, is_of_thread, thread_state, is_running_state, served_after, state_after, serving_state}
use Rattle.jx_model.specs.Permits.{is_choice, choice_thread}
use Rattle.jx_model.specs.Tables.{ThreadRecord, thread_record, thread_records}
use Rattle.jx_model.specs.Legal.{IsNext, IsAdmittedPast}
use Rattle.jx_base.proofs.BasicLaws.{eq_of}
use Rattle.jx_model.proofs.Acting.{acting_cases, domain_cases, acting_within, running_runs}
use Rattle.table_threads.proofs.Records.{is_that, records_get, get_range, set_changed}
use Rattle.table_threads.specs.Changes.{changed_at}
use Rattle.table_threads.proofs.Actors.{IsMade, live_made, actor_live}
use Rattle.table_threads.specs.ThreadChanges.{thread_record_after, runs_as, leaves_thread, idle_record, thread_table, first_records, own_changed, own_added}
use Rattle.table_threads.proofs.ThreadRecords.{adds_none, threads_of_own}
use Rattle.table_threads.proofs.ThreadTable.{threads_after, threads_kept, threads_after_birth, threads_added, records_left}

-- ---- the acting thread

-- a domain's act that is no choice is of its running thread
pub runs_now : (s : System) (past : Past) (e : Entry) → IsNext s past e → is_choice e.act ≡ false → 1 ≤ e.domain.0 → passes is_running_state (thread_state past e.domain.0 e.thread.0) ≡ true
unfolding is_choice choice_thread
runs_now s past e n c l = elim (acting_cases s past e.domain.0 e.thread.0 e.act n.thread) [
  | inl x ↦ absurd (omega (arith, eq_of e.domain.0 0 x.0, l))
  | inr x ↦ elim (domain_cases past e.domain.0 e.thread.0 e.act x.1) [
    | inl y ↦ running_runs past e.domain.0 e.thread.0 y.0
    | inr y ↦ none e.act c y.2
  ]
]
  where
    none : {A : Type 0} (a : Act) → is_choice a ≡ false → choice_thread past e.domain.0 a ≡ Some e.thread.0 → A
    none (act.Take k) c h = cc
    none (act.Resume k) c h = cc
    none (act.Go k) c h = cc
    none _ c h = cc

-- an entry is of its own thread
pub own_thread : (e : Entry) → is_of_thread e.domain.0 e.thread.0 e ≡ true
unfolding is_of_thread is_own
own_thread e = twice e.domain.0 e.thread.0
  where
    twice : (x y : ℕ) → ((x == x) && (y == y)) ≡ true
    twice x y = grind arith

-- the thread of an entry is there
pub thread_there : (s : System) (past : Past) (e : Entry) → IsNext s past e → e.thread.0 ≤ length (service_threads past e.domain.0)
thread_there s past e n = acting_within s past e.domain.0 e.thread.0 e.act n.thread

-- the domain of an entry was made, where it isn't Domain Zero
pub actor_made : (s : System) (past : Past) (e : Entry) → IsNext s past e → 1 ≤ e.domain.0 → IsMade past e.domain.0
actor_made s past e n l = elim (actor_live s past e n) [ inl z ↦ absurd (omega (arith, z, l)) | inr v ↦ live_made past e.domain.0 v ]

-- ---- acts that leave their thread

-- a running thread's act that leaves it running leaves all threads
pub threads_left : (s : System) (past : Past) (e : Entry) → IsNext s past e → is_birth e ≡ false → new_threads e.act e.reply ≡ [] → is_choice e.act ≡ false → leaves_thread e.act e.reply ≡ true → thread_table (e ∷ past) ≡ thread_table past
threads_left s past e n b h c l =
    threads_kept e past b (λ v. records_left e past e.domain.0 e.thread.0 (adds_none e e.domain.0 h) (own_thread e) (thread_there s past e n) (runs_now s past e n c v) l)

-- an act of Domain Zero leaves all threads
pub threads_of_zero : (e : Entry) (past : Past) → is_birth e ≡ false → e.domain.0 ≡ 0 → thread_table (e ∷ past) ≡ thread_table past
threads_of_zero e past b z = threads_kept e past b (λ v. absurd (omega (arith, z, v)))

-- ---- acts that change their thread

record_there : (past : Past) (d t : ℕ) → t ≤ length (service_threads past d) → slice_get (thread_records past d) t ≡ Some (thread_record past d t)
unfolding thread_records threads_of
record_there past d t l = get_range (thread_record past d) 0 (length (service_threads past d) + 1) t (omega (arith, l)) ∙ ap (λ (k : ℕ). Some (thread_record past d k)) (omega arith)

-- any act that adds no threads and makes no domain changes the record of its thread alone
pub threads_stepped : (s : System) (past : Past) (e : Entry) → IsNext s past e → is_birth e ≡ false → new_threads e.act e.reply ≡ [] →
    thread_table (e ∷ past) ≡ own_changed e.domain.0 e.thread.0 (λ item. thread_record_after item e.act e.reply) (thread_table past)
threads_stepped s past e n b h = by e.domain.0 refl
  where
    own : (d : ℕ) → e.domain.0 ≡ d → 1 ≤ d → thread_records (e ∷ past) d ≡ changed_at e.thread.0 (λ item. thread_record_after item e.act e.reply) (thread_records past d)
    own d q l =
        let w = subst (λ (k : ℕ). e.thread.0 ≤ length (service_threads past k)) q (thread_there s past e n) in
        threads_of_own e past d e.thread.0 (adds_none e d h) (subst (λ (k : ℕ). is_of_thread k e.thread.0 e ≡ true) q (own_thread e)) w
        ∙ set_changed e.thread.0 (λ item. thread_record_after item e.act e.reply) (thread_records past d) (thread_record past d e.thread.0) (record_there past d e.thread.0 w)

    by : (d : ℕ) → e.domain.0 ≡ d → thread_table (e ∷ past) ≡ own_changed d e.thread.0 (λ item. thread_record_after item e.act e.reply) (thread_table past)
    by zero q = threads_of_zero e past b q
    by (suc i) q =
        let m = actor_made s past e n (omega (arith, q)) in
        threads_after e past (suc i) i b q (omega arith) (omega (arith, m.high, q))
        ∙ ap (set (thread_table past) i) (own (suc i) q (omega arith))
        ∙ set_changed i (changed_at e.thread.0 (λ item. thread_record_after item e.act e.reply)) (thread_table past) (thread_records past (suc i)) (records_get (thread_records past) (domains_made past) (suc i) i (omega arith) (omega (arith, m.high, q)))

-- ---- births and exports

-- an act that makes a domain adds the records of its first thread
pub threads_born : (s : System) (past : Past) (e : Entry) → IsAdmittedPast s (e ∷ past) → is_birth e ≡ true → new_threads e.act e.reply ≡ [] → is_choice e.act ≡ false → leaves_thread e.act e.reply ≡ true → thread_table (e ∷ past) ≡ thread_table past ++ first_records ∷ []
threads_born s past e a b h c l =
    threads_after_birth s e past a b (λ v. records_left e past e.domain.0 e.thread.0 (adds_none e e.domain.0 h) (own_thread e) (thread_there s past e a.0) (runs_now s past e a.0 c v) l)

-- an export adds idle threads to its domain
pub threads_exported : (s : System) (past : Past) (e : Entry) → IsAdmittedPast s (e ∷ past) → is_birth e ≡ false → is_choice e.act ≡ false → leaves_thread e.act e.reply ≡ true →
    thread_table (e ∷ past) ≡ own_added e.domain.0 (new_threads e.act e.reply) (thread_table past)
unfolding new_threads_of is_own
threads_exported s past e a b c l = by e.domain.0 refl
  where
    new : (d : ℕ) → e.domain.0 ≡ d → new_threads_of d e ≡ new_threads e.act e.reply
    new d q = ap (λ (p : Bool). if p then new_threads e.act e.reply else []) (is_that e.domain.0 d q)

    by : (d : ℕ) → e.domain.0 ≡ d → thread_table (e ∷ past) ≡ own_added d (new_threads e.act e.reply) (thread_table past)
    by zero q = threads_of_zero e past b q
    by (suc i) q =
        let m = actor_made s past e a.0 (omega (arith, q)) in
        let w = subst (λ (k : ℕ). e.thread.0 ≤ length (service_threads past k)) q (thread_there s past e a.0) in
        threads_after e past (suc i) i b q (omega arith) (omega (arith, m.high, q))
        ∙ ap (set (thread_table past) i)
        (threads_added s e past (suc i) e.thread.0 a (subst (λ (k : ℕ). is_of_thread k e.thread.0 e ≡ true) q (own_thread e)) w
        (subst (λ (k : ℕ). passes is_running_state (thread_state past k e.thread.0) ≡ true) q (runs_now s past e a.0 c (omega (arith, q)))) l
        ∙ ap (λ (xs : List ServiceId). thread_records past (suc i) ++ map idle_record xs) (new (suc i) q))
        ∙ set_changed i (λ items. items ++ map idle_record (new_threads e.act e.reply)) (thread_table past) (thread_records past (suc i)) (records_get (thread_records past) (domains_made past) (suc i) i (omega arith) (omega (arith, m.high, q)))

-- ---- what each act makes of its thread's record

-- a queued call: it waits
pub record_after_call : (item : ThreadRecord) (s : ServiceId) (m : MethodId) (p : Parcel) (c : CallId) → thread_record_after item (act.Call s m p) (reply.Queued c) ≡ record item { state = thread.Waiting c }
unfolding state_after served_after
record_after_call item s m p c = refl

-- a take: it serves the call
pub record_after_take : (k : ServiceId) (item : ThreadRecord) (c : CallId) (r : Reply) → item.service ≡ Some k → thread_record_after item (act.Take c) r ≡ record item { state = thread.Serving c; serves = Some c }
unfolding state_after served_after serving_state
record_after_take k item c r q = ap (λ (o : Option ServiceId). let x : ThreadRecord = record item { state = runs_as o (Some c); serves = Some c } in x) q

-- a return or throw: it is idle again
pub record_after_return : (k : ServiceId) (item : ThreadRecord) (c : CallId) (p : Parcel) (r : Reply) → item.service ≡ Some k → thread_record_after item (act.Return c p) r ≡ record item { state = thread.Idle k; serves = None }
unfolding state_after served_after serving_state
record_after_return k item c p r q = ap (λ (o : Option ServiceId). let x : ThreadRecord = record item { state = runs_as o None; serves = None } in x) q

-- the same after a throw
pub record_after_throw : (k : ServiceId) (item : ThreadRecord) (c : CallId) (p : Parcel) (r : Reply) → item.service ≡ Some k → thread_record_after item (act.Throw c p) r ≡ record item { state = thread.Idle k; serves = None }
unfolding state_after served_after serving_state
record_after_throw k item c p r q = ap (λ (o : Option ServiceId). let x : ThreadRecord = record item { state = runs_as o None; serves = None } in x) q

-- a yield
pub record_after_yield : (item : ThreadRecord) (r : Reply) → thread_record_after item act.Yield r ≡ record item { state = thread.Yielded }
unfolding state_after served_after
record_after_yield item r = refl

-- an end of the thread
pub record_after_end_thread : (item : ThreadRecord) (c : Option ClassId) (r : Reply) → thread_record_after item (act.EndThread c) r ≡ record item { state = thread.Over }
unfolding state_after served_after
record_after_end_thread item c r = refl

-- a resume: it runs as before it waited
pub record_after_resume : (item : ThreadRecord) (c : CallId) (r : Reply) → thread_record_after item (act.Resume c) r ≡ record item { state = runs_as item.service item.serves }
unfolding state_after served_after
record_after_resume item c r = refl

-- a go: it runs as before it yielded
pub record_after_go : (item : ThreadRecord) (t : ThreadId) (r : Reply) → thread_record_after item (act.Go t) r ≡ record item { state = runs_as item.service item.serves }
unfolding state_after served_after
record_after_go item t r = refl
