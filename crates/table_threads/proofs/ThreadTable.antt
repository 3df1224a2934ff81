-- The table of all threads after an entry more.
use Rattle.std.proofs.Common.{◌≡◌, ◌≢◌, refl, sym, ◌∙◌, ap, subst, ℕ, suc, zero, ◌+◌, ◌<◌, ◌≤◌, Bool, true, false, List, [], ◌∷◌, ◌++◌, length, map, Option, Some, None, arith, ◌==◌, ◌⊎◌, inl, inr, slice_get, set, length-append}
use Rattle.std.specs.List.{range_with_len}
use Rattle.std.proofs.lemmas.List.{map-append}
use Rattle.jx_base.specs.declared.act.Entry.{Entry}
use Rattle.jx_base.specs.declared.ids.CallId.{CallId}
use Rattle.jx_base.specs.declared.ids.ServiceId.{ServiceId}
use Rattle.jx_base.specs.declared.program.System.{System}
use Rattle.jx_base.specs.declared.states.ThreadState.TheVariants as thread
use Rattle.jx_base.specs.Basics.{up_to, passes}
use Rattle.jx_base.specs.Histories.{Past, is_own}
use Rattle.jx_model.specs.Domains.{is_birth, domains_made}
use Rattle.jx_model.specs.Threads.{service_threads, new_threads_of, threads_of, is_of_thread, state_by_last, serving_state, thread_state, is_running_state}
use Rattle.jx_model.specs.Tables.{service_of_thread, ThreadRecord, thread_record, thread_records, state_or_over}
use Rattle.jx_model.specs.Legal.{IsNext, IsAdmittedPast}
use Rattle.jx_base.proofs.BasicLaws.{ap2, ap3, eq_of, range_append, get_left, get_right}
use Rattle.jx_base.proofs.NthEntries.{count_new, count_same}
use Rattle.jx_model.proofs.OneThread.{serves_same, last_same, state_with, IsAbsent, absent, stranger}
use Rattle.table_threads.proofs.Records.{map_range, set_range, records_same, records_more, records_set, not_that, same_or_not}
use Rattle.table_threads.specs.ThreadChanges.{leaves_thread, idle_record, thread_table, first_records}
use Rattle.table_threads.proofs.ThreadRecords.{threads_of_own, threads_of_other, record_left, thread_record_own, thread_record_other, not_this}
use Rattle.table_threads.proofs.Actors.{unmade_acts}
use Rattle.table_threads.proofs.AbsentThreads.{unmade_absent, unmade_threads}
use Rattle.std.specs.Option.{option_map}

own_of : (e : Entry) (d : ℕ) → e.domain.0 ≢ d → is_own d e ≡ false
unfolding is_own
own_of e d h = not_that e.domain.0 d (λ q. h (sym q))

-- an entry of a made domain sets that domain's records
pub threads_after : (e : Entry) (past : Past) (d i : ℕ) → is_birth e ≡ false → e.domain.0 ≡ d → d ≡ i + 1 → d ≤ domains_made past →
    thread_table (e ∷ past) ≡ set (thread_table past) i (thread_records (e ∷ past) d)
threads_after e past d i b q z u =
    ap (λ (k : ℕ). map (thread_records (e ∷ past)) (up_to k)) (count_same is_birth e past b)
    ∙ records_set (thread_records past) (thread_records (e ∷ past)) (domains_made past) d i z u (λ k l v n. sym (threads_of_other e past k (own_of e k (λ x. n (sym x ∙ q)))))

-- the records of each domain stay where those of the entry's domain do
pub records_kept : (e : Entry) (past : Past) (k : ℕ) → 1 ≤ k → (1 ≤ e.domain.0 → thread_records (e ∷ past) e.domain.0 ≡ thread_records past e.domain.0) → thread_records (e ∷ past) k ≡ thread_records past k
unfolding is_own
records_kept e past k l h = by (e.domain.0 == k) refl
  where
    by : (b : Bool) → (e.domain.0 == k) ≡ b → thread_records (e ∷ past) k ≡ thread_records past k
    by false q = threads_of_other e past k q
    by true q = let z = eq_of e.domain.0 k q in
        subst (λ (n : ℕ). thread_records (e ∷ past) n ≡ thread_records past n) z (h (omega (arith, z, l)))

-- an entry that changes no record of its domain changes none
pub threads_kept : (e : Entry) (past : Past) → is_birth e ≡ false → (1 ≤ e.domain.0 → thread_records (e ∷ past) e.domain.0 ≡ thread_records past e.domain.0) → thread_table (e ∷ past) ≡ thread_table past
threads_kept e past b h =
    ap (λ (k : ℕ). map (thread_records (e ∷ past)) (up_to k)) (count_same is_birth e past b)
    ∙ records_same (thread_records (e ∷ past)) (thread_records past) (domains_made past) (λ k l u. records_kept e past k l h)

set_itself : {A : Type 0} (f : ℕ → A) (a n i : ℕ) → i < n → set (map f (range_with_len a n)) i (f (a + i)) ≡ map f (range_with_len a n)
set_itself f a n i l = sym (set_range f f a n i l (λ k x y z. refl))

-- an act of a running thread that leaves it running leaves its domain's records
pub records_left : (e : Entry) (past : Past) (d t : ℕ) → new_threads_of d e ≡ [] → is_of_thread d t e ≡ true → t ≤ length (service_threads past d) →
    passes is_running_state (thread_state past d t) ≡ true → leaves_thread e.act e.reply ≡ true → thread_records (e ∷ past) d ≡ thread_records past d
unfolding thread_records threads_of
records_left e past d t n h l r k =
    threads_of_own e past d t n h l
    ∙ ap (set (map (thread_record past d) (range_with_len 0 (length (service_threads past d) + 1))) t) (record_left past d t e.act e.reply r k ∙ ap (thread_record past d) (omega arith))
    ∙ set_itself (thread_record past d) 0 (length (service_threads past d) + 1) t (omega (arith, l))

-- ---- a new domain

new_records : (past : Past) (d : ℕ) → service_threads past d ≡ [] → IsAbsent past d 0 → thread_records past d ≡ first_records
unfolding thread_records threads_of thread_record thread_state state_or_over state_by_last
new_records past d h a =
    ap (λ (ss : List ServiceId). map (thread_record past d) (range_with_len 0 (length ss + 1))) h
    ∙ ap2 (λ (o : Option Entry) (c : Option CallId). let item : ThreadRecord = record { service = None; state = state_by_last thread.Running o; serves = c } in item ∷ []) a.last a.serves

-- the entry that makes a domain adds the records of its first thread
pub threads_after_birth : (s : System) (e : Entry) (past : Past) → IsAdmittedPast s (e ∷ past) → is_birth e ≡ true → (1 ≤ e.domain.0 → thread_records (e ∷ past) e.domain.0 ≡ thread_records past e.domain.0) →
    thread_table (e ∷ past) ≡ thread_table past ++ first_records ∷ []
unfolding is_own
threads_after_birth s e past a b h =
    ap (λ (k : ℕ). map (thread_records (e ∷ past)) (up_to k)) (count_new is_birth e past b)
    ∙ records_more (thread_records (e ∷ past)) (domains_made past)
    ∙ ap2 (λ (xs : List (List ThreadRecord)) (x : List ThreadRecord). xs ++ x ∷ [])
    (records_same (thread_records (e ∷ past)) (thread_records past) (domains_made past) (λ k l u. records_kept e past k l h))
    (threads_of_other e past (domains_made past + 1) (own_by (unmade_acts s past e (domains_made past + 1) a.0 (omega arith)))
    ∙ new_records past (domains_made past + 1) (unmade_threads s past (domains_made past + 1) a.1 (omega arith)) (unmade_absent s past (domains_made past + 1) 0 a.1 (omega arith)))
  where
    own_by : (e.domain.0 == (domains_made past + 1)) ≡ false → is_own (domains_made past + 1) e ≡ false
    own_by q = q

-- ---- an export

map_items : {A B : Type 0} (f : ℕ → B) (g : A → B) (a : ℕ) (xs : List A) → ((i : ℕ) (x : A) → slice_get xs i ≡ Some x → f (a + i) ≡ g x) → map f (range_with_len a (length xs)) ≡ map g xs
map_items f g a [] h = refl
map_items {B = B} f g a (x ∷ xs) h =
    ap2 (λ (y : B) (ys : List B). y ∷ ys) (ap f (omega arith) ∙ h 0 x refl)
    (map_items f g (a + 1) xs (λ i y q. ap f (omega arith) ∙ h (suc i) y q))

-- a thread that was there keeps its service
kept_service : (e : Entry) (past : Past) (d t : ℕ) → t ≤ length (service_threads past d) → service_of_thread (e ∷ past) d t ≡ service_of_thread past d t
unfolding service_threads
kept_service e past d zero l = refl
kept_service e past d (suc t) l = get_left (service_threads past d) (new_threads_of d e) t (omega (arith, l))

-- a thread that was just added is idle
added_record : (s : System) (e : Entry) (past : Past) (d i : ℕ) (k : ServiceId) → IsNext s past e → IsAdmittedPast s past → slice_get (new_threads_of d e) i ≡ Some k →
    thread_record (e ∷ past) d (suc (length (service_threads past d) + i)) ≡ idle_record k
unfolding thread_record thread_state state_or_over service_threads state_by_last serving_state
added_record s e past d i k n a h =
    ap3 (λ (c : Option CallId) (o : Option Entry) (k : Option ServiceId). let item : ThreadRecord = record { service = k; state = state_or_over (option_map (state_with c o) k); serves = c } in item)
    (serves_same e past d t o ∙ b.serves) (last_same e past d t o ∙ b.last) (get_right (service_threads past d) (new_threads_of d e) i (length (service_threads past d) + i) refl ∙ h)
  where
    t : ℕ
    t = suc (length (service_threads past d) + i)

    b : IsAbsent past d t
    b = absent s past d t a (omega arith)

    o : is_of_thread d t e ≡ false
    o = stranger s past e d t n (omega arith)

-- an export by a running thread adds idle threads
pub threads_added : (s : System) (e : Entry) (past : Past) (d t : ℕ) → IsAdmittedPast s (e ∷ past) → is_of_thread d t e ≡ true → t ≤ length (service_threads past d) →
    passes is_running_state (thread_state past d t) ≡ true → leaves_thread e.act e.reply ≡ true →
    thread_records (e ∷ past) d ≡ thread_records past d ++ map idle_record (new_threads_of d e)
unfolding thread_records threads_of is_of_thread service_threads
threads_added s e past d t a h l r k =
    ap (λ (n : ℕ). map (thread_record (e ∷ past) d) (range_with_len 0 n)) longer
    ∙ ap (map (thread_record (e ∷ past) d)) (range_append 0 (length (service_threads past d) + 1) (length (new_threads_of d e)))
    ∙ map-append (thread_record (e ∷ past) d) (range_with_len 0 (length (service_threads past d) + 1)) _
    ∙ ap2 (λ (xs ys : List ThreadRecord). xs ++ ys)
    (map_range (thread_record (e ∷ past) d) (thread_record past d) 0 (length (service_threads past d) + 1) (λ j x y. old j (omega (arith, y)) (same_or_not j t)))
    (map_items (thread_record (e ∷ past) d) idle_record (0 + (length (service_threads past d) + 1)) (new_threads_of d e) (λ i x q. ap (thread_record (e ∷ past) d) (omega arith) ∙ added_record s e past d i x a.0 a.1 q))
  where
    longer : length (service_threads (e ∷ past) d) + 1 ≡ length (service_threads past d) + 1 + length (new_threads_of d e)
    longer = omega (arith, length-append (service_threads past d) (new_threads_of d e))

    own : thread_record (e ∷ past) d t ≡ thread_record past d t
    own = thread_record_own e past d t (kept_service e past d t l) h l ∙ record_left past d t e.act e.reply r k

    old : (j : ℕ) → j ≤ length (service_threads past d) → (j ≡ t) ⊎ (j ≢ t) → thread_record (e ∷ past) d j ≡ thread_record past d j
    old j u (inl q) = subst (λ (x : ℕ). thread_record (e ∷ past) d x ≡ thread_record past d x) (sym q) own
    old j u (inr q) = thread_record_other e past d j (kept_service e past d j u) (not_this (is_own d e) e.thread.0 t j h q)
