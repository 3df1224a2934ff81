-- What is permitted, and the first choice of a domain, read off the records.
use Rattle.std.proofs.Common.{◌≡◌, refl, sym, ◌∙◌, ap, ℕ, suc, zero, ◌+◌, ◌<◌, ◌≤◌, Bool, true, false, not, cond, ◌&&◌, ◌||◌, List, [], ◌∷◌, length, map, Option, Some, None, is_some, is_none, arith, ◌==◌, if◌then◌else◌, ◌⊎◌, inl, inr, slice_get}
use Rattle.std.specs.List.{range_with_len, find}
use Rattle.std.specs.Prelude.{nat_lt, nat_le}
use Rattle.std.proofs.lemmas.Bool.Decides.{nat_tests}
use Rattle.jx_base.specs.declared.act.Act.{Act}
use Rattle.jx_base.specs.declared.act.Act.TheVariants as act
use Rattle.jx_base.specs.declared.ids.ServiceId.{ServiceId}
use Rattle.jx_base.specs.declared.states.DomainState.{DomainState}
use Rattle.jx_base.specs.declared.states.ThreadState.{ThreadState}
use Rattle.jx_base.specs.declared.states.ThreadState.TheVariants as thread
use Rattle.jx_base.specs.declared.program.System.{System}
use Rattle.jx_base.specs.Basics.{up_to, numbered, passes, first_some, is_number}
use Rattle.jx_base.specs.Histories.{Past, nth_entry}
use Rattle.jx_base.specs.declared.act.Entry.{Entry}
use Rattle.jx_model.specs.Domains.{is_live, domains_made}
use Rattle.jx_model.specs.Threads.{service_threads, thread_state, thread_where, threads_of, running_thread, is_running_state}
use Rattle.jx_model.specs.Calls.{Answer, calls_made, call_state, call_stage, answer_of, is_resumed, is_taken, caller_of, has_live_caller, service_of_call, is_queued, waiting_calls, queued_calls, queue_head, is_resumable, is_call, call_entry, answered_by, first_since}
use Rattle.jx_model.specs.Permits.{resume_in, resume_at, take_at, go_at, going_thread, first_of_choices, first_choice, can_act, first_alive, idle_thread, is_idle_for, is_yielded}
use Rattle.jx_model.specs.Tables.{domain_record, domain_records, ThreadRecord, thread_record, thread_records, state_or_over, CallRecord, call_record, call_records}
use Rattle.jx_base.proofs.BasicLaws.{ap2, ap3}
use Rattle.jx_base.proofs.NthEntries.{nth_none, nth_passes, count_grows}
use Rattle.table_threads.proofs.Records.{find_range, find_same, numbered_record, no_record, filter_behind}
use Rattle.table_threads.proofs.Actors.{live_made, live_by_reason}
use Rattle.table_threads.proofs.CallActs.{call_service_there, call_caller_there}
use Rattle.std.specs.Option.{option_and_then, option_map, option_or, unwrap_or}
use Rattle.table_reads.specs.TableReads.{lives_in, place_from, thread_in, running_in, is_answered, resumable_in, head_in, resume_by, take_by, choice_by, can_act_by}

-- ---- life

-- the records say which domains live
pub lives_by_records : (s : System) (past : Past) (d : ℕ) → is_live past d ≡ lives_in (domain_records s past) d
unfolding domain_records domain_record passes
lives_by_records s past d = by (nat_lt 0 d) refl (nat_le d (domains_made past)) refl
  where
    low : (d : ℕ) → nat_lt 0 d ≡ true → 1 ≤ d
    low d q = grind (arith, nat_tests)

    zeroth : (d : ℕ) → nat_lt 0 d ≡ false → d ≡ 0
    zeroth d q = grind (arith, nat_tests)

    high : (d n : ℕ) → nat_le d n ≡ true → d ≤ n
    high d n q = grind (arith, nat_tests)

    beyond : (d n : ℕ) → nat_le d n ≡ false → n < d
    beyond d n q = grind (arith, nat_tests)

    dead : (b : Bool) → is_live past d ≡ b → (d ≡ 0) ⊎ (domains_made past < d) → b ≡ false
    dead false q h = refl
    dead true q (inl z) = absurd (omega (arith, (live_made past d q).low, z))
    dead true q (inr l) = absurd (omega (arith, (live_made past d q).high, l))

    none : (d ≡ 0) ⊎ (domains_made past < d) → is_live past d ≡ passes (λ item. is_none item.ended) (numbered (map (domain_record s past) (up_to (domains_made past))) d)
    none h = dead (is_live past d) refl h ∙ sym (ap (passes (λ (item : DomainState). is_none item.ended)) (no_record (domain_record s past) (domains_made past) d h))

    by : (x : Bool) → nat_lt 0 d ≡ x → (y : Bool) → nat_le d (domains_made past) ≡ y → is_live past d ≡ passes (λ item. is_none item.ended) (numbered (map (domain_record s past) (up_to (domains_made past))) d)
    by false q y r = none (inl (zeroth d q))
    by true q false r = none (inr (beyond d (domains_made past) r))
    by true q true r =
        let l = low d q in let u = high d (domains_made past) r in
        live_by_reason past d (record { low = l; high = u }) ∙ sym (ap (passes (λ (item : DomainState). is_none item.ended)) (numbered_record (domain_record s past) (domains_made past) d l u))

-- ---- threads

place_found : {A : Type 0} (f : ℕ → A) (p : A → Bool) (a n : ℕ) → find (λ t. p (f t)) (range_with_len a n) ≡ place_from p a (map f (range_with_len a n))
place_found f p a zero = refl
place_found f p a (suc n) = by (p (f a)) (place_found f p (a + 1) n)
  where
    by : (b : Bool) → find (λ t. p (f t)) (range_with_len (a + 1) n) ≡ place_from p (a + 1) (map f (range_with_len (a + 1) n)) →
        cond b (Some a) (find (λ t. p (f t)) (range_with_len (a + 1) n)) ≡ (elim b as (λ _. Option ℕ) [ true ↦ Some a | false ↦ place_from p (a + 1) (map f (range_with_len (a + 1) n)) ])
    by true again = refl
    by false again = again

-- a thread of the domain has the state of its record
pub state_by_record : (past : Past) (d t : ℕ) → t ≤ length (service_threads past d) → thread_state past d t ≡ Some (thread_record past d t).state
unfolding thread_record thread_state state_or_over
state_by_record past d zero l = refl
state_by_record past d (suc t) l = by _ (slice_get (service_threads past d) t) (there (service_threads past d) t (omega (arith, l)))
  where
    there : (xs : List ServiceId) (i : ℕ) → i < length xs → is_some (slice_get xs i) ≡ true
    there [] i l = absurd (omega (arith, l))
    there (x ∷ xs) zero l = refl
    there (x ∷ xs) (suc i) l = there xs i (omega (arith, l))

    by : (f : ServiceId → ThreadState) (o : Option ServiceId) → is_some o ≡ true → option_map f o ≡ Some (state_or_over (option_map f o))
    by f None h = cc
    by f (Some k) h = refl

-- the records say which thread is the first in such a state
pub thread_by_records : (past : Past) (d : ℕ) (p : ThreadState → Bool) → thread_where past d p ≡ thread_in (thread_records past d) p
unfolding thread_where threads_of thread_records passes
thread_by_records past d p =
    find_range (λ t. passes p (thread_state past d t)) (λ t. p (thread_record past d t).state) 0 (length (service_threads past d) + 1) (λ t l u. ap (passes p) (state_by_record past d t (omega (arith, u))))
    ∙ place_found (thread_record past d) (λ item. p item.state) 0 (length (service_threads past d) + 1)

-- the records say which thread runs
pub running_by_records : (s : System) (past : Past) (d : ℕ) → running_thread past d ≡ running_in (domain_records s past) (thread_records past d) d
unfolding running_thread
running_by_records s past d = ap2 (λ (b : Bool) (o : Option ℕ). if b then o else None) (lives_by_records s past d) (thread_by_records past d is_running_state)

-- ---- calls

made_resumable : (s : System) (past : Past) (c : ℕ) → 1 ≤ c → c ≤ calls_made past → is_resumable past c ≡ resumable_in (domain_records s past) (call_records past) c
unfolding call_records call_record passes is_resumable has_live_caller call_state call_stage
made_resumable s past c l u =
    ap (λ (o : Option ℕ). is_some (answer_of past c) && passes (is_live past) o && not (is_resumed past c)) (call_caller_there past c l u)
    ∙ ap (λ (b : Bool). is_some (answer_of past c) && b && not (is_resumed past c)) (lives_by_records s past (unwrap_or (caller_of past c) 0))
    ∙ by (answer_of past c) (is_resumed past c) (is_taken past c) (lives_in (domain_records s past) (unwrap_or (caller_of past c) 0))
    ∙ sym (ap (passes (λ (item : CallRecord). is_answered item.state && lives_in (domain_records s past) item.caller)) (numbered_record (call_record past) (calls_made past) c l u))
  where
    by : (o : Option Answer) (r t v : Bool) → (is_some o && v && not r) ≡ (is_answered (call_stage r o t) && v)
    by None true true v = refl
    by None true false v = refl
    by None false true v = refl
    by None false false v = refl
    by (Some a) true t true = refl
    by (Some a) true t false = refl
    by (Some a) false t true = refl
    by (Some a) false t false = refl

-- a call that isn't made has no entry
pub unmade_entry : (past : Past) (c : ℕ) → (c ≡ 0) ⊎ (calls_made past < c) → call_entry past c ≡ None
unfolding call_entry
unmade_entry past c (inr l) = nth_none is_call past c l
unmade_entry past c (inl q) = by (nth_entry is_call past c) refl
  where
    by : (o : Option Entry) → nth_entry is_call past c ≡ o → o ≡ None
    by None z = refl
    by (Some x) z = absurd (omega (arith, (nth_passes is_call past c x z).1, q))

-- a call that isn't made has no answer
pub unmade_answer : (past : Past) (c : ℕ) → (c ≡ 0) ⊎ (calls_made past < c) → answer_of past c ≡ None
unfolding answer_of first_since
unmade_answer [] c h = refl
unmade_answer (e ∷ past) c h =
    ap2 (λ (o : Option Answer) (x : Option Entry). option_or o (if is_some x then answered_by past e c else None))
    (unmade_answer past c (before h)) (unmade_entry past c (before h))
  where
    before : (c ≡ 0) ⊎ (calls_made (e ∷ past) < c) → (c ≡ 0) ⊎ (calls_made past < c)
    before (inl q) = inl q
    before (inr l) = inr (omega (arith, l, count_grows is_call e past))

-- the records say after which calls a caller can go on
pub resumable_by_records : (s : System) (past : Past) (c : ℕ) → is_resumable past c ≡ resumable_in (domain_records s past) (call_records past) c
unfolding is_resumable passes call_records
resumable_by_records s past c = by (nat_lt 0 c) refl (nat_le c (calls_made past)) refl
  where
    low : (d : ℕ) → nat_lt 0 d ≡ true → 1 ≤ d
    low d q = grind (arith, nat_tests)

    zeroth : (d : ℕ) → nat_lt 0 d ≡ false → d ≡ 0
    zeroth d q = grind (arith, nat_tests)

    high : (d n : ℕ) → nat_le d n ≡ true → d ≤ n
    high d n q = grind (arith, nat_tests)

    beyond : (d n : ℕ) → nat_le d n ≡ false → n < d
    beyond d n q = grind (arith, nat_tests)

    none : (c ≡ 0) ⊎ (calls_made past < c) → is_resumable past c ≡ resumable_in (domain_records s past) (call_records past) c
    none h =
        ap (λ (o : Option Answer). is_some o && has_live_caller past c && not (is_resumed past c)) (unmade_answer past c h)
        ∙ sym (ap (passes (λ (item : CallRecord). is_answered item.state && lives_in (domain_records s past) item.caller)) (no_record (call_record past) (calls_made past) c h))

    by : (x : Bool) → nat_lt 0 c ≡ x → (y : Bool) → nat_le c (calls_made past) ≡ y → is_resumable past c ≡ resumable_in (domain_records s past) (call_records past) c
    by false q y r = none (inl (zeroth c q))
    by true q false r = none (inr (beyond c (calls_made past) r))
    by true q true r = made_resumable s past c (low c q) (high c (calls_made past) r)

-- the records say which call is the first of a service's queue
pub head_by_records : (past : Past) (k : ℕ) → queue_head past k ≡ head_in (call_records past) (waiting_calls past) k
unfolding queue_head queued_calls waiting_calls up_to call_records call_record passes is_number
head_by_records past k =
    ap (λ (xs : List ℕ). slice_get xs 0)
    (filter_behind (is_queued past) (λ c. is_number (service_of_call past c) k) (λ c. passes (λ item. item.service == k) (numbered (map (call_record past) (up_to (calls_made past))) c)) 1 (calls_made past) (λ c l u.
    ap (λ (o : Option ℕ). is_number o k) (call_service_there past c l (omega (arith, u)))
    ∙ sym (ap (passes (λ (item : CallRecord). item.service == k)) (numbered_record (call_record past) (calls_made past) c l (omega (arith, u))))))

-- ---- the first choice

some_range : {A B : Type 0} (f : ℕ → Option B) (g : A → Option B) (item : ℕ → A) (a n : ℕ) → ((t : ℕ) → a ≤ t → t < a + n → f t ≡ g (item t)) → first_some f (range_with_len a n) ≡ first_some g (map item (range_with_len a n))
unfolding first_some
some_range f g item a zero h = refl
some_range {B = B} f g item a (suc n) h =
    ap2 (λ (x y : Option B). elim x as (λ _. Option B) [ Some v ↦ Some v | None ↦ y ]) (h a (omega arith) (omega arith)) (some_range f g item (a + 1) n (λ t l u. h t (omega (arith, l)) (omega (arith, u))))

some_items : {A B : Type 0} (f g : A → Option B) (xs : List A) → ((x : A) → f x ≡ g x) → first_some f xs ≡ first_some g xs
unfolding first_some
some_items f g [] h = refl
some_items {B = B} f g (x ∷ xs) h = ap2 (λ (x y : Option B). elim x as (λ _. Option B) [ Some v ↦ Some v | None ↦ y ]) (h x) (some_items f g xs h)

some_found : (f : ℕ → Bool) (a n : ℕ) → first_some (λ t. option_map (λ k. act.Go (record { 0 = k })) (if f t then Some t else None)) (range_with_len a n) ≡ option_map (λ k. act.Go (record { 0 = k })) (find f (range_with_len a n))
unfolding first_some
some_found f a zero = refl
some_found f a (suc n) = by (f a) (some_found f (a + 1) n)
  where
    by : (b : Bool) → first_some (λ t. option_map (λ k. act.Go (record { 0 = k })) (if f t then Some t else None)) (range_with_len (a + 1) n) ≡ option_map (λ k. act.Go (record { 0 = k })) (find f (range_with_len (a + 1) n)) →
        (elim (option_map (λ k. act.Go (record { 0 = k })) (if b then Some a else None)) as (λ _. Option Act) [ Some v ↦ Some v | None ↦ first_some (λ t. option_map (λ k. act.Go (record { 0 = k })) (if f t then Some t else None)) (range_with_len (a + 1) n) ])
        ≡ option_map (λ k. act.Go (record { 0 = k })) (cond b (Some a) (find f (range_with_len (a + 1) n)))
    by true again = refl
    by false again = again

-- the records say after which call a thread goes on
pub resume_by_records : (s : System) (past : Past) (x : ThreadState) → resume_in past x ≡ resume_by (domain_records s past) (call_records past) x
unfolding resume_in
resume_by_records s past (thread.Waiting c) = ap (λ (b : Bool). if b then Some (act.Resume c) else None) (resumable_by_records s past c.0)
resume_by_records s past _ = refl

-- the records say which call a thread of a service takes
pub take_by_records : (past : Past) (d k : ℕ) → take_at past d k ≡ take_by (thread_records past d) (call_records past) (waiting_calls past) k
unfolding take_at idle_thread
take_by_records past d k = ap2 (λ (o w : Option ℕ). if is_some o then option_map (λ c. act.Take (record { 0 = c })) w else None) (thread_by_records past d (is_idle_for k)) (head_by_records past k)

-- the records say a domain's first choice
pub choice_by_records : (s : System) (past : Past) (d : ℕ) → first_choice past d ≡ choice_by (domain_records s past) (thread_records past d) (call_records past) (waiting_calls past) (service_threads past d) d
unfolding first_choice first_of_choices resume_at go_at going_thread threads_of thread_where thread_records
choice_by_records s past d =
    ap2 (λ (b : Bool) (o : Option Act). if b then o else None)
    (ap2 (λ (b : Bool) (o : Option ℕ). b && is_none o) (lives_by_records s past d) (running_by_records s past d))
    (ap3 (λ (x y z : Option Act). option_or x (option_or y z)) resumes takes goes)
  where
    resumes : first_some (resume_at past d) (threads_of past d) ≡ first_some (λ item. resume_by (domain_records s past) (call_records past) item.state) (thread_records past d)
    resumes =
        some_range (resume_at past d) (λ (item : ThreadRecord). resume_by (domain_records s past) (call_records past) item.state) (thread_record past d) 0 (length (service_threads past d) + 1)
        (λ t l u. ap (λ (o : Option ThreadState). option_and_then (resume_in past) o) (state_by_record past d t (omega (arith, u))) ∙ resume_by_records s past (thread_record past d t).state)

    takes : first_some (λ k. take_at past d k.0) (service_threads past d) ≡ first_some (λ k. take_by (thread_records past d) (call_records past) (waiting_calls past) k.0) (service_threads past d)
    takes = some_items (λ (k : ServiceId). take_at past d k.0) (λ (k : ServiceId). take_by (thread_records past d) (call_records past) (waiting_calls past) k.0) (service_threads past d) (λ k. take_by_records past d k.0)

    goes : first_some (go_at past d) (threads_of past d) ≡ option_map (λ t. act.Go (record { 0 = t })) (thread_in (thread_records past d) is_yielded)
    goes = some_found (λ t. passes is_yielded (thread_state past d t)) 0 (length (service_threads past d) + 1) ∙ ap (option_map (λ t. act.Go (record { 0 = t }))) (thread_by_records past d is_yielded)

-- ---- who can act

-- the records say who can act
pub can_act_by_records : (s : System) (past : Past) (d : ℕ) → can_act past d ≡ can_act_by (domain_records s past) (thread_records past d) (call_records past) (waiting_calls past) (service_threads past d) d
unfolding can_act
can_act_by_records s past d = ap2 (λ (x : Option ℕ) (y : Option Act). is_some x || is_some y) (running_by_records s past d) (choice_by_records s past d)

-- the records say which domain is the first that can act
pub first_alive_by_records : (s : System) (past : Past) →
    first_alive past ≡ find (λ d. can_act_by (domain_records s past) (thread_records past d) (call_records past) (waiting_calls past) (service_threads past d) d) (up_to (domains_made past))
unfolding first_alive
first_alive_by_records s past = find_same (can_act past) (λ d. can_act_by (domain_records s past) (thread_records past d) (call_records past) (waiting_calls past) (service_threads past d) d) (domains_made past) (λ d l u. can_act_by_records s past d)
