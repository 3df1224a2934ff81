-- What the table of calls says is what the past says: which callers can go on, and which call is the first of a queue.
use Rattle.std.proofs.Common.{◌≡◌, refl, sym, ◌∙◌, ap, ℕ, suc, zero, ◌+◌, ◌-◌, ◌<◌, ◌≤◌, Bool, true, false, not, cond, ◌&&◌, List, [], ◌∷◌, filter, length, map, Option, Some, None, is_some, is_none, arith, ltb, slice_get, ◌==◌, if◌then◌else◌}
use Rattle.std.specs.Prelude.{find}
use Rattle.std.specs.List.{position, position_or_len, range_with_len}
use Rattle.std.specs.Option.{option_and_then, option_map, unwrap_or}
use Rattle.std.proofs.lemmas.Option.{slice_get-map}
use Rattle.std.proofs.lemmas.Simd.{map-map}
use Rattle.std.proofs.lemmas.List.FromFn.{length-map-range_with_len}
use Rattle.jx_base.specs.declared.act.Act.{Act}
use Rattle.jx_base.specs.declared.act.Act.TheVariants as act
use Rattle.jx_base.specs.declared.ids.CallId.{CallId}
use Rattle.jx_base.specs.declared.ids.ThreadId.{ThreadId}
use Rattle.jx_base.specs.declared.program.System.{System}
use Rattle.jx_base.specs.declared.states.DomainState.{DomainState}
use Rattle.jx_base.specs.Basics.{first_some, numbered, passes, up_to}
use Rattle.jx_base.specs.Histories.{Past}
use Rattle.jx_base.proofs.BasicLaws.{ap2}
use Rattle.jx_model.specs.Calls.{Answer, answer_of, call_entry, call_stage, call_state, calls_made, is_queued, is_resumable, is_resumed, is_taken, is_unanswered, queue_head, waiting_calls}
use Rattle.jx_model.specs.Domains.{is_live}
use Rattle.jx_model.specs.Legal.{IsAdmittedPast}
use Rattle.jx_model.specs.Permits.{go_at, going_thread, idle_thread, is_idle_for, is_yielded, take_at}
use Rattle.jx_model.specs.Tables.{CallRecord, ThreadRecord, call_record, call_records, service_of_thread, thread_record, thread_records}
use Rattle.jx_model.specs.Threads.{service_threads, thread_state, thread_where, threads_of}
use Rattle.call_table.specs.CallLists.{first_queued, is_queued_call, is_queued_for}
use Rattle.call_table.specs.declared.calls.Call.{Call}
use Rattle.domain_table.specs.DomainLists as Lists
use Rattle.table_reads.proofs.ChoiceReads.{head_by_records, lives_by_records, resumable_by_records}
use Rattle.table_reads.specs.TableReads.{is_answered, lives_in, place_from}
use Rattle.table_threads.proofs.CallStages.{caller_there, not_yet}
use Rattle.table_threads.proofs.Records.{numbered_record}
use Rattle.nucleus_tables.proofs.DomainReads.{first_thread, live_threads, mapped_some, place_is}
use Rattle.nucleus_tables.proofs.ThreadsMoved.{thread_there}
use Rattle.table_threads.proofs.Actors.{live_made}
use Rattle.nucleus_tables.specs.CallTables.{call_of}
use Rattle.nucleus_tables.specs.Inner.{IsOf, past_in}
use Rattle.nucleus_tables.specs.declared.tables.Tables.{Tables}

-- ---- lists

-- what a map has at a number
pub numbered_map : {A B : Type 0} (f : A → B) (xs : List A) (c : ℕ) → numbered (map f xs) c ≡ option_map f (numbered xs c)
unfolding numbered
numbered_map f xs zero = refl
numbered_map f xs (suc i) = slice_get-map f xs i

-- the first that is kept twice
first_of : (p q : ℕ → Bool) (xs : List ℕ) → slice_get (filter p (filter q xs)) 0 ≡ find (λ x. q x && p x) xs
first_of p q [] = refl
first_of p q (x ∷ xs) = by (q x) (p x) refl (first_of p q xs)
  where
    by : (a b : Bool) → p x ≡ b → slice_get (filter p (filter q xs)) 0 ≡ find (λ x. q x && p x) xs →
        slice_get (filter p (cond a (x ∷ filter q xs) (filter q xs))) 0 ≡ cond (a && b) (Some x) (find (λ x. q x && p x) xs)
    by true true e again = ap (λ (b : Bool). slice_get (cond b (x ∷ filter p (filter q xs)) (filter p (filter q xs))) 0) e
    by true false e again = ap (λ (b : Bool). slice_get (cond b (x ∷ filter p (filter q xs)) (filter p (filter q xs))) 0) e ∙ again
    by false b e again = again

-- the first number that passes is told by the place of the first item that does
found_place : {A : Type 0} (f : ℕ → A) (p : A → Bool) (q : ℕ → Bool) (a n : ℕ) → ((c : ℕ) → a ≤ c → c < a + n → q c ≡ p (f c)) → find q (range_with_len a n) ≡ place_from p a (map f (range_with_len a n))
found_place f p q a zero h = refl
found_place f p q a (suc n) h = by (q a) (p (f a)) (h a (omega arith) (omega arith)) (found_place f p q (a + 1) n (λ c l u. h c (omega (arith, l)) (omega (arith, u))))
  where
    by : (x y : Bool) → x ≡ y → find q (range_with_len (a + 1) n) ≡ place_from p (a + 1) (map f (range_with_len (a + 1) n)) →
        cond x (Some a) (find q (range_with_len (a + 1) n)) ≡ (elim y as (λ _. Option ℕ) [ true ↦ Some a | false ↦ place_from p (a + 1) (map f (range_with_len (a + 1) n)) ])
    by true true e again = refl
    by false false e again = again
    by true false e again = cc
    by false true e again = cc

-- a place counted from 1
from_one : {A : Type 0} (p : A → Bool) (xs : List A) → place_from p 1 xs ≡ option_map (λ i. i + 1) (position p xs)
from_one p xs = place_is p 1 xs ∙ by (ltb (position_or_len p xs) (length xs)) (position_or_len p xs)
  where
    by : (b : Bool) (n : ℕ) → cond b (Some (1 + n)) None ≡ option_map (λ i. i + 1) (cond b (Some n) None)
    by true n = ap (λ (k : ℕ). Some k) (omega arith)
    by false n = refl

-- ---- one call

-- a call is queued exactly where its state says so
queued_is : (s : System) (past : Past) (c : ℕ) → IsAdmittedPast s past → 1 ≤ c → c ≤ calls_made past → is_queued past c ≡ is_queued_call (call_state past c)
unfolding is_queued is_unanswered call_state call_stage
queued_is s past c h l u =
    let there : is_some (call_entry past c) ≡ true = ap is_some (caller_there past c l u).1 in
    ap (λ (b : Bool). (b && is_none (answer_of past c)) && not (is_taken past c)) there
    ∙ by (answer_of past c) refl (is_resumed past c) (is_taken past c) (not_yet s past c h)
  where
    by : (o : Option Answer) → answer_of past c ≡ o → (r t : Bool) → (answer_of past c ≡ None → r ≡ false) → (is_none o && not t) ≡ is_queued_call (call_stage r o t)
    by (Some a) q true t f = refl
    by (Some a) q false t f = refl
    by None q true t f = let z = f q in cc
    by None q false true f = refl
    by None q false false f = refl

module _ (s : System) (x : Tables) (h : IsOf s x) where
  -- who lives
  pub lives_is : (d : ℕ) → lives_in x.domains.domains d ≡ is_live (past_in x) d
  lives_is d = ap (λ (items : List DomainState). lives_in items d) h.stands.domains ∙ sym (lives_by_records s (past_in x) d)

  -- what the table has of a call
  pub call_is : (c : ℕ) → numbered x.calls.calls c ≡ option_map call_of (numbered (call_records (past_in x)) c)
  call_is c = ap (λ (calls : List Call). numbered calls c) h.calls.calls_are ∙ numbered_map call_of (call_records (past_in x)) c

  -- whether its caller can go on
  pub goes_on : (c : ℕ) → passes (λ (k : Call). is_answered k.state && lives_in x.domains.domains k.caller.0) (numbered x.calls.calls c) ≡ is_resumable (past_in x) c
  unfolding passes
  goes_on c =
      ap (passes (λ (k : Call). is_answered k.state && lives_in x.domains.domains k.caller.0)) (call_is c)
      ∙ mapped (numbered (call_records (past_in x)) c)
      ∙ ap (λ (items : List DomainState). passes (λ (r : CallRecord). is_answered r.state && lives_in items r.caller) (numbered (call_records (past_in x)) c)) h.stands.domains
      ∙ sym (resumable_by_records s (past_in x) c)
    where
      mapped : (o : Option CallRecord) → passes (λ (k : Call). is_answered k.state && lives_in x.domains.domains k.caller.0) (option_map call_of o) ≡ passes (λ (r : CallRecord). is_answered r.state && lives_in x.domains.domains r.caller) o
      mapped None = refl
      mapped (Some r) = refl

  -- the first call of a queue
  pub head_is : (k : ℕ) → first_queued x.calls k ≡ queue_head (past_in x) k
  unfolding waiting_calls call_records call_record up_to passes
  head_is k =
      let past : Past = past_in x in
      let n : ℕ = calls_made past in
      ap (λ (calls : List Call). option_map (λ i. i + 1) (position (is_queued_for k) calls)) (h.calls.calls_are ∙ map-map call_of (call_record past) (range_with_len 1 n))
      ∙ sym (from_one (is_queued_for k) (map (λ c. call_of (call_record past c)) (range_with_len 1 n)))
      ∙ sym (found_place (λ c. call_of (call_record past c)) (is_queued_for k) (λ c. is_queued past c && passes (λ (r : CallRecord). r.service == k) (numbered (call_records past) c)) 1 n same)
      ∙ sym (first_of (λ c. passes (λ (r : CallRecord). r.service == k) (numbered (call_records past) c)) (is_queued past) (range_with_len 1 n))
      ∙ sym (head_by_records past k)
    where
      turned : (a b : Bool) → (a && b) ≡ (b && a)
      turned true true = refl
      turned true false = refl
      turned false true = refl
      turned false false = refl

      same : (c : ℕ) → 1 ≤ c → c < 1 + calls_made (past_in x) →
          (is_queued (past_in x) c && passes (λ (r : CallRecord). r.service == k) (numbered (call_records (past_in x)) c)) ≡ is_queued_for k (call_of (call_record (past_in x) c))
      same c l u =
          let n : ℕ = calls_made (past_in x) in
          let there : numbered (call_records (past_in x)) c ≡ Some (call_record (past_in x) c) = numbered_record (call_record (past_in x)) n c l (omega (arith, u)) in
          ap2 (λ (a b : Bool). a && b)
          (queued_is s (past_in x) c h.stands.admitted l (omega (arith, u)))
          (ap (passes (λ (r : CallRecord). r.service == k)) there)
          ∙ turned (is_queued_call (call_record (past_in x) c).state) ((call_record (past_in x) c).service == k)

  -- ---- threads

  -- how many there are
  pub thread_count_is : (d : ℕ) → is_live (past_in x) d ≡ true → Lists.thread_count x.domains d ≡ length (service_threads (past_in x) d) + 1
  unfolding thread_records threads_of
  thread_count_is d l =
      ap (λ (o : Option (List ThreadRecord)). unwrap_or (option_map (λ (records : List ThreadRecord). length records) o) 0) (live_threads s x h d l)
      ∙ length-map-range_with_len (thread_record (past_in x) d) 0 (length (service_threads (past_in x) d) + 1)

  -- an idle one
  pub idle_is : (d k : ℕ) → is_live (past_in x) d ≡ true → Lists.idle_in x.domains d k ≡ idle_thread (past_in x) d k
  unfolding idle_thread
  idle_is d k l = first_thread s x h d (is_idle_for k) ∙ ap (λ (b : Bool). if b then thread_where (past_in x) d (is_idle_for k) else None) l

  -- the take of a service's first call, where one is idle for it
  takes : (b : Bool) (o : Option ℕ) (d k : ℕ) → is_live (past_in x) d ≡ true → b ≡ is_some (Lists.idle_in x.domains d k) → o ≡ first_queued x.calls k →
      (if b then option_map (λ c. act.Take (record { 0 = c })) o else None) ≡ take_at (past_in x) d k
  unfolding take_at
  takes b o d k l p q =
      ap2 (λ (b : Bool) (o : Option ℕ). if b then option_map (λ c. act.Take (record { 0 = c })) o else None)
      (p ∙ ap is_some (idle_is d k l)) (q ∙ head_is k)

  pub take_is : (t : Option ThreadId) (o : Option CallId) (d k : ℕ) → is_live (past_in x) d ≡ true → option_map (λ t. t.0) t ≡ Lists.idle_in x.domains d k → option_map (λ c. c.0) o ≡ first_queued x.calls k →
      (if is_some t then option_map (λ c. act.Take c) o else None) ≡ take_at (past_in x) d k
  take_is t o d k l p q =
      ap (λ (z : Option Act). if is_some t then z else None) (same o)
      ∙ takes (is_some t) (option_map (λ c. c.0) o) d k l (sym (mapped_some t) ∙ ap is_some p) q
    where
      same : (o : Option CallId) → option_map (λ c. act.Take c) o ≡ option_map (λ c. act.Take (record { 0 = c })) (option_map (λ c. c.0) o)
      same None = refl
      same (Some c) = refl

  -- without an idle thread there is none
  pub no_take : (t : Option ThreadId) (d k : ℕ) → is_live (past_in x) d ≡ true → option_map (λ t. t.0) t ≡ Lists.idle_in x.domains d k → is_some t ≡ false → None ≡ take_at (past_in x) d k
  no_take t d k l p n =
      ap (λ (b : Bool). if b then option_map (λ c. act.Take (record { 0 = c })) (first_queued x.calls k) else None) (sym n)
      ∙ takes (is_some t) (first_queued x.calls k) d k l (sym (mapped_some t) ∙ ap is_some p) refl

  -- the service of a thread
  pub service_is : (d t : ℕ) → is_live (past_in x) d ≡ true → 1 ≤ t → t ≤ length (service_threads (past_in x) d) →
      option_and_then (λ r. r.service) (Lists.thread_in x.domains d t) ≡ slice_get (service_threads (past_in x) d) (t - 1)
  unfolding thread_record
  service_is d t l one few =
      ap (option_and_then (λ (r : ThreadRecord). r.service)) (thread_there s x d t h (live_made (past_in x) d l) few) ∙ by t one
    where
      by : (t : ℕ) → 1 ≤ t → service_of_thread (past_in x) d t ≡ slice_get (service_threads (past_in x) d) (t - 1)
      by zero one = absurd (omega (arith, one))
      by (suc i) one = ap (slice_get (service_threads (past_in x) d)) (omega arith)

  -- the first that has yielded goes on
  pub go_is : (d : ℕ) → is_live (past_in x) d ≡ true → option_map (λ t. act.Go (record { 0 = t })) (Lists.yielded_in x.domains d) ≡ first_some (go_at (past_in x) d) (threads_of (past_in x) d)
  unfolding threads_of go_at going_thread thread_where first_some
  go_is d l =
      ap (option_map (λ t. act.Go (record { 0 = t }))) (first_thread s x h d is_yielded ∙ ap (λ (b : Bool). if b then thread_where (past_in x) d is_yielded else None) l)
      ∙ sym (goes (λ t. passes is_yielded (thread_state (past_in x) d t)) 0 (length (service_threads (past_in x) d) + 1))
    where
      goes : (f : ℕ → Bool) (a n : ℕ) → first_some (λ t. option_map (λ k. act.Go (record { 0 = k })) (if f t then Some t else None)) (range_with_len a n) ≡ option_map (λ k. act.Go (record { 0 = k })) (find f (range_with_len a n))
      goes f a zero = refl
      goes f a (suc n) = step (f a) (goes f (a + 1) n)
        where
          step : (b : Bool) → first_some (λ t. option_map (λ k. act.Go (record { 0 = k })) (if f t then Some t else None)) (range_with_len (a + 1) n) ≡ option_map (λ k. act.Go (record { 0 = k })) (find f (range_with_len (a + 1) n)) →
              (elim (option_map (λ k. act.Go (record { 0 = k })) (if b then Some a else None)) as (λ _. Option Act) [ Some v ↦ Some v | None ↦ first_some (λ t. option_map (λ k. act.Go (record { 0 = k })) (if f t then Some t else None)) (range_with_len (a + 1) n) ])
              ≡ option_map (λ k. act.Go (record { 0 = k })) (cond b (Some a) (find f (range_with_len (a + 1) n)))
          step true again = refl
          step false again = again
