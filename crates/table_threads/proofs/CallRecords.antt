-- The record of a call, and the waiting calls, after an entry more.
use Rattle.std.proofs.Common.{◌≡◌, ◌≢◌, refl, sym, ◌∙◌, ap, ℕ, ◌+◌, ◌≤◌, Bool, true, false, not, cond, ◌&&◌, ◌||◌, List, [], ◌∷◌, ◌++◌, length, map, Option, Some, None, is_some, is_none, arith, if◌then◌else◌, filter, set, slice_get}
use Rattle.jx_base.specs.declared.act.Entry.{Entry}
use Rattle.jx_base.specs.declared.program.System.{System}
use Rattle.jx_base.specs.declared.states.CallState.{CallState}
use Rattle.jx_base.specs.declared.states.CallState.TheVariants as call
use Rattle.jx_base.specs.Basics.{up_to}
use Rattle.jx_base.specs.Histories.{Past}
use Rattle.jx_model.specs.Calls.{Answer, Asked, is_call, calls_made, call_entry, caller_of, marked, answer_of, answered_by, is_taken, is_resumed, is_take_of, is_resume_of, is_queued, is_unanswered, has_live_caller, service_of_call, asked_of, asked_by, call_state, call_stage, waiting_calls, answer_kind}
use Rattle.jx_model.specs.Holding.{carried, carried_by, asked_objects, answer_objects}
use Rattle.jx_model.specs.Tables.{queued_at, answered_at, CallRecord, call_record, call_records, calling_thread}
use Rattle.jx_model.specs.Legal.{IsAdmittedPast}
use Rattle.jx_base.proofs.BasicLaws.{ap2, ap3, and_true}
use Rattle.jx_base.proofs.NthEntries.{nth_new, nth_there, count_new, count_same}
use Rattle.table_threads.proofs.Places.{place_old, place_new}
use Rattle.jx_model.proofs.CallSteps.{since_new, since_made, taken_made, resumed_made, answer_made, entry_made, asked_made, service_made}
use Rattle.table_threads.proofs.Records.{records_same, records_more, records_set, records_get, records_length, filter_same, filter_more, filter_twice, or_false}
use Rattle.table_threads.proofs.CallStages.{resumed_answered}
use Rattle.std.specs.Option.{option_and_then, option_map, unwrap_or}

-- ---- one call

-- what an entry makes of a call's state: a take of it, an answer, its resume
abbrev pub state_after_entry : CallState → Bool → Option Answer → Bool → CallState
state_after_entry call.Resumed take answer resume = call.Resumed
state_after_entry state take answer true = call.Resumed
state_after_entry (call.Answered k) take answer false = call.Answered k
state_after_entry state take (Some a) false = call.Answered (answer_kind a)
state_after_entry call.Running take None false = call.Running
state_after_entry call.Queued true None false = call.Running
state_after_entry call.Queued false None false = call.Queued

-- what an entry makes of the objects that a call carries; the last test says that the caller lives and has yet to get the answer
abbrev pub carried_after : CallState → List ℕ → Bool → Option Answer → Bool → List ℕ
carried_after call.Resumed old take answer awaited = []
carried_after (call.Answered k) old take answer awaited = if awaited then old else []
carried_after call.Running old take answer awaited = if awaited then answer_objects answer else []
carried_after call.Queued old take (Some a) awaited = if awaited then answer_objects (Some a) else []
carried_after call.Queued old true None awaited = []
carried_after call.Queued old false None awaited = old

-- the place of a call's answer after an entry that has that place
abbrev pub place_after : Option ℕ → Option Answer → ℕ → Option ℕ
place_after old answer at = elim old [ Some i ↦ Some i | None ↦ option_map (λ a. at) answer ]

-- a call's record after an entry that has that place
abbrev pub call_record_after : CallRecord → Bool → Option Answer → Bool → Bool → ℕ → CallRecord
call_record_after item take answer resume lives at =
    record item {
      state = state_after_entry item.state take answer resume;
      carried = carried_after item.state item.carried take answer (lives && not resume);
      answered_at = place_after item.answered_at answer at;
    }

-- an entry that doesn't answer leaves the place
pub place_kept : (old : Option ℕ) (at : ℕ) → place_after old None at ≡ old
place_kept None at = refl
place_kept (Some i) at = refl

-- the place of the answer of a call that was queued before the entry
pub answered_at_made : (e : Entry) (past : Past) (c : ℕ) → 1 ≤ c → c ≤ calls_made past → answered_at (e ∷ past) c ≡ place_after (answered_at past c) (answered_by past e c) (length past)
unfolding answered_at
answered_at_made e past c l u = since_made _ e past c l u

-- and the place of the entry that queued it
pub queued_at_made : (e : Entry) (past : Past) (c : ℕ) → c ≤ calls_made past → queued_at (e ∷ past) c ≡ queued_at past c
unfolding queued_at
queued_at_made e past c u = place_old is_call e past c u

-- the state of a call that was queued before the entry
pub call_state_made : (e : Entry) (past : Past) (c : ℕ) → 1 ≤ c → c ≤ calls_made past →
    call_state (e ∷ past) c ≡ state_after_entry (call_state past c) (is_take_of c e.act) (answered_by past e c) (is_resume_of c e.act)
unfolding call_state call_stage
call_state_made e past c l u =
    ap3 call_stage (resumed_made e past c l u) (answer_made e past c l u) (taken_made e past c l u)
    ∙ (by (is_resumed past c) (answer_of past c) (is_taken past c) (is_take_of c e.act) (answered_by past e c) (is_resume_of c e.act))
  where
    by : (r : Bool) (o : Option Answer) (t : Bool) (take : Bool) (answer : Option Answer) (resume : Bool) →
        call_stage (r || resume) (elim o as (λ _. Option Answer) [ Some a ↦ Some a | None ↦ answer ]) (t || take) ≡ state_after_entry (call_stage r o t) take answer resume
    by true o t take answer resume = refl
    by false (Some a) t take answer true = refl
    by false (Some a) t take answer false = refl
    by false None true take answer true = refl
    by false None false take answer true = refl
    by false None true take (Some a) false = refl
    by false None false take (Some a) false = refl
    by false None true take None false = refl
    by false None false true None false = refl
    by false None false false None false = refl

-- whether the entry takes the call out of its queue
abbrev pub unqueues : Past → Entry → ℕ → Bool
unqueues past e c = is_take_of c e.act || is_some (answered_by past e c)

-- whether a call that was queued before the entry still is
pub queued_made : (e : Entry) (past : Past) (c : ℕ) → 1 ≤ c → c ≤ calls_made past → is_queued (e ∷ past) c ≡ (is_queued past c && not (unqueues past e c))
unfolding is_queued is_unanswered
queued_made e past c l u =
    rw (entry_made e past c u, answer_made e past c l u, taken_made e past c l u)
    (by (is_some (call_entry past c)) (answer_of past c) (is_taken past c) (is_take_of c e.act) (answered_by past e c))
  where
    by : (m : Bool) (o : Option Answer) (t take : Bool) (answer : Option Answer) →
        (m && is_none (elim o as (λ _. Option Answer) [ Some a ↦ Some a | None ↦ answer ]) && not (t || take)) ≡ ((m && is_none o && not t) && not (take || is_some answer))
    by false o t take answer = refl
    by true (Some a) t take answer = refl
    by true None true take answer = grind arith
    by true None false true (Some a) = refl
    by true None false true None = refl
    by true None false false (Some a) = refl
    by true None false false None = refl

-- a call that the entry makes is queued
pub queued_new : (e : Entry) (past : Past) (c : ℕ) → is_call e ≡ true → c ≡ calls_made past + 1 → is_queued (e ∷ past) c ≡ true
unfolding is_queued is_unanswered call_entry answer_of is_taken
queued_new e past c h i =
    rw (nth_new is_call e past c h i, since_new (λ before e. answered_by before e c) e past c (omega (arith, i)), since_new (λ before e. marked (is_take_of c e.act)) e past c (omega (arith, i))) refl

-- a call that was queued has its entry
pub entry_there : (past : Past) (c : ℕ) → 1 ≤ c → c ≤ calls_made past → is_some (call_entry past c) ≡ true
unfolding call_entry
entry_there past c l u = nth_there is_call past c l u

-- what a call that was queued before the entry carries
pub carried_made : (s : System) (e : Entry) (past : Past) (c : ℕ) → IsAdmittedPast s past → 1 ≤ c → c ≤ calls_made past → (has_live_caller (e ∷ past) c ≡ true → has_live_caller past c ≡ true) →
    carried (e ∷ past) c ≡ carried_after (call_state past c) (carried past c) (is_take_of c e.act) (answered_by past e c) (has_live_caller (e ∷ past) c && not (is_resume_of c e.act))
unfolding carried carried_by is_queued is_unanswered call_state call_stage answer_objects
carried_made s e past c a l u lives =
    rw (entry_made e past c u, asked_made e past c u, answer_made e past c l u, taken_made e past c l u, resumed_made e past c l u)
    (by (is_some (call_entry past c)) (is_resumed past c) (answer_of past c) (is_taken past c) (is_take_of c e.act) (answered_by past e c) (is_resume_of c e.act)
    (has_live_caller (e ∷ past) c) (has_live_caller past c) (entry_there past c l u) (resumed_answered s past c a) lives)
  where
    by : (m r : Bool) (o : Option Answer) (t take : Bool) (answer : Option Answer) (resume l k : Bool) → m ≡ true → (r ≡ true → is_some o ≡ true) → (l ≡ true → k ≡ true) →
        carried_by (m && is_none (elim o as (λ _. Option Answer) [ Some a ↦ Some a | None ↦ answer ]) && not (t || take)) (l && not (r || resume)) (asked_of past c) (elim o as (λ _. Option Answer) [ Some a ↦ Some a | None ↦ answer ])
        ≡ carried_after (call_stage r o t) (carried_by (m && is_none o && not t) (k && not r) (asked_of past c) o) take answer (l && not resume)
    by false r o t take answer resume l k x y z = cc
    by true true None t take answer resume l k x y z = cc (y refl)
    by true true (Some a) t take answer resume true k x y z = refl
    by true true (Some a) t take answer resume false k x y z = refl
    by true false (Some a) t take answer resume false k x y z = refl
    by true false (Some a) t take answer true true k x y z = refl
    by true false (Some a) t take answer false true true x y z = refl
    by true false (Some a) t take answer false true false x y z = cc (z refl)
    by true false None true take (Some a) resume l k x y z = refl
    by true false None true take None resume l k x y z = refl
    by true false None false take (Some a) resume l k x y z = refl
    by true false None false true None resume false k x y z = refl
    by true false None false true None true true k x y z = refl
    by true false None false true None false true k x y z = refl
    by true false None false false None resume l k x y z = refl

-- the record of a call that was queued before the entry
pub call_record_made : (s : System) (e : Entry) (past : Past) (c : ℕ) → IsAdmittedPast s past → 1 ≤ c → c ≤ calls_made past → (has_live_caller (e ∷ past) c ≡ true → has_live_caller past c ≡ true) →
    call_record (e ∷ past) c ≡ call_record_after (call_record past c) (is_take_of c e.act) (answered_by past e c) (is_resume_of c e.act) (has_live_caller (e ∷ past) c) (length past)
unfolding call_record caller_of calling_thread
call_record_made s e past c a l u lives =
    ap2 (λ (q w : Option ℕ). let item : CallRecord = record (call_record (e ∷ past) c) { queued_at = unwrap_or q 0; answered_at = w } in item) (queued_at_made e past c u) (answered_at_made e past c l u)
    ∙ ap2 (λ (x : Option Entry) (k : Option ℕ). let item : CallRecord = record {
      caller = unwrap_or (option_map (λ e. e.domain.0) x) 0;
      thread = unwrap_or (option_map (λ e. e.thread.0) x) 0;
      service = unwrap_or k 0;
      state = call_state (e ∷ past) c;
      carried = carried (e ∷ past) c;
      queued_at = unwrap_or (queued_at past c) 0;
      answered_at = place_after (answered_at past c) (answered_by past e c) (length past);
    } in item)
    (entry_made e past c u) (service_made e past c u)
    ∙ ap2 (λ (x : CallState) (y : List ℕ). let item : CallRecord = record (call_record past c) { state = x; carried = y; answered_at = place_after (answered_at past c) (answered_by past e c) (length past) } in item) (call_state_made e past c l u) (carried_made s e past c a l u lives)

-- an entry that does nothing to a call, and leaves its caller alive or not, leaves its record
pub call_record_same : (e : Entry) (past : Past) (c : ℕ) → 1 ≤ c → c ≤ calls_made past → is_take_of c e.act ≡ false → answered_by past e c ≡ None → is_resume_of c e.act ≡ false →
    has_live_caller (e ∷ past) c ≡ has_live_caller past c → call_record (e ∷ past) c ≡ call_record past c
unfolding call_record caller_of calling_thread carried is_queued is_unanswered call_state
call_record_same e past c l u t n r v =
    ap2 (λ (q w : Option ℕ). let item : CallRecord = record (call_record (e ∷ past) c) { queued_at = unwrap_or q 0; answered_at = w } in item) (queued_at_made e past c u)
    (answered_at_made e past c l u ∙ ap (λ (x : Option Answer). place_after (answered_at past c) x (length past)) n ∙ place_kept (answered_at past c) (length past))
    ∙ ap2 (λ (x : Option Entry) (k : Option Asked). let item : CallRecord = record {
      caller = unwrap_or (option_map (λ e. e.domain.0) x) 0;
      thread = unwrap_or (option_map (λ e. e.thread.0) x) 0;
      service = unwrap_or (service_of_call (e ∷ past) c) 0;
      state = call_state (e ∷ past) c;
      carried = carried_by (is_queued (e ∷ past) c) (has_live_caller (e ∷ past) c && not (is_resumed (e ∷ past) c)) k (answer_of (e ∷ past) c);
      queued_at = unwrap_or (queued_at past c) 0;
      answered_at = answered_at past c;
    } in item)
    (entry_made e past c u) (asked_made e past c u)
    ∙ ap2 (λ (k : Option ℕ) (b : Bool). let item : CallRecord = record (call_record past c) {
      service = unwrap_or k 0;
      state = call_state (e ∷ past) c;
      carried = carried_by (is_queued (e ∷ past) c) (b && not (is_resumed (e ∷ past) c)) (asked_of past c) (answer_of (e ∷ past) c);
    } in item)
    (service_made e past c u) v
    ∙ ap3 (λ (x : Bool) (o : Option Answer) (y : Bool). let item : CallRecord = record (call_record past c) {
      state = call_stage x o y;
      carried = carried_by (is_some (call_entry (e ∷ past) c) && is_none o && not y) (has_live_caller past c && not x) (asked_of past c) o;
    } in item)
    (resumed_made e past c l u ∙ ap (λ (b : Bool). is_resumed past c || b) r ∙ or_false (is_resumed past c))
    (answer_made e past c l u ∙ ap (λ (x : Option Answer). elim (answer_of past c) as (λ _. Option Answer) [ Some a ↦ Some a | None ↦ x ]) n ∙ kept (answer_of past c))
    (taken_made e past c l u ∙ ap (λ (b : Bool). is_taken past c || b) t ∙ or_false (is_taken past c))
    ∙ ap (λ (x : Option Entry). let item : CallRecord = record (call_record past c) {
      carried = carried_by (is_some x && is_none (answer_of past c) && not (is_taken past c)) (has_live_caller past c && not (is_resumed past c)) (asked_of past c) (answer_of past c);
    } in item)
    (entry_made e past c u)
  where
    kept : (o : Option Answer) → (elim o as (λ _. Option Answer) [ Some a ↦ Some a | None ↦ None ]) ≡ o
    kept None = refl
    kept (Some a) = refl

-- the record of the call that an entry makes
pub call_record_new : (e : Entry) (past : Past) (a : Asked) → is_call e ≡ true → asked_by e.act ≡ Some a →
    call_record (e ∷ past) (calls_made past + 1) ≡ record { caller = e.domain.0; thread = e.thread.0; service = a.service.0; state = call.Queued; carried = asked_objects (Some a); queued_at = length past; answered_at = None }
unfolding call_record caller_of calling_thread carried is_queued is_unanswered call_state is_resumed is_taken answer_of service_of_call asked_of call_entry call_stage carried_by queued_at answered_at
call_record_new e past a h q =
    ap2 (λ (q w : Option ℕ). let item : CallRecord = record (call_record (e ∷ past) n) { queued_at = unwrap_or q 0; answered_at = w } in item) (place_new is_call e past h) (since_new _ e past n (omega arith))
    ∙ ap3 (λ (x : Option Entry) (r : Option (Unit {0})) (o : Option Answer). let item : CallRecord = record {
      caller = unwrap_or (option_map (λ e. e.domain.0) x) 0;
      thread = unwrap_or (option_map (λ e. e.thread.0) x) 0;
      service = unwrap_or (option_map (λ a. a.service.0) (option_and_then (λ e. asked_by e.act) x)) 0;
      state = call_stage (is_some r) o (is_taken (e ∷ past) n);
      carried = carried_by (is_some x && is_none o && not (is_taken (e ∷ past) n)) (has_live_caller (e ∷ past) n && not (is_some r)) (option_and_then (λ e. asked_by e.act) x) o;
      queued_at = length past;
      answered_at = None;
    } in item)
    (nth_new is_call e past n h refl) (since_new (λ before e. marked (is_resume_of n e.act)) e past n (omega arith)) (since_new (λ before e. answered_by before e n) e past n (omega arith))
    ∙ ap2 (λ (t : Option (Unit {0})) (k : Option Asked). let item : CallRecord = record {
      caller = e.domain.0;
      thread = e.thread.0;
      service = unwrap_or (option_map (λ a. a.service.0) k) 0;
      state = call_stage false None (is_some t);
      carried = carried_by (not (is_some t)) (has_live_caller (e ∷ past) n && true) k None;
      queued_at = length past;
      answered_at = None;
    } in item)
    (since_new (λ before e. marked (is_take_of n e.act)) e past n (omega arith)) q
  where
    n : ℕ
    n = calls_made past + 1

-- ---- all calls

-- how many calls there are
pub calls_counted : (past : Past) → length (call_records past) ≡ calls_made past
unfolding call_records
calls_counted past = records_length (call_record past) (calls_made past)

-- the record of a call
pub call_record_there : (past : Past) (c i : ℕ) → c ≡ i + 1 → c ≤ calls_made past → slice_get (call_records past) i ≡ Some (call_record past c)
unfolding call_records
call_record_there past c i q u = records_get (call_record past) (calls_made past) c i q u

-- an entry that leaves each record leaves all
pub calls_same : (e : Entry) (past : Past) → is_call e ≡ false → ((c : ℕ) → 1 ≤ c → c ≤ calls_made past → call_record (e ∷ past) c ≡ call_record past c) → call_records (e ∷ past) ≡ call_records past
unfolding call_records
calls_same e past h f =
    ap (λ (n : ℕ). map (call_record (e ∷ past)) (up_to n)) (count_same is_call e past h)
    ∙ records_same (call_record (e ∷ past)) (call_record past) (calls_made past) f

-- a call more
pub calls_more : (e : Entry) (past : Past) → is_call e ≡ true → ((c : ℕ) → 1 ≤ c → c ≤ calls_made past → call_record (e ∷ past) c ≡ call_record past c) →
    call_records (e ∷ past) ≡ call_records past ++ call_record (e ∷ past) (calls_made past + 1) ∷ []
unfolding call_records
calls_more e past h f =
    ap (λ (n : ℕ). map (call_record (e ∷ past)) (up_to n)) (count_new is_call e past h)
    ∙ records_more (call_record (e ∷ past)) (calls_made past)
    ∙ ap (λ (xs : List CallRecord). xs ++ call_record (e ∷ past) (calls_made past + 1) ∷ []) (records_same (call_record (e ∷ past)) (call_record past) (calls_made past) f)

-- one record changed
pub calls_one : (e : Entry) (past : Past) (c i : ℕ) → is_call e ≡ false → c ≡ i + 1 → c ≤ calls_made past → ((k : ℕ) → 1 ≤ k → k ≤ calls_made past → k ≢ c → call_record (e ∷ past) k ≡ call_record past k) →
    call_records (e ∷ past) ≡ set (call_records past) i (call_record (e ∷ past) c)
unfolding call_records
calls_one e past c i h q l f =
    ap (λ (n : ℕ). map (call_record (e ∷ past)) (up_to n)) (count_same is_call e past h)
    ∙ records_set (call_record past) (call_record (e ∷ past)) (calls_made past) c i q l (λ k a b n. sym (f k a b n))

-- ---- the waiting calls

-- the waiting calls after an entry that makes no call
pub waiting_after : (e : Entry) (past : Past) → is_call e ≡ false → waiting_calls (e ∷ past) ≡ filter (λ c. not (unqueues past e c)) (waiting_calls past)
unfolding waiting_calls
waiting_after e past h =
    ap (λ (n : ℕ). filter (is_queued (e ∷ past)) (up_to n)) (count_same is_call e past h)
    ∙ filter_same (is_queued (e ∷ past)) (λ c. is_queued past c && not (unqueues past e c)) (calls_made past) (λ c l u. queued_made e past c l u)
    ∙ filter_twice (is_queued past) (λ c. not (unqueues past e c)) (up_to (calls_made past))

-- one that takes no queued call out of its queue
pub waiting_same : (e : Entry) (past : Past) → is_call e ≡ false → ((c : ℕ) → 1 ≤ c → c ≤ calls_made past → is_queued past c ≡ true → unqueues past e c ≡ false) → waiting_calls (e ∷ past) ≡ waiting_calls past
unfolding waiting_calls
waiting_same e past h f =
    ap (λ (n : ℕ). filter (is_queued (e ∷ past)) (up_to n)) (count_same is_call e past h)
    ∙ filter_same (is_queued (e ∷ past)) (is_queued past) (calls_made past) (λ c l u. queued_made e past c l u ∙ kept (is_queued past c) (unqueues past e c) (f c l u))
  where
    kept : (a b : Bool) → (a ≡ true → b ≡ false) → (a && not b) ≡ a
    kept true b g = ap not (g refl)
    kept false b g = refl

-- a call more
pub waiting_more : (e : Entry) (past : Past) → is_call e ≡ true → ((c : ℕ) → 1 ≤ c → c ≤ calls_made past → unqueues past e c ≡ false) → waiting_calls (e ∷ past) ≡ waiting_calls past ++ (calls_made past + 1) ∷ []
unfolding waiting_calls
waiting_more e past h f =
    ap (λ (n : ℕ). filter (is_queued (e ∷ past)) (up_to n)) (count_new is_call e past h)
    ∙ filter_more (is_queued (e ∷ past)) (calls_made past)
    ∙ ap2 (λ (xs : List ℕ) (b : Bool). xs ++ cond b ((calls_made past + 1) ∷ []) [])
    (filter_same (is_queued (e ∷ past)) (is_queued past) (calls_made past) (λ c l u. queued_made e past c l u ∙ ap (λ (b : Bool). is_queued past c && not b) (f c l u) ∙ and_true (is_queued past c)))
    (queued_new e past (calls_made past + 1) h refl)
