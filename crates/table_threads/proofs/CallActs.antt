-- The calls after each kind of act.
use Rattle.std.proofs.Common.{◌≡◌, ◌≢◌, refl, sym, ◌∙◌, ap, subst, ℕ, ◌+◌, ◌≤◌, Bool, true, false, not, ◌&&◌, ◌||◌, List, [], ◌∷◌, ◌++◌, length, map, Option, Some, None, is_some, is_none, arith, ◌==◌, if◌then◌else◌, filter, set}
use Rattle.jx_base.specs.declared.act.Act.TheVariants as act
use Rattle.jx_base.specs.declared.act.Reply.{Reply}
use Rattle.jx_base.specs.declared.act.Reply.TheVariants as reply
use Rattle.jx_base.specs.declared.act.Refusal.TheVariants as refusal
use Rattle.jx_base.specs.declared.act.Reason.{Reason}
use Rattle.jx_base.specs.declared.act.Entry.{Entry}
use Rattle.jx_base.specs.declared.ids.ServiceId.{ServiceId}
use Rattle.jx_base.specs.declared.ids.MethodId.{MethodId}
use Rattle.jx_base.specs.declared.ids.CallId.{CallId}
use Rattle.jx_base.specs.declared.value.Parcel.{Parcel}
use Rattle.jx_base.specs.declared.program.System.{System}
use Rattle.jx_base.specs.declared.states.CallState.{CallState}
use Rattle.jx_base.specs.declared.states.CallState.TheVariants as call
use Rattle.jx_base.specs.declared.states.AnswerKind.{AnswerKind}
use Rattle.jx_base.specs.Basics.{up_to, is_number}
use Rattle.program_model.specs.ParcelParts.{parcel_objects}
use Rattle.jx_base.specs.Histories.{Past, nth_entry}
use Rattle.jx_model.specs.Domains.{ended_by, ended_by_act}
use Rattle.jx_model.specs.Portals.{owner_of}
use Rattle.jx_model.specs.Calls.{Answer, is_call, calls_made, call_entry, first_since, caller_of, answer_of, answered_by, answered_by_act, answer_by_reply, refused_answer, thrown, ends_server, ends_domain, server_of, is_taken, is_resumed, is_take_of, is_resume_of, is_queued, is_unanswered, has_live_caller, service_of_call, asked_of, asked_by, queued_as, call_state, call_stage, waiting_calls, answer_kind}
use Rattle.jx_model.specs.Holding.{carried, carried_by, asked_objects, answer_objects}
use Rattle.jx_model.specs.Permits.{acting_thread}
use Rattle.jx_model.specs.Replies.{sent_back, ◌refuses◌else◌}
use Rattle.jx_model.specs.Tables.{answered_at, CallRecord, call_record, call_records}
use Rattle.jx_model.specs.Legal.{IsAdmittedPast}
use Rattle.jx_base.proofs.BasicLaws.{ap2, ap3, both, and_true, and_false}
use Rattle.jx_base.proofs.NthEntries.{nth_there, nth_passes, count_same, count_grows}
use Rattle.table_threads.proofs.Records.{not_that, is_that, records_same, map_map, filter_behind, some_of, or_false}
use Rattle.table_threads.proofs.Places.{answered_placed}
use Rattle.table_threads.proofs.CallStages.{StandsAt, resumed_answered, live_caller_after, resumes, resumable_parts}
use Rattle.table_threads.proofs.CallRecords.{place_after, place_kept, state_after_entry, carried_after, call_record_made, call_record_same, call_record_new, calls_same, calls_more, calls_one, unqueues, waiting_after, waiting_same, waiting_more}
use Rattle.std.specs.Option.{option_and_then, option_map, unwrap_or, option_or}
use Rattle.table_threads.specs.CallChanges.{entry, owned_by, state_after_end, carried_after_end, place_after_end, ended_call}

-- tests that agree keep the same
pub filter_tests : (p q : ℕ → Bool) (xs : List ℕ) → ((x : ℕ) → p x ≡ q x) → filter p xs ≡ filter q xs
filter_tests p q [] h = refl
filter_tests p q (x ∷ xs) h = rw (h x, filter_tests p q xs h) refl

-- ---- callers that live on

-- an entry that ends nobody leaves whether a caller lives
pub caller_lives_on : (s : System) (e : Entry) (past : Past) (c : ℕ) → IsAdmittedPast s past → c ≤ calls_made past → ended_by e ≡ None → has_live_caller (e ∷ past) c ≡ has_live_caller past c
unfolding ends_domain
caller_lives_on s e past c a u n =
    live_caller_after s e past c a u ∙ ap (λ (x : Option (ℕ × Reason)). has_live_caller past c && not (ends_domain x (caller_of past c))) n ∙ and_true (has_live_caller past c)

-- an entry brings no caller back to life
pub caller_lived : (s : System) (e : Entry) (past : Past) (c : ℕ) → IsAdmittedPast s past → c ≤ calls_made past → has_live_caller (e ∷ past) c ≡ true → has_live_caller past c ≡ true
caller_lived s e past c a u h = (both (has_live_caller past c) (not (ends_domain (ended_by e) (caller_of past c))) (sym (live_caller_after s e past c a u) ∙ h)).0

-- ---- acts that touch no call

-- an entry that makes no call, takes none, answers none, goes on after none and ends nobody
pub record TouchesNoCall (e : Entry) : Type 0 where
  pub call : is_call e ≡ false
  pub ends : ended_by e ≡ None
  pub take : (c : ℕ) → is_take_of c e.act ≡ false
  pub resume : (c : ℕ) → is_resume_of c e.act ≡ false
  pub answer : (c : ℕ) → answered_by_act c e.act e.reply ≡ None

unanswered_by : (past : Past) (e : Entry) (c : ℕ) → answered_by_act c e.act e.reply ≡ None → ended_by e ≡ None → answered_by past e c ≡ None
unfolding answered_by ends_server ends_domain
unanswered_by past e c a n =
    ap2 (λ (o : Option Answer) (x : Option (ℕ × Reason)). elim o as (λ _. Option Answer) [ Some a ↦ Some a | None ↦ if ends_domain x (server_of past c) then Some Answer.Ended else None ]) a n

-- such an entry leaves all records
pub calls_untouched : (s : System) (e : Entry) (past : Past) → IsAdmittedPast s past → TouchesNoCall e → call_records (e ∷ past) ≡ call_records past
calls_untouched s e past a h =
    calls_same e past h.call (λ c l u. call_record_same e past c l u (h.take c) (unanswered_by past e c (h.answer c) h.ends) (h.resume c) (caller_lives_on s e past c a u h.ends))

-- and all waiting calls
pub waiting_untouched : (e : Entry) (past : Past) → TouchesNoCall e → waiting_calls (e ∷ past) ≡ waiting_calls past
waiting_untouched e past h =
    waiting_same e past h.call (λ c l u q. ap2 (λ (x : Bool) (o : Option Answer). x || is_some o) (h.take c) (unanswered_by past e c (h.answer c) h.ends))

-- ---- a call that is queued

module _ (s : System) (past : Past) (admitted : IsAdmittedPast s past) (d t : ℕ) where
  -- a queued call adds its record
  pub calls_after_call : (k : ServiceId) (m : MethodId) (p : Parcel) (c : CallId) →
      call_records (entry d t (act.Call k m p) (reply.Queued c) ∷ past)
      ≡ call_records past ++ (record { caller = d; thread = t; service = k.0; state = call.Queued; carried = parcel_objects p; queued_at = length past; answered_at = None }) ∷ []
  unfolding is_call asked_by queued_as is_take_of is_resume_of answered_by answered_by_act ends_server ends_domain ended_by ended_by_act asked_objects
  calls_after_call k m p c =
      calls_more (entry d t (act.Call k m p) (reply.Queued c)) past refl (λ n l u. call_record_same (entry d t (act.Call k m p) (reply.Queued c)) past n l u refl refl refl (caller_lives_on s (entry d t (act.Call k m p) (reply.Queued c)) past n admitted u refl))
      ∙ ap (λ (x : CallRecord). call_records past ++ x ∷ []) (call_record_new (entry d t (act.Call k m p) (reply.Queued c)) past (record { service = k; method = m; parcel = p }) refl refl)

  -- it waits behind all others
  pub waiting_after_call : (k : ServiceId) (m : MethodId) (p : Parcel) (c : CallId) →
      waiting_calls (entry d t (act.Call k m p) (reply.Queued c) ∷ past) ≡ waiting_calls past ++ (calls_made past + 1) ∷ []
  unfolding is_call asked_by queued_as is_take_of answered_by answered_by_act ends_server ends_domain ended_by ended_by_act
  waiting_after_call k m p c = waiting_more (entry d t (act.Call k m p) (reply.Queued c)) past refl (λ n l u. refl)

  -- ---- a take

  -- a taken call runs, and carries nothing
  pub calls_after_take : (c : CallId) (r : Reply) (i : ℕ) → c.0 ≡ i + 1 → StandsAt past c.0 call.Queued →
      call_records (entry d t (act.Take c) r ∷ past) ≡ set (call_records past) i (record (call_record past c.0) { state = call.Running; carried = [] })
  unfolding is_call asked_by is_take_of is_resume_of answered_by answered_by_act ends_server ends_domain ended_by ended_by_act call_record
  calls_after_take c r i e q =
      calls_one (entry d t (act.Take c) r) past c.0 i refl e q.high
      (λ k a b n. call_record_same (entry d t (act.Take c) r) past k a b (not_that c.0 k n) refl refl (caller_lives_on s (entry d t (act.Take c) r) past k admitted b refl))
      ∙ ap (set (call_records past) i)
      (call_record_made s (entry d t (act.Take c) r) past c.0 admitted q.low q.high (caller_lived s (entry d t (act.Take c) r) past c.0 admitted q.high)
      ∙ ap2 (λ (x : Bool) (st : CallState). let item : CallRecord = record (call_record past c.0) {
        state = state_after_entry st x None false;
        carried = carried_after st (carried past c.0) x None (has_live_caller (entry d t (act.Take c) r ∷ past) c.0 && true);
        answered_at = place_after (answered_at past c.0) None (length past);
      } in item)
      (is_that c.0 c.0 refl) q.state
      ∙ ap (λ (w : Option ℕ). let item : CallRecord = record (call_record past c.0) { state = call.Running; carried = []; answered_at = w } in item) (place_kept (answered_at past c.0) (length past)))

  -- it waits no more
  pub waiting_after_take : (c : CallId) (r : Reply) → waiting_calls (entry d t (act.Take c) r ∷ past) ≡ filter (λ n. not (c.0 == n)) (waiting_calls past)
  unfolding is_call asked_by is_take_of answered_by answered_by_act ends_server ends_domain ended_by ended_by_act
  waiting_after_take c r =
      waiting_after (entry d t (act.Take c) r) past refl ∙ filter_tests (λ n. not ((c.0 == n) || false)) (λ n. not (c.0 == n)) (waiting_calls past) (λ n. ap not (or_false (c.0 == n)))

-- ---- an answer

-- an entry that answers one call and does nothing else to calls
pub record AnswersOne (past : Past) (e : Entry) (c : ℕ) (x : Answer) : Type 0 where
  pub call : is_call e ≡ false
  pub ends : ended_by e ≡ None
  pub take : (n : ℕ) → is_take_of n e.act ≡ false
  pub resume : (n : ℕ) → is_resume_of n e.act ≡ false
  pub answer : answered_by past e c ≡ Some x
  pub others : (n : ℕ) → n ≢ c → answered_by past e n ≡ None

-- a call that runs has no place of an answer
pub running_unplaced : (past : Past) (c : ℕ) → call_state past c ≡ call.Running → answered_at past c ≡ None
unfolding call_state call_stage
running_unplaced past c h = by (is_resumed past c) (answer_of past c) (is_taken past c) (answered_at past c) (answered_placed past c) h
  where
    by : (r : Bool) (o : Option Answer) (t : Bool) (w : Option ℕ) → is_some w ≡ is_some o → call_stage r o t ≡ call.Running → w ≡ None
    by r o t None s h = refl
    by true o t (Some i) s h = cc
    by false (Some a) t (Some i) s h = cc
    by false None t (Some i) s h = cc

-- an answered call carries its answer's objects, where its caller lives
pub calls_after_answer : (s : System) (past : Past) (e : Entry) (c i : ℕ) (x : Answer) → IsAdmittedPast s past → AnswersOne past e c x → c ≡ i + 1 → StandsAt past c call.Running →
    call_records (e ∷ past) ≡ set (call_records past) i (record (call_record past c) { state = call.Answered (answer_kind x); carried = if has_live_caller past c then answer_objects (Some x) else []; answered_at = Some (length past) })
unfolding call_record
calls_after_answer s past e c i x a h q z =
    calls_one e past c i h.call q z.high (λ k l u n. call_record_same e past k l u (h.take k) (h.others k n) (h.resume k) (caller_lives_on s e past k a u h.ends))
    ∙ ap (set (call_records past) i)
    (call_record_made s e past c a z.low z.high (caller_lived s e past c a z.high)
    ∙ ap3 (λ (t : Bool) (o : Option Answer) (r : Bool). let item : CallRecord = record (call_record past c) {
      state = state_after_entry (call_state past c) t o r;
      carried = carried_after (call_state past c) (carried past c) t o (has_live_caller (e ∷ past) c && not r);
      answered_at = place_after (answered_at past c) o (length past);
    } in item)
    (h.take c) h.answer (h.resume c)
    ∙ ap3 (λ (st : CallState) (b : Bool) (w : Option ℕ). let item : CallRecord = record (call_record past c) {
      state = state_after_entry st false (Some x) false;
      carried = carried_after st (carried past c) false (Some x) b;
      answered_at = place_after w (Some x) (length past);
    } in item)
    z.state (and_true (has_live_caller (e ∷ past) c) ∙ caller_lives_on s e past c a z.high h.ends) (running_unplaced past c z.state))

-- it leaves the waiting calls
pub waiting_after_answer : (past : Past) (e : Entry) (c : ℕ) (x : Answer) → AnswersOne past e c x → is_queued past c ≡ false → waiting_calls (e ∷ past) ≡ waiting_calls past
waiting_after_answer past e c x h q =
    waiting_same e past h.call (λ n l u w.
    let ne : n ≢ c = λ z. cc (subst (λ (k : ℕ). is_queued past k ≡ false) (sym z) q, w) in
    ap2 (λ (b : Bool) (o : Option Answer). b || is_some o) (h.take n) (h.others n ne))

-- a call that runs isn't queued
pub running_not_queued : (past : Past) (c : ℕ) → call_state past c ≡ call.Running → is_queued past c ≡ false
unfolding is_queued is_unanswered call_state call_stage
running_not_queued past c h = by (is_some (call_entry past c)) (is_resumed past c) (answer_of past c) (is_taken past c) h
  where
    by : (m r : Bool) (o : Option Answer) (t : Bool) →
        (if r then call.Resumed else elim o [ Some a ↦ call.Answered (answer_kind a) | None ↦ if t then call.Running else call.Queued ]) ≡ call.Running → (m && is_none o && not t) ≡ false
    by false r o t h = refl
    by true r (Some a) t h = refl
    by true r None true h = refl
    by true false None false h = cc
    by true true None false h = cc

-- a return answers its call with its value, or with what refused it
pub return_answers : (past : Past) (d t : ℕ) (c : CallId) (p : Parcel) (r : Reply) → AnswersOne past (entry d t (act.Return c p) r) c.0 (answer_by_reply r (Answer.Value p))
unfolding is_call asked_by is_take_of is_resume_of answered_by answered_by_act ends_server ends_domain ended_by ended_by_act
return_answers past d t c p r =
    record {
      call = refl;
      ends = refl;
      take = λ n. refl;
      resume = λ n. refl;
      answer = ap (λ (b : Bool). elim (if b then Some (answer_by_reply r (Answer.Value p)) else None) as (λ _. Option Answer) [ Some a ↦ Some a | None ↦ None ]) (is_that c.0 c.0 refl);
      others = λ n z. ap (λ (b : Bool). elim (if b then Some (answer_by_reply r (Answer.Value p)) else None) as (λ _. Option Answer) [ Some a ↦ Some a | None ↦ None ]) (not_that c.0 n z);
    }

-- a throw answers its call with what it throws, or with what refused it
pub throw_answers : (past : Past) (d t : ℕ) (c : CallId) (p : Parcel) (r : Reply) → AnswersOne past (entry d t (act.Throw c p) r) c.0 (answer_by_reply r (thrown p))
unfolding is_call asked_by is_take_of is_resume_of answered_by answered_by_act ends_server ends_domain ended_by ended_by_act
throw_answers past d t c p r =
    record {
      call = refl;
      ends = refl;
      take = λ n. refl;
      resume = λ n. refl;
      answer = ap (λ (b : Bool). elim (if b then Some (answer_by_reply r (thrown p)) else None) as (λ _. Option Answer) [ Some a ↦ Some a | None ↦ None ]) (is_that c.0 c.0 refl);
      others = λ n z. ap (λ (b : Bool). elim (if b then Some (answer_by_reply r (thrown p)) else None) as (λ _. Option Answer) [ Some a ↦ Some a | None ↦ None ]) (not_that c.0 n z);
    }

-- an answer to a dead caller is discarded and carries nothing, so the caller's life needn't be asked
pub sent_objects : (s : System) (past : Past) (d c : ℕ) (p : Parcel) (r : Reply) (x : Answer) → r ≡ sent_back s past d c p →
    (if has_live_caller past c then answer_objects (Some (answer_by_reply r x)) else []) ≡ answer_objects (Some (answer_by_reply r x))
unfolding sent_back ◌refuses◌else◌ answer_by_reply refused_answer answer_objects
sent_objects s past d c p r x h = by (has_live_caller past c) _ h
  where
    by : (b : Bool) (rest : Reply) → r ≡ (if not b then reply.Refused refusal.Discarded else rest) → (if b then answer_objects (Some (answer_by_reply r x)) else []) ≡ answer_objects (Some (answer_by_reply r x))
    by true rest q = refl
    by false rest q = ap (λ (y : Reply). answer_objects (Some (answer_by_reply y x))) (sym q)

-- ---- a resume

answered_stage : (past : Past) (c : ℕ) (x : Answer) → answer_of past c ≡ Some x → is_resumed past c ≡ false → call_state past c ≡ call.Answered (answer_kind x)
unfolding call_state call_stage
answered_stage past c x o r = ap2 (λ (b : Bool) (y : Option Answer). call_stage b y (is_taken past c)) r o

-- the answered call after which a caller goes on
pub record IsAnswered (past : Past) (c : ℕ) : Type 0 where
  pub answer : Answer
  pub is : answer_of past c ≡ Some answer
  pub state : call_state past c ≡ call.Answered (answer_kind answer)

-- what a caller goes on after is answered
pub resumes_answered : (s : System) (past : Past) (d t : ℕ) (c : CallId) → acting_thread s past d (act.Resume c) ≡ Some t → IsAnswered past c.0
resumes_answered s past d t c h =
    let x = resumable_parts past c.0 (resumes s past d t c h) in
    let y = some_of (answer_of past c.0) x.0 in
    record { answer = y.0; is = y.1; state = answered_stage past c.0 y.0 y.1 (turned (is_resumed past c.0) x.2) }
  where
    turned : (b : Bool) → not b ≡ true → b ≡ false
    turned false h = refl
    turned true h = cc

-- a call after which its caller went on carries nothing
pub calls_after_resume : (s : System) (past : Past) (d t : ℕ) (c : CallId) (r : Reply) (i : ℕ) (k : AnswerKind) → IsAdmittedPast s past → c.0 ≡ i + 1 → StandsAt past c.0 (call.Answered k) →
    call_records (entry d t (act.Resume c) r ∷ past) ≡ set (call_records past) i (record (call_record past c.0) { state = call.Resumed; carried = [] })
unfolding is_call asked_by is_take_of is_resume_of answered_by answered_by_act ends_server ends_domain ended_by ended_by_act call_record
calls_after_resume s past d t c r i k a e q =
    calls_one (entry d t (act.Resume c) r) past c.0 i refl e q.high
    (λ n l u z. call_record_same (entry d t (act.Resume c) r) past n l u refl refl (not_that c.0 n z) (caller_lives_on s (entry d t (act.Resume c) r) past n a u refl))
    ∙ ap (set (call_records past) i)
    (call_record_made s (entry d t (act.Resume c) r) past c.0 a q.low q.high (caller_lived s (entry d t (act.Resume c) r) past c.0 a q.high)
    ∙ ap2 (λ (x : Bool) (st : CallState). let item : CallRecord = record (call_record past c.0) {
      state = state_after_entry st false None x;
      carried = carried_after st (carried past c.0) false None (has_live_caller (entry d t (act.Resume c) r ∷ past) c.0 && not x);
      answered_at = place_after (answered_at past c.0) None (length past);
    } in item)
    (is_that c.0 c.0 refl) q.state
    ∙ ap2 (λ (b : Bool) (w : Option ℕ). let item : CallRecord = record (call_record past c.0) { state = call.Resumed; carried = if b then carried past c.0 else []; answered_at = w } in item) (and_false (has_live_caller (entry d t (act.Resume c) r ∷ past) c.0)) (place_kept (answered_at past c.0) (length past)))

-- it leaves the waiting calls
pub waiting_after_resume : (past : Past) (d t : ℕ) (c : CallId) (r : Reply) → waiting_calls (entry d t (act.Resume c) r ∷ past) ≡ waiting_calls past
unfolding is_call asked_by is_take_of answered_by answered_by_act ends_server ends_domain ended_by ended_by_act
waiting_after_resume past d t c r = waiting_same (entry d t (act.Resume c) r) past refl (λ n l u w. refl)

-- ---- the end of a domain

-- an entry that ends a domain and does nothing else to calls
pub record EndsOne (e : Entry) (d : ℕ) : Type 0 where
  pub why : Reason
  pub ends : ended_by e ≡ Some (d, why)
  pub call : is_call e ≡ false
  pub take : (c : ℕ) → is_take_of c e.act ≡ false
  pub resume : (c : ℕ) → is_resume_of c e.act ≡ false
  pub answer : (c : ℕ) → answered_by_act c e.act e.reply ≡ None

asked_there : (e : Entry) → is_call e ≡ true → is_some (asked_by e.act) ≡ true
unfolding is_call
asked_there e h = (both (is_some (asked_by e.act)) (is_some (queued_as e.reply)) h).0

-- a call that was queued has a service
pub call_service_there : (past : Past) (c : ℕ) → 1 ≤ c → c ≤ calls_made past → service_of_call past c ≡ Some (unwrap_or (service_of_call past c) 0)
unfolding service_of_call asked_of call_entry
call_service_there past c l u =
    let e = some_of (nth_entry is_call past c) (nth_there is_call past c l u) in
    let a = some_of (asked_by e.0.act) (asked_there e.0 (nth_passes is_call past c e.0 e.1).0) in
    let s : option_map (λ a. a.service.0) (option_and_then (λ e. asked_by e.act) (nth_entry is_call past c)) ≡ Some a.0.service.0 =
    ap (λ o. option_map (λ a. a.service.0) (option_and_then (λ e. asked_by e.act) o)) e.1 ∙ ap (λ o. option_map (λ a. a.service.0) o) a.1 in
    s ∙ ap (λ o. Some (unwrap_or o 0)) (sym s)

-- and a caller
pub call_caller_there : (past : Past) (c : ℕ) → 1 ≤ c → c ≤ calls_made past → caller_of past c ≡ Some (unwrap_or (caller_of past c) 0)
unfolding caller_of call_entry
call_caller_there past c l u =
    let e = some_of (nth_entry is_call past c) (nth_there is_call past c l u) in
    let s : option_map (λ a. a.domain.0) (nth_entry is_call past c) ≡ Some e.0.domain.0 = ap (λ o. option_map (λ a. a.domain.0) o) e.1 in
    s ∙ ap (λ o. Some (unwrap_or o 0)) (sym s)

-- what the end answers a call
pub answer_at_end : (past : Past) (e : Entry) (d c : ℕ) → EndsOne e d → 1 ≤ c → c ≤ calls_made past →
    answered_by past e c ≡ (if owned_by past d (unwrap_or (service_of_call past c) 0) then Some Answer.Ended else None)
unfolding answered_by ends_server ends_domain server_of
answer_at_end past e d c h l u =
    ap (λ (o : Option Answer). elim o as (λ _. Option Answer) [ Some a ↦ Some a | None ↦ if ends_domain (ended_by e) (option_and_then (owner_of past) (service_of_call past c)) then Some Answer.Ended else None ]) (h.answer c)
    ∙ ap2 (λ (x : Option (ℕ × Reason)) (o : Option ℕ). if ends_domain x (option_and_then (owner_of past) o) then Some Answer.Ended else None) h.ends (call_service_there past c l u)

-- whether a caller lives after the end
caller_at_end : (s : System) (past : Past) (e : Entry) (d c : ℕ) → IsAdmittedPast s past → EndsOne e d → 1 ≤ c → c ≤ calls_made past →
    has_live_caller (e ∷ past) c ≡ (has_live_caller past c && not (unwrap_or (caller_of past c) 0 == d))
unfolding ends_domain is_number
caller_at_end s past e d c a h l u =
    live_caller_after s e past c a u
    ∙ ap2 (λ (x : Option (ℕ × Reason)) (o : Option ℕ). has_live_caller past c && not (ends_domain x o)) h.ends (call_caller_there past c l u)

-- an answered call of a dead caller carries nothing
dead_carries : (past : Past) (c : ℕ) (k : AnswerKind) → call_state past c ≡ call.Answered k → has_live_caller past c ≡ false → carried past c ≡ []
unfolding carried carried_by call_state call_stage is_queued is_unanswered
dead_carries past c k h l = by (is_some (call_entry past c)) (is_resumed past c) (answer_of past c) (is_taken past c) (has_live_caller past c) h l
  where
    by : (m r : Bool) (o : Option Answer) (t b : Bool) → call_stage r o t ≡ call.Answered k → b ≡ false → carried_by (m && is_none o && not t) (b && not r) (asked_of past c) o ≡ []
    by m r o t true h l = cc
    by true true (Some a) t false h l = refl
    by false true (Some a) t false h l = refl
    by m true None t false h l = cc
    by true false (Some a) t false h l = refl
    by false false (Some a) t false h l = refl
    by m false None true false h l = cc
    by m false None false false h l = cc

-- the place of a call's answer after an end
place_at_end : (s : System) (past : Past) (c : ℕ) (lost : Bool) (at : ℕ) → IsAdmittedPast s past → place_after (answered_at past c) (if lost then Some Answer.Ended else None) at ≡ place_after_end lost (call_state past c) (answered_at past c) at
unfolding call_state call_stage
place_at_end s past c lost at a = by lost (is_resumed past c) (answer_of past c) (is_taken past c) (answered_at past c) (answered_placed past c) (resumed_answered s past c a)
  where
    by : (lost r : Bool) (o : Option Answer) (t : Bool) (w : Option ℕ) → is_some w ≡ is_some o → (r ≡ true → is_some o ≡ true) →
        place_after w (if lost then Some Answer.Ended else None) at ≡ place_after_end lost (call_stage r o t) w at
    by lost r (Some a) t None s g = cc
    by lost r None t (Some i) s g = cc
    by lost true None t None s g = cc (g refl)
    by true true (Some a) t (Some i) s g = refl
    by false true (Some a) t (Some i) s g = refl
    by true false (Some a) t (Some i) s g = refl
    by false false (Some a) t (Some i) s g = refl
    by true false None true None s g = refl
    by true false None false None s g = refl
    by false false None true None s g = refl
    by false false None false None s g = refl

-- the records after the end of a domain
pub calls_after_end : (s : System) (past : Past) (e : Entry) (d : ℕ) → IsAdmittedPast s past → EndsOne e d → call_records (e ∷ past) ≡ map (ended_call (owned_by past d) d (length past)) (call_records past)
unfolding call_records call_record answer_objects answer_kind
calls_after_end s past e d a h =
    ap (λ (n : ℕ). map (call_record (e ∷ past)) (up_to n)) (count_same is_call e past h.call)
    ∙ records_same (call_record (e ∷ past)) (λ c. ended_call (owned_by past d) d (length past) (call_record past c)) (calls_made past) (λ c l u.
    call_record_made s e past c a l u (caller_lived s e past c a u)
    ∙ ap3 (λ (t : Bool) (o : Option Answer) (r : Bool). let item : CallRecord = record (call_record past c) {
      state = state_after_entry (call_state past c) t o r;
      carried = carried_after (call_state past c) (carried past c) t o (has_live_caller (e ∷ past) c && not r);
      answered_at = place_after (answered_at past c) o (length past);
    } in item)
    (h.take c) (answer_at_end past e d c h l u) (h.resume c)
    ∙ ap (λ (b : Bool). let item : CallRecord = record (call_record past c) {
      state = state_after_entry (call_state past c) false (if owned_by past d (unwrap_or (service_of_call past c) 0) then Some Answer.Ended else None) false;
      carried = carried_after (call_state past c) (carried past c) false (if owned_by past d (unwrap_or (service_of_call past c) 0) then Some Answer.Ended else None) b;
      answered_at = place_after (answered_at past c) (if owned_by past d (unwrap_or (service_of_call past c) 0) then Some Answer.Ended else None) (length past);
    } in item)
    (and_true (has_live_caller (e ∷ past) c) ∙ caller_at_end s past e d c a h l u)
    ∙ ap3 (λ (x : CallState) (y : List ℕ) (w : Option ℕ). let item : CallRecord = record (call_record past c) { state = x; carried = y; answered_at = w } in item)
    (states (call_state past c) (owned_by past d (unwrap_or (service_of_call past c) 0)))
    (carries (call_state past c) (owned_by past d (unwrap_or (service_of_call past c) 0)) (unwrap_or (caller_of past c) 0 == d) (has_live_caller past c) (carried past c) (dead_carries past c))
    (place_at_end s past c (owned_by past d (unwrap_or (service_of_call past c) 0)) (length past) a))
    ∙ map_map (ended_call (owned_by past d) d (length past)) (call_record past) (up_to (calls_made past))
  where
    states : (x : CallState) (lost : Bool) → state_after_entry x false (if lost then Some Answer.Ended else None) false ≡ state_after_end lost x
    states call.Queued true = refl
    states call.Queued false = refl
    states call.Running true = refl
    states call.Running false = refl
    states (call.Answered k) true = refl
    states (call.Answered k) false = refl
    states call.Resumed true = refl
    states call.Resumed false = refl

    carries : (x : CallState) (lost gone lives : Bool) (old : List ℕ) → ((k : AnswerKind) → x ≡ call.Answered k → lives ≡ false → old ≡ []) →
        carried_after x old false (if lost then Some Answer.Ended else None) (lives && not gone) ≡ carried_after_end lost gone x old
    carries call.Queued true gone true old none = by gone
      where
        by : (b : Bool) → (if not b then answer_objects (Some Answer.Ended) else []) ≡ []
        by true = refl
        by false = refl
    carries call.Queued true gone false old none = refl
    carries call.Queued false gone lives old none = refl
    carries call.Running true gone true old none = by gone
      where
        by : (b : Bool) → (if not b then answer_objects (Some Answer.Ended) else []) ≡ []
        by true = refl
        by false = refl
    carries call.Running true gone false old none = refl
    carries call.Running false gone true old none = by gone
      where
        by : (b : Bool) → (if not b then answer_objects None else []) ≡ []
        by true = refl
        by false = refl
    carries call.Running false gone false old none = refl
    carries (call.Answered k) lost true true old none = refl
    carries (call.Answered k) lost false true old none = refl
    carries (call.Answered k) lost true false old none = refl
    carries (call.Answered k) lost false false old none = sym (none k refl refl)
    carries call.Resumed lost gone lives old none = refl

-- the waiting calls after the end of a domain: without those of its services
pub waiting_after_end : (past : Past) (e : Entry) (d : ℕ) → EndsOne e d → waiting_calls (e ∷ past) ≡ filter (λ c. not (owned_by past d (unwrap_or (service_of_call past c) 0))) (waiting_calls past)
unfolding waiting_calls up_to
waiting_after_end past e d h =
    waiting_after e past h.call
    ∙ filter_behind (is_queued past) (λ c. not (unqueues past e c)) (λ c. not (owned_by past d (unwrap_or (service_of_call past c) 0))) 1 (calls_made past) (λ c l u.
    ap2 (λ (b : Bool) (o : Option Answer). not (b || is_some o)) (h.take c) (answer_at_end past e d c h l (omega (arith, u)))
    ∙ ap not (is_it (owned_by past d (unwrap_or (service_of_call past c) 0))))
  where
    is_it : (b : Bool) → is_some (if b then Some Answer.Ended else None) ≡ b
    is_it true = refl
    is_it false = refl

-- a call with an answer was queued
pub answered_made : (past : Past) (c : ℕ) (x : Answer) → answer_of past c ≡ Some x → (1 ≤ c) × (c ≤ calls_made past)
unfolding answer_of first_since call_entry
answered_made [] c x h = cc
answered_made (e ∷ past) c x h = by (first_since (λ before e. answered_by before e c) past c) refl (nth_entry is_call past c) refl h (answered_made past c)
  where
    grown : (1 ≤ c) × (c ≤ calls_made past) → (1 ≤ c) × (c ≤ calls_made (e ∷ past))
    grown m = (m.0, omega (arith, m.1, count_grows is_call e past))

    by : (o : Option Answer) → first_since (λ before e. answered_by before e c) past c ≡ o → (p : Option Entry) → nth_entry is_call past c ≡ p →
        (option_or o (if is_some p then answered_by past e c else None)) ≡ Some x →
        ((y : Answer) → first_since (λ before e. answered_by before e c) past c ≡ Some y → (1 ≤ c) × (c ≤ calls_made past)) → (1 ≤ c) × (c ≤ calls_made (e ∷ past))
    by (Some y) q p w h again = grown (again y q)
    by None q None w h again = cc
    by None q (Some y) w h again = let k = nth_passes is_call past c y w in grown (k.1, k.2)

-- a call that a domain goes on after was queued and stands answered
pub resumes_stand : (s : System) (past : Past) (d t : ℕ) (c : CallId) → acting_thread s past d (act.Resume c) ≡ Some t → (k : AnswerKind) × StandsAt past c.0 (call.Answered k)
resumes_stand s past d t c h =
    let x = resumes_answered s past d t c h in
    let m = answered_made past c.0 x.answer x.is in
    (answer_kind x.answer, record { low = m.0; high = m.1; state = x.state })
