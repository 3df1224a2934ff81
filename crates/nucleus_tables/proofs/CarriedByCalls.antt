-- The memory objects that a call carries, by where it stands.
use Rattle.std.proofs.Common.{◌≡◌, refl, ◌∙◌, ap, ℕ, ◌≤◌, Bool, true, false, not, ◌&&◌, [], Option, Some, None, is_some, is_none, if◌then◌else◌}
use Rattle.jx_base.specs.declared.act.Act.TheVariants as act
use Rattle.jx_base.specs.declared.ids.CallId.{CallId}
use Rattle.jx_base.specs.declared.states.CallState.TheVariants as call
use Rattle.jx_base.specs.Histories.{Past}
use Rattle.jx_base.proofs.BasicLaws.{ap3}
use Rattle.jx_model.specs.Calls.{Answer, Asked, answer_of, asked_of, call_entry, call_stage, call_state, calls_made, has_live_caller, is_queued, is_resumable, is_resumed, is_taken, is_unanswered}
use Rattle.jx_model.specs.Holding.{answer_objects, asked_objects, carried, carried_by, objects_in}
use Rattle.jx_model.specs.Portals.{received_parcel}
use Rattle.jx_model.specs.Replies.{answer_reply, job_of, or_done}
use Rattle.std.specs.Option.{option_and_then}
use Rattle.table_threads.proofs.CallActs.{running_not_queued}
use Rattle.table_threads.proofs.CallRecords.{entry_there}
use Rattle.table_threads.proofs.CallStages.{resumable_parts}

-- ---- where it stands

-- a call that stands queued is in its queue
pub queued_state : (past : Past) (c : ℕ) → 1 ≤ c → c ≤ calls_made past → call_state past c ≡ call.Queued → is_queued past c ≡ true
unfolding is_queued is_unanswered call_state call_stage
queued_state past c l u q = by (is_some (call_entry past c)) (answer_of past c) (is_resumed past c) (is_taken past c) (entry_there past c l u) q
  where
    by : (e : Bool) (o : Option Answer) (r t : Bool) → e ≡ true → call_stage r o t ≡ call.Queued → ((e && is_none o) && not t) ≡ true
    by true None false false p q = refl
    by true None false true p q = cc
    by true (Some a) false t p q = cc
    by true o true t p q = cc
    by false o r t p q = cc

-- one that runs has no answer
running_unanswered : (past : Past) (c : ℕ) → call_state past c ≡ call.Running → answer_of past c ≡ None
unfolding call_state call_stage
running_unanswered past c q = by (answer_of past c) (is_resumed past c) (is_taken past c) q
  where
    by : (o : Option Answer) (r t : Bool) → call_stage r o t ≡ call.Running → o ≡ None
    by None r t q = refl
    by (Some a) true t q = cc
    by (Some a) false t q = cc

-- one that is answered isn't queued
answered_unqueued : (past : Past) (c : ℕ) → is_some (answer_of past c) ≡ true → is_queued past c ≡ false
unfolding is_queued is_unanswered
answered_unqueued past c h = by (is_some (call_entry past c)) (answer_of past c) (is_taken past c) h
  where
    by : (e : Bool) (o : Option Answer) (t : Bool) → is_some o ≡ true → ((e && is_none o) && not t) ≡ false
    by e None t h = cc
    by true (Some a) t h = refl
    by false (Some a) t h = refl

-- ---- what it carries

-- a queued call, what it asks
pub queued_carried : (past : Past) (c : ℕ) → is_queued past c ≡ true → carried past c ≡ asked_objects (asked_of past c)
unfolding carried carried_by
queued_carried past c q =
    ap (λ (b : Bool). if b then asked_objects (asked_of past c) else if has_live_caller past c && not (is_resumed past c) then answer_objects (answer_of past c) else []) q

-- one that runs, nothing
pub running_carried : (past : Past) (c : ℕ) → call_state past c ≡ call.Running → carried past c ≡ []
unfolding carried carried_by answer_objects
running_carried past c q =
    ap3 (λ (b w : Bool) (o : Option Answer). if b then asked_objects (asked_of past c) else if w then answer_objects o else []) (running_not_queued past c q) refl (running_unanswered past c q)
    ∙ by (has_live_caller past c && not (is_resumed past c))
  where
    by : (b : Bool) → (if b then answer_objects None else []) ≡ []
    by true = refl
    by false = refl

-- one whose caller can go on, its answer
pub awaited_carried : (past : Past) (c : ℕ) → is_resumable past c ≡ true → carried past c ≡ answer_objects (answer_of past c)
unfolding carried carried_by
awaited_carried past c q =
    let p = resumable_parts past c q in
    ap3 (λ (b l r : Bool). if b then asked_objects (asked_of past c) else if l && r then answer_objects (answer_of past c) else [])
    (answered_unqueued past c p.0) p.1 p.2

-- ---- what comes of it

-- the job of a take hands over what its call carries
pub job_objects : (c : CallId) (o : Option Asked) → asked_objects o ≡ objects_in (received_parcel (act.Take c) (job_of o))
unfolding asked_objects objects_in received_parcel job_of
job_objects c None = refl
job_objects c (Some a) = refl

-- and so does the answer of a resume
pub answer_handed_over : (c : CallId) (o : Option Answer) → answer_objects o ≡ objects_in (received_parcel (act.Resume c) (or_done (option_and_then answer_reply o)))
unfolding answer_objects objects_in received_parcel or_done answer_reply
answer_handed_over c None = refl
answer_handed_over c (Some (Answer.Value p)) = refl
answer_handed_over c (Some (Answer.Thrown p)) = refl
answer_handed_over c (Some Answer.CopyFailed) = refl
answer_handed_over c (Some Answer.Ended) = refl
answer_handed_over c (Some Answer.Discarded) = refl
