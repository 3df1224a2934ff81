-- Calls: what each one asked, who takes it, and how it is answered.
use Rattle.std.specs.Prelude.{ℕ, Bool, true, false, ◌&&◌, not, List, [], ◌∷◌, length, Option, Some, None, is_none, is_some, ◌==◌, if◌then◌else◌, filter, slice_get, IsTrue}
use Rattle.jx_base.specs.declared.act.Act.{Act}
use Rattle.jx_base.specs.declared.act.Act.TheVariants as act
use Rattle.jx_base.specs.declared.act.Reply.{Reply}
use Rattle.jx_base.specs.declared.act.Reply.TheVariants as reply
use Rattle.jx_base.specs.declared.act.Refusal.{Refusal}
use Rattle.jx_base.specs.declared.act.Refusal.TheVariants as refusal
use Rattle.jx_base.specs.declared.act.Reason.{Reason}
use Rattle.jx_base.specs.declared.act.Entry.{Entry}
use Rattle.jx_base.specs.declared.ids.MethodId.{MethodId}
use Rattle.jx_base.specs.declared.ids.ServiceId.{ServiceId}
use Rattle.jx_base.specs.declared.states.CallState.{CallState}
use Rattle.jx_base.specs.declared.states.CallState.TheVariants as call
use Rattle.jx_base.specs.declared.states.AnswerKind.{AnswerKind}
use Rattle.jx_base.specs.declared.states.AnswerKind.TheVariants as kind
use Rattle.jx_base.specs.declared.value.Parcel.{Parcel}
use Rattle.jx_base.specs.Basics.{passes, up_to, is_number}
use Rattle.jx_base.specs.Histories.{Past, nth_entry, count_where}
use Rattle.jx_model.specs.Domains.{is_live, ended_by}
use Rattle.jx_model.specs.Portals.{owner_of}
use Rattle.std.specs.Option.{option_and_then, option_map, option_or}

-- ---- what was asked

-- what a call asks of which service
pub record Asked : Type 0 where
  pub service : ServiceId
  pub method : MethodId
  pub parcel : Parcel

-- what an act asks, where it is a call
unfoldable pub asked_by : Act → Option Asked
asked_by (act.Call s m p) = Some (record { service = s; method = m; parcel = p })
asked_by _ = None

-- the number that a queued call is answered with
unfoldable pub queued_as : Reply → Option ℕ
queued_as (reply.Queued c) = Some c.0
queued_as _ = None

-- whether the entry queued a call
unfoldable pub is_call : Entry → Bool
is_call e = is_some (asked_by e.act) && is_some (queued_as e.reply)

-- how many calls were queued
abbrev pub calls_made : Past → ℕ
calls_made past = count_where is_call past

-- the entry that queued the call
unfoldable pub call_entry : Past → ℕ → Option Entry
call_entry past c = nth_entry is_call past c

-- what the call asked
unfoldable pub asked_of : Past → ℕ → Option Asked
asked_of past c = option_and_then (λ e. asked_by e.act) (call_entry past c)

-- the service of the call
unfoldable pub service_of_call : Past → ℕ → Option ℕ
service_of_call past c = option_map (λ a. a.service.0) (asked_of past c)

-- the domain that owns the call's service
unfoldable pub server_of : Past → ℕ → Option ℕ
server_of past c = option_and_then (owner_of past) (service_of_call past c)

-- the domain that made the call
unfoldable pub caller_of : Past → ℕ → Option ℕ
caller_of past c = option_map (λ e. e.domain.0) (call_entry past c)

-- whether the caller is live
unfoldable pub has_live_caller : Past → ℕ → Bool
has_live_caller past c = passes (is_live past) (caller_of past c)

-- ---- what came of it

-- whether the act takes the call
unfoldable pub is_take_of : ℕ → Act → Bool
is_take_of c (act.Take k) = k.0 == c
is_take_of c _ = false

-- whether the act returns from the call or throws
unfoldable pub is_answer_to : ℕ → Act → Bool
is_answer_to c (act.Return k p) = k.0 == c
is_answer_to c (act.Throw k p) = k.0 == c
is_answer_to c _ = false

-- whether the act resumes after the call
unfoldable pub is_resume_of : ℕ → Act → Bool
is_resume_of c (act.Resume k) = k.0 == c
is_resume_of c _ = false

-- the first that f gives of the entries after the call, each with what came before it: one found earlier
-- stands, or else the newest entry may give one, if the call was there
unfoldable pub first_since : {A : Type 0} → (Past → Entry → Option A) → Past → ℕ → Option A
first_since f [] c = None
first_since f (e ∷ past) c =
    option_or (first_since f past c) (if is_some (call_entry past c) then f past e else None)

-- a mark, where the test passes
unfoldable pub marked : Bool → Option (Unit {0})
marked true = Some tt
marked false = None

-- whether the call was taken
unfoldable pub is_taken : Past → ℕ → Bool
is_taken past c = is_some (first_since (λ before e. marked (is_take_of c e.act)) past c)

-- whether its caller went on after it
unfoldable pub is_resumed : Past → ℕ → Bool
is_resumed past c = is_some (first_since (λ before e. marked (is_resume_of c e.act)) past c)

-- what a call is answered with
pub data Answer : Type 0 where
  Value : Parcel → Answer
  Thrown : Parcel → Answer
  CopyFailed : Answer
  Ended : Answer
  Discarded : Answer

-- the kind of an answer
unfoldable pub answer_kind : Answer → AnswerKind
answer_kind (Value p) = kind.Value
answer_kind (Thrown p) = kind.Thrown
answer_kind CopyFailed = kind.CopyFailed
answer_kind Ended = kind.Ended
answer_kind Discarded = kind.Discarded

-- the answer of a done throw: without a root there is nothing to throw
unfoldable pub thrown : Parcel → Answer
thrown p = if length p.roots == 0 then CopyFailed else Thrown p

-- the answer of a refused return or throw
unfoldable pub refused_answer : Refusal → Answer
refused_answer refusal.Discarded = Discarded
refused_answer _ = CopyFailed

-- the answer of a return or throw with that reply, from its answer where it is done
unfoldable pub answer_by_reply : Reply → Answer → Answer
answer_by_reply (reply.Refused r) done = refused_answer r
answer_by_reply _ done = done

-- what a return or throw of call c answers
unfoldable pub answered_by_act : ℕ → Act → Reply → Option Answer
answered_by_act c (act.Return k p) r = if k.0 == c then Some (answer_by_reply r (Value p)) else None
answered_by_act c (act.Throw k p) r = if k.0 == c then Some (answer_by_reply r (thrown p)) else None
answered_by_act c _ r = None

-- whether it is that domain that ends
unfoldable pub ends_domain : Option (ℕ × Reason) → Option ℕ → Bool
ends_domain None d = false
ends_domain (Some x) d = is_number d x.0

-- whether the entry ends the domain of the call's service
unfoldable pub ends_server : Past → ℕ → Entry → Bool
ends_server past c e = ends_domain (ended_by e) (server_of past c)

-- what an entry answers a call, with what came before it
unfoldable pub answered_by : Past → Entry → ℕ → Option Answer
answered_by past e c =
    elim (answered_by_act c e.act e.reply) [ Some a ↦ Some a | None ↦ if ends_server past c e then Some Ended else None ]

-- the answer of a call: the first one that an entry after it gives
unfoldable pub answer_of : Past → ℕ → Option Answer
answer_of past c = first_since (λ before e. answered_by before e c) past c

-- whether the call was made and has no answer
unfoldable pub is_unanswered : Past → ℕ → Bool
is_unanswered past c = is_some (call_entry past c) && is_none (answer_of past c)

-- whether the call is in its queue: neither taken nor answered
unfoldable pub is_queued : Past → ℕ → Bool
is_queued past c = is_unanswered past c && not (is_taken past c)

-- whether the call was taken and has no answer
unfoldable pub is_being_served : Past → ℕ → Bool
is_being_served past c = is_unanswered past c && is_taken past c

-- the call was taken and has no answer
abbrev pub IsBeingServed : Past → ℕ → Type 0
IsBeingServed past c = IsTrue (is_being_served past c)

-- all queued calls, the oldest first
unfoldable pub waiting_calls : Past → List ℕ
waiting_calls past = filter (is_queued past) (up_to (calls_made past))

-- the queue of a service
unfoldable pub queued_calls : Past → ℕ → List ℕ
queued_calls past s = filter (λ c. is_number (service_of_call past c) s) (waiting_calls past)

-- the first call of a service's queue
unfoldable pub queue_head : Past → ℕ → Option ℕ
queue_head past s = slice_get (queued_calls past s) 0

-- whether the call is answered, for a live caller that hasn't gone on after it
unfoldable pub is_resumable : Past → ℕ → Bool
is_resumable past c = is_some (answer_of past c) && has_live_caller past c && not (is_resumed past c)

-- the call is answered, for a live caller that hasn't gone on after it
abbrev pub IsResumable : Past → ℕ → Type 0
IsResumable past c = IsTrue (is_resumable past c)

-- the state of a call, by whether it is resumed, its answer, and whether it is taken
unfoldable pub call_stage : Bool → Option Answer → Bool → CallState
call_stage resumed answer taken =
    if resumed then call.Resumed
    else elim answer [ Some a ↦ call.Answered (answer_kind a) | None ↦ if taken then call.Running else call.Queued ]

-- where the call stands
unfoldable pub call_state : Past → ℕ → CallState
call_state past c = call_stage (is_resumed past c) (answer_of past c) (is_taken past c)

-- what a computed case opens
unfoldable pub opened_calls : Unit {0}
unfolding asked_by queued_as is_call call_entry asked_of service_of_call server_of caller_of has_live_caller is_take_of is_answer_to is_resume_of first_since marked is_taken is_resumed answer_kind thrown refused_answer answer_by_reply answered_by_act ends_domain ends_server answered_by answer_of is_unanswered is_queued is_being_served waiting_calls queued_calls queue_head is_resumable call_stage call_state
opened_calls = tt
