-- What a table of calls is seen as: a plain list, the call of number n at place n - 1.
use Rattle.std.specs.Prelude.{◌≡◌, ℕ, ◌+◌, ◌≤◌, ◌==◌, ◌&&◌, ◌||◌, Bool, true, false, List, Option, IsSomeAnd, if◌then◌else◌}
use Rattle.std.specs.List.{position}
use Rattle.std.specs.Option.{option_map}
use Rattle.jx_base.specs.declared.ids.DomainId.{DomainId}
use Rattle.jx_base.specs.declared.ids.ServiceId.{ServiceId}
use Rattle.jx_base.specs.declared.ids.ThreadId.{ThreadId}
use Rattle.jx_base.specs.declared.states.AnswerKind.TheVariants as kind
use Rattle.jx_base.specs.declared.states.CallState.{CallState}
use Rattle.jx_base.specs.declared.states.CallState.TheVariants as call
use Rattle.jx_base.specs.Basics.{numbered}
use Rattle.call_table.specs.declared.calls.Call.{Call}

-- the calls, and how many there may be
pub record CallsState : Type 0 where
  pub calls : List Call
  pub limit : ℕ

-- ---- where a call stands

-- whether a call in that state is in a queue
abbrev pub is_queued_call : CallState → Bool
is_queued_call call.Queued = true
is_queued_call _ = false

-- whether one is being served
abbrev pub is_running_call : CallState → Bool
is_running_call call.Running = true
is_running_call _ = false

-- whether one has an answer after which its caller has not gone on
abbrev pub is_answered_call : CallState → Bool
is_answered_call (call.Answered kind) = true
is_answered_call _ = false

-- whether the call is in the queue of the service
abbrev pub is_queued_for : ℕ → Call → Bool
is_queued_for s c = (c.service.0 == s) && is_queued_call c.state

-- whether the service serves the call
abbrev pub is_running_for : ℕ → Call → Bool
is_running_for s c = (c.service.0 == s) && is_running_call c.state

-- whether the service owes the call an answer
abbrev pub is_pending_for : ℕ → Call → Bool
is_pending_for s c = is_queued_for s c || is_running_for s c

-- ---- calls of the table

-- 1 to 256
abbrev pub IsService : ℕ → Type 0
IsService s = (1 ≤ s) × (s ≤ 256)

-- the call was made, and waits for its answer
abbrev pub IsPending : CallsState → ℕ → Type 0
IsPending x n = IsSomeAnd (numbered x.calls n) (λ c. (is_queued_call c.state || is_running_call c.state) ≡ true)

-- the call was made and answered, and its caller has not gone on
abbrev pub IsAnswered : CallsState → ℕ → Type 0
IsAnswered x n = IsSomeAnd (numbered x.calls n) (λ c. is_answered_call c.state ≡ true)

-- the least number of a queued call of the service
abbrev pub first_queued : CallsState → ℕ → Option ℕ
first_queued x s = option_map (λ i. i + 1) (position (is_queued_for s) x.calls)

-- ---- changes

-- a queued call
abbrev pub new_call : DomainId → ThreadId → ServiceId → Call
new_call caller thread service = record { caller = caller; thread = thread; service = service; state = call.Queued }

-- a call in another state
abbrev pub in_state : CallState → Call → Call
in_state state c = record c { state = state }

-- a call after the end of the service
abbrev pub ended_for : ℕ → Call → Call
ended_for s c = if is_pending_for s c then in_state (call.Answered kind.Ended) c else c
