-- How a table of calls keeps its lists.
use Rattle.std.specs.Prelude.{◌≡◌, ◌<◌, ◌≤◌, ◌^◌, ℕ, Bool, List, length, filter, slice_get, vec_capacity}
use Rattle.std.specs.List.{range_with_len}
use Rattle.jx_base.specs.Basics.{passes}
use Rattle.call_table.specs.declared.calls.Call.{Call}
use Rattle.call_table.specs.declared.calls.Calls.TheInside.{Inside}
use Rattle.call_table.specs.CallLists.{CallsState, is_queued_for, is_running_for}
use Rattle.call_table.specs.QueueLists.{QueuesState, has, queue_at}

-- what it is seen as
abbrev pub calls_state : Inside → CallsState
calls_state x = record { calls = x.calls.items; limit = x.limit }

-- the places of the calls that pass, in order
abbrev pub places : (Call → Bool) → List Call → List ℕ
places p calls = filter (λ i. passes p (slice_get calls i)) (range_with_len 0 (length calls))

-- a queue for each number of a service, from 0, and room for each call
pub record IsWide (limit : ℕ) (x : QueuesState) : Type 0 where
  pub queues : length x.queues ≡ 257
  pub room : x.room ≡ limit

-- each call has its place, a service's queue has its queued calls in order, and its other list those that run
pub record IsCalls (x : Inside) : Type 0 where
  pub small : x.limit < 2 ^ 32
  pub count : length x.calls.items ≤ x.limit
  pub capacity : x.limit ≤ vec_capacity x.calls
  pub wide_queued : IsWide x.limit x.queued
  pub wide_running : IsWide x.limit x.running
  pub queued : (s : ℕ) → queue_at x.queued s ≡ places (is_queued_for s) x.calls.items
  pub running : (s i : ℕ) → has (queue_at x.running s) i ≡ passes (is_running_for s) (slice_get x.calls.items i)
