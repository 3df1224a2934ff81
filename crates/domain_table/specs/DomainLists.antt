-- What a table of domains is seen as: plain lists, the domain of number n at place n - 1.
use Rattle.std.specs.Prelude.{◌≡◌, ℕ, ◌+◌, ◌≤◌, Bool, List, [], ◌∷◌, ◌++◌, replicate, Option, Some, None, IsSome, IsSomeAnd, length, slice_get}
use Rattle.std.specs.List.{position}
use Rattle.std.specs.Option.{option_and_then, option_map, unwrap_or}
use Rattle.jx_base.specs.declared.act.Reason.{Reason}
use Rattle.jx_base.specs.declared.ids.CallId.{CallId}
use Rattle.jx_base.specs.declared.ids.DomainId.{DomainId}
use Rattle.jx_base.specs.declared.ids.ServiceId.{ServiceId}
use Rattle.jx_base.specs.declared.states.DomainState.{DomainState}
use Rattle.jx_base.specs.declared.states.ThreadState.{ThreadState}
use Rattle.jx_base.specs.declared.states.ThreadState.TheVariants as thread
use Rattle.jx_base.specs.Basics.{numbered}
use Rattle.jx_model.specs.Tables.{ThreadRecord}
use Rattle.jx_model.specs.Permits.{is_idle_for, is_waiting_for, is_yielded}
use Rattle.jx_model.specs.Threads.{is_running_state}
use Rattle.domain_table.specs.declared.rows.ThreadRow.{ThreadRow}
use Rattle.table_threads.specs.ThreadChanges.{first_records, own_added}

-- ---- threads

-- a thread as the definitions know it
abbrev pub record_of : ThreadRow → ThreadRecord
record_of row = record { service = row.service; state = row.state; serves = row.serves }

-- the threads of a domain, and how many there may be
pub record ThreadsState : Type 0 where
  pub records : List ThreadRecord
  pub room : ℕ

-- the call that a thread serves once it is in a state
abbrev pub served_in : ThreadState → Option CallId → Option CallId
served_in (thread.Serving c) old = Some c
served_in (thread.Idle s) old = None
served_in _ old = old

-- a thread in another state
abbrev pub with_state : ThreadState → ThreadRecord → ThreadRecord
with_state state old = record old { state = state; serves = served_in state old.serves }

abbrev pub is_running : ThreadRecord → Bool
is_running r = is_running_state r.state

abbrev pub has_yielded : ThreadRecord → Bool
has_yielded r = is_yielded r.state

abbrev pub is_idle : ℕ → ThreadRecord → Bool
is_idle k r = is_idle_for k r.state

abbrev pub waits_for : ℕ → ThreadRecord → Bool
waits_for c r = is_waiting_for c r.state

-- ---- domains

-- the domains, the threads of each, how many services were given threads, and how many domains there may be
pub record DomainsState : Type 0 where
  pub domains : List DomainState
  pub threads : List (List ThreadRecord)
  pub services : ℕ
  pub limit : ℕ

-- a live domain
abbrev pub new_domain : ℕ → DomainId → ℕ → DomainState
new_domain template creator at = record { template = template; creator = creator; at = at; ended = None }

-- one domain more, whose first thread runs
abbrev pub with_domain : DomainsState → DomainState → DomainsState
with_domain x domain = record x { domains = x.domains ++ domain ∷ []; threads = x.threads ++ first_records ∷ [] }

-- a domain that ended
abbrev pub ended : Reason → DomainState → DomainState
ended reason domain = record domain { ended = Some reason }

-- idle threads of a service more
abbrev pub with_idle : DomainsState → ℕ → ServiceId → ℕ → DomainsState
with_idle x d service n = record x { threads = own_added d (replicate n service) x.threads; services = x.services + 1 }

-- the threads of a domain
abbrev pub threads_in : DomainsState → ℕ → Option (List ThreadRecord)
threads_in x d = numbered x.threads d

-- a thread of a domain
abbrev pub thread_in : DomainsState → ℕ → ℕ → Option ThreadRecord
thread_in x d t = option_and_then (λ records. slice_get records t) (threads_in x d)

-- the domain was made and has not ended
abbrev pub IsLive : DomainsState → ℕ → Type 0
IsLive x d = IsSomeAnd (numbered x.domains d) (λ domain. domain.ended ≡ None)

-- the domain has the thread
abbrev pub HasThread : DomainsState → ℕ → ℕ → Type 0
HasThread x d t = IsSome (thread_in x d t)

-- 1 to 8 threads
abbrev pub IsThreadCount : ℕ → Type 0
IsThreadCount n = (1 ≤ n) × (n ≤ 8)

-- what there is of a domain, where it lives
abbrev pub of_live : {A : Type 0} → Option Reason → Option A → Option A
of_live None o = o
of_live (Some reason) o = None

-- the threads of a domain, where it lives
abbrev pub live_threads_in : DomainsState → ℕ → Option (List ThreadRecord)
live_threads_in x d = option_and_then (λ domain. of_live domain.ended (threads_in x d)) (numbered x.domains d)

-- the least running thread of a domain, where it lives
abbrev pub running_in : DomainsState → ℕ → Option ℕ
running_in x d = option_and_then (λ records. position is_running records) (live_threads_in x d)

-- the least thread of a domain that has yielded, where it lives
abbrev pub yielded_in : DomainsState → ℕ → Option ℕ
yielded_in x d = option_and_then (λ records. position has_yielded records) (live_threads_in x d)

-- the least idle thread of a domain for the service, where it lives
abbrev pub idle_in : DomainsState → ℕ → ℕ → Option ℕ
idle_in x d k = option_and_then (λ records. position (is_idle k) records) (live_threads_in x d)

-- the least thread of a domain that waits for the call, where it lives
abbrev pub waiting_in : DomainsState → ℕ → ℕ → Option ℕ
waiting_in x d c = option_and_then (λ records. position (waits_for c) records) (live_threads_in x d)

-- how many threads a domain has, where it lives
abbrev pub thread_count : DomainsState → ℕ → ℕ
thread_count x d = unwrap_or (option_map (λ (records : List ThreadRecord). length records) (live_threads_in x d)) 0
