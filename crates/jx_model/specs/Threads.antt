-- The threads of a domain, and what each one does: that is told by the call that it serves, and by whether
-- its last own entry made it stop.
use Rattle.std.specs.Prelude.{ℕ, zero, suc, ◌+◌, Bool, true, false, ◌&&◌, List, [], ◌∷◌, ◌++◌, length, replicate, Option, Some, None, ◌==◌, if◌then◌else◌, find, slice_get}
use Rattle.std.specs.List.{range_with_len}
use Rattle.jx_base.specs.declared.act.Act.{Act}
use Rattle.jx_base.specs.declared.act.Act.TheVariants as act
use Rattle.jx_base.specs.declared.act.Reply.{Reply}
use Rattle.jx_base.specs.declared.act.Reply.TheVariants as reply
use Rattle.jx_base.specs.declared.act.Entry.{Entry}
use Rattle.jx_base.specs.declared.ids.ServiceId.{ServiceId}
use Rattle.jx_base.specs.declared.ids.CallId.{CallId}
use Rattle.jx_base.specs.declared.states.ThreadState.{ThreadState}
use Rattle.jx_base.specs.declared.states.ThreadState.TheVariants as thread
use Rattle.jx_base.specs.Basics.{passes}
use Rattle.jx_base.specs.Histories.{Past, is_own}
use Rattle.jx_model.specs.Domains.{is_live}
use Rattle.std.specs.Option.{option_map}

-- the services of the threads that an export adds
unfoldable pub new_threads : Act → Reply → List ServiceId
new_threads (act.Export iface k) (reply.Service s c) = replicate k s
new_threads _ _ = []

-- the services of the threads that an entry adds to domain d
unfoldable pub new_threads_of : ℕ → Entry → List ServiceId
new_threads_of d e = if is_own d e then new_threads e.act e.reply else []

-- the services of a domain's service threads, that of thread 1 first
unfoldable pub service_threads : Past → ℕ → List ServiceId
service_threads [] d = []
service_threads (e ∷ past) d = service_threads past d ++ new_threads_of d e

-- the numbers of a domain's threads
unfoldable pub threads_of : Past → ℕ → List ℕ
threads_of past d = range_with_len 0 (length (service_threads past d) + 1)

-- whether thread t of domain d performed the entry
unfoldable pub is_of_thread : ℕ → ℕ → Entry → Bool
is_of_thread d t e = is_own d e && (e.thread.0 == t)

-- the call that a thread serves after its own act
unfoldable pub served_after : Option CallId → Act → Option CallId
served_after old (act.Take c) = Some c
served_after old (act.Return c p) = None
served_after old (act.Throw c p) = None
served_after old _ = old

-- the call that a thread serves: the one that it took last and hasn't answered
unfoldable pub served_call : Past → ℕ → ℕ → Option CallId
served_call [] d t = None
served_call (e ∷ past) d t =
    let before : Option CallId = served_call past d t in elim (is_of_thread d t e) [ true ↦ served_after before e.act | false ↦ before ]

-- what a thread does after its own entry, from what it does where that doesn't make it stop
unfoldable pub state_after : ThreadState → Act → Reply → ThreadState
state_after runs (act.Call s m p) (reply.Queued c) = thread.Waiting c
state_after runs act.Yield r = thread.Yielded
state_after runs (act.EndThread k) r = thread.Over
state_after runs _ _ = runs

-- what a thread does by its last entry
unfoldable pub state_by_last : ThreadState → Option Entry → ThreadState
state_by_last runs None = runs
state_by_last runs (Some e) = state_after runs e.act e.reply

-- what a service thread does where its last entry didn't make it stop: it serves its call, or is idle
unfoldable pub serving_state : ServiceId → Option CallId → ThreadState
serving_state s None = thread.Idle s
serving_state s (Some c) = thread.Serving c

-- the last entry of a thread
unfoldable pub last_of_thread : Past → ℕ → ℕ → Option Entry
last_of_thread past d t = find (is_of_thread d t) past

-- the state of a thread, where the domain has it. Thread 0 runs until its last entry makes it stop, and so
-- does a service thread, which else serves its call or is idle
unfoldable pub thread_state : Past → ℕ → ℕ → Option ThreadState
thread_state past d zero = Some (state_by_last thread.Running (last_of_thread past d 0))
thread_state past d (suc t) =
    option_map
    (λ s. state_by_last (serving_state s (served_call past d (suc t))) (last_of_thread past d (suc t)))
    (slice_get (service_threads past d) t)

-- whether a thread in that state runs
unfoldable pub is_running_state : ThreadState → Bool
is_running_state thread.Running = true
is_running_state (thread.Serving c) = true
is_running_state _ = false

-- the least thread in a state that passes
unfoldable pub thread_where : Past → ℕ → (ThreadState → Bool) → Option ℕ
thread_where past d p = find (λ t. passes p (thread_state past d t)) (threads_of past d)

-- the running thread of a live domain
unfoldable pub running_thread : Past → ℕ → Option ℕ
running_thread past d = if is_live past d then thread_where past d is_running_state else None

-- what a computed case opens
unfoldable pub opened_threads : Unit {0}
unfolding new_threads new_threads_of service_threads threads_of is_of_thread served_after served_call state_after state_by_last serving_state last_of_thread thread_state is_running_state thread_where running_thread
opened_threads = tt
