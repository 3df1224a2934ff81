-- Which acts may come next, and in which thread.
use Rattle.std.specs.Prelude.{ℕ, Bool, true, false, ◌&&◌, ◌||◌, not, List, length, Option, Some, None, is_none, is_some, ◌==◌, if◌then◌else◌, filter, find, slice_get, IsSome}
use Rattle.std.specs.List.{list_any, range_with_len}
use Rattle.jx_base.specs.declared.act.Act.{Act}
use Rattle.jx_base.specs.declared.act.Act.TheVariants as act
use Rattle.jx_base.specs.declared.act.Entry.{Entry}
use Rattle.jx_base.specs.declared.states.ThreadState.{ThreadState}
use Rattle.jx_base.specs.declared.states.ThreadState.TheVariants as thread
use Rattle.jx_base.specs.declared.program.System.{System}
use Rattle.jx_base.specs.Basics.{passes, is_number, up_to, first_some}
use Rattle.jx_base.specs.Histories.{Past, count_where}
use Rattle.jx_model.specs.Journal.{is_full}
use Rattle.jx_model.specs.Domains.{domains_made, is_live}
use Rattle.jx_model.specs.Threads.{service_threads, thread_state, thread_where, threads_of, running_thread}
use Rattle.jx_model.specs.Calls.{queue_head, is_resumable, service_of_call, server_of}
use Rattle.std.specs.Option.{option_and_then, option_map, option_or}

-- ---- kinds of acts

-- whether the act is one of Domain Zero's
unfoldable pub is_zero_act : Act → Bool
is_zero_act (act.Create t) = true
is_zero_act act.Quiet = true
is_zero_act act.Halt = true
is_zero_act _ = false

-- whether the act is a choice of what a domain does next
unfoldable pub is_choice : Act → Bool
is_choice (act.Take c) = true
is_choice (act.Resume c) = true
is_choice (act.Go t) = true
is_choice _ = false

-- whether the act ends the run
unfoldable pub is_ending : Act → Bool
is_ending act.Quiet = true
is_ending act.Halt = true
is_ending _ = false

-- whether the act is a halt
unfoldable pub is_halt : Act → Bool
is_halt act.Halt = true
is_halt _ = false

-- whether the act is a create
unfoldable pub is_create : Act → Bool
is_create (act.Create t) = true
is_create _ = false

-- whether the run is over
unfoldable pub is_over : Past → Bool
is_over past = list_any (λ e. is_ending e.act) past

-- ---- the boot domains

-- whether that template is created at the start
unfoldable pub is_boot_template : System → ℕ → Bool
is_boot_template s t = passes (λ x. x.boot) (slice_get s.plan.templates t)

-- the templates that are created at the start, in the plan's order
unfoldable pub boot_templates : System → List ℕ
boot_templates s = filter (is_boot_template s) (range_with_len 0 (length s.plan.templates))

-- whether the entry is a create
unfoldable pub is_create_entry : Entry → Bool
is_create_entry e = is_create e.act

-- how many creates stand in the past, refused ones too
abbrev pub creates_made : Past → ℕ
creates_made past = count_where is_create_entry past

-- the boot template that comes next
unfoldable pub next_boot : System → Past → Option ℕ
next_boot s past = slice_get (boot_templates s) (creates_made past)

-- ---- choices

-- whether a thread in that state is idle for service s
unfoldable pub is_idle_for : ℕ → ThreadState → Bool
is_idle_for s (thread.Idle k) = k.0 == s
is_idle_for s _ = false

-- whether a thread in that state waits for call c
unfoldable pub is_waiting_for : ℕ → ThreadState → Bool
is_waiting_for c (thread.Waiting k) = k.0 == c
is_waiting_for c _ = false

-- whether a thread in that state has yielded
unfoldable pub is_yielded : ThreadState → Bool
is_yielded thread.Yielded = true
is_yielded _ = false

-- whether the call is the first in the queue of a service of d
unfoldable pub is_head : Past → ℕ → ℕ → Bool
is_head past d c = is_number (server_of past c) d && is_number (option_and_then (queue_head past) (service_of_call past c)) c

-- the lowest idle thread of the service
unfoldable pub idle_thread : Past → ℕ → ℕ → Option ℕ
idle_thread past d s = thread_where past d (is_idle_for s)

-- the thread that takes the call, where it is the first of its queue
unfoldable pub taking_thread : Past → ℕ → ℕ → Option ℕ
taking_thread past d c = if is_head past d c then option_and_then (idle_thread past d) (service_of_call past c) else None

-- the thread that goes on after the call
unfoldable pub resuming_thread : Past → ℕ → ℕ → Option ℕ
resuming_thread past d c = if is_resumable past c then thread_where past d (is_waiting_for c) else None

-- the thread, where it has yielded
unfoldable pub going_thread : Past → ℕ → ℕ → Option ℕ
going_thread past d t = if passes is_yielded (thread_state past d t) then Some t else None

-- the thread that a choice lets run
unfoldable pub choice_thread : Past → ℕ → Act → Option ℕ
choice_thread past d (act.Take c) = taking_thread past d c.0
choice_thread past d (act.Resume c) = resuming_thread past d c.0
choice_thread past d (act.Go t) = going_thread past d t.0
choice_thread past d _ = None

-- ---- the first choice

-- a resume, where a thread in that state can go on
unfoldable pub resume_in : Past → ThreadState → Option Act
resume_in past (thread.Waiting c) = if is_resumable past c.0 then Some (act.Resume c) else None
resume_in past _ = None

-- the resume of a thread
unfoldable pub resume_at : Past → ℕ → ℕ → Option Act
resume_at past d t = option_and_then (resume_in past) (thread_state past d t)

-- the take of a service's first call, where a thread of it is idle
unfoldable pub take_at : Past → ℕ → ℕ → Option Act
take_at past d s = if is_some (idle_thread past d s) then option_map (λ c. act.Take (record { 0 = c })) (queue_head past s) else None

-- the go of a thread
unfoldable pub go_at : Past → ℕ → ℕ → Option Act
go_at past d t = option_map (λ k. act.Go (record { 0 = k })) (going_thread past d t)

-- the first of a domain's choices: resumes by thread, then takes by service, then goes by thread
unfoldable pub first_of_choices : Past → ℕ → Option Act
first_of_choices past d =
    option_or (first_some (resume_at past d) (threads_of past d))
    (option_or (first_some (λ s. take_at past d s.0) (service_threads past d)) (first_some (go_at past d) (threads_of past d)))

-- the first choice of a live domain in which no thread runs
unfoldable pub first_choice : Past → ℕ → Option Act
first_choice past d = if is_live past d && is_none (running_thread past d) then first_of_choices past d else None

-- ---- what is permitted

-- whether a live domain has a running thread or a choice
unfoldable pub can_act : Past → ℕ → Bool
can_act past d = is_some (running_thread past d) || is_some (first_choice past d)

-- the least domain that can act
unfoldable pub first_alive : Past → Option ℕ
first_alive past = find (can_act past) (up_to (domains_made past))

-- whether a thread in that state serves call c
unfoldable pub is_serving : ℕ → ThreadState → Bool
is_serving c (thread.Serving k) = k.0 == c
is_serving c _ = false

-- whether the running thread t may perform the act
unfoldable pub may_perform : Past → ℕ → ℕ → Act → Bool
may_perform past d t (act.Return c p) = passes (is_serving c.0) (thread_state past d t)
may_perform past d t (act.Throw c p) = passes (is_serving c.0) (thread_state past d t)
may_perform past d t (act.EndThread c) = t == 0
may_perform past d t a = not (is_zero_act a) && not (is_choice a)

-- the thread of an act of a domain, where it may come
unfoldable pub domain_thread : Past → ℕ → Act → Option ℕ
domain_thread past d a =
    elim (running_thread past d) [
      | Some t ↦ if may_perform past d t a then Some t else None
      | None ↦ if is_live past d then choice_thread past d a else None
    ]

-- whether Domain Zero may perform the act while the journal has room
unfoldable pub zero_may : System → Past → Act → Bool
zero_may s past (act.Create t) = is_number (next_boot s past) t
zero_may s past act.Quiet = is_none (next_boot s past) && is_none (first_alive past)
zero_may s past _ = false

-- whether Domain Zero may perform the act: in a full journal the halt alone
unfoldable pub zero_may_now : System → Past → Act → Bool
zero_may_now s past a = if is_full s past then is_halt a else zero_may s past a

-- whether domains wait: for the journal's halt, or for the start to be done
unfoldable pub domains_wait : System → Past → Bool
domains_wait s past = is_full s past || is_some (next_boot s past)

-- the thread of an act, where it is permitted. Domain Zero's is 0
unfoldable pub acting_thread : System → Past → ℕ → Act → Option ℕ
acting_thread s past d a =
    if is_over past then None
    else if d == 0 then (if zero_may_now s past a then Some 0 else None)
    else if domains_wait s past then None else domain_thread past d a

-- the act may come next
abbrev pub IsPermitted : System → Past → ℕ → Act → Type 0
IsPermitted s past d a = IsSome (acting_thread s past d a)

-- what a computed case opens
unfoldable pub opened_permits : Unit {0}
unfolding is_zero_act is_choice is_ending is_halt is_create is_over is_boot_template boot_templates is_create_entry next_boot is_idle_for is_waiting_for is_yielded is_head idle_thread taking_thread resuming_thread going_thread choice_thread resume_in resume_at take_at go_at first_of_choices first_choice can_act first_alive is_serving may_perform domain_thread zero_may zero_may_now domains_wait acting_thread
opened_permits = tt
