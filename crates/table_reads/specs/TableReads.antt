-- What is permitted, and what replies ask, in words of the tables alone.
use Rattle.std.specs.Prelude.{ℕ, ◌+◌, Bool, true, false, not, ◌&&◌, ◌||◌, List, [], ◌∷◌, Option, Some, None, is_some, is_none, ◌==◌, if◌then◌else◌, filter, slice_get, nat_lt}
use Rattle.jx_base.specs.declared.act.Act.{Act}
use Rattle.jx_base.specs.declared.act.Act.TheVariants as act
use Rattle.jx_base.specs.declared.ids.ServiceId.{ServiceId}
use Rattle.jx_base.specs.declared.states.CallState.{CallState}
use Rattle.jx_base.specs.declared.states.CallState.TheVariants as call
use Rattle.jx_base.specs.declared.states.DomainState.{DomainState}
use Rattle.jx_base.specs.declared.states.ThreadState.{ThreadState}
use Rattle.jx_base.specs.declared.states.ThreadState.TheVariants as thread
use Rattle.jx_base.specs.declared.program.System.{System}
use Rattle.jx_base.specs.Basics.{numbered, passes, first_some, is_number}
use Rattle.jx_model.specs.Threads.{is_running_state}
use Rattle.jx_model.specs.Permits.{is_idle_for, is_yielded, is_waiting_for, is_serving, is_zero_act, is_choice, is_halt, boot_templates}
use Rattle.jx_model.specs.Tables.{ThreadRecord, CallRecord, ServiceRecord}
use Rattle.std.specs.Option.{option_and_then, option_map, option_or}
use Rattle.program_model.specs.Limits.{journal_limit, entry_limit}
use Rattle.table_threads.specs.Changes.{is_set}

-- whether a domain lives, by the records of the domains
abbrev pub lives_in : List DomainState → ℕ → Bool
lives_in items d = passes (λ item. is_none item.ended) (numbered items d)

-- the place of the first item that passes, counted from that number
abbrev pub place_from : {A : Type 0} → (A → Bool) → ℕ → List A → Option ℕ
place_from p a [] = None
place_from p a (x ∷ xs) = elim (p x) [ true ↦ Some a | false ↦ place_from p (a + 1) xs ]

-- the first thread whose state passes, by the records
abbrev pub thread_in : List ThreadRecord → (ThreadState → Bool) → Option ℕ
thread_in items p = place_from (λ item. p item.state) 0 items

-- the running thread, by the records
abbrev pub running_in : List DomainState → List ThreadRecord → ℕ → Option ℕ
running_in domains threads d =
    if lives_in domains d then thread_in threads is_running_state else None

-- whether a call in that state is answered and its caller hasn't gone on
abbrev pub is_answered : CallState → Bool
is_answered (call.Answered k) = true
is_answered _ = false

-- whether a caller can go on after a call, by the records
abbrev pub resumable_in : List DomainState → List CallRecord → ℕ → Bool
resumable_in domains calls c =
    passes (λ item. is_answered item.state && lives_in domains item.caller) (numbered calls c)

-- the first waiting call of a service, by the records
abbrev pub head_in : List CallRecord → List ℕ → ℕ → Option ℕ
head_in calls waiting k =
    slice_get (filter (λ c. passes (λ item. item.service == k) (numbered calls c)) waiting) 0

-- the resume of a thread in that state, by the records
abbrev pub resume_by : List DomainState → List CallRecord → ThreadState → Option Act
resume_by domains calls (thread.Waiting c) =
    if resumable_in domains calls c.0 then Some (act.Resume c) else None
resume_by domains calls _ = None

-- the take of a service's first call where a thread of it is idle, by the records
abbrev pub take_by : List ThreadRecord → List CallRecord → List ℕ → ℕ → Option Act
take_by threads calls waiting k =
    if is_some (thread_in threads (is_idle_for k)) then option_map (λ c. act.Take (record { 0 = c })) (head_in calls waiting k) else None

-- the first choice of a domain with those services, by the records
abbrev pub choice_by : List DomainState → List ThreadRecord → List CallRecord → List ℕ → List ServiceId → ℕ → Option Act
choice_by domains threads calls waiting services d =
    if lives_in domains d && is_none (running_in domains threads d)
    then option_or (first_some (λ item. resume_by domains calls item.state) threads)
    (option_or (first_some (λ k. take_by threads calls waiting k.0) services)
    (option_map (λ t. act.Go (record { 0 = t })) (thread_in threads is_yielded)))
    else None

-- whether a domain can act, by the records
abbrev pub can_act_by : List DomainState → List ThreadRecord → List CallRecord → List ℕ → List ServiceId → ℕ → Bool
can_act_by domains threads calls waiting services d =
    is_some (running_in domains threads d) || is_some (choice_by domains threads calls waiting services d)

-- the service of a call, and its owner, by the records
abbrev pub service_in : List CallRecord → ℕ → Option ℕ
service_in calls c = option_map (λ item. item.service) (numbered calls c)

-- the owner of a service, by the records
abbrev pub owner_in : List ServiceRecord → ℕ → Option ℕ
owner_in services k = option_map (λ item. item.owner) (numbered services k)

-- whether a running thread may perform the act, by the records
abbrev pub performs_by : List ThreadRecord → ℕ → Act → Bool
performs_by items t (act.Return c p) =
    passes (is_serving c.0) (option_map (λ item. item.state) (slice_get items t))
performs_by items t (act.Throw c p) =
    passes (is_serving c.0) (option_map (λ item. item.state) (slice_get items t))
performs_by items t (act.EndThread c) = t == 0
performs_by items t a = not (is_zero_act a) && not (is_choice a)

-- the thread that a choice lets run, by the records
abbrev pub choice_thread_by : List DomainState → List ThreadRecord → List ServiceRecord → List CallRecord → List ℕ → ℕ → Act → Option ℕ
choice_thread_by domains threads services calls waiting d (act.Take c) =
    if is_number (option_and_then (owner_in services) (service_in calls c.0)) d && is_number (option_and_then (head_in calls waiting) (service_in calls c.0)) c.0
    then option_and_then (λ k. thread_in threads (is_idle_for k)) (service_in calls c.0) else None
choice_thread_by domains threads services calls waiting d (act.Resume c) =
    if resumable_in domains calls c.0 then thread_in threads (is_waiting_for c.0) else None
choice_thread_by domains threads services calls waiting d (act.Go t) =
    if passes is_yielded (option_map (λ item. item.state) (slice_get threads t.0)) then Some t.0 else None
choice_thread_by domains threads services calls waiting d _ = None

-- the thread of a domain's act, by the records
abbrev pub domain_thread_by : List DomainState → List ThreadRecord → List ServiceRecord → List CallRecord → List ℕ → ℕ → Act → Option ℕ
domain_thread_by domains threads services calls waiting d a =
    elim (running_in domains threads d) [
      | Some t ↦ if performs_by threads t a then Some t else None
      | None ↦ if lives_in domains d then choice_thread_by domains threads services calls waiting d a else None
    ]

-- whether Domain Zero may perform the act, by the next boot template and the first domain that can act
abbrev pub zero_by : Option ℕ → Option ℕ → Act → Bool
zero_by boot alive (act.Create t) = is_number boot t
zero_by boot alive act.Quiet = is_none boot && is_none alive
zero_by boot alive _ = false

-- the thread of an act, by whether the run is over, the words of the journal, the creates, the first
-- domain that can act, and the thread of the domain's act
abbrev pub acting_by : System → Bool → ℕ → ℕ → Option ℕ → Option ℕ → ℕ → Act → Option ℕ
acting_by s over words creates alive thread d a =
    let full : Bool = nat_lt (journal_limit s) (words + entry_limit s) in
    let boot : Option ℕ = slice_get (boot_templates s) creates in
    if over then None
    else if d == 0 then (if (if full then is_halt a else zero_by boot alive a) then Some 0 else None)
    else if full || is_some boot then None else thread

-- whether the flag of that number is set
abbrev pub flag_at : List Bool → ℕ → Bool
flag_at flags d = passes is_set (numbered flags d)

-- whether the granule's flag is set
abbrev pub is_flagged : List Bool → ℕ → Bool
is_flagged taken g = passes (λ b. b) (slice_get taken g)
