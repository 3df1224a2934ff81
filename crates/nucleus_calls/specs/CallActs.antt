-- What calls, takes, answers and resumes do to the tables.
use Rattle.std.specs.List.{AllByRecursion}
use Rattle.std.specs.Prelude.{◌≡◌, ◌⊎◌, ℕ, ◌+◌, ◌-◌, [], ◌∷◌, ◌++◌, length, Option, Some, None, if◌then◌else◌}
use Rattle.jx_base.specs.declared.act.Act.{Act}
use Rattle.jx_base.specs.declared.act.Act.TheVariants as act
use Rattle.jx_base.specs.declared.act.Reply.{Reply}
use Rattle.jx_base.specs.declared.act.Reply.TheVariants as reply
use Rattle.jx_base.specs.declared.ids.CallId.{CallId}
use Rattle.jx_base.specs.declared.ids.DomainId.{DomainId}
use Rattle.jx_base.specs.declared.ids.ServiceId.{ServiceId}
use Rattle.jx_base.specs.declared.ids.ThreadId.{ThreadId}
use Rattle.jx_base.specs.declared.states.AnswerKind.{AnswerKind}
use Rattle.jx_base.specs.declared.states.CallState.{CallState}
use Rattle.jx_base.specs.declared.states.CallState.TheVariants as call
use Rattle.jx_base.specs.declared.states.ThreadState.{ThreadState}
use Rattle.jx_base.specs.declared.states.ThreadState.TheVariants as thread
use Rattle.jx_base.specs.declared.value.Parcel.{Parcel}
use Rattle.call_table.specs.CallLists.{in_state, new_call}
use Rattle.domain_table.specs.DomainLists as Lists
use Rattle.jx_model.specs.Calls.{answer_kind, refused_answer}
use Rattle.jx_model.specs.Portals.{received_parcel}
use Rattle.nucleus_tables.specs.CallTables.{has_parcel}
use Rattle.nucleus_tables.specs.PlaceLists.{new_places, with_answer}
use Rattle.nucleus_tables.specs.declared.tables.Tables.{Tables}
use Rattle.memory_objects.specs.ObjectLists.{CanRide, IsKept, IsRiding}
use Rattle.memory_space.specs.SpaceLists.{SpaceState, objects_in, with_objects}
use Rattle.parcel_carriage.specs.Carriage.{with_given, with_portals, with_riders, without_riders}
use Rattle.portal_table.specs.ServiceLists.{IsService}
use Rattle.program_model.specs.ParcelParts.{parcel_objects, parcel_portals}
use Rattle.table_threads.specs.Changes.{changed_at}
use Rattle.table_threads.specs.ThreadChanges.{own_changed}

-- the objects of the parcel are kept, and one call more can be counted that carries them
pub record CanCarry (x : Tables) (p : Parcel) : Type 0 where
  pub kept : AllByRecursion (IsKept (objects_in x.space)) (parcel_objects p)
  pub few : AllByRecursion (CanRide (objects_in x.space)) (parcel_objects p)

-- the portals of the parcel are of services, and its objects are kept and carried
pub record CanReceive (x : Tables) (p : Parcel) : Type 0 where
  pub portals : AllByRecursion (IsService x.services) (parcel_portals p)
  pub kept : AllByRecursion (IsKept (objects_in x.space)) (parcel_objects p)
  pub riding : AllByRecursion (IsRiding (objects_in x.space)) (parcel_objects p)

-- memory, of which one call more carries the objects of the parcel
abbrev pub ridden : Parcel → SpaceState → SpaceState
ridden p space = with_objects space (with_riders p (objects_in space))

-- memory, of which the domain holds the objects of the parcel, and one call less carries them
abbrev pub received : ℕ → Parcel → SpaceState → SpaceState
received d p space = with_objects space (without_riders p (with_given d p (objects_in space)))

-- the tables with a thread in that state
abbrev pub with_thread : Tables → ℕ → ℕ → ThreadState → Tables
with_thread x d t state =
    record x { domains = record x.domains { threads = own_changed d t (Lists.with_state state) x.domains.threads } }

-- the tables with a call in that state
abbrev pub with_call : Tables → CallId → CallState → Tables
with_call x c state =
    record x { calls = record x.calls { calls = changed_at (c.0 - 1) (in_state state) x.calls.calls } }

-- the tables with the place of a call's answer, or with none
abbrev pub with_answer_at : Tables → CallId → Option ℕ → Tables
with_answer_at x c place =
    record x { places = record x.places { places = changed_at (c.0 - 1) (with_answer place) x.places.places } }

-- the number of the next call
abbrev pub next_call : Tables → CallId
next_call x = record { 0 = length x.calls.calls + 1 }

-- a call more with that parcel, for whose answer the thread waits
abbrev pub with_queued : Tables → DomainId → ThreadId → ServiceId → Parcel → Tables
with_queued x d t k p =
    record (with_thread x d.0 t.0 (thread.Waiting (next_call x))) {
      calls = record x.calls { calls = x.calls.calls ++ new_call d t k ∷ [] };
      places = record x.places { places = x.places.places ++ new_places (length x.journal.entries) ∷ [] };
      space = ridden p x.space;
    }

-- the domain has the portals and the objects of the parcel, where one came
abbrev pub with_received : Tables → ℕ → Option Parcel → Tables
with_received x d None = x
with_received x d (Some p) = record x { services = with_portals d p x.services; space = received d p x.space }

-- the thread serves the call, and its domain has what the parcel carries
abbrev pub with_taken : Tables → ℕ → ℕ → CallId → Option Parcel → Tables
with_taken x d t c p = with_received (with_call (with_thread x d t (thread.Serving c)) c call.Running) d p

-- an answer with that place, where it has one, carries the objects of the parcel
abbrev pub with_carried : Tables → Option ℕ → Parcel → Tables
with_carried x None p = x
with_carried x (Some place) p = record x { space = ridden p x.space }

-- the call has an answer of that kind with the parcel, whose place is that, and the thread that gave it is idle
abbrev pub with_sent : Tables → ℕ → ℕ → CallId → AnswerKind → Option ℕ → ServiceId → Parcel → Tables
with_sent x d t c kind place k p =
    with_carried (with_answer_at (with_call (with_thread x d t (thread.Idle k)) c (call.Answered kind)) c place) place p

-- the caller goes on, and its domain has what the parcel carries that came
abbrev pub with_resumed : Tables → ℕ → ℕ → CallId → ThreadState → Option Parcel → Tables
with_resumed x d t c state p =
    with_received (with_answer_at (with_call (with_thread x d t state) c call.Resumed) c None) d p

-- a return or a throw of the call with that parcel
abbrev pub IsAnswerAct : Act → CallId → Parcel → Type 0
IsAnswerAct a c p = (a ≡ act.Return c p) ⊎ (a ≡ act.Throw c p)

-- ---- by the reply

-- it is queued under the next number, or refused
abbrev pub IsCallReply : Tables → Reply → Type 0
IsCallReply x (reply.Queued c) = c ≡ next_call x
IsCallReply x (reply.Refused r) = Unit {0}
IsCallReply x _ = ⊥

-- what a call does, by its reply
abbrev pub after_call : Tables → DomainId → ThreadId → ServiceId → Parcel → Reply → Tables
after_call x d t k p (reply.Queued c) = with_queued x d t k p
after_call x d t k p _ = x

-- the kind of an answer with that reply, where a done one is of that kind
abbrev pub kind_after : AnswerKind → Reply → AnswerKind
kind_after done (reply.Refused r) = answer_kind (refused_answer r)
kind_after done _ = done

-- the place of an answer of that kind, where that carries a parcel
abbrev pub place_for : AnswerKind → ℕ → Option ℕ
place_for kind at = if has_parcel (call.Answered kind) then Some at else None

-- what an answer with the parcel and that reply does, where a done one is of that kind and the thread is of that service
abbrev pub after_answer : Tables → ℕ → ℕ → CallId → AnswerKind → Reply → ServiceId → Parcel → Tables
after_answer x d t c done r k p =
    with_sent x d t c (kind_after done r) (place_for (kind_after done r) (length x.journal.entries)) k p

-- what a take of the call does, by its reply
abbrev pub after_take : Tables → ℕ → ℕ → CallId → Reply → Tables
after_take x d t c r = with_taken x d t c (received_parcel (act.Take c) r)

-- what a resume after the call does, by its reply
abbrev pub after_resume : Tables → ℕ → ℕ → CallId → ThreadState → Reply → Tables
after_resume x d t c state r = with_resumed x d t c state (received_parcel (act.Resume c) r)
