-- What a nucleus keeps, as plain lists read off its past. Thing number n stands at place n - 1.
use Rattle.std.specs.Prelude.{◌≡◌, ℕ, zero, suc, ◌+◌, ◌==◌, ◌&&◌, Bool, true, false, List, [], ◌∷◌, length, map, Option, Some, None, slice_get, if◌then◌else◌}
use Rattle.std.specs.List.{range_with_len}
use Rattle.std.specs.Str.{bytes_eq}
use Rattle.jx_base.specs.declared.act.Entry.{Entry}
use Rattle.jx_base.specs.declared.ids.CallId.{CallId}
use Rattle.jx_base.specs.declared.ids.ClassId.{ClassId}
use Rattle.jx_base.specs.declared.ids.ServiceId.{ServiceId}
use Rattle.jx_base.specs.declared.states.CallState.{CallState}
use Rattle.jx_base.specs.declared.states.DomainState.{DomainState}
use Rattle.jx_base.specs.declared.states.ThreadState.{ThreadState}
use Rattle.jx_base.specs.declared.states.ThreadState.TheVariants as thread
use Rattle.jx_base.specs.declared.program.System.{System}
use Rattle.jx_base.specs.Basics.{up_to}
use Rattle.program_model.specs.Limits.{domain_limit, granule_limit}
use Rattle.jx_base.specs.Histories.{Past, count_where}
use Rattle.jx_model.specs.Domains.{domains_made, template_of, creator_of, heap_place_of, end_reason}
use Rattle.jx_model.specs.Threads.{service_threads, thread_state, threads_of, served_call}
use Rattle.jx_model.specs.Portals.{services_made, owner_of, interface_of, holds_portal, last_bound}
use Rattle.jx_model.specs.Calls.{is_call, calls_made, call_state, call_entry, first_since, answered_by, waiting_calls, service_of_call, caller_of}
use Rattle.jx_model.specs.MemoryObjects.{Part, objects_of, objects_made, is_valid, extents_made, allocation_of, allocated_bytes}
use Rattle.jx_model.specs.Holding.{holds_object, riding_count, carried, is_extent_in_use}
use Rattle.jx_model.specs.Granules.{Run, extent_run, is_used_granule}
use Rattle.jx_model.specs.Bytes.{byte_at}
use Rattle.jx_model.specs.Journal.{words_of}
use Rattle.jx_model.specs.Permits.{is_over, creates_made}
use Rattle.jx_model.specs.Legal.{IsAdmittedPast}
use Rattle.std.specs.Option.{option_map, unwrap_or}

-- ---- domains and threads

-- a domain
unfoldable pub domain_record : System → Past → ℕ → DomainState
domain_record s past d =
    record {
      template = unwrap_or (template_of s past d) 0;
      creator = record { 0 = unwrap_or (creator_of past d) 0 };
      at = unwrap_or (heap_place_of past d) 0;
      ended = end_reason past d;
    }

-- all domains
unfoldable pub domain_records : System → Past → List DomainState
domain_records s past = map (domain_record s past) (up_to (domains_made past))

-- the service of a thread; thread 0 has none
abbrev pub service_of_thread : Past → ℕ → ℕ → Option ServiceId
service_of_thread past d zero = None
service_of_thread past d (suc t) = slice_get (service_threads past d) t

-- a thread: its service, what it does, and the call that it serves also while it waits or has yielded
pub record ThreadRecord : Type 0 where
  pub service : Option ServiceId
  pub state : ThreadState
  pub serves : Option CallId

-- the state that is there
unfoldable pub state_or_over : Option ThreadState → ThreadState
state_or_over None = thread.Over
state_or_over (Some x) = x

-- a thread of a domain
unfoldable pub thread_record : Past → ℕ → ℕ → ThreadRecord
thread_record past d t =
    record {
      service = service_of_thread past d t;
      state = state_or_over (thread_state past d t);
      serves = served_call past d t;
    }

-- the threads of a domain, thread 0 first
unfoldable pub thread_records : Past → ℕ → List ThreadRecord
thread_records past d = map (thread_record past d) (threads_of past d)

-- ---- services

-- a service: its owner, its interface, and for each number of a domain whether it holds a portal
pub record ServiceRecord : Type 0 where
  pub owner : ℕ
  pub interface : Option ClassId
  pub holders : List Bool

-- for each number of a domain, whether that domain holds a portal to the service
abbrev pub portal_flags : System → Past → ℕ → List Bool
portal_flags s past k = map (λ d. holds_portal past d k) (up_to (domain_limit s))

-- a service
unfoldable pub service_record : System → Past → ℕ → ServiceRecord
service_record s past k =
    record {
      owner = unwrap_or (owner_of past k) 0;
      interface = interface_of past k;
      holders = portal_flags s past k;
    }

-- all services
unfoldable pub service_records : System → Past → List ServiceRecord
service_records s past = map (service_record s past) (up_to (services_made past))

-- the service that a list of binds has for the name: that of the first bind that stands there
unfoldable pub named_service : List (List ℕ × ℕ) → List ℕ → Option ℕ
named_service [] name = None
named_service (x ∷ xs) name = if bytes_eq x.0 name then Some x.1 else named_service xs name

-- ---- calls

-- a call: its caller, the caller's thread, its service, where it stands, the objects that it carries,
-- and the places in the history of the entries that queued it and that answered it
pub record CallRecord : Type 0 where
  pub caller : ℕ
  pub thread : ℕ
  pub service : ℕ
  pub state : CallState
  pub carried : List ℕ
  pub queued_at : ℕ
  pub answered_at : Option ℕ

-- the thread that made the call
unfoldable pub calling_thread : Past → ℕ → Option ℕ
calling_thread past c = option_map (λ e. e.thread.0) (call_entry past c)

-- the place in the history of the n-th entry that passes, the oldest at 0
unfoldable pub place_of : (Entry → Bool) → Past → ℕ → Option ℕ
place_of p [] n = None
place_of p (e ∷ past) n =
    elim (p e && (n == count_where p past + 1)) [ true ↦ Some (length past) | false ↦ place_of p past n ]

-- the place in the history of the entry that queued the call
unfoldable pub queued_at : Past → ℕ → Option ℕ
queued_at past c = place_of is_call past c

-- the place in the history of the entry that answered the call
unfoldable pub answered_at : Past → ℕ → Option ℕ
answered_at past c = first_since (λ before e. option_map (λ a. length before) (answered_by before e c)) past c

-- a call
unfoldable pub call_record : Past → ℕ → CallRecord
call_record past c =
    record {
      caller = unwrap_or (caller_of past c) 0;
      thread = unwrap_or (calling_thread past c) 0;
      service = unwrap_or (service_of_call past c) 0;
      state = call_state past c;
      carried = carried past c;
      queued_at = unwrap_or (queued_at past c) 0;
      answered_at = answered_at past c;
    }

-- all calls
unfoldable pub call_records : Past → List CallRecord
call_records past = map (call_record past) (up_to (calls_made past))

-- ---- memory objects

-- an object: whether it is valid, for each number of a domain whether it holds it, and how many
-- calls carry it
pub record ObjectRecord : Type 0 where
  pub valid : Bool
  pub holders : List Bool
  pub riding : ℕ

-- for each number of a domain, whether that domain holds the object
abbrev pub holder_flags : System → Past → ℕ → List Bool
holder_flags s past m = map (λ d. holds_object past d m) (up_to (domain_limit s))

-- an object
unfoldable pub object_record : System → Past → ℕ → ObjectRecord
object_record s past m =
    record { valid = is_valid past m; holders = holder_flags s past m; riding = riding_count past m }

-- all objects
unfoldable pub object_records : System → Past → List ObjectRecord
object_records s past = map (object_record s past) (up_to (objects_made past))

-- ---- extents and granules

-- the bytes that an extent was made with
unfoldable pub extent_size : Past → ℕ → ℕ
extent_size past x = unwrap_or (option_map (λ e. allocated_bytes e.act) (allocation_of past x)) 0

-- the bytes of an extent
unfoldable pub extent_bytes : Past → ℕ → List ℕ
extent_bytes past x = map (byte_at past x) (range_with_len 0 (extent_size past x))

-- an extent: its granules, and its bytes, which are kept while it is in use
pub record ExtentRecord : Type 0 where
  pub run : Run
  pub bytes : Option (List ℕ)

-- an extent
unfoldable pub extent_record : Past → ℕ → ExtentRecord
extent_record past x = record { run = extent_run past x; bytes = if is_extent_in_use past x then Some (extent_bytes past x) else None }

-- all extents
unfoldable pub extent_records : Past → List ExtentRecord
extent_records past = map (extent_record past) (up_to (extents_made past))

-- for each granule, whether it is in use
unfoldable pub granule_flags : System → Past → List Bool
granule_flags s past = map (is_used_granule s past) (range_with_len 0 (granule_limit s))

-- ---- the whole

-- what a nucleus keeps beside its past
pub record Kept : Type 0 where
  pub past : Past
  pub over : Bool
  pub words : ℕ
  pub creates : ℕ
  pub domains : List DomainState
  pub threads : List (List ThreadRecord)
  pub services : List ServiceRecord
  pub names : List (List ℕ × ℕ)
  pub calls : List CallRecord
  pub waiting : List ℕ
  pub parts : List Part
  pub objects : List ObjectRecord
  pub extents : List ExtentRecord
  pub taken : List Bool

-- all that is kept is what the admitted past says
pub record StandsFor (s : System) (k : Kept) : Type 0 where
  pub admitted : IsAdmittedPast s k.past
  pub over : k.over ≡ is_over k.past
  pub words : k.words ≡ words_of k.past
  pub creates : k.creates ≡ creates_made k.past
  pub domains : k.domains ≡ domain_records s k.past
  pub threads : k.threads ≡ map (thread_records k.past) (up_to (domains_made k.past))
  pub services : k.services ≡ service_records s k.past
  pub names : (name : List ℕ) → named_service k.names name ≡ last_bound k.past name
  pub calls : k.calls ≡ call_records k.past
  pub waiting : k.waiting ≡ waiting_calls k.past
  pub parts : k.parts ≡ objects_of k.past
  pub objects : k.objects ≡ object_records s k.past
  pub extents : k.extents ≡ extent_records k.past
  pub taken : k.taken ≡ granule_flags s k.past

-- what a computed case opens
unfoldable pub opened_tables : Unit {0}
unfolding domain_record domain_records state_or_over thread_record thread_records service_record service_records named_service calling_thread place_of queued_at answered_at call_record call_records object_record object_records extent_size extent_bytes extent_record extent_records granule_flags
opened_tables = tt
