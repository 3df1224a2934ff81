-- All that is kept, at the start and with one more entry.
use Rattle.std.specs.Prelude.{ℕ, ◌+◌, ◌-◌, Bool, false, not, ◌&&◌, ◌||◌, List, [], ◌∷◌, ◌++◌, length, map, filter, replicate, Some, None, is_some, ◌==◌, nat_lt, if◌then◌else◌}
use Rattle.std.specs.List.{list_any, cons_option}
use Rattle.std.specs.Option.{option_and_then, option_map, unwrap_or}
use Rattle.jx_base.specs.declared.act.Entry.{Entry}
use Rattle.jx_base.specs.declared.ids.ServiceId.{ServiceId}
use Rattle.jx_base.specs.declared.ids.ClassId.{ClassId}
use Rattle.jx_base.specs.declared.states.CallState.TheVariants as call
use Rattle.jx_base.specs.declared.value.Parcel.{Parcel}
use Rattle.jx_base.specs.declared.act.Reason.{Reason}
use Rattle.jx_base.specs.declared.program.System.{System}
use Rattle.jx_base.specs.declared.states.DomainState.{DomainState}
use Rattle.jx_base.specs.Basics.{up_to, passes, numbered, is_number, contains_number}
use Rattle.program_model.specs.ParcelParts.{parcel_objects}
use Rattle.program_model.specs.Limits.{granule_limit}
use Rattle.jx_model.specs.Journal.{entry_words}
use Rattle.jx_model.specs.Domains.{named_template, reply_granule}
use Rattle.jx_model.specs.MemoryObjects.{Part, allocated_bytes, lineage_of}
use Rattle.jx_model.specs.Granules.{Run, heap_granules, extent_granules, lies_in, lies_in_one}
use Rattle.jx_model.specs.Calls.{Answer, answer_kind}
use Rattle.jx_model.specs.Holding.{answer_objects}
use Rattle.jx_model.specs.Permits.{is_ending, is_create_entry}
use Rattle.jx_model.specs.Tables.{Kept, ThreadRecord, ServiceRecord, CallRecord, ObjectRecord, ExtentRecord}
use Rattle.table_threads.specs.Changes.{is_set, each_from, each_record, changed_at}
use Rattle.table_threads.specs.ThreadChanges.{born, first_records, thread_record_after, own_changed, own_added}
use Rattle.table_threads.specs.CallChanges.{ended_call}
use Rattle.table_objects.specs.HolderChanges.{portals_after}
use Rattle.table_objects.specs.ObjectChanges.{new_service_record, new_object_record, object_record_after}
use Rattle.table_extents.specs.ExtentChanges.{written}
use Rattle.table_reads.specs.TableReads.{owner_in, service_in}

-- what is kept before the first entry
abbrev pub first_kept : System → Kept
first_kept s =
    record {
      past = [];
      over = false;
      words = 0;
      creates = 0;
      domains = [];
      threads = [];
      services = [];
      names = [];
      calls = [];
      waiting = [];
      parts = [];
      objects = [];
      extents = [];
      taken = replicate (granule_limit s) false;
    }

-- what is kept with the entry, before what its act does to the tables
abbrev pub with_entry : Kept → Entry → Kept
with_entry k e =
    record k {
      past = e ∷ k.past;
      over = is_ending e.act || k.over;
      words = k.words + entry_words e;
      creates = k.creates + (if is_create_entry e then 1 else 0);
    }

-- whether a record counts as held or carried, and is valid
abbrev pub is_record_used : ObjectRecord → Bool
is_record_used item = item.valid && (list_any is_set item.holders || nat_lt 0 item.riding)

-- whether an extent is in use, by the parts and the records of the objects
abbrev pub in_use_by : List Part → List ObjectRecord → ℕ → Bool
in_use_by parts objects x =
    list_any (λ m. passes (λ o. o.extent == x) (numbered parts m) && passes is_record_used (numbered objects m))
    (up_to (length parts))

-- the run of a new domain's heap
abbrev pub born_run : System → Entry → Run
born_run s e =
    (reply_granule e.reply, unwrap_or (option_map (heap_granules s) (named_template s e.act)) 0)

-- the run of a new extent
abbrev pub allocated_run : Entry → Run
allocated_run e = (reply_granule e.reply, extent_granules (allocated_bytes e.act))

-- ---- what acts change

-- the threads, with the record of the entry's own changed
abbrev pub moved_threads : Kept → Entry → List (List ThreadRecord)
moved_threads k e =
    own_changed e.domain.0 e.thread.0 (λ item. thread_record_after item e.act e.reply) k.threads

-- the services, with who holds them after the entry
abbrev pub handed_services : Kept → Entry → List ServiceRecord
handed_services k e =
    each_record (λ j item. record item { holders = portals_after e j item.holders }) k.services

-- the objects after the entry, with those calls
abbrev pub handed_objects : Kept → Entry → List CallRecord → List ObjectRecord
handed_objects k e calls = each_record (object_record_after e k.parts calls) k.objects

-- the granules in use with those of a run
abbrev pub with_run : Run → List Bool → List Bool
with_run run taken = each_from (λ g used. used || lies_in g run) 0 taken

-- after a create or spawn that makes a domain
abbrev pub after_birth : System → Kept → Entry → Kept
after_birth s k e =
    record (with_entry k e) {
      domains = k.domains ++ born s e ∷ [];
      threads = k.threads ++ first_records ∷ [];
      taken = with_run (born_run s e) k.taken;
    }

-- after an export that makes a service with so many threads
abbrev pub after_export : System → Kept → Entry → ServiceId → ClassId → ℕ → Kept
after_export s k e service interface count =
    record (with_entry k e) {
      threads = own_added e.domain.0 (replicate count service) k.threads;
      services = k.services ++ new_service_record s e.domain.0 (Some interface) ∷ [];
    }

-- after a bind
abbrev pub after_bind : Kept → Entry → List ℕ → ServiceId → Kept
after_bind k e name service = record (with_entry k e) { names = (name, service.0) ∷ k.names }

-- after a lookup that finds a service
abbrev pub after_lookup : Kept → Entry → Kept
after_lookup k e = record (with_entry k e) { services = handed_services k e }

-- the record of a call that the entry queues
abbrev pub queued_call : Kept → Entry → ServiceId → Parcel → CallRecord
queued_call k e service parcel =
    record {
      caller = e.domain.0;
      thread = e.thread.0;
      service = service.0;
      state = call.Queued;
      carried = parcel_objects parcel;
      queued_at = length k.past;
      answered_at = None;
    }

-- after a call that is queued
abbrev pub after_call : Kept → Entry → ServiceId → Parcel → Kept
after_call k e service parcel =
    let calls : List CallRecord = k.calls ++ queued_call k e service parcel ∷ [] in
    record (with_entry k e) {
      threads = moved_threads k e;
      calls = calls;
      waiting = k.waiting ++ (length k.calls + 1) ∷ [];
      objects = handed_objects k e calls;
    }

-- the record of a call that is taken
abbrev pub taken_call : CallRecord → CallRecord
taken_call item = record item { state = call.Running; carried = [] }

-- after a take of the call
abbrev pub after_take : Kept → Entry → ℕ → Kept
after_take k e c =
    let calls : List CallRecord = changed_at (c - 1) taken_call k.calls in
    record (with_entry k e) {
      threads = moved_threads k e;
      services = handed_services k e;
      calls = calls;
      waiting = filter (λ x. not (c == x)) k.waiting;
      objects = handed_objects k e calls;
    }

-- the record of a call with that answer, given at that place
abbrev pub answered_call : Answer → ℕ → CallRecord → CallRecord
answered_call x at item =
    record item {
      state = call.Answered (answer_kind x);
      carried = answer_objects (Some x);
      answered_at = Some at;
    }

-- after a return or throw that gives the call that answer
abbrev pub after_answer : Kept → Entry → ℕ → Answer → Kept
after_answer k e c x =
    let calls : List CallRecord = changed_at (c - 1) (answered_call x (length k.past)) k.calls in
    record (with_entry k e) {
      threads = moved_threads k e;
      calls = calls;
      objects = handed_objects k e calls;
    }

-- the record of a call after which its caller goes on
abbrev pub resumed_call : CallRecord → CallRecord
resumed_call item = record item { state = call.Resumed; carried = [] }

-- after a resume behind the call
abbrev pub after_resume : Kept → Entry → ℕ → Kept
after_resume k e c =
    let calls : List CallRecord = changed_at (c - 1) resumed_call k.calls in
    record (with_entry k e) {
      threads = moved_threads k e;
      services = handed_services k e;
      calls = calls;
      objects = handed_objects k e calls;
    }

-- the part of a new object that has an extent of its own
abbrev pub whole_part : Kept → ℕ → Part
whole_part k size = record { parent = 0; extent = length k.extents + 1; from = 0; size = size }

-- the record of a new extent of zeros
abbrev pub new_extent : Entry → ℕ → ExtentRecord
new_extent e size = record { run = allocated_run e; bytes = Some (replicate size 0) }

-- after an allocation of so many bytes
abbrev pub after_alloc : System → Kept → Entry → ℕ → Kept
after_alloc s k e size =
    record (with_entry k e) {
      parts = k.parts ++ whole_part k size ∷ [];
      objects = k.objects ++ new_object_record s e.domain.0 ∷ [];
      extents = k.extents ++ new_extent e size ∷ [];
      taken = with_run (allocated_run e) k.taken;
    }

-- after a sub that makes that part
abbrev pub after_sub : System → Kept → Entry → Part → Kept
after_sub s k e part =
    record (with_entry k e) {
      parts = k.parts ++ part ∷ [];
      objects = k.objects ++ new_object_record s e.domain.0 ∷ [];
    }

-- the objects, of which m and what is derived from it are valid no more
abbrev pub revoked_objects : Kept → ℕ → List ObjectRecord
revoked_objects k m =
    each_record (λ j item. record item { valid = item.valid && not (contains_number (lineage_of k.parts j) m) })
    k.objects

-- after a split or revoke of object m that makes so many parts
abbrev pub after_revoke : System → Kept → Entry → ℕ → List Part → ℕ → Kept
after_revoke s k e m parts count =
    record (with_entry k e) {
      parts = k.parts ++ parts;
      objects = revoked_objects k m ++ replicate count (new_object_record s e.domain.0);
    }

-- the record of an extent with so many bytes from there written
abbrev pub written_extent : ℕ → ℕ → (ℕ → ℕ) → ExtentRecord → ExtentRecord
written_extent from count f item = record item { bytes = option_map (written 0 from count f) item.bytes }

-- after a write of so many bytes from there in an object of that part
abbrev pub after_write : Kept → Entry → Part → ℕ → ℕ → (ℕ → ℕ) → Kept
after_write k e part at count f =
    record (with_entry k e) {
      extents = changed_at (part.extent - 1) (written_extent (part.from + at) count f) k.extents;
    }

-- ---- what ends

-- whether domain d owns the service
abbrev pub owns : List ServiceRecord → ℕ → ℕ → Bool
owns services d k = is_number (owner_in services k) d

-- whether the call is to a service of domain d
abbrev pub is_call_to : List ServiceRecord → List CallRecord → ℕ → ℕ → Bool
is_call_to services calls d c =
    is_number (option_and_then (owner_in services) (service_in calls c)) d

-- the run of a domain's heap, by its record
abbrev pub heap_of : System → DomainState → Run
heap_of s item = (item.at, heap_granules s item.template)

-- the run of the heap of domain d
abbrev pub heap_in : System → List DomainState → ℕ → Run
heap_in s domains d = unwrap_or (option_map (heap_of s) (numbered domains d)) (0, 0)

-- the runs of extents, counted from that number, that were in use and are no more with these objects
abbrev pub freed_from : List Part → List ObjectRecord → ℕ → List ExtentRecord → List Run
freed_from parts objects x [] = []
freed_from parts objects x (item ∷ items) =
    cons_option (if is_some item.bytes && not (in_use_by parts objects x) then Some item.run else None)
    (freed_from parts objects (x + 1) items)

-- the extents, with the bytes of those that are in use with these objects
abbrev pub kept_extents : List Part → List ObjectRecord → List ExtentRecord → List ExtentRecord
kept_extents parts objects items =
    each_record (λ x item. record item { bytes = if in_use_by parts objects x then item.bytes else None })
    items

-- the granules in use without those of the runs
abbrev pub without_runs : List Run → List Bool → List Bool
without_runs runs taken = each_from (λ g used. used && not (lies_in_one runs g)) 0 taken

-- ---- all that is kept after a release, and after the end of a domain

-- after a release
abbrev pub after_release : Kept → Entry → Kept
after_release k e =
    let objects : List ObjectRecord = handed_objects k e k.calls in
    record (with_entry k e) {
      objects = objects;
      extents = kept_extents k.parts objects k.extents;
      taken = without_runs (freed_from k.parts objects 1 k.extents) k.taken;
    }

-- after an entry that ends domain d for that reason
abbrev pub after_end : System → Kept → Entry → ℕ → Reason → Kept
after_end s k e d why =
    let calls : List CallRecord = map (ended_call (owns k.services d) d (length k.past)) k.calls in
    let objects : List ObjectRecord = handed_objects k e calls in
    record (with_entry k e) {
      domains = changed_at (d - 1) (λ item. record item { ended = Some why }) k.domains;
      services = handed_services k e;
      calls = calls;
      waiting = filter (λ c. not (is_call_to k.services k.calls d c)) k.waiting;
      objects = objects;
      extents = kept_extents k.parts objects k.extents;
      taken = without_runs (heap_in s k.domains d ∷ freed_from k.parts objects 1 k.extents) k.taken;
    }
