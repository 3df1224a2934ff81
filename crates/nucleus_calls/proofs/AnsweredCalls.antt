-- A return or a throw: the tables with its entry are those of the past with it.
use Rattle.std.proofs.Common.{◌≡◌, ◌≢◌, refl, sym, ◌∙◌, ap, subst, ℕ, ◌+◌, ◌-◌, ◌≤◌, Bool, true, false, ◌&&◌, List, [], length, arith, Option, Some, None, is_some, if◌then◌else◌, ◌==◌, ◌⊎◌, inl, inr}
use Rattle.std.specs.Option.{option_and_then}
use Rattle.std.proofs.lemmas.List.{length-reverse}
use Rattle.jx_base.specs.declared.act.Act.{Act}
use Rattle.jx_base.specs.declared.act.Act.TheVariants as act
use Rattle.jx_base.specs.declared.act.Entry.{Entry}
use Rattle.jx_base.specs.declared.act.Refusal.{Refusal}
use Rattle.jx_base.specs.declared.act.Refusal.TheVariants as refusal
use Rattle.jx_base.specs.declared.act.Reply.{Reply}
use Rattle.jx_base.specs.declared.act.Reply.TheVariants as reply
use Rattle.jx_base.specs.declared.ids.CallId.{CallId}
use Rattle.jx_base.specs.declared.ids.ServiceId.{ServiceId}
use Rattle.jx_base.specs.declared.program.System.{System}
use Rattle.jx_base.specs.declared.states.AnswerKind.{AnswerKind}
use Rattle.jx_base.specs.declared.states.AnswerKind.TheVariants as kind
use Rattle.jx_base.specs.declared.states.CallState.TheVariants as call
use Rattle.jx_base.specs.declared.states.ThreadState.{ThreadState}
use Rattle.jx_base.specs.declared.states.ThreadState.TheVariants as thread
use Rattle.jx_base.specs.declared.value.Parcel.{Parcel}
use Rattle.jx_base.specs.Basics.{contains_number, passes}
use Rattle.jx_base.specs.Histories.{Past, is_done}
use Rattle.jx_base.proofs.BasicLaws.{ap2}
use Rattle.jx_model.proofs.Acting.{acting_within, domain_cases}
use Rattle.jx_model.proofs.Serving.{in_domain}
use Rattle.jx_model.specs.Calls.{Answer, answer_by_reply, answer_kind, caller_of, has_live_caller, refused_answer, thrown, waiting_calls}
use Rattle.jx_model.specs.Domains.{ended_by, ended_by_act, is_birth, is_live, makes_domain}
use Rattle.jx_model.specs.Legal.{IsNext}
use Rattle.jx_model.specs.Permits.{acting_thread, choice_thread, is_create, is_create_entry, is_ending, is_halt, is_serving, may_perform, zero_may}
use Rattle.jx_model.specs.Replies.{fits_domain_of, holds_all, reply_to, sent_back, ◌refuses◌else◌}
use Rattle.jx_model.specs.Tables.{CallRecord, ObjectRecord, StandsFor, ThreadRecord, call_record, call_records, thread_record}
use Rattle.jx_model.specs.Threads.{running_thread, served_after, service_threads, serving_state, state_after, thread_state}
use Rattle.call_table.specs.CallLists.{IsPending, in_state}
use Rattle.call_table.specs.declared.calls.Call.{Call}
use Rattle.domain_table.specs.DomainLists as Lists
use Rattle.nucleus_calls.proofs.Asked.{sent_with}
use Rattle.nucleus_calls.proofs.CallMoves.{acting_there, kept_alike, runs_pending, server_serves}
use Rattle.nucleus_tables.proofs.EndedFlags.{ended_same}
use Rattle.nucleus_tables.proofs.Entered.{IsBeside, IsMadeOf, LeavesRun, costs_less, run_entered}
use Rattle.nucleus_tables.proofs.MappedLists.{map_changed}
use Rattle.nucleus_tables.proofs.ThreadsMoved.{own_same, thread_there}
use Rattle.nucleus_calls.specs.CallActs.{after_answer, kind_after, place_for, ridden, with_answer_at, with_call, with_carried, with_thread}
use Rattle.jx_model.specs.Holding.{answer_objects, is_drop_of, objects_in, received_objects}
use Rattle.jx_model.specs.MemoryObjects.{ended_object, ends_one_of}
use Rattle.jx_model.specs.Portals.{received_parcel}
use Rattle.memory_objects.specs.ObjectLists.{with_riding}
use Rattle.memory_space.specs.SpaceLists.{SpaceState}
use Rattle.nucleus_tables.proofs.CarriedByCalls.{running_carried}
use Rattle.nucleus_tables.proofs.CarriedObjects.{counted_anew, handed_none}
use Rattle.nucleus_tables.proofs.ObjectsKept.{objects_counted}
use Rattle.nucleus_tables.proofs.OneChanged.{each_left}
use Rattle.parcel_carriage.specs.Carriage.{each_of}
use Rattle.program_model.specs.ParcelParts.{parcel_objects}
use Rattle.table_threads.proofs.CallRecords.{call_record_there}
use Rattle.nucleus_tables.specs.CallTables.{AreCallsOf, call_of, places_of}
use Rattle.nucleus_tables.specs.Inner.{IsOf, IsPermittedIn, kept_in, past_in}
use Rattle.nucleus_tables.specs.PlaceLists.{with_answer}
use Rattle.nucleus_tables.specs.Portals.{HasNoParcel}
use Rattle.nucleus_tables.specs.declared.places.CallPlaces.{CallPlaces}
use Rattle.nucleus_tables.specs.declared.tables.Tables.{Tables}
use Rattle.table_steps.proofs.ActSteps.{stands_after_return, stands_after_throw}
use Rattle.table_steps.specs.Steps as Steps
use Rattle.table_threads.proofs.Actors.{acts_live, live_made}
use Rattle.table_threads.proofs.CallStages.{StandsAt, returns_running, throws_running}
use Rattle.table_threads.specs.CallChanges.{entry}
use Rattle.table_threads.specs.Changes.{changed_at}
use Rattle.table_threads.specs.ThreadChanges.{runs_as, thread_record_after}

-- ---- the kind of the answer

pub kind_of_return : (r : Reply) (p : Parcel) (done : AnswerKind) → done ≡ answer_kind (Answer.Value p) → kind_after done r ≡ answer_kind (answer_by_reply r (Answer.Value p))
unfolding answer_by_reply
kind_of_return (reply.Refused f) p done q = refl
kind_of_return _ p done q = q

pub kind_of_throw : (r : Reply) (p : Parcel) (done : AnswerKind) → done ≡ answer_kind (thrown p) → kind_after done r ≡ answer_kind (answer_by_reply r (thrown p))
unfolding answer_by_reply
kind_of_throw (reply.Refused f) p done q = refl
kind_of_throw _ p done q = q

-- ---- the thread that answers

-- it serves the call
serves_return : (s : System) (past : Past) (d t : ℕ) (c : CallId) (p : Parcel) → acting_thread s past d (act.Return c p) ≡ Some t → passes (is_serving c.0) (thread_state past d t) ≡ true
unfolding is_halt zero_may may_perform choice_thread
serves_return s past d t c p h = by (domain_cases past d t (act.Return c p) (in_domain s past d t (act.Return c p) refl refl h).1)
  where
    by : ((running_thread past d ≡ Some t) × (may_perform past d t (act.Return c p) ≡ true)) ⊎ ((running_thread past d ≡ None) × (is_live past d ≡ true) × (choice_thread past d (act.Return c p) ≡ Some t)) → passes (is_serving c.0) (thread_state past d t) ≡ true
    by (inl m) = m.1
    by (inr m) = cc (m.2)

serves_throw : (s : System) (past : Past) (d t : ℕ) (c : CallId) (p : Parcel) → acting_thread s past d (act.Throw c p) ≡ Some t → passes (is_serving c.0) (thread_state past d t) ≡ true
unfolding is_halt zero_may may_perform choice_thread
serves_throw s past d t c p h = by (domain_cases past d t (act.Throw c p) (in_domain s past d t (act.Throw c p) refl refl h).1)
  where
    by : ((running_thread past d ≡ Some t) × (may_perform past d t (act.Throw c p) ≡ true)) ⊎ ((running_thread past d ≡ None) × (is_live past d ≡ true) × (choice_thread past d (act.Throw c p) ≡ Some t)) → passes (is_serving c.0) (thread_state past d t) ≡ true
    by (inl m) = m.1
    by (inr m) = cc (m.2)

-- what a return or a throw finds: the call runs, in a thread of the domain that has a service
pub record Finds (x : Tables) (d t : ℕ) (c : CallId) : Type 0 where
  pub pending : IsPending x.calls c.0
  pub thread : Lists.HasThread x.domains d t
  pub service : is_some (option_and_then (λ r. r.service) (Lists.thread_in x.domains d t)) ≡ true

-- the service of a thread that serves a call
has_service : (s : System) (x : Tables) (d t c : ℕ) → IsOf s x → is_live (past_in x) d ≡ true → t ≤ length (service_threads (past_in x) d) → passes (is_serving c) (thread_state (past_in x) d t) ≡ true →
    is_some (option_and_then (λ r. r.service) (Lists.thread_in x.domains d t)) ≡ true
unfolding thread_record
has_service s x d t c h l w q =
    ap (λ (o : Option ThreadRecord). is_some (option_and_then (λ r. r.service) o)) (thread_there s x d t h (live_made (past_in x) d l) w) ∙ server_serves (past_in x) d t c q

pub return_finds : (s : System) (x : Tables) (d t : ℕ) (c : CallId) (p : Parcel) → IsPermittedIn s x d t (act.Return c p) → Finds x d t c
unfolding is_halt zero_may
return_finds s x d t c p h =
    record {
      pending = runs_pending s x h.tables c.0 (returns_running s (past_in x) d t c p h.tables.stands.admitted h.thread);
      thread = acting_there s x d t (act.Return c p) h refl refl;
      service =
          has_service s x d t c.0 h.tables (acts_live s (past_in x) d t (act.Return c p) refl refl h.thread) (acting_within s (past_in x) d t (act.Return c p) h.thread)
          (serves_return s (past_in x) d t c p h.thread);
    }

pub throw_finds : (s : System) (x : Tables) (d t : ℕ) (c : CallId) (p : Parcel) → IsPermittedIn s x d t (act.Throw c p) → Finds x d t c
unfolding is_halt zero_may
throw_finds s x d t c p h =
    record {
      pending = runs_pending s x h.tables c.0 (throws_running s (past_in x) d t c p h.tables.stands.admitted h.thread);
      thread = acting_there s x d t (act.Throw c p) h refl refl;
      service =
          has_service s x d t c.0 h.tables (acts_live s (past_in x) d t (act.Throw c p) refl refl h.thread) (acting_within s (past_in x) d t (act.Throw c p) h.thread)
          (serves_throw s (past_in x) d t c p h.thread);
    }

-- ---- the entry

-- memory after an answer with that place, where it has one
abbrev space_after : SpaceState → Option ℕ → Parcel → SpaceState
space_after space None p = space
space_after space (Some place) p = ridden p space

-- the objects that it carries
abbrev objects_at : Option ℕ → Parcel → List ℕ
objects_at None p = []
objects_at (Some place) p = parcel_objects p

-- so the tables are told by their parts
carried_as : (x : Tables) (o : Option ℕ) (p : Parcel) → with_carried x o p ≡ record x { space = record x.space { objects = (space_after x.space o p).objects } }
carried_as x None p = refl
carried_as x (Some place) p = refl

module _ (s : System) (x : Tables) (d t : ℕ) (c : CallId) (a : Act) (r : Reply) (answer : Answer) (kind : AnswerKind) (k : ServiceId) (p : Parcel) (w : kind ≡ answer_kind answer) where
  abbrev sent : Entry
  sent = entry d t a r

  abbrev answered : CallRecord → CallRecord
  answered = Steps.answered_call answer (length (past_in x))

  abbrev calls_with : List CallRecord
  calls_with = changed_at (c.0 - 1) answered (call_records (past_in x))

  -- the tables after such an answer
  abbrev placed : Option ℕ
  placed = place_for kind (length x.journal.entries)

  abbrev sent_tables : Tables
  sent_tables = with_answer_at (with_call (with_thread x d t (thread.Idle k)) c (call.Answered kind)) c placed

  abbrev after : Tables
  after = record sent_tables { space = record x.space { objects = (space_after x.space placed p).objects } }

  tables_with : IsOf s x → AreCallsOf calls_with after.calls.calls after.places.places
  tables_with h =
      record {
        calls_are =
            ap (λ (items : List Call). changed_at (c.0 - 1) (in_state (call.Answered kind)) items) h.calls.calls_are
            ∙ sym (map_changed call_of (c.0 - 1) answered (in_state (call.Answered kind)) (call_records (past_in x))
            (λ item. ap (λ (z : AnswerKind). in_state (call.Answered z) (call_of item)) (sym w)));
        places_are =
            ap (λ (items : List CallPlaces). changed_at (c.0 - 1) (with_answer (place_for kind (length x.journal.entries))) items) h.calls.places_are
            ∙ sym (map_changed places_of (c.0 - 1) answered (with_answer (place_for kind (length x.journal.entries))) (call_records (past_in x))
            (λ item. ap2 (λ (z : AnswerKind) (n : ℕ). with_answer (place_for z n) (places_of item)) (sym w) (length-reverse x.journal.entries)));
      }

  -- the objects that the answer carries ride
  rides : IsOf s x → 1 ≤ d → StandsAt (past_in x) c.0 call.Running → answer_objects (Some answer) ≡ objects_at placed p →
      LeavesRun sent → ((m : ℕ) → contains_number (received_objects a r) m ≡ false) → ((m : ℕ) → is_drop_of m a ≡ false) → ((line : List ℕ) → ends_one_of line sent ≡ false) →
      Steps.handed_objects (kept_in x) sent calls_with ≡ after.space.objects
  unfolding call_record contains_number
  rides h l stands o leaves g n z =
      handed_none sent leaves.ended l (kept_in x) calls_with g n z
      ∙ counted_anew (c.0 - 1) answered (call_records (past_in x)) (call_record (past_in x) c.0) (call_record_there (past_in x) c.0 (c.0 - 1) (omega (arith, stands.low)) stands.high) x.space.objects
      (running_carried (past_in x) c.0 stands.state)
      ∙ ap2 (λ (xs : List ℕ) (os : List ObjectRecord). each_of xs (with_riding (λ n. n + 1)) os) o (objects_counted s x h)
      ∙ by placed
    where
      by : (o : Option ℕ) → each_of (objects_at o p) (with_riding (λ n. n + 1)) x.space.objects ≡ (space_after x.space o p).objects
      by None = each_left (λ m r. r) 1 x.space.objects (λ m r _. refl)
      by (Some i) = refl

  none_after : (o : Option ℕ) (p : Parcel) → x.space.objects ≡ [] → (space_after x.space o p).objects ≡ []
  none_after None p q = q
  none_after (Some i) p q = ap (each_of (parcel_objects p) (with_riding (λ n. n + 1))) q

  -- its entry was made, where the thread is idle after it
  sent_put : IsPermittedIn s x d t a → Steps.handed_objects (kept_in x) sent calls_with ≡ after.space.objects → LeavesRun sent → r ≡ reply_to s (past_in x) d a →
      ((item : ThreadRecord) → Lists.thread_in x.domains d t ≡ Some item → thread_record_after item a r ≡ Lists.with_state (thread.Idle k) item) →
      StandsFor s (Steps.after_answer (kept_in x) sent c.0 answer) → IsMadeOf s x after sent
  sent_put h riding l q idle stands =
      let waiting : List ℕ = waiting_calls (past_in x) in
      let beside : IsBeside s x after sent calls_with = record {
        limit = refl;
        boots = refl;
        words = refl;
        ended = h.tables.ended ∙ sym (ended_same s sent (past_in x) l.ended);
        serving = h.tables.serving;
        cost = costs_less s x sent h.tables;
        calls_are = tables_with h.tables;
        call_room = refl;
        place_room = refl;
        no_objects = none_after placed p h.tables.no_objects;
        no_extents = h.tables.no_extents;
      } in
      run_entered s x after d t a r calls_with waiting h l q refl refl refl beside
      (kept_alike s (record (Steps.with_entry (kept_in x) sent) { calls = calls_with; waiting = waiting })
      (Steps.moved_threads (kept_in x) sent) after.domains.threads (Steps.handed_objects (kept_in x) sent calls_with) after.space.objects
      (own_same x.domains d t (λ item. thread_record_after item a r) (Lists.with_state (thread.Idle k)) idle)
      riding
      stands)

-- ---- returns and throws

never : (b : Bool) → (b && false) ≡ false
never true = refl
never false = refl

-- the objects of an answer of a kind that carries them are those of the parcel
return_objects : (r : Reply) (p : Parcel) (done : AnswerKind) (n : ℕ) → done ≡ answer_kind (Answer.Value p) →
    answer_objects (Some (answer_by_reply r (Answer.Value p))) ≡ objects_at (place_for (kind_after done r) n) p
unfolding answer_by_reply answer_objects answer_kind refused_answer
return_objects (reply.Refused refusal.Discarded) p done n w = refl
return_objects (reply.Refused f) p done n w = refl
return_objects r p done n w = ap (λ (k : AnswerKind). objects_at (place_for k n) p) (sym w)

throw_objects : (r : Reply) (p : Parcel) (done : AnswerKind) (n : ℕ) → done ≡ answer_kind (thrown p) →
    answer_objects (Some (answer_by_reply r (thrown p))) ≡ objects_at (place_for (kind_after done r) n) p
unfolding answer_by_reply answer_objects answer_kind refused_answer thrown
throw_objects (reply.Refused refusal.Discarded) p done n w = refl
throw_objects (reply.Refused f) p done n w = refl
throw_objects r p done n w = by (length p.roots == 0) ∙ ap (λ (k : AnswerKind). objects_at (place_for k n) p) (sym w)
  where
    by : (b : Bool) → answer_objects (Some (if b then Answer.CopyFailed else Answer.Thrown p)) ≡ objects_at (place_for (answer_kind (if b then Answer.CopyFailed else Answer.Thrown p)) n) p
    by true = refl
    by false = refl

return_leaves : (d t : ℕ) (c : CallId) (p : Parcel) (r : Reply) → LeavesRun (entry d t (act.Return c p) r)
unfolding is_ending is_create_entry is_create is_birth makes_domain ended_by ended_by_act
return_leaves d t c p r = record { going = refl; create = refl; birth = refl; ended = refl }

throw_leaves : (d t : ℕ) (c : CallId) (p : Parcel) (r : Reply) → LeavesRun (entry d t (act.Throw c p) r)
unfolding is_ending is_create_entry is_create is_birth makes_domain ended_by ended_by_act
throw_leaves d t c p r = record { going = refl; create = refl; birth = refl; ended = refl }

-- a thread of a service is idle after it
idle_after : (k : ServiceId) (item : ThreadRecord) (a : Act) (r : Reply) → item.service ≡ Some k → served_after item.serves a ≡ None → state_after (thread.Idle k) a r ≡ thread.Idle k →
    thread_record_after item a r ≡ Lists.with_state (thread.Idle k) item
unfolding serving_state
idle_after k item a r q n e =
    ap2 (λ (v : Option ServiceId) (o : Option CallId). let z : ThreadRecord = record { service = item.service; state = state_after (runs_as v o) a r; serves = o } in z) q n
    ∙ ap (λ (z : ThreadState). let w : ThreadRecord = record { service = item.service; state = z; serves = None } in w) e

module _ (s : System) (x : Tables) (d t : ℕ) (c : CallId) (p : Parcel) (r : Reply) (done : AnswerKind) (k : ServiceId) (there : Some k ≡ option_and_then (λ r. r.service) (Lists.thread_in x.domains d t)) where
  its_service : (item : ThreadRecord) → Lists.thread_in x.domains d t ≡ Some item → item.service ≡ Some k
  its_service item q = sym (ap (option_and_then (λ (r : ThreadRecord). r.service)) q) ∙ sym there

  -- the domain that answers was made
  pub return_low : IsPermittedIn s x d t (act.Return c p) → 1 ≤ d
  unfolding is_halt zero_may
  return_low h = (live_made (past_in x) d (acts_live s (past_in x) d t (act.Return c p) refl refl h.thread)).low

  pub throw_low : IsPermittedIn s x d t (act.Throw c p) → 1 ≤ d
  unfolding is_halt zero_may
  throw_low h = (live_made (past_in x) d (acts_live s (past_in x) d t (act.Throw c p) refl refl h.thread)).low

  return_rides : IsPermittedIn s x d t (act.Return c p) → (w : done ≡ answer_kind (Answer.Value p)) →
      Steps.handed_objects (kept_in x) (entry d t (act.Return c p) r) (calls_with s x d t c (act.Return c p) r (answer_by_reply r (Answer.Value p)) (kind_after done r) k p (kind_of_return r p done w))
      ≡ (space_after x.space (place_for (kind_after done r) (length x.journal.entries)) p).objects
  unfolding received_objects objects_in received_parcel contains_number is_drop_of ends_one_of passes ended_object
  return_rides h w =
      rides s x d t c (act.Return c p) r (answer_by_reply r (Answer.Value p)) (kind_after done r) k p (kind_of_return r p done w) h.tables (return_low h)
      (returns_running s (past_in x) d t c p h.tables.stands.admitted h.thread) (return_objects r p done (length x.journal.entries) w) (return_leaves d t c p r) (λ m. refl) (λ m. refl) (λ line. never (is_done r))

  throw_rides : IsPermittedIn s x d t (act.Throw c p) → (w : done ≡ answer_kind (thrown p)) →
      Steps.handed_objects (kept_in x) (entry d t (act.Throw c p) r) (calls_with s x d t c (act.Throw c p) r (answer_by_reply r (thrown p)) (kind_after done r) k p (kind_of_throw r p done w))
      ≡ (space_after x.space (place_for (kind_after done r) (length x.journal.entries)) p).objects
  unfolding received_objects objects_in received_parcel contains_number is_drop_of ends_one_of passes ended_object
  throw_rides h w =
      rides s x d t c (act.Throw c p) r (answer_by_reply r (thrown p)) (kind_after done r) k p (kind_of_throw r p done w) h.tables (throw_low h)
      (throws_running s (past_in x) d t c p h.tables.stands.admitted h.thread) (throw_objects r p done (length x.journal.entries) w) (throw_leaves d t c p r) (λ m. refl) (λ m. refl) (λ line. never (is_done r))

  pub return_entered : IsPermittedIn s x d t (act.Return c p) → done ≡ answer_kind (Answer.Value p) → r ≡ sent_back s (past_in x) d c.0 p →
      IsMadeOf s x (after_answer x d t c done r k p) (entry d t (act.Return c p) r)
  unfolding reply_to state_after served_after
  return_entered h w q =
      let answer : Answer = answer_by_reply r (Answer.Value p) in
      let next : IsNext s (past_in x) (entry d t (act.Return c p) r) = record { thread = h.thread; well_made = h.may_come.well_made; reply = q } in
      subst (λ (y : Tables). IsMadeOf s x y (entry d t (act.Return c p) r)) (sym (carried_as _ (place_for (kind_after done r) (length x.journal.entries)) p))
      (sent_put s x d t c (act.Return c p) r answer (kind_after done r) k p (kind_of_return r p done w) h (return_rides h w) (return_leaves d t c p r) q
      (λ item z. idle_after k item (act.Return c p) r (its_service item z) refl refl)
      (stands_after_return s (kept_in x) d t c p r h.tables.stands next))

  pub throw_entered : IsPermittedIn s x d t (act.Throw c p) → done ≡ answer_kind (thrown p) → r ≡ sent_back s (past_in x) d c.0 p →
      IsMadeOf s x (after_answer x d t c done r k p) (entry d t (act.Throw c p) r)
  unfolding reply_to state_after served_after
  throw_entered h w q =
      let answer : Answer = answer_by_reply r (thrown p) in
      let next : IsNext s (past_in x) (entry d t (act.Throw c p) r) = record { thread = h.thread; well_made = h.may_come.well_made; reply = q } in
      subst (λ (y : Tables). IsMadeOf s x y (entry d t (act.Throw c p) r)) (sym (carried_as _ (place_for (kind_after done r) (length x.journal.entries)) p))
      (sent_put s x d t c (act.Throw c p) r answer (kind_after done r) k p (kind_of_throw r p done w) h (throw_rides h w) (throw_leaves d t c p r) q
      (λ item z. idle_after k item (act.Throw c p) r (its_service item z) refl refl)
      (stands_after_throw s (kept_in x) d t c p r h.tables.stands next))

-- ---- what is replied

-- the reply carries no parcel
pub sent_answers : (s : System) (past : Past) (d c : ℕ) (p : Parcel) → HasNoParcel (sent_back s past d c p)
unfolding sent_back ◌refuses◌else◌
sent_answers s past d c p = by (has_live_caller past c) (holds_all past d p) (fits_domain_of s past (caller_of past c) p)
  where
    by : (l b f : Bool) → HasNoParcel (sent_with l b f)
    by false b f = tt
    by true false f = tt
    by true true false = tt
    by true true true = tt

-- ---- kinds of answers

-- what is refused for another reason than that its caller has gone was not copied
pub other_refusal : (r : Refusal) → r ≢ refusal.Discarded → refused_answer r ≡ Answer.CopyFailed
unfolding refused_answer
other_refusal refusal.Discarded n = absurd (n refl)
other_refusal _ n = refl

-- a throw with no root is one of nothing
pub thrown_by : (p : Parcel) (b : Bool) → (length p.roots == 0) ≡ b → answer_kind (thrown p) ≡ (if b then kind.CopyFailed else kind.Thrown)
unfolding thrown answer_kind
thrown_by p true q = ap (λ (b : Bool). answer_kind (if b then Answer.CopyFailed else Answer.Thrown p)) q
thrown_by p false q = ap (λ (b : Bool). answer_kind (if b then Answer.CopyFailed else Answer.Thrown p)) q

-- ---- the journal

-- it is as before
pub answer_keeps : (x : Tables) (d t : ℕ) (c : CallId) (done : AnswerKind) (r : Reply) (k : ServiceId) (p : Parcel) → (after_answer x d t c done r k p).journal ≡ x.journal
answer_keeps x d t c done r k p = by (place_for (kind_after done r) (length x.journal.entries))
  where
    by : (o : Option ℕ) → (with_carried (with_answer_at (with_call (with_thread x d t (thread.Idle k)) c (call.Answered (kind_after done r))) c o) o p).journal ≡ x.journal
    by None = refl
    by (Some i) = refl
