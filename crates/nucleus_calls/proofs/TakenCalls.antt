-- A take: the tables with its entry are those of the past with it.
use Rattle.std.proofs.Common.{◌≡◌, ◌≢◌, refl, sym, ◌∙◌, ap, subst, ℕ, suc, zero, ◌+◌, ◌-◌, ◌≤◌, true, false, not, ◌&&◌, Bool, List, [], ◌∷◌, filter, map, Option, Some, None, is_some, arith, slice_get, if◌then◌else◌, ◌==◌}
use Rattle.std.specs.Option.{option_and_then, option_map}
use Rattle.jx_base.specs.declared.act.Act.{Act}
use Rattle.jx_base.specs.declared.act.Act.TheVariants as act
use Rattle.jx_base.specs.declared.act.Entry.{Entry}
use Rattle.jx_base.specs.declared.act.Reply.{Reply}
use Rattle.jx_base.specs.declared.act.Reply.TheVariants as reply
use Rattle.jx_base.specs.declared.ids.CallId.{CallId}
use Rattle.jx_base.specs.declared.ids.MethodId.{MethodId}
use Rattle.jx_base.specs.declared.ids.ServiceId.{ServiceId}
use Rattle.jx_base.specs.declared.program.System.{System}
use Rattle.jx_base.specs.declared.states.CallState.{CallState}
use Rattle.jx_base.specs.declared.states.CallState.TheVariants as call
use Rattle.jx_base.specs.declared.states.ThreadState.TheVariants as thread
use Rattle.jx_base.specs.declared.value.Parcel.{Parcel}
use Rattle.jx_base.specs.Basics.{is_number, numbered, passes}
use Rattle.jx_base.specs.Histories.{Past, is_done}
use Rattle.jx_base.proofs.BasicLaws.{ap3, both}
use Rattle.jx_model.proofs.Acting.{acting_within, chosen, of_then, where_passes}
use Rattle.jx_model.proofs.Serving.{in_domain, is_it, of_none}
use Rattle.jx_model.specs.Calls.{Asked, asked_of, is_queued, queue_head, server_of, service_of_call, waiting_calls}
use Rattle.jx_model.specs.Domains.{ended_by, ended_by_act, is_birth, is_live, makes_domain}
use Rattle.jx_model.specs.Journal.{act_words, reply_words}
use Rattle.jx_model.specs.Legal.{IsNext}
use Rattle.jx_model.specs.Permits.{acting_thread, choice_thread, domain_thread, idle_thread, is_choice, is_create, is_create_entry, is_ending, is_halt, is_head, is_idle_for, is_zero_act, may_perform, taking_thread, zero_may}
use Rattle.jx_model.specs.Portals.{received_parcel, received_service}
use Rattle.jx_model.specs.Replies.{job_of, reply_to}
use Rattle.jx_model.specs.Tables.{CallRecord, ThreadRecord, call_record, call_records, service_of_thread, thread_record}
use Rattle.jx_model.specs.Threads.{last_of_thread, running_thread, served_after, served_call, service_threads, serving_state, state_after, state_by_last, thread_state}
use Rattle.call_table.specs.CallLists.{first_queued, in_state}
use Rattle.call_table.specs.declared.calls.Call.{Call}
use Rattle.domain_flags.specs.FlagLists.{IsDomain}
use Rattle.domain_table.specs.DomainLists as Lists
use Rattle.journal.specs.Journals.{HasRoomFor}
use Rattle.nucleus_calls.proofs.CallMoves.{acting_there, call_there}
use Rattle.nucleus_tables.proofs.CallReads.{head_is}
use Rattle.nucleus_tables.proofs.DomainReads.{live_numbered}
use Rattle.nucleus_tables.proofs.Entered.{IsMadeOf, LeavesRun}
use Rattle.nucleus_tables.proofs.MappedLists.{map_changed}
use Rattle.nucleus_tables.proofs.PermittedCalls.{its_service}
use Rattle.nucleus_calls.proofs.ReceivedParcels.{IsCarried, MayHandOver, asked_carried, handed_parcel, received_as, received_put, received_tables, space_handed, space_with}
use Rattle.nucleus_tables.proofs.Room.{has_room_beside}
use Rattle.nucleus_tables.proofs.ThreadsMoved.{own_same, thread_there}
use Rattle.nucleus_calls.specs.CallActs.{after_take, with_call, with_thread}
use Rattle.nucleus_tables.specs.CallTables.{AreCallsOf, call_of, has_parcel, places_of}
use Rattle.nucleus_tables.specs.Inner.{IsPermittedIn, kept_in, past_in}
use Rattle.nucleus_tables.specs.declared.places.CallPlaces.{CallPlaces}
use Rattle.nucleus_tables.specs.declared.tables.Tables.{Tables}
use Rattle.portal_table.specs.ServiceLists.{ServicesState}
use Rattle.table_steps.proofs.ActSteps.{stands_after_take}
use Rattle.table_steps.specs.Steps.{handed_objects, moved_threads, taken_call}
use Rattle.jx_model.specs.Holding.{is_drop_of, objects_in, received_objects}
use Rattle.jx_model.specs.MemoryObjects.{ended_object, ends_one_of}
use Rattle.memory_space.specs.SpaceLists.{SpaceState}
use Rattle.nucleus_tables.proofs.CarriedByCalls.{job_objects, queued_carried, queued_state}
use Rattle.table_threads.proofs.Actors.{acts_live, live_made}
use Rattle.table_threads.proofs.CallRecords.{call_record_there}
use Rattle.table_threads.proofs.CallStages.{StandsAt, takes_queued}
use Rattle.table_threads.specs.CallChanges.{entry}
use Rattle.table_threads.specs.Changes.{changed_at}
use Rattle.table_threads.specs.ThreadChanges.{own_changed, runs_as, thread_record_after}

-- ---- the thread that takes

-- the call is the first of its service's queue, and the thread is idle for that
pub record InTurn (past : Past) (d t c : ℕ) : Type 0 where
  pub service : ℕ
  pub of : service_of_call past c ≡ Some service
  pub head : queue_head past service ≡ Some c
  pub idle : passes (is_idle_for service) (thread_state past d t) ≡ true

pub in_turn : (s : System) (past : Past) (d t : ℕ) (c : CallId) → acting_thread s past d (act.Take c) ≡ Some t → InTurn past d t c.0
unfolding is_halt zero_may domain_thread may_perform is_zero_act is_choice choice_thread taking_thread is_head idle_thread
in_turn s past d t c h =
    let n = of_none (running_thread past d) (is_live past d) t (taking_thread past d c.0) (in_domain s past d t (act.Take c) refl refl h).1 in
    let q = chosen (is_head past d c.0) t (option_and_then (idle_thread past d) (service_of_call past c.0)) n.2 in
    let k = of_then (service_of_call past c.0) (idle_thread past d) t q.1 in
    let b = both (is_number (server_of past c.0) d) (is_number (option_and_then (queue_head past) (service_of_call past c.0)) c.0) q.0 in
    record {
      service = k.0;
      of = k.1;
      head = is_it (queue_head past k.0) c.0 (ap (λ (o : Option ℕ). is_number (option_and_then (queue_head past) o) c.0) (sym k.1) ∙ b.1);
      idle = where_passes past d t (is_idle_for k.0) k.2;
    }

-- thread 0 is idle for no service
never_idle : (k : ℕ) (a : Act) (r : Reply) → is_idle_for k (state_after thread.Running a r) ≡ false
unfolding state_after is_idle_for
never_idle k (act.Call v m p) (reply.Queued c) = refl
never_idle k act.Yield r = refl
never_idle k (act.EndThread c) r = refl
never_idle k _ _ = refl

-- an idle thread has a service
idle_serves : (past : Past) (d t k : ℕ) → passes (is_idle_for k) (thread_state past d t) ≡ true → is_some (service_of_thread past d t) ≡ true
unfolding thread_state passes state_by_last is_idle_for
idle_serves past d zero k q = by (last_of_thread past d 0) q
  where
    by : {A : Type 0} (o : Option Entry) → is_idle_for k (state_by_last thread.Running o) ≡ true → A
    by None q = cc
    by (Some e) q = let n : is_idle_for k (state_after thread.Running e.act e.reply) ≡ false = never_idle k e.act e.reply in cc
idle_serves past d (suc i) k q = by (slice_get (service_threads past d) i) q
  where
    by : (o : Option ServiceId) → passes (is_idle_for k) (option_map (λ s. state_by_last (serving_state s (served_call past d (suc i))) (last_of_thread past d (suc i))) o) ≡ true → is_some o ≡ true
    by None q = cc
    by (Some s) q = refl

-- one that has a service serves the call after its take
serves_taken : (c : CallId) (item : ThreadRecord) (r : Reply) → is_some item.service ≡ true → thread_record_after item (act.Take c) r ≡ Lists.with_state (thread.Serving c) item
unfolding serving_state state_after served_after
serves_taken c item r q = by item.service refl q
  where
    by : (v : Option ServiceId) → item.service ≡ v → is_some v ≡ true → thread_record_after item (act.Take c) r ≡ Lists.with_state (thread.Serving c) item
    by None z q = cc
    by (Some v) z q = ap (λ (v : Option ServiceId). let w : ThreadRecord = record { service = item.service; state = state_after (runs_as v (Some c)) (act.Take c) r; serves = Some c } in w) z

-- ---- lists

-- to change one item in what plays no part changes nothing
changed_nothing : {A B : Type 0} (g : A → B) (i : ℕ) (f : A → A) (xs : List A) → ((x : A) → slice_get xs i ≡ Some x → g (f x) ≡ g x) → map g (changed_at i f xs) ≡ map g xs
changed_nothing g i f [] q = refl
changed_nothing {B = B} g zero f (x ∷ xs) q = ap (λ (y : B). y ∷ map g xs) (q x refl)
changed_nothing {B = B} g (suc i) f (x ∷ xs) q = ap (λ (ys : List B). g x ∷ ys) (changed_nothing g i f xs q)

-- ---- what is replied

-- a job hands over what was asked
job_handed : (x : Tables) (c : CallId) (o : Option Asked) → ((a : Asked) → o ≡ Some a → IsCarried x a.parcel) → MayHandOver x (act.Take c) (job_of o)
unfolding job_of reply_words received_parcel
job_handed x c None h = record { kind = tt; few = omega arith; carried = λ p q. cc }
job_handed x c (Some a) h =
    record { kind = tt; few = (h a refl).small; carried = λ p q. let z : a.parcel ≡ p = cc in subst (IsCarried x) z (h a refl) }

-- what isn't a job hands over nothing
pub no_job : (c : CallId) (r : Reply) → ((k : ServiceId) (m : MethodId) (p : Parcel) → r ≢ reply.Job k m p) → received_parcel (act.Take c) r ≡ None
unfolding received_parcel
no_job c (reply.Job k m p) n = absurd (n k m p refl)
no_job c _ n = refl

-- a take neither ends nor makes anything
take_leaves : (d t : ℕ) (c : CallId) (r : Reply) → LeavesRun (entry d t (act.Take c) r)
unfolding is_ending is_create_entry is_create is_birth makes_domain ended_by ended_by_act
take_leaves d t c r = record { going = refl; create = refl; birth = refl; ended = refl }

module _ (s : System) (x : Tables) (d t : ℕ) (c : CallId) (h : IsPermittedIn s x d t (act.Take c)) where
  -- ---- what it finds

  -- the call is queued
  pub taken_queued : StandsAt (past_in x) c.0 call.Queued
  taken_queued = takes_queued s (past_in x) d t c h.tables.stands.admitted h.thread

  taken_waits : is_queued (past_in x) c.0 ≡ true
  taken_waits = queued_state (past_in x) c.0 taken_queued.low taken_queued.high taken_queued.state

  pub taken_there : numbered x.calls.calls c.0 ≡ Some (call_of (call_record (past_in x) c.0))
  taken_there = call_there s x h.tables c.0 taken_queued.low taken_queued.high

  -- as the first of its service
  pub taken_first : (k : Call) → numbered x.calls.calls c.0 ≡ Some k → first_queued x.calls k.service.0 ≡ Some c.0
  taken_first k q =
      let w = in_turn s (past_in x) d t c h.thread in
      let z : Some k.service.0 ≡ Some w.service = sym (its_service s x h.tables c.0 k q) ∙ w.of in
      let same : k.service.0 ≡ w.service = cc in
      head_is s x h.tables k.service.0 ∙ ap (queue_head (past_in x)) same ∙ w.head

  taker_lives : is_live (past_in x) d ≡ true
  unfolding is_halt zero_may
  taker_lives = acts_live s (past_in x) d t (act.Take c) refl refl h.thread

  pub taker_there : Lists.HasThread x.domains d t
  unfolding is_halt zero_may
  taker_there = acting_there s x d t (act.Take c) h refl refl

  pub taker_numbered : IsDomain d
  taker_numbered = live_numbered s x d h.tables taker_lives

  -- ---- what it replies

  module _ (r : Reply) (q : r ≡ reply_to s (past_in x) d (act.Take c)) where
    pub taken_handed : MayHandOver x (act.Take c) r
    unfolding reply_to
    taken_handed =
        subst (MayHandOver x (act.Take c)) (sym q)
        (job_handed x c (asked_of (past_in x) c.0) (asked_carried s x h.tables c.0 taken_queued.low taken_queued.high taken_waits))

    pub taken_room : HasRoomFor x.journal (entry d t (act.Take c) r)
    unfolding is_halt act_words
    taken_room = has_room_beside s x d t (act.Take c) r h refl (omega (arith, taken_handed.few))

  -- ---- what it does

  abbrev calls_after : List Call
  calls_after = changed_at (c.0 - 1) (in_state call.Running) x.calls.calls

  abbrev records_after : List CallRecord
  records_after = changed_at (c.0 - 1) taken_call (call_records (past_in x))

  taken_calls : AreCallsOf records_after calls_after x.places.places
  unfolding call_record
  taken_calls =
      record {
        calls_are =
            ap (λ (items : List Call). changed_at (c.0 - 1) (in_state call.Running) items) h.tables.calls.calls_are
            ∙ sym (map_changed call_of (c.0 - 1) taken_call (in_state call.Running) (call_records (past_in x)) (λ item. refl));
        places_are =
            h.tables.calls.places_are
            ∙ sym (changed_nothing places_of (c.0 - 1) taken_call (call_records (past_in x)) (λ item q. unplaced item (queued item q)));
      }
    where
      one_before : (n : ℕ) → 1 ≤ n → n ≡ n - 1 + 1
      one_before n l = omega (arith, l)

      queued : (item : CallRecord) → slice_get (call_records (past_in x)) (c.0 - 1) ≡ Some item → item.state ≡ call.Queued
      queued item q =
          let there : Some (call_record (past_in x) c.0) ≡ Some item = sym (call_record_there (past_in x) c.0 (c.0 - 1) (one_before c.0 taken_queued.low) taken_queued.high) ∙ q in
          let same : call_record (past_in x) c.0 ≡ item = cc in
          ap (λ (item : CallRecord). item.state) (sym same) ∙ taken_queued.state

      unplaced : (item : CallRecord) → item.state ≡ call.Queued → places_of (taken_call item) ≡ places_of item
      unplaced item q =
          sym (ap (λ (z : CallState). let w : CallPlaces = record { queued = item.queued_at; answered = if has_parcel z then item.answered_at else None } in w) q)

  taken_threads : (r : Reply) → moved_threads (kept_in x) (entry d t (act.Take c) r) ≡ own_changed d t (Lists.with_state (thread.Serving c)) x.domains.threads
  unfolding thread_record
  taken_threads r =
      own_same x.domains d t (λ item. thread_record_after item (act.Take c) r) (Lists.with_state (thread.Serving c))
      (λ item z. serves_taken c item r
      (ap (λ (o : Option ThreadRecord). is_some (option_and_then (λ r. r.service) o))
      (sym z ∙ thread_there s x d t h.tables (live_made (past_in x) d taker_lives) (acting_within s (past_in x) d t (act.Take c) h.thread))
      ∙ (let w = in_turn s (past_in x) d t c h.thread in idle_serves (past_in x) d t w.service w.idle)))

  -- what memory makes of it
  taken_space : (r : Reply) → r ≡ reply_to s (past_in x) d (act.Take c) →
      space_with x.space d (received_parcel (act.Take c) r) ≡ record x.space { objects = handed_objects (kept_in x) (entry d t (act.Take c) r) records_after }
  unfolding reply_to received_objects is_drop_of ends_one_of passes ended_object
  taken_space r q =
      space_handed s x h.tables (entry d t (act.Take c) r) (take_leaves d t c r).ended taker_numbered.0 c.0 taken_call
      (record { low = taken_queued.low; high = taken_queued.high; state = refl }) (λ item. refl) (received_parcel (act.Take c) r)
      (queued_carried (past_in x) c.0 taken_waits ∙ job_objects c (asked_of (past_in x) c.0) ∙ ap (λ (r : Reply). objects_in (received_parcel (act.Take c) r)) (sym q))
      refl (λ m. refl) (λ line. never (is_done r))
    where
      never : (b : Bool) → (b && false) ≡ false
      never true = refl
      never false = refl

  -- the tables after it
  pub taken_tables : (r : Reply) → r ≡ reply_to s (past_in x) d (act.Take c) → after_take x d t c r ≡ received_tables s x d t (act.Take c) r calls_after x.places.places records_after
  unfolding received_service
  taken_tables r q =
      received_as (with_call (with_thread x d t (thread.Serving c)) c call.Running) d (received_parcel (act.Take c) r)
      ∙ ap3 (λ (threads : List (List ThreadRecord)) (services : ServicesState) (space : SpaceState). let y : Tables = record x {
        domains = record x.domains { threads = threads };
        services = services;
        calls = record x.calls { calls = calls_after };
        space = space;
      } in y)
      (sym (taken_threads r))
      (handed_parcel (entry d t (act.Take c) r) (take_leaves d t c r).ended taker_numbered.0 x (received_parcel (act.Take c) r) refl refl)
      (taken_space r q)

  -- its entry was made
  pub take_entered : (r : Reply) → r ≡ reply_to s (past_in x) d (act.Take c) → IsMadeOf s x (after_take x d t c r) (entry d t (act.Take c) r)
  take_entered r q =
      let next : IsNext s (past_in x) (entry d t (act.Take c) r) = record { thread = h.thread; well_made = h.may_come.well_made; reply = q } in
      subst (λ (y : Tables). IsMadeOf s x y (entry d t (act.Take c) r)) (sym (taken_tables r q))
      (received_put s x d t (act.Take c) r calls_after x.places.places records_after (filter (λ n. not (c.0 == n)) (waiting_calls (past_in x))) h
      (take_leaves d t c r) q taken_calls
      (stands_after_take s (kept_in x) d t c r h.tables.stands next))
