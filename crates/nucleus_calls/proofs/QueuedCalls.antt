-- A call: the tables with its entry are those of the past with it.
use Rattle.std.proofs.Common.{◌≡◌, refl, sym, ◌∙◌, ap, subst, ℕ, ◌+◌, Bool, true, false, ◌&&◌, List, [], ◌∷◌, ◌++◌, ◌≤◌, length, map, Option, Some, None, is_some, arith}
use Rattle.std.proofs.lemmas.List.{length-reverse, map-append}
use Rattle.jx_base.specs.declared.act.Act.TheVariants as act
use Rattle.jx_base.specs.declared.act.Entry.{Entry}
use Rattle.jx_base.specs.declared.act.Reply.{Reply}
use Rattle.jx_base.specs.declared.act.Reply.TheVariants as reply
use Rattle.jx_base.specs.declared.ids.CallId.{CallId}
use Rattle.jx_base.specs.declared.ids.DomainId.{DomainId}
use Rattle.jx_base.specs.declared.ids.MethodId.{MethodId}
use Rattle.jx_base.specs.declared.ids.ServiceId.{ServiceId}
use Rattle.jx_base.specs.declared.ids.ThreadId.{ThreadId}
use Rattle.jx_base.specs.declared.program.System.{System}
use Rattle.jx_base.specs.declared.states.ThreadState.TheVariants as thread
use Rattle.jx_base.specs.declared.value.Parcel.{Parcel}
use Rattle.jx_base.specs.Basics.{contains_number, numbered, passes}
use Rattle.jx_base.specs.Histories.{is_done}
use Rattle.jx_model.specs.Holding.{is_drop_of, objects_in, received_objects}
use Rattle.jx_model.specs.MemoryObjects.{ended_object, ends_one_of}
use Rattle.memory_objects.specs.ObjectLists.{with_riding}
use Rattle.nucleus_tables.proofs.CarriedObjects.{counted_more, handed_none}
use Rattle.nucleus_tables.proofs.ObjectsKept.{objects_counted}
use Rattle.parcel_carriage.specs.Carriage.{each_of}
use Rattle.program_model.specs.ParcelParts.{parcel_objects}
use Rattle.table_threads.proofs.Actors.{acts_live, live_made}
use Rattle.jx_model.proofs.SmallNumbers.{services_few}
use Rattle.jx_model.specs.Calls.{calls_made, waiting_calls}
use Rattle.jx_model.specs.Domains.{ended_by, ended_by_act, is_birth, makes_domain}
use Rattle.jx_model.specs.Legal.{IsNext}
use Rattle.jx_model.specs.Permits.{is_create, is_create_entry, is_ending, is_halt, zero_may}
use Rattle.jx_model.specs.Portals.{has_live_owner, holds_portal, owner_of, received_parcel}
use Rattle.jx_model.specs.Replies.{called, fits_domain_of, has_service_method, holds_all, reply_to, ◌refuses◌else◌}
use Rattle.jx_model.specs.Tables.{CallRecord, ServiceRecord, call_records}
use Rattle.jx_model.specs.Threads.{served_after, state_after}
use Rattle.call_table.specs.CallLists.{IsService, new_call}
use Rattle.call_table.specs.declared.calls.Call.{Call}
use Rattle.domain_table.specs.DomainLists as Lists
use Rattle.nucleus_calls.proofs.Asked.{called_with}
use Rattle.nucleus_calls.proofs.CallMoves.{kept_alike}
use Rattle.nucleus_tables.proofs.EndedFlags.{ended_same}
use Rattle.nucleus_tables.proofs.Entered.{IsBeside, IsMadeOf, LeavesRun, costs_less, run_entered}
use Rattle.nucleus_tables.proofs.NumberedPlaces.{numbered_stands}
use Rattle.nucleus_calls.proofs.PortalActs.{refused_put}
use Rattle.nucleus_calls.proofs.ServiceReplies.{holds_is, services_count}
use Rattle.nucleus_tables.proofs.ThreadsMoved.{own_same}
use Rattle.nucleus_calls.specs.CallActs.{IsCallReply, after_call, next_call, ridden, with_queued}
use Rattle.nucleus_tables.specs.Portals.{HasNoParcel}
use Rattle.nucleus_tables.specs.CallTables.{AreCallsOf, call_of, places_of}
use Rattle.nucleus_tables.specs.Inner.{IsOf, IsPermittedIn, kept_in, past_in}
use Rattle.nucleus_tables.specs.PlaceLists.{new_places}
use Rattle.nucleus_tables.specs.declared.places.CallPlaces.{CallPlaces}
use Rattle.nucleus_tables.specs.declared.tables.Tables.{Tables}
use Rattle.table_reads.specs.TableReads.{flag_at}
use Rattle.table_steps.proofs.ActSteps.{stands_after_call}
use Rattle.table_steps.specs.Steps.{handed_objects, moved_threads, queued_call, with_entry}
use Rattle.table_threads.specs.CallChanges.{entry}
use Rattle.table_threads.specs.ThreadChanges.{own_changed, thread_record_after}

-- ---- what is replied

-- a call that is queued is to a service that its domain holds
asks_held : (s : System) (x : Tables) (d : ℕ) (k : ServiceId) (m : MethodId) (p : Parcel) (c : CallId) → reply.Queued c ≡ reply_to s (past_in x) d (act.Call k m p) → holds_portal (past_in x) d k.0 ≡ true
unfolding reply_to called ◌refuses◌else◌
asks_held s x d k m p c q =
    by (holds_portal (past_in x) d k.0) (holds_all (past_in x) d p) (has_live_owner (past_in x) k.0) (has_service_method s (past_in x) k.0 m.0) (fits_domain_of s (past_in x) (owner_of (past_in x) k.0) p) q
  where
    by : (a b l n f : Bool) → reply.Queued c ≡ called_with (a && b) l n f (reply.Queued (record { 0 = calls_made (past_in x) + 1 })) → a ≡ true
    by true b l n f q = refl
    by false b l n f q = cc

-- so the service has one of the numbers of services
pub asks_service : (s : System) (x : Tables) (d : ℕ) (k : ServiceId) (m : MethodId) (p : Parcel) (c : CallId) → IsOf s x → reply.Queued c ≡ reply_to s (past_in x) d (act.Call k m p) → IsService k.0
unfolding passes
asks_service s x d k m p c h q =
    let there = numbered_stands x.services.services k.0 (by (numbered x.services.services k.0) (holds_is s x h d k.0 ∙ asks_held s x d k m p c q)) in
    (there.0, omega (arith, there.0, there.1, services_count s x h, services_few s (past_in x) h.stands.admitted))
  where
    by : (o : Option ServiceRecord) → passes (λ r. flag_at r.holders d) o ≡ true → is_some o ≡ true
    by None q = cc
    by (Some r) q = refl

-- ---- the entry

call_leaves : (d t : ℕ) (k : ServiceId) (m : MethodId) (p : Parcel) (r : Reply) → LeavesRun (entry d t (act.Call k m p) r)
unfolding is_ending is_create_entry is_create is_birth makes_domain ended_by ended_by_act
call_leaves d t k m p r = record { going = refl; create = refl; birth = refl; ended = refl }

module _ (s : System) (x : Tables) (d : DomainId) (t : ThreadId) (k : ServiceId) (m : MethodId) (p : Parcel) where
  -- the entry of a queued call
  abbrev asked : Entry
  asked = entry d.0 t.0 (act.Call k m p) (reply.Queued (next_call x))

  -- its record
  abbrev asked_call : CallRecord
  asked_call = queued_call (kept_in x) asked k p

  abbrev calls_with : List CallRecord
  calls_with = call_records (past_in x) ++ asked_call ∷ []

  tables_with : IsOf s x → AreCallsOf calls_with (x.calls.calls ++ new_call d t k ∷ []) (x.places.places ++ new_places (length x.journal.entries) ∷ [])
  tables_with h =
      record {
        calls_are =
            ap (λ (items : List Call). items ++ new_call d t k ∷ []) h.calls.calls_are
            ∙ sym (map-append call_of (call_records (past_in x)) (asked_call ∷ []));
        places_are =
            ap (λ (items : List CallPlaces). items ++ new_places (length x.journal.entries) ∷ []) h.calls.places_are
            ∙ ap (λ (n : ℕ). map places_of (call_records (past_in x)) ++ new_places n ∷ []) (sym (length-reverse x.journal.entries))
            ∙ sym (map-append places_of (call_records (past_in x)) (asked_call ∷ []));
      }

  -- its thread waits
  waits : own_changed d.0 t.0 (λ item. thread_record_after item (act.Call k m p) (reply.Queued (next_call x))) x.domains.threads
      ≡ own_changed d.0 t.0 (Lists.with_state (thread.Waiting (next_call x))) x.domains.threads
  unfolding state_after served_after
  waits =
      own_same x.domains d.0 t.0 (λ item. thread_record_after item (act.Call k m p) (reply.Queued (next_call x))) (Lists.with_state (thread.Waiting (next_call x))) (λ r q. refl)

  -- its parcel's objects ride
  rides : IsOf s x → 1 ≤ d.0 → handed_objects (kept_in x) asked calls_with ≡ (ridden p x.space).objects
  unfolding received_objects objects_in received_parcel contains_number is_drop_of ends_one_of passes ended_object is_done ended_by ended_by_act
  rides h l =
      handed_none asked refl l (kept_in x) calls_with (λ m. refl) (λ m. refl) (λ line. refl)
      ∙ counted_more (call_records (past_in x)) asked_call x.space.objects
      ∙ ap (each_of (parcel_objects p) (with_riding (λ n. n + 1))) (objects_counted s x h)

  made_low : IsPermittedIn s x d.0 t.0 (act.Call k m p) → 1 ≤ d.0
  unfolding is_halt zero_may
  made_low h = (live_made (past_in x) d.0 (acts_live s (past_in x) d.0 t.0 (act.Call k m p) refl refl h.thread)).low

  queued_put : IsPermittedIn s x d.0 t.0 (act.Call k m p) → reply.Queued (next_call x) ≡ reply_to s (past_in x) d.0 (act.Call k m p) →
      IsMadeOf s x (with_queued x d t k p) asked
  queued_put h q =
      let y : Tables = with_queued x d t k p in
      let l : LeavesRun asked = call_leaves d.0 t.0 k m p (reply.Queued (next_call x)) in
      let next : IsNext s (past_in x) asked = record { thread = h.thread; well_made = h.may_come.well_made; reply = q } in
      let waiting : List ℕ = waiting_calls (past_in x) ++ (length (call_records (past_in x)) + 1) ∷ [] in
      let beside : IsBeside s x y asked calls_with = record {
        limit = refl;
        boots = refl;
        words = refl;
        ended = h.tables.ended ∙ sym (ended_same s asked (past_in x) l.ended);
        serving = h.tables.serving;
        cost = costs_less s x asked h.tables;
        calls_are = tables_with h.tables;
        call_room = refl;
        place_room = refl;
        no_objects = ap (each_of (parcel_objects p) (with_riding (λ n. n + 1))) h.tables.no_objects;
        no_extents = h.tables.no_extents;
      } in
      run_entered s x y d.0 t.0 (act.Call k m p) (reply.Queued (next_call x)) calls_with waiting h l q refl refl refl beside
      (kept_alike s (record (with_entry (kept_in x) asked) { calls = calls_with; waiting = waiting })
      (moved_threads (kept_in x) asked) y.domains.threads (handed_objects (kept_in x) asked calls_with) y.space.objects
      waits (rides h.tables (made_low h))
      (stands_after_call s (kept_in x) d.0 t.0 k m p (next_call x) h.tables.stands next))

  -- whatever the reply
  pub call_entered : (r : Reply) → IsPermittedIn s x d.0 t.0 (act.Call k m p) → IsCallReply x r → r ≡ reply_to s (past_in x) d.0 (act.Call k m p) →
      IsMadeOf s x (after_call x d t k p r) (entry d.0 t.0 (act.Call k m p) r)
  call_entered (reply.Queued c) h w q =
      subst (λ (c : CallId). IsMadeOf s x (with_queued x d t k p) (entry d.0 t.0 (act.Call k m p) (reply.Queued c))) (sym w)
      (queued_put h (ap (λ (c : CallId). reply.Queued c) (sym w) ∙ q))
  call_entered (reply.Refused f) h w q = refused_put s x d.0 t.0 (act.Call k m p) f h (call_leaves d.0 t.0 k m p (reply.Refused f)) refl q
  call_entered _ h w q = absurd w

  -- the reply carries no parcel
  pub call_answers : (r : Reply) → IsCallReply x r → HasNoParcel r
  call_answers (reply.Queued c) w = tt
  call_answers (reply.Refused f) w = tt
  call_answers _ w = absurd w

  -- the journal is as before
  pub call_keeps : (r : Reply) → (after_call x d t k p r).journal ≡ x.journal
  call_keeps (reply.Queued c) = refl
  call_keeps _ = refl
