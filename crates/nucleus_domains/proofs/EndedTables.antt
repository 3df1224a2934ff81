-- The tables after the end of a domain.
use Rattle.std.proofs.Common.{◌≡◌, refl, sym, ◌∙◌, ap, subst, ℕ, ◌+◌, ◌≤◌, Bool, true, false, not, ◌||◌, ◌&&◌, ◌==◌, List, [], ◌∷◌, filter, length, map, Option, Some, None, arith, if◌then◌else◌}
use Rattle.std.proofs.lemmas.List.{length-map}
use Rattle.std.proofs.lemmas.Simd.{map-map}
use Rattle.jx_base.specs.declared.act.Act.{Act}
use Rattle.jx_base.specs.declared.act.Act.TheVariants as act
use Rattle.jx_base.specs.declared.act.Entry.{Entry}
use Rattle.jx_base.specs.declared.act.Reason.{Reason}
use Rattle.jx_base.specs.declared.act.Reply.TheVariants as reply
use Rattle.jx_base.specs.declared.program.System.{System}
use Rattle.jx_base.specs.declared.states.AnswerKind.TheVariants as kind
use Rattle.jx_base.specs.declared.states.CallState.{CallState}
use Rattle.jx_base.specs.declared.states.CallState.TheVariants as call
use Rattle.jx_base.specs.Basics.{is_number, passes}
use Rattle.jx_base.proofs.BasicLaws.{ap3}
use Rattle.jx_model.specs.Domains.{ended_by, ended_by_act, is_birth, is_live, makes_domain}
use Rattle.jx_model.specs.Legal.{IsNext}
use Rattle.jx_model.specs.Permits.{is_create, is_create_entry, is_ending, is_halt, zero_may}
use Rattle.jx_model.specs.Portals.{gives_portal, received_parcel, received_service}
use Rattle.jx_model.specs.Replies.{reply_to}
use Rattle.jx_model.specs.Calls.{waiting_calls}
use Rattle.jx_model.specs.Tables.{CallRecord, ExtentRecord, Kept, ObjectRecord, ServiceRecord, StandsFor, call_records}
use Rattle.call_table.specs.CallLists.{ended_for, in_state, is_pending_for, is_queued_call, is_running_call}
use Rattle.call_table.specs.declared.calls.Call.{Call}
use Rattle.nucleus_tables.specs.CallTables.{AreCallsOf, call_of, has_parcel, places_of}
use Rattle.nucleus_tables.specs.declared.places.CallPlaces.{CallPlaces}
use Rattle.domain_flags.specs.FlagLists.{with_flag}
use Rattle.portal_table.specs.ServiceLists.{without_holder}
use Rattle.table_steps.proofs.EndSteps.{stands_after_end, stands_after_exit}
use Rattle.table_objects.specs.ObjectChanges.{object_record_after}
use Rattle.table_steps.specs.Steps.{after_end, freed_from, handed_objects, heap_in, is_call_to, kept_extents, owns, with_entry, without_runs}
use Rattle.table_threads.specs.CallChanges.{ended_call, place_after_end, state_after_end}
use Rattle.table_threads.specs.Changes.{each_record}
use Rattle.table_threads.proofs.Actors.{acts_live, live_made}
use Rattle.nucleus_tables.proofs.EndedFlags.{ended_more}
use Rattle.nucleus_tables.proofs.Entered.{IsBeside, costs_less, entered, kept_with}
use Rattle.nucleus_tables.proofs.MappedLists.{map_same}
use Rattle.nucleus_tables.proofs.PortalChanges.{handed_end}
use Rattle.memory_space.proofs.RunsTaken.{run_freed}
use Rattle.nucleus_domains.specs.Ends.{IsEndingAct, lost_call, with_ended}
use Rattle.nucleus_tables.specs.Entering.{done_entry}
use Rattle.nucleus_tables.specs.Inner.{IsOf, IsPermittedIn, kept_in, past_in, state_of, with_put}
use Rattle.nucleus_tables.specs.Stepping.{IsEntered}
use Rattle.nucleus_tables.specs.declared.tables.Tables.{Tables}

-- ---- the entry that ends a domain

-- an act that ends its domain is of a live one
pub ends_live : (s : System) (x : Tables) (d t : ℕ) (a : Act) (why : Reason) → IsPermittedIn s x d t a → IsEndingAct a why → is_live (past_in x) d ≡ true
unfolding is_halt zero_may
ends_live s x d t (act.Exit code) why h p = acts_live s (past_in x) d t (act.Exit code) refl refl h.thread
ends_live s x d t (act.End r) why h p = acts_live s (past_in x) d t (act.End r) refl refl h.thread
ends_live s x d t _ why h p = absurd p

-- what an entry that ends its domain is
record IsEndEntry (s : System) (x : Tables) (e : Entry) (why : Reason) : Type 0 where
  pub reply : e.reply ≡ reply_to s (past_in x) e.domain.0 e.act
  pub going : is_ending e.act ≡ false
  pub create : is_create_entry e ≡ false
  pub birth : is_birth e ≡ false
  pub ended : ended_by e ≡ Some (e.domain.0, why)
  pub gives : (j : ℕ) → gives_portal j e ≡ false
  pub stands : StandsFor s (after_end s (kept_in x) e e.domain.0 why)

-- an exit or an end is one
end_entry : (s : System) (x : Tables) (d t : ℕ) (a : Act) (why : Reason) → IsPermittedIn s x d t a → IsEndingAct a why → IsEndEntry s x (done_entry d t a) why
unfolding reply_to is_ending is_create_entry is_create is_birth makes_domain ended_by ended_by_act gives_portal received_service received_parcel is_number passes
end_entry s x d t (act.Exit code) why h p =
    let e : Entry = done_entry d t (act.Exit code) in
    let next : IsNext s (past_in x) e = record { thread = h.thread; well_made = h.may_come.well_made; reply = refl } in
    record {
      reply = refl;
      going = refl;
      create = refl;
      birth = refl;
      ended = ap (λ (r : Reason). let o : Option (ℕ × Reason) = Some (d, r) in o) (sym p);
      gives = λ j. refl;
      stands = subst (λ (r : Reason). StandsFor s (after_end s (kept_in x) e d r)) (sym p) (stands_after_exit s (kept_in x) d t code reply.Done h.tables.stands next);
    }
end_entry s x d t (act.End r) why h p =
    let e : Entry = done_entry d t (act.End r) in
    let next : IsNext s (past_in x) e = record { thread = h.thread; well_made = h.may_come.well_made; reply = refl } in
    record {
      reply = refl;
      going = refl;
      create = refl;
      birth = refl;
      ended = ap (λ (r : Reason). let o : Option (ℕ × Reason) = Some (d, r) in o) (sym p);
      gives = λ j. refl;
      stands = subst (λ (r : Reason). StandsFor s (after_end s (kept_in x) e d r)) (sym p) (stands_after_end s (kept_in x) d t r reply.Done h.tables.stands next);
    }
end_entry s x d t _ why h p = absurd p

-- ---- the calls

-- a call as the table has it after the end
lost_is : (services : List ServiceRecord) (d at : ℕ) (r : CallRecord) → lost_call services d (call_of r) ≡ call_of (ended_call (owns services d) d at r)
lost_is services d at r = by (owns services d r.service) r.state
  where
    held : CallState → Call
    held z = record { caller = record { 0 = r.caller }; thread = record { 0 = r.thread }; service = record { 0 = r.service }; state = z }

    same : (k : ℕ) → (k == k) ≡ true
    same k = grind arith

    pending : (z : CallState) → is_pending_for r.service (held z) ≡ (is_queued_call z || is_running_call z)
    pending z = ap (λ (b : Bool). (b && is_queued_call z) || (b && is_running_call z)) (same r.service)

    ended : (z : CallState) → ended_for r.service (held z) ≡ held (state_after_end true z)
    ended call.Queued = ap (λ (b : Bool). if b then in_state (call.Answered kind.Ended) (held call.Queued) else held call.Queued) (pending call.Queued)
    ended call.Running = ap (λ (b : Bool). if b then in_state (call.Answered kind.Ended) (held call.Running) else held call.Running) (pending call.Running)
    ended (call.Answered k) = ap (λ (b : Bool). if b then in_state (call.Answered kind.Ended) (held (call.Answered k)) else held (call.Answered k)) (pending (call.Answered k))
    ended call.Resumed = ap (λ (b : Bool). if b then in_state (call.Answered kind.Ended) (held call.Resumed) else held call.Resumed) (pending call.Resumed)

    by : (b : Bool) (z : CallState) → (if b then ended_for r.service (held z) else held z) ≡ held (state_after_end b z)
    by true z = ended z
    by false call.Queued = refl
    by false call.Running = refl
    by false (call.Answered k) = refl
    by false call.Resumed = refl

-- the places of its parcels are as before
places_stay : (services : List ServiceRecord) (d at : ℕ) (r : CallRecord) → places_of (ended_call (owns services d) d at r) ≡ places_of r
places_stay services d at r = by (owns services d r.service) r.state
  where
    place : CallState → Option ℕ → Option ℕ
    place z o = if has_parcel z then o else None

    by : (b : Bool) (z : CallState) →
        (let p : CallPlaces = record { queued = r.queued_at; answered = place (state_after_end b z) (place_after_end b z r.answered_at at) } in p)
        ≡ record { queued = r.queued_at; answered = place z r.answered_at }
    by true call.Queued = refl
    by true call.Running = refl
    by true (call.Answered k) = refl
    by true call.Resumed = refl
    by false call.Queued = refl
    by false call.Running = refl
    by false (call.Answered k) = refl
    by false call.Resumed = refl

-- the calls after the end
abbrev ended_calls : Tables → ℕ → List CallRecord
ended_calls x d = map (ended_call (owns x.services.services d) d (length (past_in x))) (call_records (past_in x))

calls_ended : (s : System) (x : Tables) (d : ℕ) → IsOf s x → AreCallsOf (ended_calls x d) (map (lost_call x.services.services d) x.calls.calls) x.places.places
calls_ended s x d h =
    let services : List ServiceRecord = x.services.services in
    let at : ℕ = length (past_in x) in
    let records : List CallRecord = call_records (past_in x) in
    record {
      calls_are =
          ap (map (lost_call services d)) h.calls.calls_are
          ∙ map-map (lost_call services d) call_of records
          ∙ map_same (λ (r : CallRecord). lost_call services d (call_of r)) (λ (r : CallRecord). call_of (ended_call (owns services d) d at r)) records (lost_is services d at)
          ∙ sym (map-map call_of (ended_call (owns services d) d at) records);
      places_are =
          h.calls.places_are
          ∙ map_same places_of (λ (r : CallRecord). places_of (ended_call (owns services d) d at r)) records (λ (r : CallRecord). sym (places_stay services d at r))
          ∙ sym (map-map places_of (ended_call (owns services d) d at) records);
    }

-- ---- the whole

-- the waiting calls after the end
abbrev ended_waiting : Tables → ℕ → List ℕ
ended_waiting x d = filter (λ c. not (is_call_to x.services.services (call_records (past_in x)) d c)) (waiting_calls (past_in x))

-- what is kept after the end is what is kept of the tables, with those calls
kept_ended : (s : System) (x : Tables) (e : Entry) (d : ℕ) (why : Reason) → IsOf s x → ended_by e ≡ Some (d, why) → 1 ≤ d → ((j : ℕ) → gives_portal j e ≡ false) →
    after_end s (kept_in x) e d why ≡ record (kept_with x (with_ended s x d why) e) { calls = ended_calls x d; waiting = ended_waiting x d }
kept_ended s x e d why h b l p =
    let k : Kept = kept_in x in
    let y : Tables = with_ended s x d why in
    let none : each_record (object_record_after e k.parts (ended_calls x d)) x.space.objects ≡ x.space.objects =
    ap (each_record (object_record_after e k.parts (ended_calls x d))) h.no_objects ∙ sym h.no_objects in
    let with_extents : List ExtentRecord → Kept = λ extents. record (after_end s k e d why) {
      extents = kept_extents k.parts (handed_objects k e (ended_calls x d)) extents;
      taken = without_runs (heap_in s k.domains d ∷ freed_from k.parts (handed_objects k e (ended_calls x d)) 1 extents) k.taken;
    } in
    ap with_extents h.no_extents
    ∙ ap3 (λ (services : List ServiceRecord) (taken : List Bool) (objects : List ObjectRecord).
    let z : Kept = record (with_entry k e) { domains = y.domains.domains; services = services; calls = ended_calls x d; waiting = ended_waiting x d; objects = objects; extents = []; taken = taken } in z)
    (sym (handed_end k e d why b l p))
    (sym (run_freed x.space.taken (heap_in s x.domains.domains d)))
    none
    ∙ ap (λ (extents : List ExtentRecord). let z : Kept = record (kept_with x y e) { calls = ended_calls x d; waiting = ended_waiting x d; extents = extents } in z) (sym h.no_extents)

-- so is what the tables have beside it
ended_beside : (s : System) (x : Tables) (e : Entry) (d : ℕ) (why : Reason) → IsOf s x → ended_by e ≡ Some (d, why) → 1 ≤ d → IsBeside s x (with_ended s x d why) e (ended_calls x d)
ended_beside s x e d why h q l =
    record {
      limit = refl;
      boots = refl;
      words = refl;
      ended = ap (with_flag d true) h.ended ∙ sym (ended_more s e (past_in x) d why q l);
      serving = h.serving ∙ sym (length-map x.services.services (without_holder d));
      cost = costs_less s x e h;
      calls_are = calls_ended s x d h;
      call_room = refl;
      place_room = refl;
      no_objects = h.no_objects;
      no_extents = h.no_extents;
    }

-- the tables with that entry are those of the past with it
end_put : (s : System) (x : Tables) (d t : ℕ) (a : Act) (why : Reason) → IsPermittedIn s x d t a → is_live (past_in x) d ≡ true → IsEndEntry s x (done_entry d t a) why →
    IsEntered s (state_of x) (state_of (with_put (with_ended s x d why) (done_entry d t a))) (done_entry d t a) × (is_birth (done_entry d t a) ≡ false)
end_put s x d t a why h l p =
    let low : 1 ≤ d = (live_made (past_in x) d l).low in
    let e : Entry = done_entry d t a in (
      entered s x (with_ended s x d why) d t a reply.Done (ended_calls x d) (ended_waiting x d) h p.reply
          (ap (λ (b : Bool). b || x.over) (sym p.going)) (count (is_create_entry e) p.create) refl
          (ended_beside s x e d why h.tables p.ended low)
          (subst (StandsFor s) (kept_ended s x e d why h.tables p.ended low p.gives) p.stands),
      p.birth,
    )
  where
    count : (b : Bool) → b ≡ false → x.creates ≡ x.creates + (if b then 1 else 0)
    count false q = omega arith
    count true q = cc

-- an exit or an end
pub end_entered : (s : System) (x y : Tables) (d t : ℕ) (a : Act) (why : Reason) → IsPermittedIn s x d t a → IsEndingAct a why → y ≡ with_put (with_ended s x d why) (done_entry d t a) →
    IsEntered s (state_of x) (state_of y) (done_entry d t a) × (is_birth (done_entry d t a) ≡ false)
end_entered s x y d t a why h p q =
    subst (λ (z : Tables). IsEntered s (state_of x) (state_of z) (done_entry d t a) × (is_birth (done_entry d t a) ≡ false)) (sym q) (end_put s x d t a why h (ends_live s x d t a why h p) (end_entry s x d t a why h p))
