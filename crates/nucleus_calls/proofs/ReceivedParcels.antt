-- Parcels that a take or a resume hands over: where they stand, what they cost, and to which services they give portals.
use Rattle.std.proofs.Common.{◌≡◌, ◌≢◌, refl, sym, ◌∙◌, ap, subst, ℕ, suc, ◌+◌, ◌<◌, ◌-◌, ◌≤◌, Bool, true, false, ◌||◌, List, [], ◌∷◌, ◌++◌, length, reverse, Option, Some, None, is_some, arith, slice_get, if◌then◌else◌, ◌⊎◌, inl, inr}
use Rattle.std.specs.Option.{option_and_then, option_map, unwrap_or}
use Rattle.std.proofs.lemmas.List.{length-append, length-reverse, reverse-append, reverse-reverse}
use Rattle.std.proofs.lemmas.Option.{slice_get_within}
use Rattle.jx_base.specs.declared.act.Act.{Act}
use Rattle.jx_base.specs.declared.act.Act.TheVariants as act
use Rattle.jx_base.specs.declared.act.Entry.{Entry}
use Rattle.jx_base.specs.declared.act.Reply.{Reply}
use Rattle.jx_base.specs.declared.program.System.{System}
use Rattle.jx_base.specs.declared.value.Parcel.{Parcel}
use Rattle.jx_base.specs.Basics.{contains_number, is_number, numbered, passes}
use Rattle.jx_base.specs.Histories.{Past, nth_entry}
use Rattle.jx_base.proofs.BasicLaws.{ap2, get_left, get_right}
use Rattle.jx_base.proofs.NthEntries.{nth_there}
use Rattle.jx_laws.proofs.PortalsMade.{parcel_made}
use Rattle.jx_model.proofs.Exported.{services_grow}
use Rattle.jx_model.specs.Calls.{Asked, asked_by, asked_of, call_entry, calls_made, is_call}
use Rattle.jx_model.specs.Domains.{ended_by}
use Rattle.jx_model.specs.Journal.{reply_words}
use Rattle.jx_model.specs.Legal.{IsAdmittedPast, IsNext}
use Rattle.jx_model.specs.Portals.{gives_portal, received_parcel, received_service, services_made}
use Rattle.jx_model.specs.Replies.{reply_to}
use Rattle.jx_model.specs.Tables.{CallRecord, Kept, ObjectRecord, ServiceRecord, StandsFor, call_record, call_records, place_of, queued_at}
use Rattle.jx_model.specs.WellMade.{IsParcelIn, IsWellMade}
use Rattle.call_table.specs.declared.calls.Call.{Call}
use Rattle.domain_flags.specs.FlagLists.{with_flag}
use Rattle.nucleus_tables.proofs.CallReads.{numbered_map}
use Rattle.nucleus_tables.proofs.EndedFlags.{ended_same}
use Rattle.nucleus_tables.proofs.Entered.{IsBeside, IsMadeOf, LeavesRun, costs_less, run_entered}
use Rattle.nucleus_tables.proofs.OneChanged.{each_left, each_one}
use Rattle.nucleus_tables.proofs.PortalChanges.{flag_given, flag_left, with_holders}
use Rattle.memory_space.proofs.RunsTaken.{each_alike}
use Rattle.nucleus_calls.proofs.ServiceReplies.{services_count}
use Rattle.nucleus_calls.proofs.Carrying.{all_of}
use Rattle.nucleus_calls.specs.CallActs.{CanReceive, received, with_received}
use Rattle.jx_model.specs.Calls.{call_state, is_queued}
use Rattle.jx_model.specs.Holding.{asked_objects, carried, is_drop_of, received_objects}
use Rattle.jx_model.specs.Holding.{objects_in as objects_of_parcel}
use Rattle.jx_model.specs.MemoryObjects.{ends_one_of}
use Rattle.memory_objects.specs.ObjectLists.{IsKept, IsRiding, with_holder, with_riding}
use Rattle.memory_space.specs.SpaceLists.{SpaceState, objects_in}
use Rattle.nucleus_tables.proofs.CarriedByCalls.{queued_carried}
use Rattle.nucleus_tables.proofs.CarriedObjects.{counted_less, given_riding, handed_are}
use Rattle.nucleus_tables.proofs.ObjectsKept.{kept_there, objects_counted, riding_there}
use Rattle.parcel_carriage.specs.Carriage.{each_of}
use Rattle.program_model.specs.ParcelParts.{parcel_objects}
use Rattle.table_objects.proofs.UsedBefore.{ByCall}
use Rattle.table_threads.proofs.CallRecords.{call_record_there}
use Rattle.table_threads.proofs.CallStages.{StandsAt}
use Rattle.table_threads.specs.Changes.{changed_at}
use Rattle.nucleus_tables.specs.CallTables.{AreCallsOf, places_of}
use Rattle.nucleus_tables.specs.Inner.{IsOf, IsPermittedIn, kept_in, past_in}
use Rattle.nucleus_tables.specs.Portals.{IsReceivedReply}
use Rattle.nucleus_tables.specs.declared.places.CallPlaces.{CallPlaces}
use Rattle.nucleus_tables.specs.declared.tables.Tables.{Tables}
use Rattle.parcel_carriage.proofs.Picked.{none}
use Rattle.parcel_carriage.specs.Carriage.{held_by, with_portals}
use Rattle.portal_table.specs.ServiceLists.{IsService, ServicesState}
use Rattle.program_model.specs.Limits.{parcel_limit}
use Rattle.program_model.specs.ParcelParts.{parcel_portals, parcel_words}
use Rattle.table_objects.specs.HolderChanges.{portal_after, portals_after}
use Rattle.table_objects.specs.ObjectChanges.{object_record_after}
use Rattle.table_steps.specs.Steps.{handed_objects, handed_services, moved_threads, with_entry}
use Rattle.table_threads.proofs.Places.{entry_at_place}
use Rattle.table_threads.proofs.Records.{numbered_record, same_or_not}
use Rattle.table_threads.specs.CallChanges.{entry}
use Rattle.table_threads.specs.Changes.{each_from, each_record}

-- ---- when an entry came

-- the entry came after a part of the past, when no more services were made
pub record Came (s : System) (past : Past) (e : Entry) : Type 0 where
  pub before : Past
  pub next : IsNext s before e
  pub services : services_made before ≤ services_made past

-- each entry of an admitted past came so
pub came : (s : System) (past : Past) (i : ℕ) (e : Entry) → IsAdmittedPast s past → slice_get (reverse past) i ≡ Some e → Came s past e
came s [] i e a q = cc
came s (x ∷ past) i e a q =
    by (same_or_not i (length past)) (ap (λ (xs : List Entry). slice_get xs i) (sym (reverse-append (x ∷ []) past)) ∙ q) (came s past i e a.1)
  where
    same : Some x ≡ Some e → x ≡ e
    same z = cc

    by : (i ≡ length past) ⊎ (i ≢ length past) → slice_get (reverse past ++ x ∷ []) i ≡ Some e → (slice_get (reverse past) i ≡ Some e → Came s past e) → Came s (x ∷ past) e
    by (inl z) w again =
        let here : Some x ≡ Some e = sym (get_right (reverse past) (x ∷ []) 0 i (omega (arith, z, length-reverse past))) ∙ w in
        record { before = past; next = subst (IsNext s past) (same here) a.0; services = services_grow x past }
    by (inr n) w again =
        let within = slice_get_within (reverse past ++ x ∷ []) i e w in
        let l : i < length (reverse past) = omega (arith, n, within, length-append (reverse past) (x ∷ []), length-reverse past) in
        let k = again (sym (get_left (reverse past) (x ∷ []) i l) ∙ w) in
        record { before = k.before; next = k.next; services = omega (arith, k.services, services_grow x past) }

-- the entry that queued a call, and its place
pub record QueuedThere (past : Past) (c : ℕ) : Type 0 where
  pub place : ℕ
  pub entry : Entry
  pub at : queued_at past c ≡ Some place
  pub there : slice_get (reverse past) place ≡ Some entry
  pub queued : call_entry past c ≡ Some entry

pub queued_there : (past : Past) (c : ℕ) → 1 ≤ c → c ≤ calls_made past → QueuedThere past c
unfolding call_entry queued_at
queued_there past c l u = by (place_of is_call past c) refl (entry_at_place is_call past c) (nth_there is_call past c l u)
  where
    found : (i : ℕ) (o : Option Entry) → place_of is_call past c ≡ Some i → slice_get (reverse past) i ≡ o → nth_entry is_call past c ≡ o → is_some (nth_entry is_call past c) ≡ true → QueuedThere past c
    found i None p w n h = cc
    found i (Some e) p w n h = record { place = i; entry = e; at = p; there = w; queued = n }

    by : (o : Option ℕ) → place_of is_call past c ≡ o → nth_entry is_call past c ≡ option_and_then (λ i. slice_get (reverse past) i) (place_of is_call past c) → is_some (nth_entry is_call past c) ≡ true → QueuedThere past c
    by None p n h = let z : nth_entry is_call past c ≡ None = n ∙ ap (option_and_then (λ i. slice_get (reverse past) i)) p in cc
    by (Some i) p n h = found i (slice_get (reverse past) i) p refl (n ∙ ap (option_and_then (λ i. slice_get (reverse past) i)) p) h

-- what a well made call asks is well made
asked_well : (s : System) (past : Past) (b : Act) (a : Asked) → IsWellMade s past b → asked_by b ≡ Some a → IsParcelIn s past a.parcel
unfolding asked_by
asked_well s past (act.Call k m p) a w h = let z : p ≡ a.parcel = cc in subst (λ (x : Parcel). IsParcelIn s past x) z w.1
asked_well s past _ a w h = cc

-- ---- parcels that may be handed over

-- the parcel is small, and what it carries can be handed over
pub record IsCarried (x : Tables) (p : Parcel) : Type 0 where
  pub small : parcel_words p ≤ 4096
  pub receive : CanReceive x p

-- a take or a resume may have the reply, which hands over no other parcel
pub record MayHandOver (x : Tables) (a : Act) (r : Reply) : Type 0 where
  pub kind : IsReceivedReply r
  pub few : reply_words r ≤ 4096
  pub carried : (p : Parcel) → received_parcel a r ≡ Some p → IsCarried x p

module _ (s : System) (x : Tables) (h : IsOf s x) where
  -- a parcel that was well made when an entry of the past came
  -- and whose objects a call carries
  pub carried_by : (c : ℕ) (e : Entry) (p : Parcel) (w : Came s (past_in x) e) → IsParcelIn s w.before p → carried (past_in x) c ≡ parcel_objects p → IsCarried x p
  unfolding parcel_limit
  carried_by c e p w q r =
      let carries : (m : ℕ) → contains_number (parcel_objects p) m ≡ true → contains_number (carried (past_in x) c) m ≡ true =
      λ m i. ap (λ (xs : List ℕ). contains_number xs m) r ∙ i in
      record {
        small = q.small;
        receive = record {
          portals = all_of (IsService x.services) (parcel_portals p)
              (λ k i. let m = parcel_made s w.before p k q i in (m.low, omega (arith, m.high, w.services, services_count s x h)));
          kept = all_of (IsKept (objects_in x.space)) (parcel_objects p) (λ m i. kept_there s x h m (ByCall c (carries m i)));
          riding = all_of (IsRiding (objects_in x.space)) (parcel_objects p) (λ m i. riding_there s x h c m (carries m i));
        };
      }

  -- the places of a call
  pub places_at : (c : ℕ) → 1 ≤ c → c ≤ calls_made (past_in x) → numbered x.places.places c ≡ Some (places_of (call_record (past_in x) c))
  unfolding call_records
  places_at c l u =
      ap (λ (items : List CallPlaces). numbered items c) h.calls.places_are ∙ numbered_map places_of (call_records (past_in x)) c
      ∙ ap (option_map places_of) (numbered_record (call_record (past_in x)) (calls_made (past_in x)) c l u)

  module _ (c : ℕ) (l : 1 ≤ c) (u : c ≤ calls_made (past_in x)) where
    -- the entry that queued it stands at its place
    pub queued_in : (place : CallPlaces) → Some place ≡ numbered x.places.places c → slice_get x.journal.entries place.queued ≡ Some (queued_there (past_in x) c l u).entry
    unfolding call_record
    queued_in place q =
        let k = queued_there (past_in x) c l u in
        let both : Some place ≡ Some (places_of (call_record (past_in x) c)) = q ∙ places_at c l u in
        let same : place ≡ places_of (call_record (past_in x) c) = cc in
        ap (λ (w : CallPlaces). slice_get x.journal.entries w.queued) same
        ∙ ap (λ (o : Option ℕ). slice_get x.journal.entries (unwrap_or o 0)) k.at
        ∙ ap (λ (xs : List Entry). slice_get xs k.place) (sym (reverse-reverse x.journal.entries)) ∙ k.there

    -- what it asked
    pub asked_in : (place : CallPlaces) (e : Entry) → Some place ≡ numbered x.places.places c → slice_get x.journal.entries place.queued ≡ Some e → asked_of (past_in x) c ≡ asked_by e.act
    unfolding asked_of
    asked_in place e q w =
        ap (option_and_then (λ (e : Entry). asked_by e.act)) ((queued_there (past_in x) c l u).queued ∙ sym (queued_in place q) ∙ w)

    -- its parcel may be handed over, while it is queued
    pub asked_carried : is_queued (past_in x) c ≡ true → (a : Asked) → asked_of (past_in x) c ≡ Some a → IsCarried x a.parcel
    unfolding asked_of asked_objects
    asked_carried queued a q =
        let k = queued_there (past_in x) c l u in
        let w = came s (past_in x) k.place k.entry h.stands.admitted k.there in
        carried_by c k.entry a.parcel w
        (asked_well s w.before k.entry.act a w.next.well_made (sym (ap (option_and_then (λ (e : Entry). asked_by e.act)) k.queued) ∙ q))
        (queued_carried (past_in x) c queued ∙ ap asked_objects q)

-- ---- the services

-- the services after the domain got the portals of the parcel, where one came
abbrev pub services_with : ServicesState → ℕ → Option Parcel → ServicesState
services_with x d None = x
services_with x d (Some p) = with_portals d p x

-- memory after it got the objects
abbrev pub space_with : SpaceState → ℕ → Option Parcel → SpaceState
space_with space d None = space
space_with space d (Some p) = received d p space

pub received_as : (x : Tables) (d : ℕ) (o : Option Parcel) → with_received x d o ≡ record x { services = services_with x.services d o; space = space_with x.space d o }
received_as x d None = refl
received_as x d (Some p) = refl

module _ (e : Entry) (q : ended_by e ≡ None) (l : 1 ≤ e.domain.0) where
  -- those that the entry gives, and no others
  those_held : (k : Kept) (those : ℕ → Bool) → ((j : ℕ) → gives_portal j e ≡ those j) →
      each_record (λ j item. if those j then held_by e.domain.0 item else item) k.services ≡ handed_services k e
  those_held k those g =
      each_alike (λ j item. if those j then held_by e.domain.0 item else item) (λ j item. record item { holders = portals_after e j item.holders }) 1 k.services
      (λ j item. sym (by j item (those j) (g j)))
    where
      by : (j : ℕ) (item : ServiceRecord) (b : Bool) → gives_portal j e ≡ b →
          with_holders item (portals_after e j item.holders) ≡ (if b then with_holders item (with_flag e.domain.0 true item.holders) else item)
      by j item true g = ap (with_holders item) (each_one (portal_after e j) (λ _. true) e.domain.0 1 item.holders l (λ x held. flag_given e q j x held g))
      by j item false g = ap (with_holders item) (each_left (portal_after e j) 1 item.holders (λ x held _. flag_left e q j x held g))

  -- the services after an entry that gives no portals but those of a parcel
  pub handed_parcel : (x : Tables) (o : Option Parcel) → received_parcel e.act e.reply ≡ o → received_service e.act e.reply ≡ None →
      services_with x.services e.domain.0 o ≡ record x.services { services = handed_services (kept_in x) e }
  unfolding gives_portal is_number passes
  handed_parcel x o p r =
      by o
      (λ j. ap2 (λ (n : Option ℕ) (o : Option Parcel). is_number n j || passes (λ p. contains_number (parcel_portals p) j) o) r p)
    where
      with_those : (services : List ServiceRecord) → services ≡ handed_services (kept_in x) e →
          (let y : ServicesState = record x.services { services = services } in y) ≡ record x.services { services = handed_services (kept_in x) e }
      with_those services z = ap (λ (services : List ServiceRecord). let y : ServicesState = record x.services { services = services } in y) z

      by : (o : Option Parcel) → ((j : ℕ) → gives_portal j e ≡ passes (λ p. contains_number (parcel_portals p) j) o) →
          services_with x.services e.domain.0 o ≡ record x.services { services = handed_services (kept_in x) e }
      by None g =
          with_those x.services.services (none (λ _. false) (held_by e.domain.0) 1 x.services.services (λ _. refl) ∙ those_held (kept_in x) (λ _. false) g)
      by (Some p) g =
          with_those (with_portals e.domain.0 p x.services).services (those_held (kept_in x) (contains_number (parcel_portals p)) g)

-- ---- memory

module _ (s : System) (x : Tables) (h : IsOf s x) (e : Entry) (q : ended_by e ≡ None) (l : 1 ≤ e.domain.0) (c : ℕ) (f : CallRecord → CallRecord) (stands : StandsAt (past_in x) c (call_state (past_in x) c)) (empty : (item : CallRecord) → (f item).carried ≡ []) where
  -- the records of the calls, of which one carries nothing any more
  abbrev pub calls_landed : List CallRecord
  calls_landed = changed_at (c - 1) f (call_records (past_in x))

  landed : (o : Option Parcel) → carried (past_in x) c ≡ objects_of_parcel o → received_objects e.act e.reply ≡ objects_of_parcel o →
      ((m : ℕ) → is_drop_of m e.act ≡ false) → ((line : List ℕ) → ends_one_of line e ≡ false) →
      handed_objects (kept_in x) e calls_landed ≡ each_of (objects_of_parcel o) (with_riding (λ n. n - 1)) (each_of (objects_of_parcel o) (with_holder e.domain.0 true) x.space.objects)
  unfolding call_record
  landed o r g p z =
      let xs : List ℕ = objects_of_parcel o in
      handed_are e q l (kept_in x) calls_landed (contains_number xs) (λ m. ap (λ (ys : List ℕ). contains_number ys m) g) p z
      ∙ ap (each_of xs (with_holder e.domain.0 true))
      (counted_less (c - 1) f (call_records (past_in x)) (call_record (past_in x) c) (call_record_there (past_in x) c (c - 1) (omega (arith, stands.low)) stands.high) x.space.objects (empty (call_record (past_in x) c))
      ∙ ap2 (λ (ys : List ℕ) (os : List ObjectRecord). each_of ys (with_riding (λ n. n - 1)) os) r (objects_counted s x h))
      ∙ sym (given_riding xs e.domain.0 (λ n. n - 1) x.space.objects)

  -- memory after an entry that hands the objects of a call over, and no others
  pub space_handed : (o : Option Parcel) → carried (past_in x) c ≡ objects_of_parcel o → received_objects e.act e.reply ≡ objects_of_parcel o →
      ((m : ℕ) → is_drop_of m e.act ≡ false) → ((line : List ℕ) → ends_one_of line e ≡ false) →
      space_with x.space e.domain.0 o ≡ record x.space { objects = handed_objects (kept_in x) e calls_landed }
  unfolding objects_of_parcel contains_number
  space_handed None r g p z =
      ap (λ (os : List ObjectRecord). record x.space { objects = os })
      (sym (landed None r g p z ∙ none_of (with_riding (λ n. n - 1)) (each_of [] (with_holder e.domain.0 true) x.space.objects) ∙ none_of (with_holder e.domain.0 true) x.space.objects))
    where
      none_of : (f : ObjectRecord → ObjectRecord) (os : List ObjectRecord) → each_of [] f os ≡ os
      none_of f os = each_left (λ m r. r) 1 os (λ m r _. refl)
  space_handed (Some p) r g d z = ap (λ (os : List ObjectRecord). record x.space { objects = os }) (sym (landed (Some p) r g d z))

-- ---- the entry

-- a change of each leaves as many
length_each : {A : Type 0} (f : ℕ → A → A) (a : ℕ) (xs : List A) → length (each_from f a xs) ≡ length xs
length_each f a [] = refl
length_each f a (x ∷ xs) = ap suc (length_each f (a + 1) xs)

module _ (s : System) (x : Tables) (d t : ℕ) (a : Act) (r : Reply) where
  -- the tables after it, with those calls, their places and their records
  abbrev pub received_tables : List Call → List CallPlaces → List CallRecord → Tables
  received_tables calls places records =
      record x {
        domains = record x.domains { threads = moved_threads (kept_in x) (entry d t a r) };
        services = record x.services { services = handed_services (kept_in x) (entry d t a r) };
        calls = record x.calls { calls = calls };
        places = record x.places { places = places };
        space = record x.space { objects = handed_objects (kept_in x) (entry d t a r) records };
      }

  -- the entry was made
  pub received_put : (calls : List Call) (places : List CallPlaces) (records : List CallRecord) (waiting : List ℕ) →
      IsPermittedIn s x d t a → LeavesRun (entry d t a r) → r ≡ reply_to s (past_in x) d a → AreCallsOf records calls places →
      StandsFor s (record (with_entry (kept_in x) (entry d t a r)) {
        threads = moved_threads (kept_in x) (entry d t a r);
        services = handed_services (kept_in x) (entry d t a r);
        calls = records;
        waiting = waiting;
        objects = handed_objects (kept_in x) (entry d t a r) records;
      }) →
      IsMadeOf s x (received_tables calls places records) (entry d t a r)
  received_put calls places records waiting h l q are k =
      let e : Entry = entry d t a r in
      let y : Tables = received_tables calls places records in
      let beside : IsBeside s x y e records = record {
        limit = refl;
        boots = refl;
        words = refl;
        ended = h.tables.ended ∙ sym (ended_same s e (past_in x) l.ended);
        serving = h.tables.serving ∙ sym (length_each (λ j item. record item { holders = portals_after e j item.holders }) 1 x.services.services);
        cost = costs_less s x e h.tables;
        calls_are = are;
        call_room = refl;
        place_room = refl;
        no_objects = ap (each_record (object_record_after e (kept_in x).parts records)) h.tables.no_objects;
        no_extents = h.tables.no_extents;
      } in
      run_entered s x y d t a r records waiting h l q refl refl refl beside k
