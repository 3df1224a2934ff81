-- An export, a bind or a lookup: the tables with its entry are those of the past with it.
use Rattle.std.proofs.Common.{◌≡◌, refl, sym, ◌∙◌, ap, subst, ℕ, ◌+◌, ◌-◌, ◌≤◌, Bool, true, false, not, List, [], ◌∷◌, length, Option, Some, None, is_some, arith, ◌==◌, if◌then◌else◌, ◌⊎◌, inl, inr}
use Rattle.std.specs.Prelude.{nat_le}
use Rattle.std.specs.Option.{option_and_then}
use Rattle.std.proofs.lemmas.List.{length-append}
use Rattle.domain_flags.specs.FlagLists.{with_flag}
use Rattle.domain_table.proofs.Rooms.{length_changed}
use Rattle.jx_base.specs.declared.act.Act.{Act}
use Rattle.jx_base.specs.declared.act.Act.TheVariants as act
use Rattle.jx_base.specs.declared.act.Entry.{Entry}
use Rattle.jx_base.specs.declared.act.Refusal.{Refusal}
use Rattle.jx_base.specs.declared.act.Refusal.TheVariants as refusal
use Rattle.jx_base.specs.declared.act.Reply.{Reply}
use Rattle.jx_base.specs.declared.act.Reply.TheVariants as reply
use Rattle.jx_base.specs.declared.ids.ClassId.{ClassId}
use Rattle.jx_base.specs.declared.ids.ServiceId.{ServiceId}
use Rattle.jx_base.specs.declared.program.System.{System}
use Rattle.jx_base.specs.Basics.{is_number, numbered, passes}
use Rattle.jx_base.specs.Histories.{Past}
use Rattle.jx_model.specs.Calls.{waiting_calls}
use Rattle.jx_model.specs.Domains.{ended_by, ended_by_act, is_birth, is_live, makes_domain}
use Rattle.jx_model.specs.Journal.{act_words, entry_words, is_full, reply_words, words_of}
use Rattle.jx_model.specs.Legal.{IsNext}
use Rattle.jx_model.specs.Permits.{acting_thread, is_create, is_create_entry, is_ending, is_halt, zero_may}
use Rattle.jx_model.specs.Portals.{gives_portal, received_parcel, received_service}
use Rattle.jx_model.specs.Replies.{portal_reply, reply_to, ◌refuses◌else◌}
use Rattle.jx_model.specs.Tables.{ServiceRecord, StandsFor, call_records}
use Rattle.nucleus_tables.proofs.EndedFlags.{ended_same}
use Rattle.nucleus_tables.proofs.Entered.{IsBeside, IsMadeOf, LeavesRun, costs_less, kept_with, left, run_entered, same_beside}
use Rattle.nucleus_tables.proofs.PortalChanges.{handed_lookup}
use Rattle.nucleus_tables.proofs.Room.{goes_on, room_left}
use Rattle.nucleus_calls.proofs.ServiceReplies.{bind_is, export_is, found_interface, found_made, lookup_is}
use Rattle.nucleus_tables.specs.Inner.{IsPermittedIn, kept_in, past_in}
use Rattle.nucleus_tables.specs.Portals.{HasNoParcel, with_service, with_services}
use Rattle.nucleus_tables.specs.declared.tables.Tables.{Tables}
use Rattle.portal_table.specs.ServiceLists as Portals
use Rattle.portal_table.specs.NameLists.{name_words}
use Rattle.program_model.specs.Limits.{domain_limit, entry_limit, journal_limit, name_limit}
use Rattle.table_steps.proofs.ActSteps.{stands_after_bind, stands_after_export, stands_after_lookup}
use Rattle.table_steps.proofs.PlainSteps.{stands_after_no_name, stands_after_refusal}
use Rattle.table_steps.proofs.Unchanged.{touches_calls}
use Rattle.table_steps.specs.Steps as Steps
use Rattle.table_threads.proofs.Actors.{acts_live, live_made}
use Rattle.table_threads.proofs.Records.{or_false}
use Rattle.table_threads.specs.CallChanges.{entry}

-- ---- who performs it

-- an export or a lookup is of a live domain
pub exporter_lives : (s : System) (past : Past) (d t : ℕ) (iface : ClassId) (n : ℕ) → acting_thread s past d (act.Export iface n) ≡ Some t → is_live past d ≡ true
unfolding is_halt zero_may
exporter_lives s past d t iface n q = acts_live s past d t (act.Export iface n) refl refl q

pub seeker_lives : (s : System) (past : Past) (d t : ℕ) (name : List ℕ) → acting_thread s past d (act.Lookup name) ≡ Some t → is_live past d ≡ true
unfolding is_halt zero_may
seeker_lives s past d t name q = acts_live s past d t (act.Lookup name) refl refl q

-- a bind that may come has room for its name
pub name_fits : (s : System) (x : Tables) (d t : ℕ) (name : List ℕ) (k : ServiceId) → IsPermittedIn s x d t (act.Bind name k) → name_words ((name, k.0) ∷ x.services.binds) ≤ x.services.words
unfolding is_full is_halt entry_limit name_limit
name_fits s x d t name k h = by (goes_on s (past_in x) d t (act.Bind name k) h.thread).room
  where
    by : (is_full s (past_in x) ≡ false) ⊎ (is_halt (act.Bind name k) ≡ true) → name_words ((name, k.0) ∷ x.services.binds) ≤ x.services.words
    by (inl q) = omega (arith, room_left (words_of (past_in x)) (journal_limit s) q, h.tables.cost, h.tables.names, h.may_come.well_made.0.short)
    by (inr q) = cc

-- ---- what is replied

module _ (x : Portals.ServicesState) where
  -- an export's
  pub export_answers : (iface : ClassId) → HasNoParcel (Portals.export_reply x iface)
  unfolding ◌refuses◌else◌
  export_answers iface = by (nat_le 256 (length x.services))
    where
      by : (b : Bool) → HasNoParcel (if b then reply.Refused refusal.TooMany else reply.Service (record { 0 = length x.services + 1 }) iface)
      by true = tt
      by false = tt

  -- a bind's
  pub bind_answers : (d : ℕ) (name : List ℕ) (k : ℕ) → HasNoParcel (Portals.bind_reply x d name k)
  unfolding ◌refuses◌else◌
  bind_answers d name k = by (Portals.holds_in x d k) (is_some (Portals.service_bound x name))
    where
      by : (b c : Bool) → HasNoParcel (if not b then reply.Refused refusal.NotHeld else if c then reply.Refused refusal.Taken else reply.Done)
      by false c = tt
      by true true = tt
      by true false = tt

  -- a lookup's
  pub lookup_answers : (name : List ℕ) → HasNoParcel (Portals.lookup_reply x name)
  unfolding portal_reply
  lookup_answers name = by (Portals.service_bound x name)
    where
      found : (k : ℕ) (o : Option ClassId) → HasNoParcel (portal_reply k o)
      found k None = tt
      found k (Some c) = tt

      by : (o : Option ℕ) → HasNoParcel (Portals.portal_of x o)
      by None = tt
      by (Some k) = found k (option_and_then (λ r. r.interface) (numbered x.services k))

-- ---- entries that end nothing and make no domain

exported : (d t : ℕ) (iface : ClassId) (n : ℕ) (r : Reply) → LeavesRun (entry d t (act.Export iface n) r)
unfolding is_ending is_create_entry is_create is_birth makes_domain ended_by ended_by_act
exported d t iface n r = record { going = refl; create = refl; birth = refl; ended = refl }

bound : (d t : ℕ) (name : List ℕ) (k : ServiceId) (r : Reply) → LeavesRun (entry d t (act.Bind name k) r)
unfolding is_ending is_create_entry is_create is_birth makes_domain ended_by ended_by_act
bound d t name k r = record { going = refl; create = refl; birth = refl; ended = refl }

sought : (d t : ℕ) (name : List ℕ) (r : Reply) → LeavesRun (entry d t (act.Lookup name) r)
unfolding is_ending is_create_entry is_create is_birth makes_domain ended_by ended_by_act
sought d t name r = record { going = refl; create = refl; birth = refl; ended = refl }

module _ (s : System) (x : Tables) (d t : ℕ) where
  -- the tables with such an entry
  run_put : (y : Tables) (a : Act) (r : Reply) → IsPermittedIn s x d t a → LeavesRun (entry d t a r) → r ≡ reply_to s (past_in x) d a → y.over ≡ x.over → y.creates ≡ x.creates → y.journal ≡ x.journal →
      IsBeside s x y (entry d t a r) (call_records (past_in x)) → StandsFor s (kept_with x y (entry d t a r)) → IsMadeOf s x y (entry d t a r)
  run_put y a r h l q o c j b k = run_entered s x y d t a r (call_records (past_in x)) (waiting_calls (past_in x)) h l q o c j b k

  -- a refusal
  pub refused_put : (a : Act) (r : Refusal) → IsPermittedIn s x d t a → LeavesRun (entry d t a (reply.Refused r)) → touches_calls a ≡ false → reply.Refused r ≡ reply_to s (past_in x) d a →
      IsMadeOf s x x (entry d t a (reply.Refused r))
  refused_put a r h l p q =
      let e : Entry = entry d t a (reply.Refused r) in
      let next : IsNext s (past_in x) e = record { thread = h.thread; well_made = h.may_come.well_made; reply = q } in
      run_put x a (reply.Refused r) h l q refl refl refl (same_beside s x x e h.tables l.ended refl refl refl refl (left x)) (stands_after_refusal s (kept_in x) d t a r h.tables.stands next p)

  -- ---- exports

  export_put : (iface : ClassId) (n : ℕ) (k : ServiceId) → IsPermittedIn s x d t (act.Export iface n) → reply.Service k iface ≡ reply_to s (past_in x) d (act.Export iface n) →
      IsMadeOf s x (with_service x d iface n (reply.Service k iface)) (entry d t (act.Export iface n) (reply.Service k iface))
  unfolding domain_limit
  export_put iface n k h q =
      let a : Act = act.Export iface n in
      let r : Reply = reply.Service k iface in
      let e : Entry = entry d t a r in
      let y : Tables = with_service x d iface n r in
      let next : IsNext s (past_in x) e = record { thread = h.thread; well_made = h.may_come.well_made; reply = q } in
      let beside : IsBeside s x y e (call_records (past_in x)) = record {
        limit = refl;
        boots = refl;
        words = refl;
        ended = h.tables.ended ∙ sym (ended_same s e (past_in x) (exported d t iface n r).ended);
        serving = ap (λ (k : ℕ). k + 1) h.tables.serving ∙ sym (length-append x.services.services (Portals.new_service d iface ∷ []));
        cost = costs_less s x e h.tables;
        calls_are = h.tables.calls;
        call_room = refl;
        place_room = refl;
        no_objects = h.tables.no_objects;
        no_extents = h.tables.no_extents;
      } in
      run_put y a r h (exported d t iface n r) q refl refl refl beside (stands_after_export s (kept_in x) d t iface n k iface h.tables.stands next)

  pub export_entered : (iface : ClassId) (n : ℕ) (r : Reply) → IsPermittedIn s x d t (act.Export iface n) → r ≡ Portals.export_reply x.services iface →
      IsMadeOf s x (with_service x d iface n r) (entry d t (act.Export iface n) r)
  unfolding ◌refuses◌else◌
  export_entered iface n r h q =
      subst (λ (r : Reply). IsMadeOf s x (with_service x d iface n r) (entry d t (act.Export iface n) r)) (sym q)
      (by (nat_le 256 (length x.services.services)) (export_is s x h.tables d iface n))
    where
      answer : Bool → Reply
      answer b = if b then reply.Refused refusal.TooMany else reply.Service (record { 0 = length x.services.services + 1 }) iface

      by : (b : Bool) → answer b ≡ reply_to s (past_in x) d (act.Export iface n) → IsMadeOf s x (with_service x d iface n (answer b)) (entry d t (act.Export iface n) (answer b))
      by true q = refused_put (act.Export iface n) refusal.TooMany h (exported d t iface n (reply.Refused refusal.TooMany)) refl q
      by false q = export_put iface n (record { 0 = length x.services.services + 1 }) h q

  -- ---- binds

  bind_put : (name : List ℕ) (k : ServiceId) → IsPermittedIn s x d t (act.Bind name k) → reply.Done ≡ reply_to s (past_in x) d (act.Bind name k) →
      IsMadeOf s x (with_services x (record x.services { binds = (name, k.0) ∷ x.services.binds })) (entry d t (act.Bind name k) reply.Done)
  unfolding words_of entry_words act_words reply_words
  bind_put name k h q =
      let a : Act = act.Bind name k in
      let e : Entry = entry d t a reply.Done in
      let y : Tables = with_services x (record x.services { binds = (name, k.0) ∷ x.services.binds }) in
      let next : IsNext s (past_in x) e = record { thread = h.thread; well_made = h.may_come.well_made; reply = q } in
      let beside : IsBeside s x y e (call_records (past_in x)) = record {
        limit = refl;
        boots = refl;
        words = refl;
        ended = h.tables.ended ∙ sym (ended_same s e (past_in x) (bound d t name k reply.Done).ended);
        serving = h.tables.serving;
        cost = omega (arith, h.tables.cost);
        calls_are = h.tables.calls;
        call_room = refl;
        place_room = refl;
        no_objects = h.tables.no_objects;
        no_extents = h.tables.no_extents;
      } in
      run_put y a reply.Done h (bound d t name k reply.Done) q refl refl refl beside (stands_after_bind s (kept_in x) d t name k h.tables.stands next)

  pub bind_entered : (name : List ℕ) (k : ServiceId) (r : Reply) → IsPermittedIn s x d t (act.Bind name k) → r ≡ Portals.bind_reply x.services d name k.0 →
      IsMadeOf s x (with_services x (Portals.after_bind x.services d name k.0)) (entry d t (act.Bind name k) r)
  unfolding ◌refuses◌else◌
  bind_entered name k r h q =
      subst (λ (r : Reply). IsMadeOf s x (with_services x (Portals.after_bind x.services d name k.0)) (entry d t (act.Bind name k) r)) (sym q)
      (by (Portals.holds_in x.services d k.0) (is_some (Portals.service_bound x.services name)) (bind_is s x h.tables d name k))
    where
      answer : Bool → Bool → Reply
      answer b c = if not b then reply.Refused refusal.NotHeld else if c then reply.Refused refusal.Taken else reply.Done

      after : Bool → Bool → Tables
      after b c = with_services x (if not b then x.services else if c then x.services else record x.services { binds = (name, k.0) ∷ x.services.binds })

      by : (b c : Bool) → answer b c ≡ reply_to s (past_in x) d (act.Bind name k) → IsMadeOf s x (after b c) (entry d t (act.Bind name k) (answer b c))
      by false c q = refused_put (act.Bind name k) refusal.NotHeld h (bound d t name k (reply.Refused refusal.NotHeld)) refl q
      by true true q = refused_put (act.Bind name k) refusal.Taken h (bound d t name k (reply.Refused refusal.Taken)) refl q
      by true false q = bind_put name k h q

  -- ---- lookups

  missed_put : (name : List ℕ) → IsPermittedIn s x d t (act.Lookup name) → reply.NoName ≡ reply_to s (past_in x) d (act.Lookup name) →
      IsMadeOf s x x (entry d t (act.Lookup name) reply.NoName)
  missed_put name h q =
      let a : Act = act.Lookup name in
      let e : Entry = entry d t a reply.NoName in
      let l : LeavesRun e = sought d t name reply.NoName in
      let next : IsNext s (past_in x) e = record { thread = h.thread; well_made = h.may_come.well_made; reply = q } in
      run_put x a reply.NoName h l q refl refl refl (same_beside s x x e h.tables l.ended refl refl refl refl (left x)) (stands_after_no_name s (kept_in x) d t name h.tables.stands next)

  gives_found : (name : List ℕ) (k : ServiceId) (c : ClassId) (j : ℕ) → gives_portal j (entry d t (act.Lookup name) (reply.Service k c)) ≡ (k.0 == j)
  unfolding gives_portal received_service received_parcel is_number passes
  gives_found name k c j = or_false (k.0 == j)

  found_put : (name : List ℕ) (k : ServiceId) (c : ClassId) → IsPermittedIn s x d t (act.Lookup name) → 1 ≤ k.0 → reply.Service k c ≡ reply_to s (past_in x) d (act.Lookup name) →
      IsMadeOf s x (with_services x (Portals.with_holder x.services d k.0)) (entry d t (act.Lookup name) (reply.Service k c))
  found_put name k c h v q =
      let a : Act = act.Lookup name in
      let r : Reply = reply.Service k c in
      let e : Entry = entry d t a r in
      let l : LeavesRun e = sought d t name r in
      let y : Tables = with_services x (Portals.with_holder x.services d k.0) in
      let low : 1 ≤ d = (live_made (past_in x) d (seeker_lives s (past_in x) d t name h.thread)).low in
      let next : IsNext s (past_in x) e = record { thread = h.thread; well_made = h.may_come.well_made; reply = q } in
      let beside : IsBeside s x y e (call_records (past_in x)) = record {
        limit = refl;
        boots = refl;
        words = refl;
        ended = h.tables.ended ∙ sym (ended_same s e (past_in x) l.ended);
        serving = h.tables.serving ∙ sym (length_changed (k.0 - 1) (λ item. record item { holders = with_flag d true item.holders }) x.services.services);
        cost = costs_less s x e h.tables;
        calls_are = h.tables.calls;
        call_room = refl;
        place_room = refl;
        no_objects = h.tables.no_objects;
        no_extents = h.tables.no_extents;
      } in
      run_put y a r h l q refl refl refl beside
      (subst (λ (services : List ServiceRecord). StandsFor s (record (Steps.with_entry (kept_in x) e) { services = services }))
      (sym (handed_lookup e l.ended (kept_in x) k.0 v low (gives_found name k c)))
      (stands_after_lookup s (kept_in x) d t name k c h.tables.stands next))

  pub lookup_entered : (name : List ℕ) (r : Reply) → IsPermittedIn s x d t (act.Lookup name) → r ≡ Portals.lookup_reply x.services name →
      IsMadeOf s x (with_services x (Portals.after_lookup x.services d name)) (entry d t (act.Lookup name) r)
  unfolding portal_reply
  lookup_entered name r h q =
      subst (λ (r : Reply). IsMadeOf s x (with_services x (Portals.after_lookup x.services d name)) (entry d t (act.Lookup name) r)) (sym q)
      (by (Portals.service_bound x.services name) refl (lookup_is s x h.tables d name))
    where
      found : (k : ℕ) (o : Option ClassId) → 1 ≤ k → is_some o ≡ true → portal_reply k o ≡ reply_to s (past_in x) d (act.Lookup name) →
          IsMadeOf s x (with_services x (Portals.with_holder x.services d k)) (entry d t (act.Lookup name) (portal_reply k o))
      found k None l p q = cc
      found k (Some c) l p q = found_put name (record { 0 = k }) c h l q

      by : (o : Option ℕ) → Portals.service_bound x.services name ≡ o → Portals.portal_of x.services o ≡ reply_to s (past_in x) d (act.Lookup name) →
          IsMadeOf s x (with_services x (Portals.after_portal x.services d o)) (entry d t (act.Lookup name) (Portals.portal_of x.services o))
      by None p q = missed_put name h q
      by (Some k) p q =
          let m = found_made s x h.tables name k p in
          found k (option_and_then (λ r. r.interface) (numbered x.services.services k)) m.low (found_interface s x h.tables k m) q
