-- What stays of all that is kept, by what an entry doesn't do.
use Rattle.std.proofs.Common.{◌≡◌, refl, sym, ◌∙◌, ap, ℕ, ◌+◌, Bool, true, false, ◌&&◌, ◌||◌, List, [], ◌∷◌, ◌++◌, Option, None, is_some, if◌then◌else◌, ◌⊎◌, inl, inr, append-nil}
use Rattle.jx_base.specs.declared.act.Act.{Act}
use Rattle.jx_base.specs.declared.act.Act.TheVariants as act
use Rattle.jx_base.specs.declared.act.Reply.{Reply}
use Rattle.jx_base.specs.declared.act.Reply.TheVariants as reply
use Rattle.jx_base.specs.declared.act.Refusal.{Refusal}
use Rattle.jx_base.specs.declared.act.Entry.{Entry}
use Rattle.jx_base.specs.declared.value.Parcel.{Parcel}
use Rattle.jx_base.specs.declared.program.System.{System}
use Rattle.jx_base.specs.Basics.{contains_number, is_number, passes}
use Rattle.program_model.specs.ParcelParts.{parcel_portals}
use Rattle.jx_base.specs.Histories.{Past, is_done, is_own, count_where}
use Rattle.jx_model.specs.Domains.{is_birth, makes_domain, ended_by, ended_by_act}
use Rattle.jx_model.specs.Portals.{is_export, exported_interface, received_service, received_parcel, gives_portal, bound_by_act}
use Rattle.jx_model.specs.Calls.{is_call, asked_by, queued_as, is_take_of, is_resume_of, answered_by_act, waiting_calls}
use Rattle.jx_model.specs.MemoryObjects.{Part, objects_of, new_parts, extents_made, is_allocation, makes_extent, ended_object}
use Rattle.jx_model.specs.Holding.{received_objects, objects_in, is_drop_of}
use Rattle.jx_model.specs.Journal.{words_of, entry_words}
use Rattle.jx_model.specs.Permits.{is_over, is_ending, creates_made, is_create_entry}
use Rattle.jx_model.specs.Tables.{Kept, StandsFor, ThreadRecord, domain_records, service_records, call_records, object_records, extent_records, granule_flags}
use Rattle.jx_model.specs.Legal.{IsNext, IsAdmittedPast}
use Rattle.jx_base.proofs.BasicLaws.{ap2, and_false}
use Rattle.table_threads.proofs.DomainRecords.{domains_same}
use Rattle.table_threads.specs.ThreadChanges.{thread_table}
use Rattle.table_threads.proofs.CallActs.{TouchesNoCall, calls_untouched, waiting_untouched}
use Rattle.table_objects.specs.HolderChanges.{gives_object, drops_object}
use Rattle.table_objects.proofs.ObjectRecords.{objects_same, object_record_same}
use Rattle.table_objects.proofs.ServiceRecords.{services_kept, portals_same}
use Rattle.table_threads.specs.LastBinds.{HasLastBinds}
use Rattle.table_threads.proofs.Binds.{binds_same}
use Rattle.jx_model.proofs.Exported.{exported_stays}
use Rattle.table_extents.specs.ExtentChanges.{writes}
use Rattle.table_extents.proofs.ExtentRecords.{extents_untouched, granules_untouched}
use Rattle.table_steps.specs.Steps.{with_entry}
use Rattle.jx_model.proofs.Refusals.{no_domain, no_end, no_export, no_parcel, no_service, no_bind, no_extent, no_parts, no_objects}

-- ---- what an entry doesn't do

-- it makes no domain and ends none
pub record LeavesLife (e : Entry) : Type 0 where
  pub birth : is_birth e ≡ false
  pub ends : ended_by e ≡ None

-- it makes no service, hands over no portal and binds no name
pub record LeavesServices (e : Entry) : Type 0 where
  pub export : is_export e ≡ false
  pub service : received_service e.act e.reply ≡ None
  pub parcel : received_parcel e.act e.reply ≡ None
  pub bind : (name : List ℕ) → bound_by_act name e.act e.reply ≡ None

-- it makes, hands over, drops and ends no object
pub record LeavesObjects (past : Past) (e : Entry) : Type 0 where
  pub parts : new_parts (objects_of past) (extents_made past + 1) e.act e.reply ≡ []
  pub received : received_objects e.act e.reply ≡ []
  pub drop : (m : ℕ) → (is_done e.reply && is_drop_of m e.act) ≡ false
  pub ending : (is_done e.reply ≡ false) ⊎ (ended_object e.act ≡ None)
  pub allocation : is_allocation e ≡ false

-- no portal
pub no_portal : (e : Entry) → LeavesServices e → (d k : ℕ) → (is_own d e && gives_portal k e) ≡ false
unfolding gives_portal is_number passes
no_portal e h d k =
    ap2 (λ (o : Option ℕ) (p : Option Parcel). is_own d e && (is_number o k || passes (λ x. contains_number (parcel_portals x) k) p)) h.service h.parcel ∙ and_false (is_own d e)

-- nothing is given
pub no_gift : (past : Past) (e : Entry) → LeavesObjects past e → (d m : ℕ) → gives_object e d m ≡ false
unfolding contains_number
no_gift past e h d m = ap (λ (xs : List ℕ). is_own d e && contains_number xs m) h.received ∙ and_false (is_own d e)

-- and nothing dropped
pub no_drop : (e : Entry) → ((m : ℕ) → (is_done e.reply && is_drop_of m e.act) ≡ false) → (d m : ℕ) → drops_object e d m ≡ false
no_drop e h d m = turn (is_own d e) (is_done e.reply) (is_drop_of m e.act) ∙ ap (λ (b : Bool). is_own d e && b) (h m) ∙ and_false (is_own d e)
  where
    turn : (x y z : Bool) → (x && y && z) ≡ (x && (y && z))
    turn true y z = refl
    turn false y z = refl

-- ---- what each entry changes

module _ (s : System) (k : Kept) (e : Entry) (h : StandsFor s k) (n : IsNext s k.past e) where
  -- whether the run is over
  pub over_after : (is_ending e.act || k.over) ≡ is_over (e ∷ k.past)
  unfolding is_over
  over_after = ap (λ (b : Bool). is_ending e.act || b) h.over

  -- the words
  pub words_after : k.words + entry_words e ≡ words_of (e ∷ k.past)
  unfolding words_of
  words_after = ap (λ (m : ℕ). m + entry_words e) h.words

  -- the creates
  pub creates_after : k.creates + (if is_create_entry e then 1 else 0) ≡ creates_made (e ∷ k.past)
  unfolding count_where
  creates_after = ap (λ (m : ℕ). m + (if is_create_entry e then 1 else 0)) h.creates

-- ---- what stays

module _ (s : System) (k : Kept) (e : Entry) (h : StandsFor s k) (n : IsNext s k.past e) where
  -- the past with the entry is admitted
  pub admitted : IsAdmittedPast s (e ∷ k.past)
  admitted = (n, h.admitted)

  -- the domains
  pub keeps_domains : LeavesLife e → k.domains ≡ domain_records s (e ∷ k.past)
  keeps_domains l = h.domains ∙ sym (domains_same s k.past e l.birth l.ends)

  -- the services
  pub keeps_services : LeavesServices e → ended_by e ≡ None → k.services ≡ service_records s (e ∷ k.past)
  keeps_services v z = h.services ∙ sym (services_kept s e k.past v.export (λ j l u. portals_same s e k.past j n (exported_stays e k.past j (record { low = l; high = u })) z (λ d. no_portal e v d j)))

  -- the names
  pub keeps_names : ((name : List ℕ) → bound_by_act name e.act e.reply ≡ None) → HasLastBinds k.names (e ∷ k.past)
  keeps_names b = binds_same k.names e k.past h.names b

  -- the calls
  pub keeps_calls : TouchesNoCall e → k.calls ≡ call_records (e ∷ k.past)
  keeps_calls c = h.calls ∙ sym (calls_untouched s e k.past h.admitted c)

  -- the waiting calls
  pub keeps_waiting : TouchesNoCall e → k.waiting ≡ waiting_calls (e ∷ k.past)
  keeps_waiting c = h.waiting ∙ sym (waiting_untouched e k.past c)

  -- the parts
  pub keeps_parts : new_parts (objects_of k.past) (extents_made k.past + 1) e.act e.reply ≡ [] → k.parts ≡ objects_of (e ∷ k.past)
  unfolding objects_of
  keeps_parts p = h.parts ∙ sym (ap (λ (xs : List Part). objects_of k.past ++ xs) p ∙ append-nil _)

  -- the objects
  pub keeps_objects : LeavesObjects k.past e → TouchesNoCall e → k.objects ≡ object_records s (e ∷ k.past)
  keeps_objects o c =
      h.objects ∙ sym (objects_same s e k.past o.parts (λ m l u. object_record_same s e k.past m n u o.ending c.ends (λ d. no_gift k.past e o d m) (λ d. no_drop e o.drop d m) (calls_untouched s e k.past h.admitted c)))

  -- the extents
  pub keeps_extents : is_allocation e ≡ false → ended_by e ≡ None → ((m : ℕ) → (is_done e.reply && is_drop_of m e.act) ≡ false) → (is_done e.reply && writes e.act) ≡ false → k.extents ≡ extent_records (e ∷ k.past)
  keeps_extents b z d w = h.extents ∙ sym (extents_untouched s e k.past admitted b z (no_drop e d) w)

  -- the granules
  pub keeps_taken : LeavesLife e → is_allocation e ≡ false → ((m : ℕ) → (is_done e.reply && is_drop_of m e.act) ≡ false) → k.taken ≡ granule_flags s (e ∷ k.past)
  keeps_taken l b d = h.taken ∙ sym (granules_untouched s e k.past admitted l.ends (no_drop e d) l.birth b)

-- an entry that does nothing but to its thread
pub record IsPlain (past : Past) (e : Entry) : Type 0 where
  pub life : LeavesLife e
  pub services : LeavesServices e
  pub calls : TouchesNoCall e
  pub objects : LeavesObjects past e
  pub unwritten : (is_done e.reply && writes e.act) ≡ false

-- it leaves all that is kept, but for the threads
pub stands_after_plain : (s : System) (k : Kept) (e : Entry) (threads : List (List ThreadRecord)) → StandsFor s k → IsNext s k.past e → IsPlain k.past e → threads ≡ thread_table (e ∷ k.past) →
    StandsFor s (record (with_entry k e) { threads = threads })
stands_after_plain s k e threads h n p t =
    record {
      admitted = (n, h.admitted);
      over = over_after s k e h n;
      words = words_after s k e h n;
      creates = creates_after s k e h n;
      domains = keeps_domains s k e h n p.life;
      threads = t;
      services = keeps_services s k e h n p.services p.life.ends;
      names = keeps_names s k e h n p.services.bind;
      calls = keeps_calls s k e h n p.calls;
      waiting = keeps_waiting s k e h n p.calls;
      parts = keeps_parts s k e h n p.objects.parts;
      objects = keeps_objects s k e h n p.objects p.calls;
      extents = keeps_extents s k e h n p.objects.allocation p.life.ends p.objects.drop p.unwritten;
      taken = keeps_taken s k e h n p.life p.objects.allocation p.objects.drop;
    }

-- ---- which entries are plain

-- whether an act does nothing but to its thread whatever the reply is
abbrev pub is_plain_act : Act → Bool
is_plain_act (act.Print text) = true
is_plain_act (act.Go t) = true
is_plain_act (act.Size m) = true
is_plain_act (act.Get m at width) = true
is_plain_act act.Yield = true
is_plain_act (act.EndThread c) = true
is_plain_act act.Quiet = true
is_plain_act act.Halt = true
is_plain_act _ = false

-- such an act is plain
pub plain_act : (past : Past) (d t : ℕ) (a : Act) (r : Reply) → is_plain_act a ≡ true → IsPlain past (record { domain = record { 0 = d }; thread = record { 0 = t }; act = a; reply = r })
unfolding is_birth makes_domain ended_by ended_by_act is_export exported_interface received_service received_parcel bound_by_act is_call asked_by is_take_of is_resume_of answered_by_act new_parts received_objects objects_in is_drop_of ended_object is_allocation makes_extent
plain_act past d t (act.Print text) r h =
    record {
      life = record { birth = refl; ends = refl };
      services = record { export = refl; service = refl; parcel = refl; bind = λ n. refl };
      calls = record { call = refl; ends = refl; take = λ c. refl; resume = λ c. refl; answer = λ c. refl };
      objects = record { parts = refl; received = refl; drop = λ m. and_false (is_done r); ending = inr refl; allocation = refl };
      unwritten = and_false (is_done r);
    }
plain_act past d t (act.Go k) r h =
    record {
      life = record { birth = refl; ends = refl };
      services = record { export = refl; service = refl; parcel = refl; bind = λ n. refl };
      calls = record { call = refl; ends = refl; take = λ c. refl; resume = λ c. refl; answer = λ c. refl };
      objects = record { parts = refl; received = refl; drop = λ m. and_false (is_done r); ending = inr refl; allocation = refl };
      unwritten = and_false (is_done r);
    }
plain_act past d t (act.Size m) r h =
    record {
      life = record { birth = refl; ends = refl };
      services = record { export = refl; service = refl; parcel = refl; bind = λ n. refl };
      calls = record { call = refl; ends = refl; take = λ c. refl; resume = λ c. refl; answer = λ c. refl };
      objects = record { parts = refl; received = refl; drop = λ m. and_false (is_done r); ending = inr refl; allocation = refl };
      unwritten = and_false (is_done r);
    }
plain_act past d t (act.Get m at width) r h =
    record {
      life = record { birth = refl; ends = refl };
      services = record { export = refl; service = refl; parcel = refl; bind = λ n. refl };
      calls = record { call = refl; ends = refl; take = λ c. refl; resume = λ c. refl; answer = λ c. refl };
      objects = record { parts = refl; received = refl; drop = λ m. and_false (is_done r); ending = inr refl; allocation = refl };
      unwritten = and_false (is_done r);
    }
plain_act past d t act.Yield r h =
    record {
      life = record { birth = refl; ends = refl };
      services = record { export = refl; service = refl; parcel = refl; bind = λ n. refl };
      calls = record { call = refl; ends = refl; take = λ c. refl; resume = λ c. refl; answer = λ c. refl };
      objects = record { parts = refl; received = refl; drop = λ m. and_false (is_done r); ending = inr refl; allocation = refl };
      unwritten = and_false (is_done r);
    }
plain_act past d t (act.EndThread c) r h =
    record {
      life = record { birth = refl; ends = refl };
      services = record { export = refl; service = refl; parcel = refl; bind = λ n. refl };
      calls = record { call = refl; ends = refl; take = λ c. refl; resume = λ c. refl; answer = λ c. refl };
      objects = record { parts = refl; received = refl; drop = λ m. and_false (is_done r); ending = inr refl; allocation = refl };
      unwritten = and_false (is_done r);
    }
plain_act past d t act.Quiet r h =
    record {
      life = record { birth = refl; ends = refl };
      services = record { export = refl; service = refl; parcel = refl; bind = λ n. refl };
      calls = record { call = refl; ends = refl; take = λ c. refl; resume = λ c. refl; answer = λ c. refl };
      objects = record { parts = refl; received = refl; drop = λ m. and_false (is_done r); ending = inr refl; allocation = refl };
      unwritten = and_false (is_done r);
    }
plain_act past d t act.Halt r h =
    record {
      life = record { birth = refl; ends = refl };
      services = record { export = refl; service = refl; parcel = refl; bind = λ n. refl };
      calls = record { call = refl; ends = refl; take = λ c. refl; resume = λ c. refl; answer = λ c. refl };
      objects = record { parts = refl; received = refl; drop = λ m. and_false (is_done r); ending = inr refl; allocation = refl };
      unwritten = and_false (is_done r);
    }
plain_act past d t _ r h = cc

-- a lookup that finds no name is plain
pub plain_lookup : (past : Past) (d t : ℕ) (name : List ℕ) → IsPlain past (record { domain = record { 0 = d }; thread = record { 0 = t }; act = act.Lookup name; reply = reply.NoName })
unfolding is_birth makes_domain ended_by ended_by_act is_export exported_interface received_service received_parcel bound_by_act is_call asked_by is_take_of is_resume_of answered_by_act new_parts received_objects objects_in is_drop_of ended_object is_allocation makes_extent is_done
plain_lookup past d t name =
    record {
      life = record { birth = refl; ends = refl };
      services = record { export = refl; service = refl; parcel = refl; bind = λ n. refl };
      calls = record { call = refl; ends = refl; take = λ c. refl; resume = λ c. refl; answer = λ c. refl };
      objects = record { parts = refl; received = refl; drop = λ m. refl; ending = inr refl; allocation = refl };
      unwritten = refl;
    }

-- ---- refusals

-- whether an act is a choice or answers a call
abbrev pub touches_calls : Act → Bool
touches_calls (act.Take c) = true
touches_calls (act.Resume c) = true
touches_calls (act.Return c p) = true
touches_calls (act.Throw c p) = true
touches_calls _ = false

untaken : (a : Act) (c : ℕ) → touches_calls a ≡ false → is_take_of c a ≡ false
unfolding is_take_of
untaken (act.Take k) c h = cc
untaken _ c h = refl

unresumed : (a : Act) (c : ℕ) → touches_calls a ≡ false → is_resume_of c a ≡ false
unfolding is_resume_of
unresumed (act.Resume k) c h = cc
unresumed _ c h = refl

unanswered : (a : Act) (r : Reply) (c : ℕ) → touches_calls a ≡ false → answered_by_act c a r ≡ None
unfolding answered_by_act
unanswered (act.Return k p) r c h = cc
unanswered (act.Throw k p) r c h = cc
unanswered _ r c h = refl

-- a refused act is plain, but for a return or throw
pub plain_refusal : (s : System) (past : Past) (e : Entry) (r : Refusal) → IsNext s past e → e.reply ≡ reply.Refused r → touches_calls e.act ≡ false → IsPlain past e
unfolding is_birth ended_by is_export is_call queued_as is_allocation is_done
plain_refusal s past e r n q h =
    record {
      life = record { birth = ap (makes_domain e.act) q ∙ no_domain e.act r; ends = ends };
      services = record {
        export = ap (λ (y : Reply). is_some (exported_interface e.act y)) q ∙ ap is_some (no_export e.act r);
        service = ap (received_service e.act) q ∙ no_service e.act r;
        parcel = ap (received_parcel e.act) q ∙ no_parcel e.act r;
        bind = λ name. ap (bound_by_act name e.act) q ∙ no_bind name e.act r;
      };
      calls = record {
        call = ap (λ (y : Reply). is_some (asked_by e.act) && is_some (queued_as y)) q ∙ and_false (is_some (asked_by e.act));
        ends = ends;
        take = λ c. untaken e.act c h;
        resume = λ c. unresumed e.act c h;
        answer = λ c. unanswered e.act e.reply c h;
      };
      objects = record {
        parts = ap (new_parts (objects_of past) (extents_made past + 1) e.act) q ∙ no_parts (objects_of past) (extents_made past + 1) e.act r;
        received = ap (received_objects e.act) q ∙ no_objects e.act r;
        drop = λ m. ap (λ (y : Reply). is_done y && is_drop_of m e.act) q;
        ending = inl (ap is_done q);
        allocation = ap (makes_extent e.act) q ∙ no_extent e.act r;
      };
      unwritten = ap (λ (y : Reply). is_done y && writes e.act) q;
    }
  where
    ends : ended_by_act e.domain.0 e.act e.reply ≡ None
    ends = ap (ended_by_act e.domain.0 e.act) q ∙ no_end s past e.domain.0 e.act r (sym q ∙ n.reply)
