-- A refused entry changes nothing but the answer of its call and its thread.
use Rattle.std.proofs.Common.{◌≡◌, refl, sym, ◌∙◌, ap, ℕ, ◌+◌, ◌≤◌, Bool, true, false, not, ◌&&◌, ◌||◌, List, [], ◌∷◌, ◌++◌, length, Option, Some, None, is_some, is_none, arith, append-nil, length-append, if◌then◌else◌}
use Rattle.std.specs.Prelude.{nat_le}
use Rattle.std.proofs.lemmas.Bool.Decides.{nat_tests}
use Rattle.jx_base.specs.declared.act.Act.{Act}
use Rattle.jx_base.specs.declared.act.Act.TheVariants as act
use Rattle.jx_base.specs.declared.act.Reason.{Reason}
use Rattle.jx_base.specs.declared.act.Reply.{Reply}
use Rattle.jx_base.specs.declared.act.Reply.TheVariants as reply
use Rattle.jx_base.specs.declared.act.Refusal.{Refusal}
use Rattle.jx_base.specs.declared.act.Entry.{Entry}
use Rattle.jx_base.specs.declared.program.System.{System}
use Rattle.jx_base.specs.declared.ids.ServiceId.{ServiceId}
use Rattle.jx_base.specs.declared.value.Parcel.{Parcel}
use Rattle.jx_base.specs.Basics.{passes, is_number, contains_number}
use Rattle.jx_base.specs.Histories.{Past, is_done, is_own}
use Rattle.jx_model.specs.Domains.{is_birth, makes_domain, birth_of, template_of, creator_of, heap_place_of, named_template, reply_granule, ended_by, ended_by_act, reason_for, end_reason, is_live, is_made}
use Rattle.jx_model.specs.Threads.{service_threads, new_threads_of, new_threads}
use Rattle.jx_model.specs.Portals.{is_export, exported_interface, is_exported, export_of, owner_of, interface_of, has_live_owner, received_parcel, received_service, gives_portal, keeps_portal, holds_portal, bound_by_act, last_bound, bound_service}
use Rattle.program_model.specs.ParcelParts.{parcel_portals}
use Rattle.jx_model.specs.Calls.{Answer, is_call, calls_made, asked_by, queued_as, call_entry, asked_of, caller_of, first_since, answered_by, answered_by_act, ends_server, ends_domain, server_of, answer_of, is_answer_to}
use Rattle.jx_model.specs.MemoryObjects.{Part, is_allocation, allocation_of, makes_extent, new_parts, objects_of, objects_made, extents_made, is_valid, ends_one_of, ended_object, lineage_of}
use Rattle.jx_model.specs.Holding.{received_objects, objects_in, is_drop_of, keeps_after, keeps_object, holds_object}
use Rattle.jx_model.specs.Bytes.{byte_at, byte_after}
use Rattle.jx_model.specs.Replies.{reply_to}
use Rattle.jx_model.specs.Legal.{IsNext}
use Rattle.jx_model.specs.Growth.{HasSameDomains, HasSameServices, HasSameBytes}
use Rattle.jx_base.proofs.BasicLaws.{ap2, ap3, pick_false, and_true, and_false}
use Rattle.jx_base.proofs.NthEntries.{nth_same, count_same}
use Rattle.std.specs.Option.{option_and_then, option_map, option_or}

-- ---- what a refusal is no instance of

-- it makes no domain
pub no_domain : (a : Act) (r : Refusal) → makes_domain a (reply.Refused r) ≡ false
unfolding makes_domain
no_domain (act.Create t) r = refl
no_domain (act.Spawn name) r = refl
no_domain _ r = refl

-- and ends none
pub no_end : (s : System) (past : Past) (d : ℕ) (a : Act) (r : Refusal) → reply.Refused r ≡ reply_to s past d a → ended_by_act d a (reply.Refused r) ≡ None
unfolding reply_to ended_by_act is_done
no_end s past d (act.Exit code) r h = cc
no_end s past d (act.End why) r h = cc
no_end s past d (act.Kill k) r h = refl
no_end s past d _ r h = refl

-- it makes no service
pub no_export : (a : Act) (r : Refusal) → exported_interface a (reply.Refused r) ≡ None
unfolding exported_interface
no_export (act.Export iface k) r = refl
no_export _ r = refl

-- it adds no threads
pub no_threads : (a : Act) (r : Refusal) → new_threads a (reply.Refused r) ≡ []
unfolding new_threads
no_threads (act.Export iface k) r = refl
no_threads _ r = refl

-- it hands over no parcel
pub no_parcel : (a : Act) (r : Refusal) → received_parcel a (reply.Refused r) ≡ None
unfolding received_parcel
no_parcel (act.Take c) r = refl
no_parcel (act.Resume c) r = refl
no_parcel _ r = refl

-- nor a portal by itself
pub no_service : (a : Act) (r : Refusal) → received_service a (reply.Refused r) ≡ None
unfolding received_service
no_service (act.Export iface k) r = refl
no_service (act.Lookup name) r = refl
no_service _ r = refl

-- it binds no name
pub no_bind : (units : List ℕ) (a : Act) (r : Refusal) → bound_by_act units a (reply.Refused r) ≡ None
unfolding bound_by_act is_done
no_bind units (act.Bind name k) r = refl
no_bind units _ r = refl

no_call : (a : Act) (r : Refusal) → (is_some (asked_by a) && is_some (queued_as (reply.Refused r))) ≡ false
unfolding queued_as
no_call a r = and_false (is_some (asked_by a))

-- it makes no extent
pub no_extent : (a : Act) (r : Refusal) → makes_extent a (reply.Refused r) ≡ false
unfolding makes_extent
no_extent (act.Alloc n) r = refl
no_extent _ r = refl

-- and no objects
pub no_parts : (olds : List Part) (x : ℕ) (a : Act) (r : Refusal) → new_parts olds x a (reply.Refused r) ≡ []
unfolding new_parts
no_parts olds x (act.Alloc n) r = refl
no_parts olds x (act.Sub m at count) r = refl
no_parts olds x (act.Split m at) r = refl
no_parts olds x (act.Revoke m) r = refl
no_parts olds x _ r = refl

-- it hands over no objects
pub no_objects : (a : Act) (r : Refusal) → received_objects a (reply.Refused r) ≡ []
unfolding received_objects objects_in received_parcel
no_objects (act.Alloc n) r = refl
no_objects (act.Sub m at count) r = refl
no_objects (act.Split m at) r = refl
no_objects (act.Revoke m) r = refl
no_objects (act.Take c) r = refl
no_objects (act.Resume c) r = refl
no_objects _ r = refl

no_answer : (c : ℕ) (a : Act) (r : Reply) → is_answer_to c a ≡ false → answered_by_act c a r ≡ None
unfolding answered_by_act is_answer_to
no_answer c (act.Return k p) r h = rw h refl
no_answer c (act.Throw k p) r h = rw h refl
no_answer c _ r h = refl

-- ---- what isn't made

-- objects stay
pub objects_grow : (e : Entry) (past : Past) → objects_made past ≤ objects_made (e ∷ past)
unfolding objects_made objects_of
objects_grow e past = omega (arith, length-append (objects_of past) (new_parts (objects_of past) (extents_made past + 1) e.act e.reply))

above_too : (m k n : ℕ) → k ≤ n → nat_le m n ≡ false → nat_le m k ≡ false
above_too m k n l h = grind (arith, nat_tests)

-- what isn't made isn't valid
pub valid_none : (past : Past) (m : ℕ) → nat_le m (objects_made past) ≡ false → is_valid past m ≡ false
unfolding is_valid
valid_none [] m h = refl
valid_none (e ∷ past) m h =
    ap (λ (b : Bool). if b then is_valid past m && not (ends_one_of (lineage_of (objects_of past) m) e) else nat_le m (objects_made (e ∷ past)))
    (above_too m (objects_made past) (objects_made (e ∷ past)) (objects_grow e past) h)
    ∙ h

-- a test behind itself
twice : (x y z : Bool) → (x && y && (x && y && z)) ≡ (x && y && z)
twice true true z = refl
twice true false z = refl
twice false y z = refl

-- who isn't made keeps nothing, and nobody keeps what isn't made
pub keeps_guarded : (past : Past) (d m : ℕ) → (is_made past d && nat_le m (objects_made past) && keeps_object past d m) ≡ keeps_object past d m
unfolding keeps_object
keeps_guarded [] d m = and_false (is_made [] d && nat_le m (objects_made []))
keeps_guarded (e ∷ past) d m = twice (is_made (e ∷ past) d) (nat_le m (objects_made (e ∷ past))) (keeps_after d m e (keeps_object past d m))

-- who isn't made keeps no portal, and nobody keeps one to what isn't made
pub portals_guarded : (past : Past) (d k : ℕ) → (is_made past d && is_exported past k && keeps_portal past d k) ≡ keeps_portal past d k
unfolding keeps_portal
portals_guarded [] d k = and_false (is_made [] d && is_exported [] k)
portals_guarded (e ∷ past) d k = twice (is_made (e ∷ past) d) (is_exported (e ∷ past) k) ((is_own d e && gives_portal k e) || keeps_portal past d k)

-- ---- what stays the same

module _ (s : System) (past : Past) (e : Entry) (r : Refusal) (next : IsNext s past e) (refused : e.reply ≡ reply.Refused r) where
  birth : is_birth e ≡ false
  unfolding is_birth
  birth = ap (makes_domain e.act) refused ∙ no_domain e.act r

  ends : ended_by e ≡ None
  unfolding ended_by
  ends = ap (ended_by_act e.domain.0 e.act) refused ∙ no_end s past e.domain.0 e.act r (sym refused ∙ next.reply)

  export : is_export e ≡ false
  unfolding is_export
  export = ap (λ (y : Reply). is_some (exported_interface e.act y)) refused ∙ ap is_some (no_export e.act r)

  call : is_call e ≡ false
  unfolding is_call
  call = ap (λ (y : Reply). is_some (asked_by e.act) && is_some (queued_as y)) refused ∙ no_call e.act r

  allocation : is_allocation e ≡ false
  unfolding is_allocation
  allocation = ap (makes_extent e.act) refused ∙ no_extent e.act r

  done : is_done e.reply ≡ false
  unfolding is_done
  done = ap is_done refused

  -- ---- domains

  reason : (d : ℕ) → end_reason (e ∷ past) d ≡ end_reason past d
  unfolding end_reason reason_for
  reason d = ap (λ (o : Option (ℕ × Reason)). elim (reason_for o d) as (λ _. Option Reason) [ Some x ↦ Some x | None ↦ end_reason past d ]) ends

  pub live_same : (d : ℕ) → is_live (e ∷ past) d ≡ is_live past d
  unfolding is_live is_made
  live_same d = ap2 (λ (n : ℕ) (o : Option Reason). nat_le 1 d && nat_le d n && is_none o) (count_same is_birth e past birth) (reason d)

  exists : (d : ℕ) → is_made (e ∷ past) d ≡ is_made past d
  unfolding is_made
  exists d = ap (λ (n : ℕ). nat_le 1 d && nat_le d n) (count_same is_birth e past birth)

  threads : (d : ℕ) → service_threads (e ∷ past) d ≡ service_threads past d
  unfolding service_threads new_threads_of
  threads d = ap (λ (xs : List ServiceId). service_threads past d ++ xs) (none (is_own d e)) ∙ append-nil _
    where
      none : (b : Bool) → (if b then new_threads e.act e.reply else []) ≡ []
      none true = ap (new_threads e.act) refused ∙ no_threads e.act r
      none false = refl

  pub same_domains : HasSameDomains s past (e ∷ past)
  unfolding template_of creator_of heap_place_of birth_of
  same_domains =
      record {
        made = count_same is_birth e past birth;
        template = λ d. ap (λ (o : Option Entry). option_and_then (λ x. named_template s x.act) o) (nth_same is_birth e past d birth);
        creator = λ d. ap (λ (o : Option Entry). option_map (λ x. x.domain.0) o) (nth_same is_birth e past d birth);
        place = λ d. ap (λ (o : Option Entry). option_map (λ x. reply_granule x.reply) o) (nth_same is_birth e past d birth);
        reason = reason;
        live = live_same;
        threads = threads;
      }

  -- ---- services

  owner : (k : ℕ) → owner_of (e ∷ past) k ≡ owner_of past k
  unfolding owner_of export_of
  owner k = ap (λ (o : Option Entry). option_map (λ x. x.domain.0) o) (nth_same is_export e past k export)

  live_owner : (k : ℕ) → has_live_owner (e ∷ past) k ≡ has_live_owner past k
  unfolding has_live_owner passes
  live_owner k = ap (passes (is_live (e ∷ past))) (owner k) ∙ by (owner_of past k)
    where
      by : (o : Option ℕ) → passes (is_live (e ∷ past)) o ≡ passes (is_live past) o
      by None = refl
      by (Some d) = live_same d

  bound_before : (units : List ℕ) → last_bound (e ∷ past) units ≡ last_bound past units
  unfolding last_bound
  bound_before units =
      ap (λ (o : Option ℕ). elim o as (λ _. Option ℕ) [ Some k ↦ Some k | None ↦ last_bound past units ]) (ap (bound_by_act units e.act) refused ∙ no_bind units e.act r)

  name : (units : List ℕ) → bound_service (e ∷ past) units ≡ bound_service past units
  unfolding bound_service
  name units = ap (λ (o : Option ℕ). option_and_then (λ k. if has_live_owner (e ∷ past) k then Some k else None) o) (bound_before units) ∙ by (last_bound past units)
    where
      by : (o : Option ℕ) → option_and_then (λ k. if has_live_owner (e ∷ past) k then Some k else None) o ≡ option_and_then (λ k. if has_live_owner past k then Some k else None) o
      by None = refl
      by (Some k) = ap (λ (b : Bool). if b then Some k else None) (live_owner k)

  no_portal : (k : ℕ) → gives_portal k e ≡ false
  unfolding gives_portal is_number passes
  no_portal k =
      ap2 (λ (o : Option ℕ) (p : Option Parcel). is_number o k || passes (λ x. contains_number (parcel_portals x) k) p)
      (ap (received_service e.act) refused ∙ no_service e.act r)
      (ap (received_parcel e.act) refused ∙ no_parcel e.act r)

  exported : (k : ℕ) → is_exported (e ∷ past) k ≡ is_exported past k
  unfolding is_exported
  exported k = ap (λ (n : ℕ). nat_le 1 k && nat_le k n) (count_same is_export e past export)

  held : (d k : ℕ) → holds_portal (e ∷ past) d k ≡ holds_portal past d k
  unfolding holds_portal keeps_portal
  held d k = ap2 (λ (x y : Bool). x && y) (live_same d) (keeps ∙ portals_guarded past d k)
    where
      keeps : (is_made (e ∷ past) d && is_exported (e ∷ past) k && ((is_own d e && gives_portal k e) || keeps_portal past d k)) ≡ (is_made past d && is_exported past k && keeps_portal past d k)
      keeps =
          ap3 (λ (x y z : Bool). x && y && ((is_own d e && z) || keeps_portal past d k)) (exists d) (exported k) (no_portal k)
          ∙ ap (λ (z : Bool). is_made past d && is_exported past k && (z || keeps_portal past d k)) (and_false (is_own d e))

  pub same_services : HasSameServices past (e ∷ past)
  unfolding interface_of export_of
  same_services =
      record {
        made = count_same is_export e past export;
        owner = owner;
        interface = λ k. ap (λ (o : Option Entry). option_and_then (λ x. exported_interface x.act x.reply) o) (nth_same is_export e past k export);
        name = name;
        held = held;
      }

  -- ---- memory objects

  pub objects_same : objects_of (e ∷ past) ≡ objects_of past
  unfolding objects_of
  objects_same =
      ap (λ (xs : List Part). objects_of past ++ xs) (ap (new_parts (objects_of past) (extents_made past + 1) e.act) refused ∙ no_parts (objects_of past) (extents_made past + 1) e.act r)
      ∙ append-nil _

  made : objects_made (e ∷ past) ≡ objects_made past
  unfolding objects_made
  made = ap length objects_same

  pub same_bytes : HasSameBytes past (e ∷ past)
  unfolding byte_at
  same_bytes x i = pick_false (is_done e.reply) (byte_after (objects_of past) e.act (byte_at past) x i) (byte_at past x i) done

  -- ---- calls

  answered : (c : ℕ) → is_answer_to c e.act ≡ false → answered_by past e c ≡ None
  unfolding answered_by ends_server ends_domain
  answered c h =
      ap2 (λ (o : Option Answer) (x : Option (ℕ × Reason)). elim o as (λ _. Option Answer) [ Some a ↦ Some a | None ↦ if ends_domain x (server_of past c) then Some Answer.Ended else None ])
      (no_answer c e.act e.reply h) ends

  pub answer_same : (c : ℕ) → is_answer_to c e.act ≡ false → answer_of (e ∷ past) c ≡ answer_of past c
  unfolding answer_of first_since
  answer_same c h =
      ap (λ (x : Option Answer). option_or (answer_of past c) (if is_some (call_entry past c) then x else None)) (answered c h)
      ∙ by (answer_of past c) (is_some (call_entry past c))
    where
      by : (o : Option Answer) (b : Bool) → (option_or o (if b then None else None)) ≡ o
      by (Some a) b = refl
      by None true = refl
      by None false = refl

  pub calls_same : calls_made (e ∷ past) ≡ calls_made past
  calls_same = count_same is_call e past call

  pub call_same : (c : ℕ) → call_entry (e ∷ past) c ≡ call_entry past c
  unfolding call_entry
  call_same c = nth_same is_call e past c call

  pub asked_same : (c : ℕ) → asked_of (e ∷ past) c ≡ asked_of past c
  unfolding asked_of
  asked_same c = ap (λ (o : Option Entry). option_and_then (λ x. asked_by x.act) o) (call_same c)

  pub caller_same : (c : ℕ) → caller_of (e ∷ past) c ≡ caller_of past c
  unfolding caller_of
  caller_same c = ap (λ (o : Option Entry). option_map (λ x. x.domain.0) o) (call_same c)

  -- ---- validity and holding

  pub valid_same : (m : ℕ) → is_valid (e ∷ past) m ≡ is_valid past m
  unfolding is_valid ends_one_of
  valid_same m =
      ap2 (λ (x : Bool) (n : ℕ). if nat_le m (objects_made past) then is_valid past m && not (x && passes (contains_number (lineage_of (objects_of past) m)) (ended_object e.act)) else nat_le m n) done made
      ∙ by (nat_le m (objects_made past)) refl
    where
      by : (b : Bool) → nat_le m (objects_made past) ≡ b → (if b then is_valid past m && true else b) ≡ is_valid past m
      by true q = and_true (is_valid past m)
      by false q = sym (valid_none past m q)

  after : (d m : ℕ) (k : Bool) → keeps_after d m e k ≡ k
  unfolding keeps_after contains_number
  after d m k =
      ap2 (λ (xs : List ℕ) (x : Bool). if is_own d e && contains_number xs m then true else if is_own d e && x && is_drop_of m e.act then false else k)
      (ap (received_objects e.act) refused ∙ no_objects e.act r) done
      ∙ by (is_own d e)
    where
      by : (b : Bool) → (if b && false then true else if b && false && is_drop_of m e.act then false else k) ≡ k
      by true = refl
      by false = refl

  keeps : (d m : ℕ) → keeps_object (e ∷ past) d m ≡ keeps_object past d m
  unfolding keeps_object
  keeps d m = ap3 (λ (x : Bool) (n : ℕ) (y : Bool). x && nat_le m n && y) (exists d) made (after d m (keeps_object past d m)) ∙ keeps_guarded past d m

  pub holds_same : (d m : ℕ) → holds_object (e ∷ past) d m ≡ holds_object past d m
  unfolding holds_object
  holds_same d m = ap2 (λ (x y : Bool). x && y) (live_same d) (keeps d m)

  pub allocation_same : (x : ℕ) → allocation_of (e ∷ past) x ≡ allocation_of past x
  unfolding allocation_of
  allocation_same x = nth_same is_allocation e past x allocation

  pub extents_same : extents_made (e ∷ past) ≡ extents_made past
  extents_same = count_same is_allocation e past allocation
