-- What calls and answers ask of the tables is what they ask of the past.
use Rattle.std.proofs.Common.{◌≡◌, refl, sym, ◌∙◌, ap, ℕ, Bool, true, false, not, ◌&&◌, List, [], ◌∷◌, Option, Some, None}
use Rattle.std.specs.List.{list_all}
use Rattle.std.specs.Option.{option_and_then, option_map}
use Rattle.jx_base.specs.declared.act.Entry.{Entry}
use Rattle.jx_base.specs.declared.act.Refusal.TheVariants as refusal
use Rattle.jx_base.specs.declared.act.Reply.{Reply}
use Rattle.jx_base.specs.declared.act.Reply.TheVariants as reply
use Rattle.jx_base.specs.declared.ids.ClassId.{ClassId}
use Rattle.jx_base.specs.declared.program.System.{System}
use Rattle.jx_base.specs.declared.states.DomainState.{DomainState}
use Rattle.jx_base.specs.declared.value.Parcel.{Parcel}
use Rattle.jx_base.specs.Basics.{numbered, passes}
use Rattle.jx_base.proofs.BasicLaws.{ap2}
use Rattle.jx_model.specs.Calls.{caller_of, calls_made, has_live_caller}
use Rattle.jx_model.specs.Holding.{holds_object}
use Rattle.jx_model.specs.Portals.{has_live_owner, holds_portal, interface_of, owner_of}
use Rattle.jx_model.specs.Replies.{fits_domain_of, has_service_method, holds_all, ◌refuses◌else◌}
use Rattle.jx_model.specs.Tables.{CallRecord, ObjectRecord, ServiceRecord, call_record, call_records}
use Rattle.call_table.specs.declared.calls.Call.{Call}
use Rattle.memory_objects.specs.ObjectLists as Objects
use Rattle.nucleus_tables.proofs.CallReads.{call_is}
use Rattle.nucleus_tables.proofs.Owners.{Told}
use Rattle.nucleus_calls.proofs.ServiceReplies.{holds_is}
use Rattle.nucleus_tables.specs.CallTables.{call_of}
use Rattle.nucleus_tables.specs.Inner.{IsOf, past_in}
use Rattle.nucleus_tables.specs.declared.tables.Tables.{Tables}
use Rattle.parcel_carriage.specs.Carriage.{holds_parcel}
use Rattle.portal_table.specs.ServiceLists as Portals
use Rattle.program_model.specs.Lookup.{has_method}
use Rattle.program_model.specs.ParcelParts.{parcel_objects, parcel_portals}
use Rattle.program_model.specs.Parcels.{fits_domain}
use Rattle.table_reads.proofs.ActingReads.{by_number, owner_by_records}
use Rattle.table_reads.proofs.ChoiceReads.{unmade_entry}
use Rattle.table_reads.proofs.ReplyReads.{interface_by_records, live_caller_by_records, live_owner_by_records, object_by_records, template_by_records}
use Rattle.table_threads.proofs.CallActs.{call_caller_there}
use Rattle.table_reads.specs.TableReads.{flag_at, lives_in, owner_in}

-- ---- a service as its table tells it

-- its owner, and its interface
pub record IsOwned (services : List ServiceRecord) (k o : ℕ) (c : ClassId) : Type 0 where
  pub owner : owner_in services k ≡ Some o
  pub interface : option_and_then (λ item. item.interface) (numbered services k) ≡ Some c

pub owned : (x : Portals.ServicesState) (k o : ℕ) (c : ClassId) (t : Option Told) → t ≡ Some (o, c) → t ≡ Portals.owner_of x k → IsOwned x.services k o c
owned x k o c t p q = by (numbered x.services k) refl (sym p ∙ q)
  where
    by : (r : Option ServiceRecord) → numbered x.services k ≡ r → (let x : Option Told = Some (o, c) in x) ≡ option_and_then (λ (s : ServiceRecord). option_map (λ c. (s.owner, c)) s.interface) r → IsOwned x.services k o c
    by None z q = cc
    by (Some s) z q = inside s.interface refl q
      where
        first : Option Told → ℕ
        first None = 0
        first (Some x) = x.0

        second : Option Told → ClassId
        second None = c
        second (Some x) = x.1

        inside : (i : Option ClassId) → s.interface ≡ i → (let x : Option Told = Some (o, c) in x) ≡ option_map (λ c. (s.owner, c)) i → IsOwned x.services k o c
        inside None w q = cc
        inside (Some e) w q =
            record {
              owner = ap (option_map (λ (item : ServiceRecord). item.owner)) z ∙ ap (λ (n : ℕ). Some n) (sym (ap first q));
              interface = ap (option_and_then (λ (item : ServiceRecord). item.interface)) z ∙ w ∙ ap (λ (e : ClassId). Some e) (sym (ap second q));
            }

-- ---- tests

-- two tests of all items that agree
all_same : {A : Type 0} (p q : A → Bool) (xs : List A) → ((x : A) → p x ≡ q x) → list_all p xs ≡ list_all q xs
all_same p q [] h = refl
all_same p q (x ∷ xs) h = ap2 (λ (a b : Bool). a && b) (h x) (all_same p q xs h)

module _ (s : System) (x : Tables) (h : IsOf s x) where
  -- what a domain holds
  object_is : (d m : ℕ) → Objects.holds_in x.space.objects d m ≡ holds_object (past_in x) d m
  object_is d m =
      ap (λ (items : List ObjectRecord). passes (λ item. flag_at item.holders d) (numbered items m)) h.stands.objects
      ∙ sym (object_by_records s (past_in x) d m h.stands.admitted)

  pub parcel_is : (d : ℕ) (p : Parcel) → holds_parcel x.services x.space.objects d p ≡ holds_all (past_in x) d p
  unfolding holds_all
  parcel_is d p =
      ap2 (λ (a b : Bool). a && b)
      (all_same (Portals.holds_in x.services d) (holds_portal (past_in x) d) (parcel_portals p) (holds_is s x h d))
      (all_same (Objects.holds_in x.space.objects d) (holds_object (past_in x) d) (parcel_objects p) (object_is d))

  -- whether the owner lives
  live_owner_by : (o : Option ℕ) (k : ℕ) → owner_in x.services.services k ≡ o → passes (lives_in x.domains.domains) o ≡ has_live_owner (past_in x) k
  live_owner_by o k q =
      ap (passes (lives_in x.domains.domains)) (sym q)
      ∙ ap2 (λ (domains : List DomainState) (services : List ServiceRecord). passes (lives_in domains) (owner_in services k)) h.stands.domains h.stands.services
      ∙ sym (live_owner_by_records s (past_in x) k)

  pub owner_lives : (k o : ℕ) → owner_in x.services.services k ≡ Some o → lives_in x.domains.domains o ≡ has_live_owner (past_in x) k
  unfolding passes
  owner_lives k o q = live_owner_by (Some o) k q

  pub nobody_lives : (k : ℕ) → numbered x.services.services k ≡ None → false ≡ has_live_owner (past_in x) k
  unfolding passes
  nobody_lives k q = live_owner_by None k (ap (option_map (λ (item : ServiceRecord). item.owner)) q)

  -- whether its interface has the method
  interface_is : (k : ℕ) → option_and_then (λ item. item.interface) (numbered x.services.services k) ≡ interface_of (past_in x) k
  interface_is k =
      ap (λ (items : List ServiceRecord). option_and_then (λ item. item.interface) (numbered items k)) h.stands.services ∙ sym (interface_by_records s (past_in x) k)

  pub method_is : (k m : ℕ) (c : ClassId) → option_and_then (λ item. item.interface) (numbered x.services.services k) ≡ Some c → has_method s c.0 m ≡ has_service_method s (past_in x) k m
  unfolding has_service_method passes
  method_is k m c q = ap (passes (λ (c : ClassId). has_method s c.0 m)) (sym q ∙ interface_is k)

  pub no_method : (k m : ℕ) → numbered x.services.services k ≡ None → false ≡ has_service_method s (past_in x) k m
  unfolding has_service_method passes
  no_method k m q = ap (passes (λ (c : ClassId). has_method s c.0 m)) (sym (ap (option_and_then (λ (item : ServiceRecord). item.interface)) q) ∙ interface_is k)

  -- whether a domain can have the parcel
  fits_by : (d : ℕ) (p : Parcel) (o : Option DomainState) → numbered x.domains.domains d ≡ o → passes (λ t. fits_domain s t p) (option_map (λ item. item.template) o) ≡ fits_domain_of s (past_in x) (Some d) p
  unfolding fits_domain_of
  fits_by d p o q =
      ap (λ (o : Option DomainState). passes (λ t. fits_domain s t p) (option_map (λ item. item.template) o)) (sym q ∙ ap (λ (items : List DomainState). numbered items d) h.stands.domains)
      ∙ ap (passes (λ t. fits_domain s t p)) (sym (template_by_records s (past_in x) d h.stands.admitted))

  pub fits_is : (d : ℕ) (p : Parcel) (item : DomainState) → numbered x.domains.domains d ≡ Some item → fits_domain s item.template p ≡ fits_domain_of s (past_in x) (Some d) p
  unfolding passes
  fits_is d p item q = fits_by d p (Some item) q

  pub fits_nobody : (d : ℕ) (p : Parcel) → numbered x.domains.domains d ≡ None → false ≡ fits_domain_of s (past_in x) (Some d) p
  unfolding passes
  fits_nobody d p q = fits_by d p None q

  -- whether the owner of a service can
  owner_is : (k : ℕ) (o : Option ℕ) → owner_in x.services.services k ≡ o → o ≡ owner_of (past_in x) k
  owner_is k o q = sym q ∙ ap (λ (items : List ServiceRecord). owner_in items k) h.stands.services ∙ sym (owner_by_records s (past_in x) k)

  pub fits_owner_is : (k o : ℕ) (p : Parcel) → owner_in x.services.services k ≡ Some o → fits_domain_of s (past_in x) (Some o) p ≡ fits_domain_of s (past_in x) (owner_of (past_in x) k) p
  fits_owner_is k o p q = ap (λ (o : Option ℕ). fits_domain_of s (past_in x) o p) (owner_is k (Some o) q)

  pub fits_no_owner : (k : ℕ) (p : Parcel) → numbered x.services.services k ≡ None → false ≡ fits_domain_of s (past_in x) (owner_of (past_in x) k) p
  unfolding fits_domain_of passes
  fits_no_owner k p q = ap (λ (o : Option ℕ). fits_domain_of s (past_in x) o p) (owner_is k None (ap (option_map (λ (item : ServiceRecord). item.owner)) q))

  -- whether the caller of a call lives
  caller_by : (c : ℕ) (o : Option Call) → numbered x.calls.calls c ≡ o → passes (λ (k : Call). lives_in x.domains.domains k.caller.0) o ≡ has_live_caller (past_in x) c
  unfolding passes
  caller_by c o q =
      ap (passes (λ (k : Call). lives_in x.domains.domains k.caller.0)) (sym q ∙ call_is s x h c)
      ∙ mapped (numbered (call_records (past_in x)) c)
      ∙ ap (λ (items : List DomainState). passes (λ (r : CallRecord). lives_in items r.caller) (numbered (call_records (past_in x)) c)) h.stands.domains
      ∙ sym (live_caller_by_records s (past_in x) c)
    where
      mapped : (o : Option CallRecord) → passes (λ (k : Call). lives_in x.domains.domains k.caller.0) (option_map call_of o) ≡ passes (λ (r : CallRecord). lives_in x.domains.domains r.caller) o
      mapped None = refl
      mapped (Some r) = refl

  pub caller_lives : (c : ℕ) (k : Call) → numbered x.calls.calls c ≡ Some k → lives_in x.domains.domains k.caller.0 ≡ has_live_caller (past_in x) c
  unfolding passes
  caller_lives c k q = caller_by c (Some k) q

  pub no_caller : (c : ℕ) → numbered x.calls.calls c ≡ None → false ≡ has_live_caller (past_in x) c
  unfolding passes
  no_caller c q = caller_by c None q

  -- whether the caller can have the parcel
  caller_is : (c : ℕ) (o : Option Call) → numbered x.calls.calls c ≡ o → option_map (λ k. k.caller.0) o ≡ caller_of (past_in x) c
  unfolding caller_of call_records call_record
  caller_is c o q =
      ap (option_map (λ (k : Call). k.caller.0)) (sym q ∙ call_is s x h c)
      ∙ mapped (numbered (call_records (past_in x)) c)
      ∙ sym (by_number (call_record (past_in x)) (λ (item : CallRecord). item.caller) (calls_made (past_in x)) c (caller_of (past_in x) c)
      (λ l u. call_caller_there (past_in x) c l u)
      (λ h. ap (option_map (λ (e : Entry). e.domain.0)) (unmade_entry (past_in x) c h)))
    where
      mapped : (o : Option CallRecord) → option_map (λ (k : Call). k.caller.0) (option_map call_of o) ≡ option_map (λ (r : CallRecord). r.caller) o
      mapped None = refl
      mapped (Some r) = refl

  pub fits_caller_is : (c : ℕ) (k : Call) (p : Parcel) → numbered x.calls.calls c ≡ Some k → fits_domain_of s (past_in x) (Some k.caller.0) p ≡ fits_domain_of s (past_in x) (caller_of (past_in x) c) p
  fits_caller_is c k p q = ap (λ (o : Option ℕ). fits_domain_of s (past_in x) o p) (caller_is c (Some k) q)

  pub fits_no_caller : (c : ℕ) (p : Parcel) → numbered x.calls.calls c ≡ None → false ≡ fits_domain_of s (past_in x) (caller_of (past_in x) c) p
  unfolding fits_domain_of passes
  fits_no_caller c p q = ap (λ (o : Option ℕ). fits_domain_of s (past_in x) o p) (caller_is c None q)

-- ---- refusals in their order

-- what a call is answered, by what it asks and what it gets
abbrev pub called_with : Bool → Bool → Bool → Bool → Reply → Reply
called_with held lives has fits rest =
    not held refuses refusal.NotHeld else not lives refuses refusal.Gone else not has refuses refusal.NoMethod else not fits refuses refusal.Unfit else rest

-- what an answer is answered
abbrev pub sent_with : Bool → Bool → Bool → Reply
sent_with lives held fits = not lives refuses refusal.Discarded else not held refuses refusal.NotHeld else not fits refuses refusal.Unfit else reply.Done

module _ (lives has fits : Bool) (rest : Reply) where
  pub not_held : (held : Bool) → held ≡ false → reply.Refused refusal.NotHeld ≡ called_with held lives has fits rest
  unfolding ◌refuses◌else◌
  not_held false q = refl
  not_held true q = cc

module _ (has fits : Bool) (rest : Reply) where
  pub gone : (held lives : Bool) → held ≡ true → lives ≡ false → reply.Refused refusal.Gone ≡ called_with held lives has fits rest
  unfolding ◌refuses◌else◌
  gone true false p q = refl
  gone true true p q = cc
  gone false lives p q = cc

module _ (fits : Bool) (rest : Reply) where
  pub lacks_method : (held lives has : Bool) → held ≡ true → lives ≡ true → has ≡ false → reply.Refused refusal.NoMethod ≡ called_with held lives has fits rest
  unfolding ◌refuses◌else◌
  lacks_method true true false p q r = refl
  lacks_method true true true p q r = cc
  lacks_method true false has p q r = cc
  lacks_method false lives has p q r = cc

pub unfit : (rest : Reply) (held lives has fits : Bool) → held ≡ true → lives ≡ true → has ≡ true → fits ≡ false → reply.Refused refusal.Unfit ≡ called_with held lives has fits rest
unfolding ◌refuses◌else◌
unfit rest true true true false p q r w = refl
unfit rest true true true true p q r w = cc
unfit rest true true false fits p q r w = cc
unfit rest true false has fits p q r w = cc
unfit rest false lives has fits p q r w = cc

pub queued : (rest : Reply) (held lives has fits : Bool) → held ≡ true → lives ≡ true → has ≡ true → fits ≡ true → rest ≡ called_with held lives has fits rest
unfolding ◌refuses◌else◌
queued rest true true true true p q r w = refl
queued rest true true true false p q r w = cc
queued rest true true false fits p q r w = cc
queued rest true false has fits p q r w = cc
queued rest false lives has fits p q r w = cc

module _ (held fits : Bool) where
  pub discarded : (lives : Bool) → lives ≡ false → reply.Refused refusal.Discarded ≡ sent_with lives held fits
  unfolding ◌refuses◌else◌
  discarded false q = refl
  discarded true q = cc

pub not_held_back : (fits : Bool) (lives held : Bool) → lives ≡ true → held ≡ false → reply.Refused refusal.NotHeld ≡ sent_with lives held fits
unfolding ◌refuses◌else◌
not_held_back fits true false p q = refl
not_held_back fits true true p q = cc
not_held_back fits false held p q = cc

pub unfit_back : (lives held fits : Bool) → lives ≡ true → held ≡ true → fits ≡ false → reply.Refused refusal.Unfit ≡ sent_with lives held fits
unfolding ◌refuses◌else◌
unfit_back true true false p q r = refl
unfit_back true true true p q r = cc
unfit_back true false fits p q r = cc
unfit_back false held fits p q r = cc

pub sent : (lives held fits : Bool) → lives ≡ true → held ≡ true → fits ≡ true → reply.Done ≡ sent_with lives held fits
unfolding ◌refuses◌else◌
sent true true true p q r = refl
sent true true false p q r = cc
sent true false fits p q r = cc
sent false held fits p q r = cc
