-- The replies of the table of services are those that the past gives.
use Rattle.std.proofs.Common.{◌≡◌, refl, sym, ◌∙◌, ap, ℕ, ◌+◌, ◌≤◌, ◌<◌, Bool, true, false, not, List, length, Option, Some, None, is_none, is_some, arith, if◌then◌else◌, ◌⊎◌}
use Rattle.std.specs.Prelude.{nat_le}
use Rattle.std.specs.Option.{option_and_then, option_map, unwrap_or}
use Rattle.jx_base.specs.declared.act.Act.TheVariants as act
use Rattle.jx_base.specs.declared.act.Entry.{Entry}
use Rattle.jx_base.specs.declared.act.Reason.{Reason}
use Rattle.jx_base.specs.declared.act.Refusal.TheVariants as refusal
use Rattle.jx_base.specs.declared.act.Reply.TheVariants as reply
use Rattle.jx_base.specs.declared.ids.ClassId.{ClassId}
use Rattle.jx_base.specs.declared.ids.ServiceId.{ServiceId}
use Rattle.jx_base.specs.declared.program.System.{System}
use Rattle.jx_base.specs.Basics.{numbered, passes}
use Rattle.jx_base.proofs.BasicLaws.{ap2}
use Rattle.jx_base.proofs.NthEntries.{nth_passes, nth_there}
use Rattle.jx_model.proofs.Exported.{IsExported}
use Rattle.jx_model.specs.Domains.{end_reason, is_live}
use Rattle.jx_model.specs.Portals.{bound_service, export_of, exported_interface, has_live_owner, holds_portal, interface_of, is_export, last_bound, owner_of, services_made}
use Rattle.jx_model.specs.Replies.{bound, looked_up, new_service, portal_reply, reply_to, ◌refuses◌else◌}
use Rattle.jx_model.specs.Tables.{ServiceRecord, named_service, service_record, service_records}
use Rattle.nucleus_tables.specs.Inner.{IsOf, past_in}
use Rattle.nucleus_tables.specs.declared.tables.Tables.{Tables}
use Rattle.portal_table.specs.ServiceLists as Portals
use Rattle.program_model.specs.Limits.{domain_limit, service_limit}
use Rattle.table_objects.proofs.ServiceRecords.{bound_made, owner_made}
use Rattle.table_reads.proofs.ActingReads.{no_export}
use Rattle.table_reads.proofs.ReplyReads.{flagged, interface_by_records, portal_by_records, test_by_number}
use Rattle.table_reads.specs.TableReads.{flag_at}
use Rattle.table_threads.proofs.Actors.{IsMade, domains_fit, live_by_reason}
use Rattle.table_threads.proofs.Records.{records_length}

module _ (s : System) (x : Tables) (h : IsOf s x) where
  -- as many services as were made
  pub services_count : length x.services.services ≡ services_made (past_in x)
  unfolding service_records
  services_count = ap length h.stands.services ∙ records_length (service_record s (past_in x)) (services_made (past_in x))

  -- an export
  pub export_is : (d : ℕ) (iface : ClassId) (count : ℕ) → Portals.export_reply x.services iface ≡ reply_to s (past_in x) d (act.Export iface count)
  unfolding reply_to new_service service_limit
  export_is d iface count = ap (λ (n : ℕ). nat_le 256 n refuses refusal.TooMany else reply.Service (record { 0 = n + 1 }) iface) services_count

  -- who holds a portal
  pub holds_is : (d k : ℕ) → Portals.holds_in x.services d k ≡ holds_portal (past_in x) d k
  holds_is d k =
      ap (λ (items : List ServiceRecord). passes (λ item. flag_at item.holders d) (numbered items k)) h.stands.services
      ∙ sym (portal_by_records s (past_in x) d k h.stands.admitted)

  -- the flag of a domain that was made
  ended_flag : (d : ℕ) → IsMade (past_in x) d → flag_at x.services.ended d ≡ is_some (end_reason (past_in x) d)
  ended_flag d m =
      ap (λ (flags : List Bool). flag_at flags d) h.ended
      ∙ sym (flagged (λ d. is_some (end_reason (past_in x) d)) (domain_limit s) d (λ q. (m.low, omega (arith, m.high, domains_fit s (past_in x) h.stands.admitted))))

  -- whether the owner of a service lives
  live_owner_is : (k : ℕ) → Portals.has_live_owner x.services k ≡ has_live_owner (past_in x) k
  unfolding has_live_owner service_records service_record owner_of export_of passes
  live_owner_is k =
      ap (λ (items : List ServiceRecord). passes (λ r. not (flag_at x.services.ended r.owner)) (numbered items k)) h.stands.services
      ∙ sym (test_by_number (service_record s (past_in x)) (λ r. not (flag_at x.services.ended r.owner)) (services_made (past_in x)) k (has_live_owner (past_in x) k) there none)
    where
      turned : (o : Option Reason) → is_none o ≡ not (is_some o)
      turned None = refl
      turned (Some r) = refl

      by : (o : Option ℕ) → owner_of (past_in x) k ≡ o → is_some o ≡ true → passes (is_live (past_in x)) o ≡ not (flag_at x.services.ended (unwrap_or o 0))
      by None q p = cc
      by (Some d) q p =
          let m = owner_made s (past_in x) k d h.stands.admitted q in
          live_by_reason (past_in x) d m ∙ turned (end_reason (past_in x) d) ∙ ap not (sym (ended_flag d m))

      mapped : (o : Option Entry) → is_some o ≡ true → is_some (option_map (λ e. e.domain.0) o) ≡ true
      mapped None p = cc
      mapped (Some e) p = refl

      there : 1 ≤ k → k ≤ services_made (past_in x) → has_live_owner (past_in x) k ≡ not (flag_at x.services.ended (unwrap_or (owner_of (past_in x) k) 0))
      there l u = by (owner_of (past_in x) k) refl (mapped (export_of (past_in x) k) (nth_there is_export (past_in x) k l u))

      none : (k ≡ 0) ⊎ (services_made (past_in x) < k) → has_live_owner (past_in x) k ≡ false
      none w = ap (λ (o : Option Entry). passes (is_live (past_in x)) (option_map (λ e. e.domain.0) o)) (no_export (past_in x) k w)

  -- what a name is bound to
  pub bound_is : (name : List ℕ) → Portals.service_bound x.services name ≡ bound_service (past_in x) name
  unfolding bound_service
  bound_is name =
      by (named_service x.services.binds name) ∙ ap (option_and_then (λ k. if has_live_owner (past_in x) k then Some k else None)) (h.stands.names name)
    where
      by : (o : Option ℕ) → option_and_then (Portals.live_service x.services) o ≡ option_and_then (λ k. if has_live_owner (past_in x) k then Some k else None) o
      by None = refl
      by (Some k) = ap (λ (b : Bool). if b then Some k else None) (live_owner_is k)

  -- a bind
  pub bind_is : (d : ℕ) (name : List ℕ) (k : ServiceId) → Portals.bind_reply x.services d name k.0 ≡ reply_to s (past_in x) d (act.Bind name k)
  unfolding reply_to bound
  bind_is d name k =
      ap2 (λ (b : Bool) (o : Option ℕ). not b refuses refusal.NotHeld else is_some o refuses refusal.Taken else reply.Done) (holds_is d k.0) (bound_is name)

  -- a lookup
  pub lookup_is : (d : ℕ) (name : List ℕ) → Portals.lookup_reply x.services name ≡ reply_to s (past_in x) d (act.Lookup name)
  unfolding reply_to looked_up
  lookup_is d name = by (Portals.service_bound x.services name) ∙ ap (looked_up (past_in x)) (bound_is name)
    where
      by : (o : Option ℕ) → Portals.portal_of x.services o ≡ looked_up (past_in x) o
      by None = refl
      by (Some k) =
          ap (portal_reply k)
          (ap (λ (items : List ServiceRecord). option_and_then (λ r. r.interface) (numbered items k)) h.stands.services ∙ sym (interface_by_records s (past_in x) k))

  -- a service that is found was made, and has an interface
  pub found_made : (name : List ℕ) (k : ℕ) → Portals.service_bound x.services name ≡ Some k → IsExported (past_in x) k
  unfolding bound_service
  found_made name k q = bound_made s (past_in x) name k h.stands.admitted (last (last_bound (past_in x) name) (sym (bound_is name) ∙ q))
    where
      alive : (j : ℕ) (b : Bool) → (if b then Some j else None) ≡ Some k → Some j ≡ Some k
      alive j true q = q
      alive j false q = cc

      last : (o : Option ℕ) → option_and_then (λ k. if has_live_owner (past_in x) k then Some k else None) o ≡ Some k → o ≡ Some k
      last None q = cc
      last (Some j) q = alive j (has_live_owner (past_in x) j) q

  pub found_interface : (k : ℕ) → IsExported (past_in x) k → is_some (option_and_then (λ r. r.interface) (numbered x.services.services k)) ≡ true
  unfolding interface_of export_of is_export
  found_interface k m =
      ap (λ (items : List ServiceRecord). is_some (option_and_then (λ r. r.interface) (numbered items k))) h.stands.services
      ∙ ap is_some (sym (interface_by_records s (past_in x) k))
      ∙ by (export_of (past_in x) k) refl (nth_there is_export (past_in x) k m.low m.high)
    where
      by : (o : Option Entry) → export_of (past_in x) k ≡ o → is_some o ≡ true → is_some (option_and_then (λ e. exported_interface e.act e.reply) o) ≡ true
      by None q p = cc
      by (Some e) q p = (nth_passes is_export (past_in x) k e q).0
