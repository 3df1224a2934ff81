-- The records of the services, and the names, after an entry more.
use Rattle.std.proofs.Common.{◌≡◌, refl, sym, ◌∙◌, ap, subst, ℕ, ◌+◌, ◌<◌, ◌≤◌, Bool, true, false, not, ◌&&◌, ◌||◌, List, [], ◌∷◌, ◌++◌, map, Option, Some, None, is_some, arith, ◌==◌, if◌then◌else◌}
use Rattle.std.specs.Prelude.{nat_le}
use Rattle.std.specs.Str.{bytes_eq}
use Rattle.jx_base.specs.declared.act.Act.{Act}
use Rattle.jx_base.specs.declared.act.Act.TheVariants as act
use Rattle.jx_base.specs.declared.act.Reply.{Reply}
use Rattle.jx_base.specs.declared.act.Reason.{Reason}
use Rattle.jx_base.specs.declared.act.Entry.{Entry}
use Rattle.jx_base.specs.declared.program.System.{System}
use Rattle.jx_base.specs.Basics.{up_to}
use Rattle.program_model.specs.Limits.{domain_limit}
use Rattle.jx_base.specs.Histories.{Past, is_own, is_done, nth_entry}
use Rattle.jx_model.specs.Domains.{is_made, is_live, domains_made, ended_by}
use Rattle.jx_model.specs.Portals.{is_export, exported_interface, is_exported, keeps_portal, services_made, export_of, owner_of, interface_of, gives_portal, holds_portal, bound_by_act, last_bound}
use Rattle.jx_model.specs.Calls.{ends_domain}
use Rattle.jx_model.specs.Tables.{ServiceRecord, service_record, service_records, portal_flags}
use Rattle.jx_model.specs.Permits.{zero_may, is_halt}
use Rattle.jx_model.specs.Replies.{reply_to, bound}
use Rattle.jx_model.specs.Legal.{IsNext, IsAdmittedPast}
use Rattle.jx_base.proofs.BasicLaws.{ap2, ap3, both, and_false, at_most, beyond, turned}
use Rattle.jx_base.proofs.NthEntries.{nth_new, nth_old, count_new, count_same}
use Rattle.table_threads.proofs.Records.{map_range, records_same, records_more, each_map}
use Rattle.table_threads.specs.Changes.{each_record}
use Rattle.table_threads.proofs.Actors.{IsMade, made_is, is_made_at, live_made, made_stays, unmade_acts, acts_live}
use Rattle.table_threads.proofs.CallStages.{live_after}
use Rattle.table_objects.proofs.Holders.{own_lives}
use Rattle.table_objects.specs.HolderChanges.{portal_after}
use Rattle.jx_model.proofs.DoneReplies.{undone}
use Rattle.jx_model.proofs.Exported.{IsExported, is_exported_at, exported_stays, services_grow, portal_made, held_made}
use Rattle.std.specs.Option.{option_and_then, option_map, unwrap_or}
use Rattle.table_objects.specs.ObjectChanges.{new_service_record}

-- ---- who holds a portal

-- what isn't made is kept by nobody
pub kept_none : (past : Past) (d k : ℕ) → services_made past < k → keeps_portal past d k ≡ false
kept_none past d k h = by (keeps_portal past d k) refl
  where
    by : (b : Bool) → keeps_portal past d k ≡ b → b ≡ false
    by false q = refl
    by true q = absurd (omega (arith, h, (portal_made past d k q).1.high))

-- who isn't made keeps none
pub unmade_kept : (past : Past) (d k : ℕ) → domains_made past < d → keeps_portal past d k ≡ false
unmade_kept past d k h = by (keeps_portal past d k) refl
  where
    by : (b : Bool) → keeps_portal past d k ≡ b → b ≡ false
    by false q = refl
    by true q = absurd (omega (arith, h, (made_is past d (portal_made past d k q).0).high))

-- whether a domain that was made before holds a portal after an entry
pub portal_step : (e : Entry) (past : Past) (d k : ℕ) → IsMade past d → IsExported (e ∷ past) k →
    holds_portal (e ∷ past) d k ≡ (is_live past d && not (ends_domain (ended_by e) (Some d)) && ((is_own d e && gives_portal k e) || keeps_portal past d k))
unfolding holds_portal keeps_portal
portal_step e past d k m x =
    ap3 (λ (b c o : Bool). b && (c && o && ((is_own d e && gives_portal k e) || keeps_portal past d k)))
    (live_after e past d m) (is_made_at (e ∷ past) d (made_stays e past d m)) (is_exported_at (e ∷ past) k x)

-- a domain that the entry makes holds none
pub newborn_portals : (s : System) (e : Entry) (past : Past) (d k : ℕ) → IsNext s past e → domains_made past < d → holds_portal (e ∷ past) d k ≡ false
unfolding holds_portal keeps_portal is_own
newborn_portals s e past d k n h =
    ap2 (λ (x y : Bool). is_live (e ∷ past) d && (is_made (e ∷ past) d && is_exported (e ∷ past) k && ((x && gives_portal k e) || y))) (unmade_acts s past e d n h) (unmade_kept past d k h)
    ∙ by (is_live (e ∷ past) d) (is_made (e ∷ past) d && is_exported (e ∷ past) k)
  where
    by : (x y : Bool) → (x && (y && false)) ≡ false
    by x y = ap (λ (b : Bool). x && b) (and_false y) ∙ and_false x

-- whether any domain number holds a portal after an entry
pub portal_every : (s : System) (e : Entry) (past : Past) (d k : ℕ) → IsNext s past e → 1 ≤ d → IsExported (e ∷ past) k → holds_portal (e ∷ past) d k ≡ portal_after e k d (holds_portal past d k)
unfolding holds_portal is_own
portal_every s e past d k n l x = by (nat_le d (domains_made past)) refl
  where
    turn : (l n o g w : Bool) → (o ≡ true → l ≡ true) → (l && n && ((o && g) || w)) ≡ (n && ((o && g) || (l && w)))
    turn true n o g w h = refl
    turn false n true g w h = cc (h refl)
    turn false true false g w h = refl
    turn false false false g w h = refl

    nothing : (n g l : Bool) → (n && ((false && g) || (l && false))) ≡ false
    nothing n g l = ap (λ (b : Bool). n && b) (and_false l) ∙ and_false n

    by : (b : Bool) → nat_le d (domains_made past) ≡ b → holds_portal (e ∷ past) d k ≡ portal_after e k d (holds_portal past d k)
    by true q =
        portal_step e past d k (record { low = l; high = at_most d (domains_made past) q }) x
        ∙ turn (is_live past d) (not (ends_domain (ended_by e) (Some d))) (e.domain.0 == d) (gives_portal k e) (keeps_portal past d k) (own_lives s past e d n l)
    by false q =
        let u = beyond d (domains_made past) q in
        newborn_portals s e past d k n u
        ∙ sym (ap2 (λ (o w : Bool). not (ends_domain (ended_by e) (Some d)) && ((o && gives_portal k e) || (is_live past d && w))) (unmade_acts s past e d n u) (unmade_kept past d k u)
        ∙ nothing (not (ends_domain (ended_by e) (Some d))) (gives_portal k e) (is_live past d))

-- each flag after an entry comes from that flag alone, also for a service that the entry makes
pub portals_every : (s : System) (e : Entry) (past : Past) (k : ℕ) → IsNext s past e → IsExported (e ∷ past) k → portal_flags s (e ∷ past) k ≡ each_record (portal_after e k) (portal_flags s past k)
unfolding up_to
portals_every s e past k n x =
    map_range (λ d. holds_portal (e ∷ past) d k) (λ d. portal_after e k d (holds_portal past d k)) 1 (domain_limit s) (λ d l u. portal_every s e past d k n l x)
    ∙ sym (each_map (portal_after e k) (λ d. holds_portal past d k) 1 (domain_limit s))

-- they stay where the entry hands none and ends nobody
pub portals_same : (s : System) (e : Entry) (past : Past) (k : ℕ) → IsNext s past e → IsExported (e ∷ past) k → ended_by e ≡ None → ((d : ℕ) → (is_own d e && gives_portal k e) ≡ false) → portal_flags s (e ∷ past) k ≡ portal_flags s past k
unfolding up_to ends_domain
portals_same s e past k n x z g =
    map_range (λ d. holds_portal (e ∷ past) d k) (λ d. holds_portal past d k) 1 (domain_limit s) (λ d l u.
    portal_every s e past d k n l x ∙ ap2 (λ (x : Option (ℕ × Reason)) (p : Bool). not (ends_domain x (Some d)) && (p || holds_portal past d k)) z (g d))

-- ---- the records of the services

-- a service that was made before keeps its owner
pub owner_old : (e : Entry) (past : Past) (k : ℕ) → k ≤ services_made past → owner_of (e ∷ past) k ≡ owner_of past k
unfolding owner_of export_of
owner_old e past k u = ap (option_map (λ e. e.domain.0)) (nth_old is_export e past k (λ q. omega (arith, q, u)))

-- and its interface
pub service_record_old : (s : System) (e : Entry) (past : Past) (k : ℕ) → k ≤ services_made past → service_record s (e ∷ past) k ≡ record (service_record s past k) { holders = portal_flags s (e ∷ past) k }
unfolding service_record owner_of interface_of export_of
service_record_old s e past k u =
    ap (λ (o : Option Entry). let item : ServiceRecord = record { owner = unwrap_or (option_map (λ e. e.domain.0) o) 0; interface = option_and_then (λ e. exported_interface e.act e.reply) o; holders = portal_flags s (e ∷ past) k } in item)
    (nth_old is_export e past k (λ q. omega (arith, q, u)))

-- the record of a service that an entry makes
pub service_record_new : (s : System) (e : Entry) (past : Past) → IsNext s past e → is_export e ≡ true → gives_portal (services_made past + 1) e ≡ true → ended_by e ≡ None →
    service_record s (e ∷ past) (services_made past + 1) ≡ new_service_record s e.domain.0 (exported_interface e.act e.reply)
unfolding service_record owner_of interface_of export_of up_to is_own ends_domain holds_portal
service_record_new s e past n x g z =
    ap2 (λ (o : Option Entry) (hs : List Bool). let item : ServiceRecord = record { owner = unwrap_or (option_map (λ e. e.domain.0) o) 0; interface = option_and_then (λ e. exported_interface e.act e.reply) o; holders = hs } in item)
    (nth_new is_export e past (services_made past + 1) x refl)
    (map_range (λ d. holds_portal (e ∷ past) d (services_made past + 1)) (λ d. e.domain.0 == d) 1 (domain_limit s) (λ d l u. one d l))
  where
    turn : (i l : Bool) → (true && ((i && true) || (l && false))) ≡ i
    turn true l = refl
    turn false true = refl
    turn false false = refl

    made : IsExported (e ∷ past) (services_made past + 1)
    made = record { low = omega arith; high = omega (arith, count_new is_export e past x) }

    one : (d : ℕ) → 1 ≤ d → holds_portal (e ∷ past) d (services_made past + 1) ≡ (e.domain.0 == d)
    one d l =
        portal_every s e past d (services_made past + 1) n l made
        ∙ ap3 (λ (w : Option (ℕ × Reason)) (c h : Bool). not (ends_domain w (Some d)) && (((e.domain.0 == d) && c) || (is_live past d && h))) z g (kept_none past d (services_made past + 1) (omega arith))
        ∙ turn (e.domain.0 == d) (is_live past d)

-- the records where no service is made, each by itself
pub services_kept : (s : System) (e : Entry) (past : Past) → is_export e ≡ false → ((k : ℕ) → 1 ≤ k → k ≤ services_made past → portal_flags s (e ∷ past) k ≡ portal_flags s past k) → service_records s (e ∷ past) ≡ service_records s past
unfolding service_records service_record
services_kept s e past x f =
    ap (λ (n : ℕ). map (service_record s (e ∷ past)) (up_to n)) (count_same is_export e past x)
    ∙ records_same (service_record s (e ∷ past)) (service_record s past) (services_made past) (λ k l u.
    service_record_old s e past k u ∙ ap (λ (hs : List Bool). let item : ServiceRecord = record (service_record s past k) { holders = hs } in item) (f k l u))

-- the records where the holders of services change
pub services_changed : (s : System) (e : Entry) (past : Past) → is_export e ≡ false → service_records s (e ∷ past) ≡ map (λ k. let item : ServiceRecord = record (service_record s past k) { holders = portal_flags s (e ∷ past) k } in item) (up_to (services_made past))
unfolding service_records
services_changed s e past x =
    ap (λ (n : ℕ). map (service_record s (e ∷ past)) (up_to n)) (count_same is_export e past x)
    ∙ records_same (service_record s (e ∷ past)) (λ k. let item : ServiceRecord = record (service_record s past k) { holders = portal_flags s (e ∷ past) k } in item) (services_made past) (λ k l u. service_record_old s e past k u)

-- an export adds a record
pub services_more : (s : System) (e : Entry) (past : Past) → IsNext s past e → is_export e ≡ true → gives_portal (services_made past + 1) e ≡ true → ended_by e ≡ None →
    ((d k : ℕ) → 1 ≤ k → k ≤ services_made past → (is_own d e && gives_portal k e) ≡ false) →
    service_records s (e ∷ past) ≡ service_records s past ++ new_service_record s e.domain.0 (exported_interface e.act e.reply) ∷ []
unfolding service_records service_record
services_more s e past n x g z f =
    ap (λ (n : ℕ). map (service_record s (e ∷ past)) (up_to n)) (count_new is_export e past x)
    ∙ records_more (service_record s (e ∷ past)) (services_made past)
    ∙ ap2 (λ (xs : List ServiceRecord) (y : ServiceRecord). xs ++ y ∷ [])
    (records_same (service_record s (e ∷ past)) (service_record s past) (services_made past) (λ k l u.
    service_record_old s e past k u
    ∙ ap (λ (hs : List Bool). let item : ServiceRecord = record (service_record s past k) { holders = hs } in item)
    (portals_same s e past k n (record { low = l; high = omega (arith, u, services_grow e past) }) z (λ d. f d k l u))))
    (service_record_new s e past n x g z)

-- ---- names

exporting : (b : Act) (r : Reply) → is_some (exported_interface b r) ≡ true → (is_halt b ≡ false) × ((s : System) (p : Past) → zero_may s p b ≡ false)
unfolding exported_interface is_halt zero_may
exporting (act.Export iface n) r h = (refl, λ s p. refl)
exporting _ r h = cc

-- the owner of a service that was made was made
pub owner_made : (s : System) (past : Past) (k d : ℕ) → IsAdmittedPast s past → owner_of past k ≡ Some d → IsMade past d
unfolding owner_of export_of nth_entry is_export
owner_made s [] k d a h = cc
owner_made s (e ∷ past) k d a h = by (is_export e && (k == services_made past + 1)) refl h (owner_made s past k d a.1)
  where
    by : (b : Bool) → (is_export e && (k == services_made past + 1)) ≡ b → option_map (λ e. e.domain.0) (elim b as (λ _. Option Entry) [ true ↦ Some e | false ↦ nth_entry is_export past k ]) ≡ Some d →
        (option_map (λ e. e.domain.0) (nth_entry is_export past k) ≡ Some d → IsMade past d) → IsMade (e ∷ past) d
    by true q h again =
        let x = exporting e.act e.reply (both (is_export e) (k == services_made past + 1) q).0 in
        let z : e.domain.0 ≡ d = cc in
        made_stays e past d (subst (IsMade past) z (live_made past e.domain.0 (acts_live s past e.domain.0 e.thread.0 e.act x.0 (x.1 s past) a.0.thread)))
    by false q h again = made_stays e past d (again h)

-- a service that a name was last bound to was made
pub bound_made : (s : System) (past : Past) (name : List ℕ) (k : ℕ) → IsAdmittedPast s past → last_bound past name ≡ Some k → IsExported past k
unfolding last_bound bound_by_act reply_to bound
bound_made s [] name k a h = cc
bound_made s (e ∷ past) name k a h = by e.act e.reply a.0.reply h (bound_made s past name k a.1)
  where
    by : (b : Act) (r : Reply) → r ≡ reply_to s past e.domain.0 b → (elim (bound_by_act name b r) as (λ _. Option ℕ) [ Some x ↦ Some x | None ↦ last_bound past name ]) ≡ Some k → (last_bound past name ≡ Some k → IsExported past k) → IsExported (e ∷ past) k
    by (act.Bind n j) r q h again = binds (is_done r && bytes_eq n name) refl h
      where
        binds : (b : Bool) → (is_done r && bytes_eq n name) ≡ b → (elim (if b then Some j.0 else None) as (λ _. Option ℕ) [ Some x ↦ Some x | None ↦ last_bound past name ]) ≡ Some k → IsExported (e ∷ past) k
        binds true w h =
            let z : j.0 ≡ k = cc in
            let d = undone (not (holds_portal past e.domain.0 j.0)) _ _ (ap is_done (sym q) ∙ (both (is_done r) (bytes_eq n name) w).0) in
            exported_stays e past k (subst (IsExported past) z (held_made past e.domain.0 j.0 (turned (holds_portal past e.domain.0 j.0) d.0)))
        binds false w h = exported_stays e past k (again h)
    by _ r q h again = exported_stays e past k (again h)
