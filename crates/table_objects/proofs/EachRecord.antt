-- The services' and the objects' records after any entry, each from its record before.
use Rattle.std.proofs.Common.{◌≡◌, sym, ◌∙◌, ap, ℕ, ◌+◌, ◌≤◌, Bool, false, List, ◌∷◌, ◌++◌, map, replicate, None, arith, append-nil}
use Rattle.std.specs.List.{range_with_len}
use Rattle.jx_base.specs.declared.act.Entry.{Entry}
use Rattle.jx_base.specs.declared.program.System.{System}
use Rattle.jx_base.specs.Basics.{up_to}
use Rattle.jx_base.specs.Histories.{Past}
use Rattle.jx_model.specs.Domains.{ended_by}
use Rattle.jx_model.specs.Portals.{is_export, services_made}
use Rattle.jx_model.specs.MemoryObjects.{objects_of, objects_made}
use Rattle.jx_model.specs.Tables.{ServiceRecord, service_record, service_records, portal_flags, ObjectRecord, object_record, object_records, call_records}
use Rattle.jx_model.specs.Legal.{IsNext, IsAdmittedPast}
use Rattle.jx_base.proofs.BasicLaws.{ap2, ap3}
use Rattle.jx_model.proofs.Exported.{services_grow}
use Rattle.table_threads.proofs.Records.{records_same, each_map}
use Rattle.table_threads.specs.Changes.{each_record}
use Rattle.table_objects.specs.HolderChanges.{portals_after}
use Rattle.table_objects.proofs.Holders.{flags_every}
use Rattle.table_objects.proofs.Parts.{valid_old}
use Rattle.table_objects.specs.ObjectChanges.{new_object_record, object_record_after}
use Rattle.table_objects.proofs.Riding.{riding_by_records}
use Rattle.table_objects.proofs.ObjectRecords.{objects_split, objects_new, parts_made}
use Rattle.table_objects.proofs.ServiceRecords.{portals_every, services_changed}

-- ---- portals

-- the services' records after any entry that makes no service
pub services_every : (s : System) (e : Entry) (past : Past) → IsNext s past e → is_export e ≡ false →
    service_records s (e ∷ past) ≡ each_record (λ k item. record item { holders = portals_after e k item.holders }) (service_records s past)
unfolding service_records service_record up_to
services_every s e past n x =
    services_changed s e past x
    ∙ records_same (λ k. let item : ServiceRecord = record (service_record s past k) { holders = portal_flags s (e ∷ past) k } in item) (λ k. let item : ServiceRecord = record (service_record s past k) { holders = portals_after e k (portal_flags s past k) } in item) (services_made past)
    (λ k l u. ap (λ (hs : List Bool). let item : ServiceRecord = record (service_record s past k) { holders = hs } in item) (portals_every s e past k n (record { low = l; high = omega (arith, u, services_grow e past) })))
    ∙ sym (each_map (λ k (item : ServiceRecord). record item { holders = portals_after e k item.holders }) (service_record s past) 1 (services_made past))

-- ---- objects

-- an old object's record after any entry
pub object_record_every : (s : System) (e : Entry) (past : Past) (m : ℕ) → IsNext s past e → m ≤ objects_made past →
    object_record s (e ∷ past) m ≡ object_record_after e (objects_of past) (call_records (e ∷ past)) m (object_record s past m)
unfolding object_record
object_record_every s e past m n h =
    ap3 (λ (v : Bool) (hs : List Bool) (r : ℕ). let item : ObjectRecord = record { valid = v; holders = hs; riding = r } in item) (valid_old e past m h) (flags_every s e past m n h) (riding_by_records (e ∷ past) m)

old_objects : (s : System) (e : Entry) (past : Past) → IsNext s past e →
    map (object_record s (e ∷ past)) (up_to (objects_made past)) ≡ each_record (object_record_after e (objects_of past) (call_records (e ∷ past))) (object_records s past)
unfolding object_records up_to
old_objects s e past n =
    records_same (object_record s (e ∷ past)) (λ m. object_record_after e (objects_of past) (call_records (e ∷ past)) m (object_record s past m)) (objects_made past) (λ m l u. object_record_every s e past m n u)
    ∙ sym (each_map (object_record_after e (objects_of past) (call_records (e ∷ past))) (object_record s past) 1 (objects_made past))

-- the objects' records after any entry that makes none
pub objects_every : (s : System) (e : Entry) (past : Past) → IsNext s past e → parts_made e past ≡ 0 →
    object_records s (e ∷ past) ≡ each_record (object_record_after e (objects_of past) (call_records (e ∷ past))) (object_records s past)
objects_every s e past n z =
    objects_split s e past
    ∙ ap (λ (k : ℕ). map (object_record s (e ∷ past)) (up_to (objects_made past)) ++ map (object_record s (e ∷ past)) (range_with_len (objects_made past + 1) k)) z
    ∙ append-nil _
    ∙ old_objects s e past n

-- and after one that makes some
pub objects_every_new : (s : System) (e : Entry) (past : Past) → IsAdmittedPast s (e ∷ past) → ended_by e ≡ None →
    object_records s (e ∷ past) ≡ each_record (object_record_after e (objects_of past) (call_records (e ∷ past))) (object_records s past) ++ replicate (parts_made e past) (new_object_record s e.domain.0)
objects_every_new s e past a z =
    objects_split s e past ∙ ap2 (λ (xs ys : List ObjectRecord). xs ++ ys) (old_objects s e past a.0) (objects_new s e past a z)
