-- The records of the extents, and the granules, after each kind of entry.
use Rattle.std.proofs.Common.{◌≡◌, ◌≢◌, refl, sym, ◌∙◌, ap, ℕ, ◌+◌, ◌≤◌, Bool, true, false, not, ◌&&◌, ◌||◌, List, [], ◌∷◌, ◌++◌, map, replicate, Option, Some, None, arith, if◌then◌else◌, set, slice_get}
use Rattle.std.specs.List.{range_with_len}
use Rattle.jx_base.specs.declared.act.Act.{Act}
use Rattle.jx_base.specs.declared.act.Act.TheVariants as act
use Rattle.jx_base.specs.declared.act.Reply.TheVariants as reply
use Rattle.jx_base.specs.declared.act.Reply.{Reply}
use Rattle.jx_base.specs.declared.act.Reason.{Reason}
use Rattle.jx_base.specs.declared.act.Entry.{Entry}
use Rattle.jx_base.specs.declared.program.System.{System}
use Rattle.jx_base.specs.Basics.{up_to, not_below_zero}
use Rattle.program_model.specs.Limits.{granule_limit}
use Rattle.jx_base.specs.Histories.{Past, is_done}
use Rattle.jx_model.specs.Domains.{is_live, is_birth, domains_made, ended_by}
use Rattle.jx_model.specs.Calls.{ends_domain}
use Rattle.jx_model.specs.MemoryObjects.{Part, objects_of, objects_made, object_part, extents_made, is_allocation, makes_extent, new_parts, allocated_bytes}
use Rattle.jx_model.specs.Holding.{is_extent_in_use}
use Rattle.jx_model.specs.Granules.{Run, heap_run, extent_run, lies_in, is_used_granule}
use Rattle.jx_model.specs.Tables.{ExtentRecord, extent_record, extent_records, extent_bytes, granule_flags}
use Rattle.jx_model.specs.Legal.{IsAdmittedPast}
use Rattle.jx_base.proofs.BasicLaws.{ap2}
use Rattle.jx_base.proofs.NthEntries.{count_new, count_same}
use Rattle.table_threads.proofs.Records.{records_same, records_more, records_set, records_get}
use Rattle.table_threads.proofs.Actors.{live_made}
use Rattle.table_threads.proofs.CallStages.{live_after}
use Rattle.table_objects.specs.HolderChanges.{drops_object}
use Rattle.table_objects.proofs.Parts.{part_new, part_made, valid_new}
use Rattle.table_objects.proofs.UsedBefore.{ByDomain}
use Rattle.table_objects.proofs.ExtentsInUse.{in_use, in_use_before}
use Rattle.table_extents.proofs.Granules.{Owner, HeapOf, ExtentOf, is_owner_used, run_old, ThatHeap, ThatRun, granules_same, granules_taken}
use Rattle.table_extents.specs.ExtentChanges.{writes}
use Rattle.table_extents.proofs.ByteRecords.{bytes_same, bytes_new}
use Rattle.table_extents.proofs.FreeingEntries.{stays_in_use, new_held}

-- ---- one extent

-- the bytes of an extent where it is in use
abbrev pub kept_bytes : Bool → List ℕ → Option (List ℕ)
kept_bytes used bytes = if used then Some bytes else None

-- the record of an extent that was made before an entry
pub extent_record_old : (e : Entry) (past : Past) (x : ℕ) → x ≤ extents_made past → extent_record (e ∷ past) x ≡ record { run = (extent_record past x).run; bytes = kept_bytes (is_extent_in_use (e ∷ past) x) (extent_bytes (e ∷ past) x) }
unfolding extent_record
extent_record_old e past x u = ap (λ (r : Run). let item : ExtentRecord = record { run = r; bytes = kept_bytes (is_extent_in_use (e ∷ past) x) (extent_bytes (e ∷ past) x) } in item) (run_old e past x u)

kept_twice : (new old : Bool) (xs : List ℕ) → (new ≡ true → old ≡ true) → kept_bytes new xs ≡ (if new then kept_bytes old xs else None)
kept_twice true true xs h = refl
kept_twice true false xs h = cc (h refl)
kept_twice false old xs h = refl

-- where the entry writes nothing: the bytes stay while it is in use
pub extent_record_unwritten : (s : System) (e : Entry) (past : Past) (x : ℕ) → IsAdmittedPast s (e ∷ past) → x ≤ extents_made past → (is_done e.reply && writes e.act) ≡ false →
    extent_record (e ∷ past) x ≡ record (extent_record past x) { bytes = if is_extent_in_use (e ∷ past) x then (extent_record past x).bytes else None }
unfolding extent_record
extent_record_unwritten s e past x a u w =
    extent_record_old e past x u
    ∙ ap (λ (b : Option (List ℕ)). let item : ExtentRecord = record (extent_record past x) { bytes = b } in item)
    (ap (kept_bytes (is_extent_in_use (e ∷ past) x)) (bytes_same e past x u w) ∙ kept_twice (is_extent_in_use (e ∷ past) x) (is_extent_in_use past x) (extent_bytes past x) (in_use_before s e past x a u))

-- an entry that ends nobody and drops nothing leaves which extents are in use
pub in_use_same : (s : System) (e : Entry) (past : Past) (x : ℕ) → IsAdmittedPast s (e ∷ past) → x ≤ extents_made past → ended_by e ≡ None → ((d m : ℕ) → drops_object e d m ≡ false) → is_extent_in_use (e ∷ past) x ≡ is_extent_in_use past x
in_use_same s e past x a u z r = equal (is_extent_in_use (e ∷ past) x) (is_extent_in_use past x) (in_use_before s e past x a u) (stays_in_use s e past x a z r)
  where
    equal : (p q : Bool) → (p ≡ true → q ≡ true) → (q ≡ true → p ≡ true) → p ≡ q
    equal true true f g = refl
    equal false false f g = refl
    equal true false f g = sym (f refl)
    equal false true f g = g refl

-- such an entry leaves the record of an extent that it doesn't write
pub extent_record_same : (s : System) (e : Entry) (past : Past) (x : ℕ) → IsAdmittedPast s (e ∷ past) → x ≤ extents_made past → ended_by e ≡ None → ((d m : ℕ) → drops_object e d m ≡ false) → extent_bytes (e ∷ past) x ≡ extent_bytes past x →
    extent_record (e ∷ past) x ≡ extent_record past x
unfolding extent_record
extent_record_same s e past x a u z r b =
    extent_record_old e past x u
    ∙ ap2 (λ (q : Bool) (xs : List ℕ). let item : ExtentRecord = record { run = extent_run past x; bytes = kept_bytes q xs } in item) (in_use_same s e past x a u z r) b

-- ---- all extents

-- an entry that makes no extent and leaves each record leaves all
pub extents_same : (e : Entry) (past : Past) → is_allocation e ≡ false → ((x : ℕ) → 1 ≤ x → x ≤ extents_made past → extent_record (e ∷ past) x ≡ extent_record past x) → extent_records (e ∷ past) ≡ extent_records past
unfolding extent_records
extents_same e past b f =
    ap (λ (n : ℕ). map (extent_record (e ∷ past)) (up_to n)) (count_same is_allocation e past b)
    ∙ records_same (extent_record (e ∷ past)) (extent_record past) (extents_made past) f

-- an entry that makes no extent, ends nobody, drops nothing and writes nothing leaves all records
pub extents_untouched : (s : System) (e : Entry) (past : Past) → IsAdmittedPast s (e ∷ past) → is_allocation e ≡ false → ended_by e ≡ None → ((d m : ℕ) → drops_object e d m ≡ false) → (is_done e.reply && writes e.act) ≡ false →
    extent_records (e ∷ past) ≡ extent_records past
extents_untouched s e past a b z r w = extents_same e past b (λ x l u. extent_record_same s e past x a u z r (bytes_same e past x u w))

-- one that writes one extent sets its record
pub extents_written : (s : System) (e : Entry) (past : Past) (x i : ℕ) (bytes : List ℕ) → IsAdmittedPast s (e ∷ past) → is_allocation e ≡ false → ended_by e ≡ None → ((d m : ℕ) → drops_object e d m ≡ false) → x ≡ i + 1 → x ≤ extents_made past →
    is_extent_in_use past x ≡ true → extent_bytes (e ∷ past) x ≡ bytes → ((y : ℕ) → y ≢ x → y ≤ extents_made past → extent_bytes (e ∷ past) y ≡ extent_bytes past y) →
    extent_records (e ∷ past) ≡ set (extent_records past) i (record (extent_record past x) { bytes = Some bytes })
unfolding extent_records extent_record
extents_written s e past x i bytes a b z r q u v w others =
    ap (λ (n : ℕ). map (extent_record (e ∷ past)) (up_to n)) (count_same is_allocation e past b)
    ∙ records_set (extent_record past) (extent_record (e ∷ past)) (extents_made past) x i q u (λ y l k n. sym (extent_record_same s e past y a k z r (others y n k)))
    ∙ ap (set (map (extent_record past) (up_to (extents_made past))) i)
    (extent_record_old e past x u
    ∙ ap2 (λ (p : Bool) (xs : List ℕ). let item : ExtentRecord = record { run = extent_run past x; bytes = kept_bytes p xs } in item) (in_use_same s e past x a u z r ∙ v) w)

-- one that makes no extent and writes nothing: the bytes of what it frees are kept no more
pub extents_freed : (s : System) (e : Entry) (past : Past) → IsAdmittedPast s (e ∷ past) → is_allocation e ≡ false → (is_done e.reply && writes e.act) ≡ false →
    extent_records (e ∷ past) ≡ map (λ x. let item : ExtentRecord = record (extent_record past x) { bytes = if is_extent_in_use (e ∷ past) x then (extent_record past x).bytes else None } in item) (up_to (extents_made past))
unfolding extent_records
extents_freed s e past a b w =
    ap (λ (n : ℕ). map (extent_record (e ∷ past)) (up_to n)) (count_same is_allocation e past b)
    ∙ records_same (extent_record (e ∷ past)) (λ x. let item : ExtentRecord = record (extent_record past x) { bytes = if is_extent_in_use (e ∷ past) x then (extent_record past x).bytes else None } in item) (extents_made past)
    (λ x l u. extent_record_unwritten s e past x a u w)

-- ---- a new extent

-- the first part that an allocation makes lies on its extent
allocated_part : (e : Entry) (past : Past) → is_allocation e ≡ true → (p : Part) × (slice_get (new_parts (objects_of past) (extents_made past + 1) e.act e.reply) 0 ≡ Some p) × (p.extent ≡ extents_made past + 1)
unfolding is_allocation makes_extent new_parts
allocated_part e past b = by e.act e.reply b
  where
    by : (a : Act) (r : Reply) → makes_extent a r ≡ true → (p : Part) × (slice_get (new_parts (objects_of past) (extents_made past + 1) a r) 0 ≡ Some p) × (p.extent ≡ extents_made past + 1)
    by (act.Alloc n) (reply.Made m g) b = (record { parent = 0; extent = extents_made past + 1; from = 0; size = not_below_zero n }, refl, refl)
    by _ _ b = cc

-- a new extent is in use
pub in_use_new : (s : System) (e : Entry) (past : Past) → IsAdmittedPast s (e ∷ past) → is_allocation e ≡ true → ended_by e ≡ None → is_live past e.domain.0 ≡ true → is_extent_in_use (e ∷ past) (extents_made past + 1) ≡ true
in_use_new s e past a b z v =
    let p = allocated_part e past b in
    let m : object_part (e ∷ past) (objects_made past + 1) ≡ Some p.0 = part_new e past (objects_made past + 1) 0 (omega arith) ∙ p.1 in
    in_use (e ∷ past) (extents_made past + 1) (objects_made past + 1) (record {
      part = p.0;
      is = m;
      extent = p.2;
      valid = valid_new e past (objects_made past + 1) (omega arith) (part_made (e ∷ past) (objects_made past + 1) p.0 m).1;
      used = ByDomain e.domain.0 (new_held s e past (objects_made past + 1) a v z (omega arith) (part_made (e ∷ past) (objects_made past + 1) p.0 m).1);
    })

-- an allocation adds the record of its extent, with zeros
pub extents_more : (s : System) (e : Entry) (past : Past) → IsAdmittedPast s (e ∷ past) → is_allocation e ≡ true → ended_by e ≡ None → is_live past e.domain.0 ≡ true → ((d m : ℕ) → drops_object e d m ≡ false) → writes e.act ≡ false →
    extent_records (e ∷ past) ≡ extent_records past ++ (record { run = extent_run (e ∷ past) (extents_made past + 1); bytes = Some (replicate (allocated_bytes e.act) 0) }) ∷ []
unfolding extent_records extent_record
extents_more s e past a b z v r w =
    ap (λ (n : ℕ). map (extent_record (e ∷ past)) (up_to n)) (count_new is_allocation e past b)
    ∙ records_more (extent_record (e ∷ past)) (extents_made past)
    ∙ ap2 (λ (xs : List ExtentRecord) (x : ExtentRecord). xs ++ x ∷ [])
    (records_same (extent_record (e ∷ past)) (extent_record past) (extents_made past) (λ x l u. extent_record_same s e past x a u z r (bytes_same e past x u (none (is_done e.reply) (writes e.act) w))))
    (ap2 (λ (p : Bool) (xs : List ℕ). let item : ExtentRecord = record { run = extent_run (e ∷ past) (extents_made past + 1); bytes = kept_bytes p xs } in item) (in_use_new s e past a b z v) (bytes_new s e past a.1 b w))
  where
    none : (x y : Bool) → y ≡ false → (x && y) ≡ false
    none true y q = q
    none false y q = refl

-- ---- granules

-- an entry that ends nobody and drops nothing leaves each owner in use
pub owners_stay : (s : System) (e : Entry) (past : Past) → IsAdmittedPast s (e ∷ past) → ended_by e ≡ None → ((d m : ℕ) → drops_object e d m ≡ false) → (o : Owner) → is_owner_used past o ≡ true → is_owner_used (e ∷ past) o ≡ true
unfolding ends_domain
owners_stay s e past a z r (HeapOf d) h =
    live_after e past d (live_made past d h) ∙ ap2 (λ (b : Bool) (x : Option (ℕ × Reason)). b && not (ends_domain x (Some d))) h z
owners_stay s e past a z r (ExtentOf x) h = stays_in_use s e past x a z r h

-- where it makes neither a domain nor an extent, all granules stay
pub granules_untouched : (s : System) (e : Entry) (past : Past) → IsAdmittedPast s (e ∷ past) → ended_by e ≡ None → ((d m : ℕ) → drops_object e d m ≡ false) → is_birth e ≡ false → is_allocation e ≡ false → granule_flags s (e ∷ past) ≡ granule_flags s past
granules_untouched s e past a z r b x = granules_same s e past a (owners_stay s e past a z r) b x

-- a new domain takes the granules of its heap
pub granules_after_birth : (s : System) (e : Entry) (past : Past) → IsAdmittedPast s (e ∷ past) → ended_by e ≡ None → ((d m : ℕ) → drops_object e d m ≡ false) → is_birth e ≡ true → is_live (e ∷ past) (domains_made past + 1) ≡ true →
    granule_flags s (e ∷ past) ≡ map (λ g. is_used_granule s past g || lies_in g (heap_run s (e ∷ past) (domains_made past + 1))) (range_with_len 0 (granule_limit s))
granules_after_birth s e past a z r b v = granules_taken s e past (HeapOf (domains_made past + 1)) a (owners_stay s e past a z r) (ThatHeap b refl) v

-- an allocation takes the granules of its extent
pub granules_after_allocation : (s : System) (e : Entry) (past : Past) → IsAdmittedPast s (e ∷ past) → ended_by e ≡ None → ((d m : ℕ) → drops_object e d m ≡ false) → is_allocation e ≡ true → is_live past e.domain.0 ≡ true →
    granule_flags s (e ∷ past) ≡ map (λ g. is_used_granule s past g || lies_in g (extent_run (e ∷ past) (extents_made past + 1))) (range_with_len 0 (granule_limit s))
granules_after_allocation s e past a z r b v = granules_taken s e past (ExtentOf (extents_made past + 1)) a (owners_stay s e past a z r) (ThatRun b refl) (in_use_new s e past a b z v)

-- the record of an extent
pub extent_record_there : (past : Past) (x i : ℕ) → x ≡ i + 1 → x ≤ extents_made past → slice_get (extent_records past) i ≡ Some (extent_record past x)
unfolding extent_records
extent_record_there past x i q u = records_get (extent_record past) (extents_made past) x i q u
