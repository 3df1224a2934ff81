-- The bytes of the extents after an entry more.
use Rattle.std.proofs.Common.{◌≡◌, ◌≢◌, refl, sym, ◌∙◌, ap, ℕ, suc, zero, ◌+◌, ◌-◌, ◌<◌, ◌≤◌, ℤ, Bool, true, false, cond, ◌&&◌, List, [], ◌∷◌, map, replicate, Option, Some, None, arith, if◌then◌else◌}
use Rattle.std.specs.Prelude.{nat_le, nat_lt}
use Rattle.std.specs.List.{range_with_len}
use Rattle.jx_base.specs.declared.act.Act.{Act}
use Rattle.jx_base.specs.declared.act.Act.TheVariants as act
use Rattle.jx_base.specs.declared.act.Reply.TheVariants as reply
use Rattle.jx_base.specs.declared.act.Entry.{Entry}
use Rattle.jx_base.specs.declared.ids.ObjectId.{ObjectId}
use Rattle.jx_base.specs.declared.program.System.{System}
use Rattle.jx_base.specs.Basics.{numbered, not_below_zero, low_byte}
use Rattle.jx_base.specs.Histories.{Past, is_done}
use Rattle.jx_model.specs.MemoryObjects.{Part, objects_of, object_part, extents_made, is_allocation, allocation_of, allocated_bytes}
use Rattle.jx_model.specs.Bytes.{covers, offset_in, object_byte, byte_after, byte_at}
use Rattle.jx_model.specs.Tables.{extent_size, extent_bytes}
use Rattle.jx_model.specs.Legal.{IsAdmittedPast}
use Rattle.jx_base.proofs.BasicLaws.{ap2}
use Rattle.jx_base.proofs.NthEntries.{nth_new, nth_old, count_grows}
use Rattle.table_threads.proofs.Records.{map_range, not_that, is_that}
use Rattle.table_threads.specs.CallChanges.{entry}
use Rattle.table_objects.proofs.Parts.{part_extent}
use Rattle.std.specs.Option.{option_map, unwrap_or}
use Rattle.table_extents.specs.ExtentChanges.{writes, written}

-- ---- sizes

-- an extent that was made keeps its size
pub size_old : (e : Entry) (past : Past) (x : ℕ) → x ≤ extents_made past → extent_size (e ∷ past) x ≡ extent_size past x
unfolding extent_size allocation_of
size_old e past x u = ap (λ (o : Option Entry). unwrap_or (option_map (λ e. allocated_bytes e.act) o) 0) (nth_old is_allocation e past x (λ q. omega (arith, q, u)))

-- the size of the extent that an entry makes
pub size_new : (e : Entry) (past : Past) → is_allocation e ≡ true → extent_size (e ∷ past) (extents_made past + 1) ≡ allocated_bytes e.act
unfolding extent_size allocation_of
size_new e past b = ap (λ (o : Option Entry). unwrap_or (option_map (λ e. allocated_bytes e.act) o) 0) (nth_new is_allocation e past (extents_made past + 1) b refl)

-- ---- acts that write nothing

unwritten : (objects : List Part) (a : Act) (before : ℕ → ℕ → ℕ) (x i : ℕ) → writes a ≡ false → byte_after objects a before x i ≡ before x i
unfolding byte_after
unwritten objects (act.Set m at width v) before x i h = cc
unwritten objects (act.Fill m at count b) before x i h = cc
unwritten objects (act.Copy m at k k_at count) before x i h = cc
unwritten objects _ before x i h = refl

-- an entry that isn't done or writes none leaves all bytes
pub byte_same : (e : Entry) (past : Past) (x i : ℕ) → (is_done e.reply && writes e.act) ≡ false → byte_at (e ∷ past) x i ≡ byte_at past x i
unfolding byte_at
byte_same e past x i h = by (is_done e.reply) (writes e.act) refl h
  where
    by : (d w : Bool) → writes e.act ≡ w → (d && w) ≡ false → (elim d as (λ _. ℕ) [ true ↦ byte_after (objects_of past) e.act (byte_at past) x i | false ↦ byte_at past x i ]) ≡ byte_at past x i
    by false w q h = refl
    by true false q h = unwritten (objects_of past) e.act (byte_at past) x i q
    by true true q h = cc

-- and so the bytes of each extent that was made
pub bytes_same : (e : Entry) (past : Past) (x : ℕ) → x ≤ extents_made past → (is_done e.reply && writes e.act) ≡ false → extent_bytes (e ∷ past) x ≡ extent_bytes past x
unfolding extent_bytes
bytes_same e past x u h =
    ap (λ (n : ℕ). map (byte_at (e ∷ past) x) (range_with_len 0 n)) (size_old e past x u)
    ∙ map_range (byte_at (e ∷ past) x) (byte_at past x) 0 (extent_size past x) (λ i l v. byte_same e past x i h)

-- ---- a part that is written

-- bytes that are new where they are written and old elsewhere
pub written_map : (old new f : ℕ → ℕ) (from count a n : ℕ) →
    ((i : ℕ) → new i ≡ cond (nat_le from i && nat_lt i (from + count)) (f (i - from)) (old i)) →
    map new (range_with_len a n) ≡ written a from count f (map old (range_with_len a n))
written_map old new f from count a zero h = refl
written_map old new f from count a (suc n) h = rw (h a, written_map old new f from count (a + 1) n h) refl

module _ (d t : ℕ) (past : Past) where
  -- what a written part gives at a byte
  as_written : (o : Part) (at count : ℕ) (i : ℕ) (f : ℕ → ℕ) (old : ℕ) →
      (elim (offset_in (Some o) at count o.extent i) as (λ _. ℕ) [ Some k ↦ f k | None ↦ old ]) ≡ cond (nat_le (o.from + at) i && nat_lt i (o.from + at + count)) (f (i - (o.from + at))) old
  unfolding offset_in covers
  as_written o at count i f old =
      ap (λ (b : Bool). elim (if b && nat_le (o.from + at) i && nat_lt i (o.from + at + count) then Some (i - (o.from + at)) else None) as (λ _. ℕ) [ Some k ↦ f k | None ↦ old ]) (is_that o.extent o.extent refl)
      ∙ by (nat_le (o.from + at) i && nat_lt i (o.from + at + count))
    where
      by : (b : Bool) → (elim (if b then Some (i - (o.from + at)) else None) as (λ _. ℕ) [ Some k ↦ f k | None ↦ old ]) ≡ cond b (f (i - (o.from + at))) old
      by true = refl
      by false = refl

  -- what it gives on another extent
  not_written : (o : Part) (at count x : ℕ) (i : ℕ) (f : ℕ → ℕ) (old : ℕ) → x ≢ o.extent → (elim (offset_in (Some o) at count x i) as (λ _. ℕ) [ Some k ↦ f k | None ↦ old ]) ≡ old
  unfolding offset_in covers
  not_written o at count x i f old h =
      ap (λ (b : Bool). elim (if b && nat_le (o.from + at) i && nat_lt i (o.from + at + count) then Some (i - (o.from + at)) else None) as (λ _. ℕ) [ Some k ↦ f k | None ↦ old ]) (not_that o.extent x h)

  -- ---- a fill

  -- a byte after a fill of an object
  pub byte_after_fill : (m : ObjectId) (o : Part) (at count : ℤ) (b x i : ℕ) → numbered (objects_of past) m.0 ≡ Some o →
      byte_at (entry d t (act.Fill m at count b) reply.Done ∷ past) x i ≡ (elim (offset_in (Some o) (not_below_zero at) (not_below_zero count) x i) as (λ _. ℕ) [ Some k ↦ b | None ↦ byte_at past x i ])
  unfolding byte_at byte_after is_done
  byte_after_fill m o at count b x i q =
      ap (λ (p : Option Part). elim (offset_in p (not_below_zero at) (not_below_zero count) x i) as (λ _. ℕ) [ Some k ↦ b | None ↦ byte_at past x i ]) q

  -- the bytes of the object's extent after a fill
  pub bytes_after_fill : (m : ObjectId) (o : Part) (at count : ℤ) (b : ℕ) → numbered (objects_of past) m.0 ≡ Some o → o.extent ≤ extents_made past →
      extent_bytes (entry d t (act.Fill m at count b) reply.Done ∷ past) o.extent ≡ written 0 (o.from + not_below_zero at) (not_below_zero count) (λ k. b) (extent_bytes past o.extent)
  unfolding extent_bytes
  bytes_after_fill m o at count b q u =
      ap (λ (n : ℕ). map (byte_at (entry d t (act.Fill m at count b) reply.Done ∷ past) o.extent) (range_with_len 0 n)) (size_old (entry d t (act.Fill m at count b) reply.Done) past o.extent u)
      ∙ written_map (byte_at past o.extent) (byte_at (entry d t (act.Fill m at count b) reply.Done ∷ past) o.extent) (λ k. b) (o.from + not_below_zero at) (not_below_zero count) 0 (extent_size past o.extent)
      (λ i. byte_after_fill m o at count b o.extent i q ∙ as_written o (not_below_zero at) (not_below_zero count) i (λ k. b) (byte_at past o.extent i))

  -- those of other extents
  pub others_after_fill : (m : ObjectId) (o : Part) (at count : ℤ) (b x : ℕ) → numbered (objects_of past) m.0 ≡ Some o → x ≢ o.extent → x ≤ extents_made past →
      extent_bytes (entry d t (act.Fill m at count b) reply.Done ∷ past) x ≡ extent_bytes past x
  unfolding extent_bytes
  others_after_fill m o at count b x q h u =
      ap (λ (n : ℕ). map (byte_at (entry d t (act.Fill m at count b) reply.Done ∷ past) x) (range_with_len 0 n)) (size_old (entry d t (act.Fill m at count b) reply.Done) past x u)
      ∙ map_range (byte_at (entry d t (act.Fill m at count b) reply.Done ∷ past) x) (byte_at past x) 0 (extent_size past x)
      (λ i l v. byte_after_fill m o at count b x i q ∙ not_written o (not_below_zero at) (not_below_zero count) x i (λ k. b) (byte_at past x i) h)

  -- ---- a set

  -- a byte after a set in an object
  pub byte_after_set : (m : ObjectId) (o : Part) (at : ℤ) (width : ℕ) (v : ℤ) (x i : ℕ) → numbered (objects_of past) m.0 ≡ Some o →
      byte_at (entry d t (act.Set m at width v) reply.Done ∷ past) x i ≡ (elim (offset_in (Some o) (not_below_zero at) width x i) as (λ _. ℕ) [ Some k ↦ low_byte v k | None ↦ byte_at past x i ])
  unfolding byte_at byte_after is_done
  byte_after_set m o at width v x i q =
      ap (λ (p : Option Part). elim (offset_in p (not_below_zero at) width x i) as (λ _. ℕ) [ Some k ↦ low_byte v k | None ↦ byte_at past x i ]) q

  -- the bytes of the object's extent after a set
  pub bytes_after_set : (m : ObjectId) (o : Part) (at : ℤ) (width : ℕ) (v : ℤ) → numbered (objects_of past) m.0 ≡ Some o → o.extent ≤ extents_made past →
      extent_bytes (entry d t (act.Set m at width v) reply.Done ∷ past) o.extent ≡ written 0 (o.from + not_below_zero at) width (low_byte v) (extent_bytes past o.extent)
  unfolding extent_bytes
  bytes_after_set m o at width v q u =
      ap (λ (n : ℕ). map (byte_at (entry d t (act.Set m at width v) reply.Done ∷ past) o.extent) (range_with_len 0 n)) (size_old (entry d t (act.Set m at width v) reply.Done) past o.extent u)
      ∙ written_map (byte_at past o.extent) (byte_at (entry d t (act.Set m at width v) reply.Done ∷ past) o.extent) (low_byte v) (o.from + not_below_zero at) width 0 (extent_size past o.extent)
      (λ i. byte_after_set m o at width v o.extent i q ∙ as_written o (not_below_zero at) width i (low_byte v) (byte_at past o.extent i))

  -- those of other extents
  pub others_after_set : (m : ObjectId) (o : Part) (at : ℤ) (width : ℕ) (v : ℤ) (x : ℕ) → numbered (objects_of past) m.0 ≡ Some o → x ≢ o.extent → x ≤ extents_made past →
      extent_bytes (entry d t (act.Set m at width v) reply.Done ∷ past) x ≡ extent_bytes past x
  unfolding extent_bytes
  others_after_set m o at width v x q h u =
      ap (λ (n : ℕ). map (byte_at (entry d t (act.Set m at width v) reply.Done ∷ past) x) (range_with_len 0 n)) (size_old (entry d t (act.Set m at width v) reply.Done) past x u)
      ∙ map_range (byte_at (entry d t (act.Set m at width v) reply.Done ∷ past) x) (byte_at past x) 0 (extent_size past x)
      (λ i l w. byte_after_set m o at width v x i q ∙ not_written o (not_below_zero at) width x i (low_byte v) (byte_at past x i) h)

  -- ---- a copy

  -- a byte after a copy into an object
  pub byte_after_copy : (k : ObjectId) (k_at : ℤ) (m : ObjectId) (o : Part) (at count : ℤ) (x i : ℕ) (source : Part) → numbered (objects_of past) m.0 ≡ Some o → numbered (objects_of past) k.0 ≡ Some source →
      byte_at (entry d t (act.Copy k k_at m at count) reply.Done ∷ past) x i
      ≡ (elim (offset_in (Some o) (not_below_zero at) (not_below_zero count) x i) as (λ _. ℕ) [ Some j ↦ byte_at past source.extent (source.from + (not_below_zero k_at + j)) | None ↦ byte_at past x i ])
  unfolding byte_at byte_after is_done object_byte
  byte_after_copy k k_at m o at count x i source q r =
      ap2 (λ (p s : Option Part). elim (offset_in p (not_below_zero at) (not_below_zero count) x i) as (λ _. ℕ) [ Some j ↦ object_byte s (byte_at past) (not_below_zero k_at + j) | None ↦ byte_at past x i ]) q r

  -- the bytes of the target's extent after a copy: each from the bytes before it, so parts may overlap
  pub bytes_after_copy : (k : ObjectId) (k_at : ℤ) (m : ObjectId) (o : Part) (at count : ℤ) (source : Part) → numbered (objects_of past) m.0 ≡ Some o → numbered (objects_of past) k.0 ≡ Some source → o.extent ≤ extents_made past →
      extent_bytes (entry d t (act.Copy k k_at m at count) reply.Done ∷ past) o.extent
      ≡ written 0 (o.from + not_below_zero at) (not_below_zero count) (λ j. byte_at past source.extent (source.from + (not_below_zero k_at + j))) (extent_bytes past o.extent)
  unfolding extent_bytes
  bytes_after_copy k k_at m o at count source q r u =
      ap (λ (n : ℕ). map (byte_at (entry d t (act.Copy k k_at m at count) reply.Done ∷ past) o.extent) (range_with_len 0 n)) (size_old (entry d t (act.Copy k k_at m at count) reply.Done) past o.extent u)
      ∙ written_map (byte_at past o.extent) (byte_at (entry d t (act.Copy k k_at m at count) reply.Done ∷ past) o.extent) (λ j. byte_at past source.extent (source.from + (not_below_zero k_at + j))) (o.from + not_below_zero at) (not_below_zero count) 0 (extent_size past o.extent)
      (λ i. byte_after_copy k k_at m o at count o.extent i source q r ∙ as_written o (not_below_zero at) (not_below_zero count) i (λ j. byte_at past source.extent (source.from + (not_below_zero k_at + j))) (byte_at past o.extent i))

  -- those of other extents
  pub others_after_copy : (k : ObjectId) (k_at : ℤ) (m : ObjectId) (o : Part) (at count : ℤ) (x : ℕ) (source : Part) → numbered (objects_of past) m.0 ≡ Some o → numbered (objects_of past) k.0 ≡ Some source → x ≢ o.extent → x ≤ extents_made past →
      extent_bytes (entry d t (act.Copy k k_at m at count) reply.Done ∷ past) x ≡ extent_bytes past x
  unfolding extent_bytes
  others_after_copy k k_at m o at count x source q r h u =
      ap (λ (n : ℕ). map (byte_at (entry d t (act.Copy k k_at m at count) reply.Done ∷ past) x) (range_with_len 0 n)) (size_old (entry d t (act.Copy k k_at m at count) reply.Done) past x u)
      ∙ map_range (byte_at (entry d t (act.Copy k k_at m at count) reply.Done ∷ past) x) (byte_at past x) 0 (extent_size past x)
      (λ i l w. byte_after_copy k k_at m o at count x i source q r ∙ not_written o (not_below_zero at) (not_below_zero count) x i (λ j. byte_at past source.extent (source.from + (not_below_zero k_at + j))) (byte_at past x i) h)

-- ---- what isn't made

offset_none : (o : Option Part) (at count x i : ℕ) → ((p : Part) → o ≡ Some p → p.extent ≢ x) → offset_in o at count x i ≡ None
unfolding offset_in covers
offset_none None at count x i h = refl
offset_none (Some p) at count x i h =
    ap (λ (b : Bool). if b && nat_le (p.from + at) i && nat_lt i (p.from + at + count) then Some (i - (p.from + at)) else None) (not_that p.extent x (λ q. h p refl (sym q)))

-- the bytes of an extent that isn't made are 0
pub byte_unmade : (s : System) (past : Past) (x i : ℕ) → IsAdmittedPast s past → extents_made past < x → byte_at past x i ≡ 0
unfolding byte_at byte_after object_part
byte_unmade s [] x i a h = refl
byte_unmade s (e ∷ past) x i a h = by (is_done e.reply) e.act (byte_unmade s past x i a.1 before)
  where
    before : extents_made past < x
    before = omega (arith, h, count_grows is_allocation e past)

    apart : (m : ℕ) (p : Part) → numbered (objects_of past) m ≡ Some p → p.extent ≢ x
    apart m p q z = absurd (omega (arith, (part_extent s past m p a.1 q).1, z, before))

    by : (b : Bool) (c : Act) → byte_at past x i ≡ 0 → (elim b as (λ _. ℕ) [ true ↦ byte_after (objects_of past) c (byte_at past) x i | false ↦ byte_at past x i ]) ≡ 0
    by false c again = again
    by true (act.Set m at width v) again =
        ap (λ (o : Option ℕ). elim o as (λ _. ℕ) [ Some k ↦ low_byte v k | None ↦ byte_at past x i ]) (offset_none (numbered (objects_of past) m.0) (not_below_zero at) width x i (apart m.0)) ∙ again
    by true (act.Fill m at count b) again =
        ap (λ (o : Option ℕ). elim o as (λ _. ℕ) [ Some k ↦ b | None ↦ byte_at past x i ]) (offset_none (numbered (objects_of past) m.0) (not_below_zero at) (not_below_zero count) x i (apart m.0)) ∙ again
    by true (act.Copy m at k k_at count) again =
        ap (λ (o : Option ℕ). elim o as (λ _. ℕ) [ Some j ↦ object_byte (numbered (objects_of past) m.0) (byte_at past) (not_below_zero at + j) | None ↦ byte_at past x i ])
        (offset_none (numbered (objects_of past) k.0) (not_below_zero k_at) (not_below_zero count) x i (apart k.0)) ∙ again
    by true _ again = again

-- the extent that an entry makes has zeros
pub bytes_new : (s : System) (e : Entry) (past : Past) → IsAdmittedPast s past → is_allocation e ≡ true → writes e.act ≡ false → extent_bytes (e ∷ past) (extents_made past + 1) ≡ replicate (allocated_bytes e.act) 0
unfolding extent_bytes
bytes_new s e past a b w =
    ap (λ (n : ℕ). map (byte_at (e ∷ past) (extents_made past + 1)) (range_with_len 0 n)) (size_new e past b) ∙ zeros 0 (allocated_bytes e.act)
  where
    none : (x y : Bool) → y ≡ false → (x && y) ≡ false
    none true y q = q
    none false y q = refl

    zeros : (j n : ℕ) → map (byte_at (e ∷ past) (extents_made past + 1)) (range_with_len j n) ≡ replicate n 0
    zeros j zero = refl
    zeros j (suc n) =
        ap2 (λ (x : ℕ) (xs : List ℕ). x ∷ xs) (byte_same e past (extents_made past + 1) j (none (is_done e.reply) (writes e.act) w) ∙ byte_unmade s past (extents_made past + 1) j a (omega arith)) (zeros (j + 1) n)
