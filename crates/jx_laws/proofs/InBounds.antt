-- Memory stays within its bounds.
use Rattle.std.proofs.Common.{◌≡◌, refl, sym, ◌∙◌, ap, ℕ, ◌<◌, ◌≤◌, ◌+◌, ◌-◌, Bool, true, false, ◌&&◌, List, [], ◌∷◌, Option, Some, None, arith, ◌==◌, if◌then◌else◌, ◌⊎◌, inl, inr}
use Rattle.std.specs.Prelude.{nat_le, nat_lt}
use Rattle.std.proofs.lemmas.Bool.Decides.{nat_tests}
use Rattle.jx_base.specs.declared.act.Act.{Act}
use Rattle.jx_base.specs.declared.act.Act.TheVariants as act
use Rattle.jx_base.specs.declared.act.Entry.{Entry}
use Rattle.jx_base.specs.declared.program.System.{System}
use Rattle.jx_base.specs.Basics.{numbered, not_below_zero, low_byte}
use Rattle.jx_base.specs.Histories.{Past, is_done, nth_entry}
use Rattle.jx_model.specs.MemoryObjects.{Part, is_allocation, makes_extent, allocation_of, allocated_bytes, objects_of, objects_made, object_part, extents_made}
use Rattle.jx_model.specs.Bytes.{covers, offset_in, object_byte, byte_after, byte_at}
use Rattle.jx_model.specs.Tables.{extent_size}
use Rattle.jx_model.specs.Legal.{IsAdmittedPast}
use Rattle.jx_base.proofs.NthEntries.{nth_new, nth_there, nth_stays, count_new, count_grows}
use Rattle.jx_model.proofs.Growing.{moment}
use Rattle.jx_laws.specs.Bounds.{LiesWithin, MemoryIsInBounds}
use Rattle.jx_laws.proofs.Basics.{value_of}
use Rattle.jx_laws.proofs.Parts.{NewPart, OfExtent, OfParent, OfEnded, IsWholeExtent, IsInside}
use Rattle.jx_laws.proofs.Lineage.{part_before, no_part}
use Rattle.jx_laws.proofs.Runs.{runs_within}
use Rattle.jx_laws.proofs.Allocated.{used_once_made}
use Rattle.std.specs.Option.{option_map, unwrap_or}

-- ---- extents keep their sizes

-- the size of an extent by the entry that made it
size_is : (past : Past) (x : ℕ) → extent_size past x ≡ unwrap_or (option_map (λ e. allocated_bytes e.act) (nth_entry is_allocation past x)) 0
unfolding extent_size allocation_of
size_is past x = refl

-- an extent keeps its size
pub size_stays : (e : Entry) (past : Past) (x : ℕ) → 1 ≤ x → x ≤ extents_made past → extent_size (e ∷ past) x ≡ extent_size past x
size_stays e past x l u =
    let y = value_of (nth_entry is_allocation past x) (nth_there is_allocation past x l u) in
    size_is (e ∷ past) x ∙ ap (λ (o : Option Entry). unwrap_or (option_map (λ z. allocated_bytes z.act) o) 0) (nth_stays is_allocation e past x y.0 y.1 ∙ sym y.1) ∙ sym (size_is past x)

-- the size of a new extent is what its alloc asked for
size_new : (e : Entry) (past : Past) (x : ℕ) → is_allocation e ≡ true → x ≡ extents_made past + 1 → extent_size (e ∷ past) x ≡ allocated_bytes e.act
size_new e past x h q = size_is (e ∷ past) x ∙ ap (λ (o : Option Entry). unwrap_or (option_map (λ z. allocated_bytes z.act) o) 0) (nth_new is_allocation e past x h q)

-- a part that lies within its extent still does as the past grows
within_stays : (e : Entry) (past : Past) (o : Part) → LiesWithin past o → LiesWithin (e ∷ past) o
within_stays e past o h =
    record {
      low = h.low;
      high = omega (arith, h.high, count_grows is_allocation e past);
      some = h.some;
      within = omega (arith, h.within, size_stays e past o.extent h.low h.high);
    }

-- a part of a part that lies within its extent does so too
within_inside : (past : Past) (old o : Part) → LiesWithin past old → IsInside old o → LiesWithin past o
within_inside past old o h i =
    record {
      low = omega (arith, h.low, i.extent);
      high = omega (arith, h.high, i.extent);
      some = i.some h.some;
      within = omega (arith, h.within, i.low, i.high, ap (extent_size past) i.extent);
    }

-- an entry that makes an extent is an allocation
allocates : (e : Entry) → makes_extent e.act e.reply ≡ true → is_allocation e ≡ true
unfolding is_allocation
allocates e h = h

-- the whole of a new extent lies within it
within_new : (e : Entry) (past : Past) (o : Part) → is_allocation e ≡ true → IsWholeExtent past e.act e.reply o → LiesWithin (e ∷ past) o
within_new e past o h w =
    record {
      low = omega (arith, w.extent);
      high = omega (arith, w.extent, count_new is_allocation e past h);
      some = w.some;
      within = omega (arith, w.from, w.size, size_new e past o.extent h w.extent);
    }

-- ---- objects lie within their extents

-- each object lies within its extent
pub objects_within : (s : System) (past : Past) → IsAdmittedPast s past → (m : ℕ) (o : Part) → object_part past m ≡ Some o → LiesWithin past o
objects_within s [] a m o h = no_part m o h
objects_within s (e ∷ past) a m o h = by (part_before s past e m o a.0 h) (objects_within s past a.1)
  where
    by : (object_part past m ≡ Some o) ⊎ ((objects_made past < m) × NewPart past e.domain.0 e.act e.reply o) → ((m : ℕ) (o : Part) → object_part past m ≡ Some o → LiesWithin past o) → LiesWithin (e ∷ past) o
    by (inl q) again = within_stays e past o (again m o q)
    by (inr (l, OfExtent w)) again = within_new e past o (allocates e w.made) w
    by (inr (l, OfParent k old u i p n)) again = within_stays e past o (within_inside past old o (again k old u.part) i)
    by (inr (l, OfEnded k old u i p n)) again = within_stays e past o (within_inside past old o (again k old u.part) i)

-- ---- an extent that isn't made is blank

-- a part of another extent covers no byte of this one
not_over : (o : Part) (at count x i : ℕ) → o.extent < x → covers o at count x i ≡ false
unfolding covers
not_over o at count x i l = first (o.extent == x) (nat_le (o.from + at) i) (nat_lt i (o.from + at + count)) (apart o.extent x l)
  where
    apart : (y x : ℕ) → y < x → (y == x) ≡ false
    apart y x l = grind (arith, nat_tests)

    first : (b c d : Bool) → b ≡ false → (b && c && d) ≡ false
    first false c d h = refl
    first true c d h = cc

-- a part of a lower extent has no place of this one
off : (q : Option Part) (at count x i : ℕ) → ((o : Part) → q ≡ Some o → o.extent < x) → offset_in q at count x i ≡ None
unfolding offset_in
off None at count x i f = refl
off (Some o) at count x i f = ap (λ (b : Bool). if b then Some (i - (o.from + at)) else None) (not_over o at count x i (f o refl))

-- no object has a place of an extent above all of theirs
no_offset : (objects : List Part) (m at count x i : ℕ) → ((m : ℕ) (o : Part) → numbered objects m ≡ Some o → o.extent < x) → offset_in (numbered objects m) at count x i ≡ None
unfolding offset_in
no_offset objects m at count x i f = by (numbered objects m) refl
  where
    by : (q : Option Part) → numbered objects m ≡ q → offset_in q at count x i ≡ None
    by q e = off q at count x i (λ o p. f m o (e ∙ p))

-- an act leaves the bytes of an extent above those of all objects
untouched : (objects : List Part) (a : Act) (before : ℕ → ℕ → ℕ) (x i : ℕ) → ((m : ℕ) (o : Part) → numbered objects m ≡ Some o → o.extent < x) → byte_after objects a before x i ≡ before x i
unfolding byte_after
untouched objects (act.Set m at width v) before x i f =
    ap (λ (o : Option ℕ). elim o as (λ _. ℕ) [ Some k ↦ low_byte v k | None ↦ before x i ]) (no_offset objects m.0 (not_below_zero at) width x i f)
untouched objects (act.Fill m at count b) before x i f =
    ap (λ (o : Option ℕ). elim o as (λ _. ℕ) [ Some k ↦ b | None ↦ before x i ]) (no_offset objects m.0 (not_below_zero at) (not_below_zero count) x i f)
untouched objects (act.Copy m at target target_at count) before x i f =
    ap (λ (o : Option ℕ). elim o as (λ _. ℕ) [ Some k ↦ object_byte (numbered objects m.0) before (not_below_zero at + k) | None ↦ before x i ])
    (no_offset objects target.0 (not_below_zero target_at) (not_below_zero count) x i f)
untouched objects _ before x i f = refl

-- an extent that isn't made is above those of all objects
objects_below : (s : System) (past : Past) (x : ℕ) → IsAdmittedPast s past → extents_made past < x → (m : ℕ) (o : Part) → numbered (objects_of past) m ≡ Some o → o.extent < x
unfolding object_part
objects_below s past x a l m o h = omega (arith, l, (objects_within s past a m o h).high)

-- an extent that isn't made has no byte but 0
pub blank : (s : System) (past : Past) (x i : ℕ) → IsAdmittedPast s past → extents_made past < x → byte_at past x i ≡ 0
unfolding byte_at
blank s [] x i a l = refl
blank s (e ∷ past) x i a l = by (is_done e.reply) (blank s past x i a.1 before)
  where
    before : extents_made past < x
    before = omega (arith, l, count_grows is_allocation e past)

    by : (b : Bool) → byte_at past x i ≡ 0 → (elim b as (λ _. ℕ) [ true ↦ byte_after (objects_of past) e.act (byte_at past) x i | false ↦ byte_at past x i ]) ≡ 0
    by true again = untouched (objects_of past) e.act (byte_at past) x i (objects_below s past x a.1 before) ∙ again
    by false again = again

-- ---- the law

-- granules in use lie in the machine's memory, objects in their extents; an extent is in use once it is made, and blank before
pub in_bounds : (s : System) (whole : Past) → IsAdmittedPast s whole → MemoryIsInBounds s whole
in_bounds s whole h =
    record {
      runs = runs_within s whole h;
      objects = objects_within s whole h;
      used = λ e past m q. used_once_made s past e (moment s whole e past h m) q;
      blank = λ x i l. blank s whole x i h l;
    }
