-- An object lies within its extent, and the bytes of its record are its bytes.
use Rattle.std.proofs.Common.{◌≡◌, refl, sym, ◌∙◌, ap, subst, ℕ, suc, zero, ◌+◌, ◌-◌, ◌<◌, ◌≤◌, ℤ, pos, negsuc, Bool, true, false, not, ◌&&◌, List, [], ◌∷◌, Option, Some, None, arith, ◌⊎◌, inl, inr, slice_get}
use Rattle.std.specs.Prelude.{nat_le}
use Rattle.std.proofs.lemmas.Bool.Decides.{nat_tests}
use Rattle.jx_base.specs.declared.act.Act.{Act}
use Rattle.jx_base.specs.declared.act.Act.TheVariants as act
use Rattle.jx_base.specs.declared.act.Reply.{Reply}
use Rattle.jx_base.specs.declared.act.Reply.TheVariants as reply
use Rattle.jx_base.specs.declared.act.Entry.{Entry}
use Rattle.jx_base.specs.declared.ids.ObjectId.{ObjectId}
use Rattle.jx_base.specs.declared.program.System.{System}
use Rattle.jx_base.specs.Basics.{numbered, not_below_zero}
use Rattle.jx_base.specs.Histories.{Past, is_done}
use Rattle.jx_model.specs.MemoryObjects.{Part, part_within, sides_at, made_of, new_parts, objects_of, objects_made, object_part, extents_made, is_allocation, makes_extent, allocated_bytes}
use Rattle.jx_model.specs.Bytes.{byte_at}
use Rattle.jx_model.specs.Replies.{reply_to, derived, divided, is_within, is_positive_up_to}
use Rattle.jx_model.specs.Tables.{extent_size, extent_bytes}
use Rattle.jx_model.specs.Legal.{IsNext, IsAdmittedPast}
use Rattle.jx_base.proofs.BasicLaws.{ap2, both, turned}
use Rattle.table_threads.proofs.Records.{get_range}
use Rattle.jx_model.proofs.DoneReplies.{undone}
use Rattle.table_objects.proofs.Parts.{part_old, part_new, part_made, part_extent}
use Rattle.table_extents.proofs.FreeingEntries.{with_part}
use Rattle.table_extents.proofs.ByteRecords.{size_old, size_new}

-- a part within a size
abbrev pub EndsWithin : Part → ℕ → Type 0
EndsWithin o n = o.from + o.size ≤ n

-- a part that lies within another on the same extent
pub record LiesIn (o q : Part) : Type 0 where
  pub extent : o.extent ≡ q.extent
  pub ends : o.from + o.size ≤ q.from + q.size

-- where a new part lies: on a whole new extent, or within a part that there was
pub data PartPlace (past : Past) (e : Entry) (o : Part) : Type 0 where
  Whole : is_allocation e ≡ true → o.extent ≡ extents_made past + 1 → o.from + o.size ≡ allocated_bytes e.act → PartPlace past e o
  Inside : (k : ℕ) (q : Part) → object_part past k ≡ Some q → LiesIn o q → PartPlace past e o

within_size : (at count : ℤ) (n : ℕ) → is_within at count n ≡ true → not_below_zero at + not_below_zero count ≤ n
unfolding is_within not_below_zero
within_size (pos a) (pos c) n h = at_most (a + c) n h
  where
    at_most : (x y : ℕ) → nat_le x y ≡ true → x ≤ y
    at_most x y q = grind (arith, nat_tests)
within_size (pos a) (negsuc c) n h = cc
within_size (negsuc a) (pos c) n h = cc
within_size (negsuc a) (negsuc c) n h = cc

split_size : (at : ℤ) (n : ℕ) → is_positive_up_to (n - 1) at ≡ true → not_below_zero at ≤ n
unfolding is_positive_up_to not_below_zero
split_size (pos a) n h = by a n h
  where
    by : (a n : ℕ) → (nat_le 1 a && nat_le a (n - 1)) ≡ true → a ≤ n
    by a n h = grind (arith, nat_tests)
split_size (negsuc a) n h = cc

one_item : {A : Type 0} (x o : A) (i : ℕ) → slice_get (x ∷ []) i ≡ Some o → x ≡ o
one_item x o zero h = cc
one_item x o (suc i) h = cc

two_items : {A : Type 0} (x y o : A) (i : ℕ) → slice_get (x ∷ y ∷ []) i ≡ Some o → (x ≡ o) ⊎ (y ≡ o)
two_items x y o zero h = inl cc
two_items x y o (suc i) h = inr (one_item y o i h)

-- each new part has a place
pub part_place : (s : System) (e : Entry) (past : Past) (o : Part) (i : ℕ) → IsNext s past e → slice_get (new_parts (objects_of past) (extents_made past + 1) e.act e.reply) i ≡ Some o → PartPlace past e o
unfolding new_parts reply_to is_allocation makes_extent object_part is_done made_of part_within sides_at numbered allocated_bytes derived divided
part_place s e past o i n h = by e.act e.reply refl refl n.reply h
  where
    allocated : (a : Act) (r : Reply) → e.act ≡ a → e.reply ≡ r → makes_extent a r ≡ true → is_allocation e ≡ true
    allocated a r p q h = ap2 makes_extent p q ∙ h

    inside : (k : ObjectId) (f : Part → List Part) → ((q : Part) (x : Part) (j : ℕ) → numbered (objects_of past) k.0 ≡ Some q → slice_get (f q) j ≡ Some x → LiesIn x q) →
        slice_get (made_of (numbered (objects_of past) k.0) f) i ≡ Some o → PartPlace past e o
    inside k f same h = there (numbered (objects_of past) k.0) refl h
      where
        there : (p : Option Part) → numbered (objects_of past) k.0 ≡ p → slice_get (made_of p f) i ≡ Some o → PartPlace past e o
        there None z h = cc
        there (Some q) z h = Inside k.0 q z (same q o i z h)

    lies : (x y q : Part) → x ≡ y → LiesIn x q → LiesIn y q
    lies x y q z l = subst (λ (u : Part). LiesIn u q) z l

    by : (a : Act) (r : Reply) → e.act ≡ a → e.reply ≡ r → r ≡ reply_to s past e.domain.0 a → slice_get (new_parts (objects_of past) (extents_made past + 1) a r) i ≡ Some o → PartPlace past e o
    by (act.Alloc z) (reply.Made m g) p q w h =
        let x = one_item _ o i h in
        Whole (allocated (act.Alloc z) (reply.Made m g) p q refl) (sym (ap (λ (y : Part). y.extent) x)) (sym (ap (λ (y : Part). y.from + y.size) x) ∙ size z ∙ ap allocated_bytes (sym p))
      where
        size : (z : ℤ) → 0 + not_below_zero z ≡ not_below_zero z
        size z = omega arith
    by (act.Sub k at count) (reply.Object new) p q w h =
        inside k (λ q. part_within k.0 q (not_below_zero at) (not_below_zero count) ∷ []) (λ q x j z y. lies _ x q (one_item _ x j y) (record { extent = refl; ends = bound q z })) h
      where
        bound : (q : Part) → numbered (objects_of past) k.0 ≡ Some q → q.from + not_below_zero at + not_below_zero count ≤ q.from + q.size
        bound q z =
            let u = w ∙ with_part past e.domain.0 k (derived s past at count) q z (ap is_done (sym w)) in
            let v = undone (not (is_within at count q.size && is_positive_up_to q.size count)) _ _ (ap is_done (sym u)) in
            let y = both (is_within at count q.size) (is_positive_up_to q.size count) (turned (is_within at count q.size && is_positive_up_to q.size count) v.0) in
            omega (arith, within_size at count q.size y.0)
    by (act.Split k at) (reply.Pair a b) p q w h = inside k (sides_at (not_below_zero at)) (λ q x j z y. sides q x z (two_items _ _ x j y)) h
      where
        bound : (q : Part) → numbered (objects_of past) k.0 ≡ Some q → not_below_zero at ≤ q.size
        bound q z =
            let u = w ∙ with_part past e.domain.0 k (divided s past at) q z (ap is_done (sym w)) in
            let v = undone (not (is_positive_up_to (q.size - 1) at)) _ _ (ap is_done (sym u)) in
            split_size at q.size (turned (is_positive_up_to (q.size - 1) at) v.0)

        sides : (q x : Part) → numbered (objects_of past) k.0 ≡ Some q → (part_within q.parent q 0 (not_below_zero at) ≡ x) ⊎ (part_within q.parent q (not_below_zero at) (q.size - not_below_zero at) ≡ x) → LiesIn x q
        sides q x z (inl y) = lies _ x q y (record { extent = refl; ends = omega (arith, bound q z) })
        sides q x z (inr y) = lies _ x q y (record { extent = refl; ends = omega (arith, bound q z) })
    by (act.Revoke k) (reply.Object new) p q w h = inside k (λ q. q ∷ []) (λ q x j z y. lies _ x q (one_item _ x j y) (record { extent = refl; ends = omega arith })) h
    by _ _ p q w h = none i h
      where
        none : (j : ℕ) → slice_get (let xs : List Part = [] in xs) j ≡ Some o → PartPlace past e o
        none j h = cc

-- an object lies within its extent
pub object_within : (s : System) (past : Past) (m : ℕ) (o : Part) → IsAdmittedPast s past → object_part past m ≡ Some o → EndsWithin o (extent_size past o.extent)
unfolding objects_made objects_of
object_within s [] m o a h = absurd (omega (arith, part_made [] m o h, none))
  where
    none : objects_made [] ≡ 0
    none = refl
object_within s (e ∷ past) m o a h = by (nat_le m (objects_made past)) refl (λ k q. object_within s past k q a.1)
  where
    at_most : (x y : ℕ) → nat_le x y ≡ true → x ≤ y
    at_most x y q = grind (arith, nat_tests)

    beyond : (x y : ℕ) → nat_le x y ≡ false → y < x
    beyond x y q = grind (arith, nat_tests)

    Again : Type 0
    Again = (k : ℕ) (q : Part) → object_part past k ≡ Some q → EndsWithin q (extent_size past q.extent)

    kept : (k : ℕ) (q : Part) → object_part past k ≡ Some q → EndsWithin q (extent_size past q.extent) → EndsWithin q (extent_size (e ∷ past) q.extent)
    kept k q i l = subst (λ (n : ℕ). q.from + q.size ≤ n) (sym (size_old e past q.extent (part_extent s past k q a.1 i).1)) l

    new : Again → PartPlace past e o → EndsWithin o (extent_size (e ∷ past) o.extent)
    new again (Whole x q z) = omega (arith, z, ap (extent_size (e ∷ past)) q, size_new e past x)
    new again (Inside k q i l) = omega (arith, l.ends, kept k q i (again k q i), ap (extent_size (e ∷ past)) l.extent)

    by : (b : Bool) → nat_le m (objects_made past) ≡ b → Again → EndsWithin o (extent_size (e ∷ past) o.extent)
    by true q again =
        let i = sym (part_old e past m (at_most m (objects_made past) q)) ∙ h in kept m o i (again m o i)
    by false q again =
        let l = beyond m (objects_made past) q in
        new again (part_place s e past o (m - (objects_made past + 1)) a.0 (sym (part_new e past m (m - (objects_made past + 1)) (omega (arith, l))) ∙ h))

-- a byte of an object is one of its extent's record
pub object_byte_there : (s : System) (past : Past) (m : ℕ) (o : Part) (i : ℕ) → IsAdmittedPast s past → object_part past m ≡ Some o → i < o.size → slice_get (extent_bytes past o.extent) (o.from + i) ≡ Some (byte_at past o.extent (o.from + i))
unfolding extent_bytes
object_byte_there s past m o i a h l =
    get_range (byte_at past o.extent) 0 (extent_size past o.extent) (o.from + i) (omega (arith, l, object_within s past m o a h)) ∙ ap (λ (j : ℕ). Some (byte_at past o.extent j)) (omega arith)
