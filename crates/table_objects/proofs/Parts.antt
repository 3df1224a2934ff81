-- The parts that memory objects are, and which objects are valid, after an entry more.
use Rattle.std.proofs.Common.{◌≡◌, refl, sym, ◌∙◌, ap, subst, ℕ, suc, zero, ◌+◌, ◌-◌, ◌<◌, ◌≤◌, Bool, true, false, not, ◌&&◌, List, [], ◌∷◌, length, Option, Some, None, arith, if◌then◌else◌, ◌⊎◌, inl, inr, slice_get}
use Rattle.std.specs.Prelude.{nat_le}
use Rattle.std.proofs.lemmas.Bool.Decides.{nat_tests}
use Rattle.jx_base.specs.declared.act.Act.{Act}
use Rattle.jx_base.specs.declared.act.Act.TheVariants as act
use Rattle.jx_base.specs.declared.act.Reply.{Reply}
use Rattle.jx_base.specs.declared.act.Reply.TheVariants as reply
use Rattle.jx_base.specs.declared.act.Entry.{Entry}
use Rattle.jx_base.specs.declared.ids.ObjectId.{ObjectId}
use Rattle.jx_base.specs.declared.program.System.{System}
use Rattle.jx_base.specs.Basics.{numbered, contains_number, not_below_zero, passes}
use Rattle.jx_base.specs.Histories.{Past, is_done}
use Rattle.jx_model.specs.MemoryObjects.{Part, part_within, sides_at, made_of, new_parts, objects_of, objects_made, object_part, extents_made, is_allocation, makes_extent, is_valid, ends_one_of, ended_object, lineage_of}
use Rattle.jx_model.specs.Holding.{holds_object}
use Rattle.jx_model.specs.Replies.{reply_to, with_object}
use Rattle.jx_model.specs.Legal.{IsNext, IsAdmittedPast}
use Rattle.jx_base.proofs.BasicLaws.{ap2, and_true, get_left, get_right, turned}
use Rattle.jx_base.proofs.NthEntries.{count_new, count_grows}
use Rattle.jx_model.proofs.DoneReplies.{undone}

-- ---- parts

-- an object that was made keeps its part
pub part_old : (e : Entry) (past : Past) (m : ℕ) → m ≤ objects_made past → object_part (e ∷ past) m ≡ object_part past m
unfolding object_part objects_of objects_made numbered
part_old e past zero l = refl
part_old e past (suc m) l = get_left (objects_of past) (new_parts (objects_of past) (extents_made past + 1) e.act e.reply) m (omega (arith, l))

-- an object that an entry makes is the next of its new parts
pub part_new : (e : Entry) (past : Past) (m i : ℕ) → m ≡ objects_made past + 1 + i → object_part (e ∷ past) m ≡ slice_get (new_parts (objects_of past) (extents_made past + 1) e.act e.reply) i
unfolding object_part objects_of objects_made numbered
part_new e past zero i q = absurd (omega (arith, q))
part_new e past (suc m) i q = get_right (objects_of past) (new_parts (objects_of past) (extents_made past + 1) e.act e.reply) i m (omega (arith, q))

-- an object with a part was made
pub part_made : (past : Past) (m : ℕ) (o : Part) → object_part past m ≡ Some o → (1 ≤ m) × (m ≤ objects_made past)
unfolding object_part objects_made numbered
part_made past zero o h = cc
part_made past (suc m) o h = (omega arith, inside (objects_of past) m h)
  where
    inside : (xs : List Part) (i : ℕ) → slice_get xs i ≡ Some o → suc i ≤ length xs
    inside [] i h = cc
    inside (x ∷ xs) zero h = omega arith
    inside (x ∷ xs) (suc i) h = omega (arith, inside xs i h)

-- an object that was made has a part
pub part_there : (past : Past) (m : ℕ) → 1 ≤ m → m ≤ objects_made past → (o : Part) × (object_part past m ≡ Some o)
unfolding object_part objects_made numbered
part_there past zero l u = absurd (omega (arith, l))
part_there past (suc m) l u = there (objects_of past) m (omega (arith, u))
  where
    there : (xs : List Part) (i : ℕ) → i < length xs → (o : Part) × (slice_get xs i ≡ Some o)
    there [] i u = absurd (omega (arith, u))
    there (x ∷ xs) zero u = (x, refl)
    there (x ∷ xs) (suc i) u = there xs i (omega (arith, u))

-- a part that is derived from object k of part q, or stands beside it
pub record IsSameExtent (k : ℕ) (q o : Part) : Type 0 where
  pub extent : o.extent ≡ q.extent
  pub parent : (o.parent ≡ k) ⊎ (o.parent ≡ q.parent)

-- where a new part comes from: a new extent, or a valid object that the actor holds
pub data PartSource (past : Past) (e : Entry) (o : Part) : Type 0 where
  NewExtent : is_allocation e ≡ true → o.extent ≡ extents_made past + 1 → o.parent ≡ 0 → PartSource past e o
  OfObject : (k : ObjectId) (q : Part) → object_part past k.0 ≡ Some q → IsSameExtent k.0 q o → holds_object past e.domain.0 k.0 ≡ true → is_valid past k.0 ≡ true → PartSource past e o

-- an act on an object that is done is of a valid object that its actor holds
pub with_done : (past : Past) (d : ℕ) (k : ObjectId) (f : Part → Reply) → is_done (with_object past d k f) ≡ true → (holds_object past d k.0 ≡ true) × (is_valid past k.0 ≡ true)
unfolding with_object
with_done past d k f h = let x = undone (not (holds_object past d k.0)) _ _ h in let y = undone (not (is_valid past k.0)) _ _ x.1 in (turned (holds_object past d k.0) x.0, turned (is_valid past k.0) y.0)

one_item : {A : Type 0} (x o : A) (i : ℕ) → slice_get (x ∷ []) i ≡ Some o → x ≡ o
one_item x o zero h = cc
one_item x o (suc i) h = cc

two_items : {A : Type 0} (x y o : A) (i : ℕ) → slice_get (x ∷ y ∷ []) i ≡ Some o → (x ≡ o) ⊎ (y ≡ o)
two_items x y o zero h = inl cc
two_items x y o (suc i) h = inr (one_item y o i h)

-- each new part has a source
pub part_source : (s : System) (e : Entry) (past : Past) (o : Part) (i : ℕ) → IsNext s past e → slice_get (new_parts (objects_of past) (extents_made past + 1) e.act e.reply) i ≡ Some o → PartSource past e o
unfolding new_parts reply_to is_allocation makes_extent object_part is_done made_of part_within sides_at numbered
part_source s e past o i n h = by e.act e.reply refl refl n.reply h
  where
    allocated : (a : Act) (r : Reply) → e.act ≡ a → e.reply ≡ r → makes_extent a r ≡ true → is_allocation e ≡ true
    allocated a r p q h = ap2 makes_extent p q ∙ h

    from : (k : ObjectId) (f : Part → List Part) (g : Part → Reply) (r : Reply) → r ≡ with_object past e.domain.0 k g → is_done r ≡ true →
        ((q : Part) (x : Part) (j : ℕ) → slice_get (f q) j ≡ Some x → IsSameExtent k.0 q x) → slice_get (made_of (numbered (objects_of past) k.0) f) i ≡ Some o → PartSource past e o
    from k f g r w d same h = there (numbered (objects_of past) k.0) refl h
      where
        there : (p : Option Part) → numbered (objects_of past) k.0 ≡ p → slice_get (made_of p f) i ≡ Some o → PartSource past e o
        there None z h = cc
        there (Some q) z h = let x = with_done past e.domain.0 k g (ap is_done (sym w) ∙ d) in OfObject k q z (same q o i h) x.0 x.1

    by : (a : Act) (r : Reply) → e.act ≡ a → e.reply ≡ r → r ≡ reply_to s past e.domain.0 a → slice_get (new_parts (objects_of past) (extents_made past + 1) a r) i ≡ Some o → PartSource past e o
    by (act.Alloc n) (reply.Made m g) p q w h = NewExtent (allocated (act.Alloc n) (reply.Made m g) p q refl) (sym (ap (λ (x : Part). x.extent) (one_item _ o i h))) (sym (ap (λ (x : Part). x.parent) (one_item _ o i h)))
    by (act.Sub k at count) (reply.Object new) p q w h =
        from k (λ q. part_within k.0 q (not_below_zero at) (not_below_zero count) ∷ []) _ (reply.Object new) w refl (λ q x j z. record { extent = sym (ap (λ (y : Part). y.extent) (one_item _ x j z)); parent = inl (sym (ap (λ (y : Part). y.parent) (one_item _ x j z))) }) h
    by (act.Split k at) (reply.Pair x y) p q w h = from k (sides_at (not_below_zero at)) _ (reply.Pair x y) w refl (λ q x j z. sides q x j z) h
      where
        sides : (q x : Part) (j : ℕ) → slice_get (sides_at (not_below_zero at) q) j ≡ Some x → IsSameExtent k.0 q x
        sides q x j z = elim (two_items _ _ x j z) [
          | inl v ↦ record { extent = sym (ap (λ (y : Part). y.extent) v); parent = inr (sym (ap (λ (y : Part). y.parent) v)) }
          | inr v ↦ record { extent = sym (ap (λ (y : Part). y.extent) v); parent = inr (sym (ap (λ (y : Part). y.parent) v)) }
        ]
    by (act.Revoke k) (reply.Object new) p q w h = from k (λ q. q ∷ []) _ (reply.Object new) w refl (λ q x j z. record { extent = sym (ap (λ (y : Part). y.extent) (one_item _ x j z)); parent = inr (sym (ap (λ (y : Part). y.parent) (one_item _ x j z))) }) h
    by _ _ p q w h = none i h
      where
        none : (j : ℕ) → slice_get (let xs : List Part = [] in xs) j ≡ Some o → PartSource past e o
        none j h = cc

-- the part of an object lies on an extent that was made
pub part_extent : (s : System) (past : Past) (m : ℕ) (o : Part) → IsAdmittedPast s past → object_part past m ≡ Some o → (1 ≤ o.extent) × (o.extent ≤ extents_made past)
unfolding objects_made objects_of
part_extent s [] m o a h = absurd (omega (arith, part_made [] m o h, none))
  where
    none : objects_made [] ≡ 0
    none = refl
part_extent s (e ∷ past) m o a h = by (nat_le m (objects_made past)) refl (part_extent s past)
  where
    at_most : (x y : ℕ) → nat_le x y ≡ true → x ≤ y
    at_most x y q = grind (arith, nat_tests)

    beyond : (x y : ℕ) → nat_le x y ≡ false → y < x
    beyond x y q = grind (arith, nat_tests)

    grown : (1 ≤ o.extent) × (o.extent ≤ extents_made past) → (1 ≤ o.extent) × (o.extent ≤ extents_made (e ∷ past))
    grown x = (x.0, omega (arith, x.1, count_grows is_allocation e past))

    new : ((k : ℕ) (q : Part) → IsAdmittedPast s past → object_part past k ≡ Some q → (1 ≤ q.extent) × (q.extent ≤ extents_made past)) → PartSource past e o → (1 ≤ o.extent) × (o.extent ≤ extents_made (e ∷ past))
    new again (NewExtent x q r) = (omega (arith, q), omega (arith, q, count_new is_allocation e past x))
    new again (OfObject k q x y v w) = grown (subst (λ (n : ℕ). (1 ≤ n) × (n ≤ extents_made past)) (sym y.extent) (again k.0 q a.1 x))

    by : (b : Bool) → nat_le m (objects_made past) ≡ b → ((k : ℕ) (q : Part) → IsAdmittedPast s past → object_part past k ≡ Some q → (1 ≤ q.extent) × (q.extent ≤ extents_made past)) → (1 ≤ o.extent) × (o.extent ≤ extents_made (e ∷ past))
    by true q again = grown (again m o a.1 (sym (part_old e past m (at_most m (objects_made past) q)) ∙ h))
    by false q again =
        let l = beyond m (objects_made past) q in
        new again (part_source s e past o (m - (objects_made past + 1)) a.0 (sym (part_new e past m (m - (objects_made past + 1)) (omega (arith, l))) ∙ h))

-- ---- validity

-- the tests of an object's number
old_number : (m n : ℕ) → m ≤ n → nat_le m n ≡ true
old_number m n l = grind (arith, nat_tests)

new_number : (m n : ℕ) → n < m → nat_le m n ≡ false
new_number m n l = grind (arith, nat_tests)

-- an object stays valid but where the entry ends one of its line
pub valid_old : (e : Entry) (past : Past) (m : ℕ) → m ≤ objects_made past → is_valid (e ∷ past) m ≡ (is_valid past m && not (ends_one_of (lineage_of (objects_of past) m) e))
unfolding is_valid
valid_old e past m l =
    ap (λ (b : Bool). if b then is_valid past m && not (ends_one_of (lineage_of (objects_of past) m) e) else nat_le m (objects_made (e ∷ past))) (old_number m (objects_made past) l)

-- a new object is valid
pub valid_new : (e : Entry) (past : Past) (m : ℕ) → objects_made past < m → m ≤ objects_made (e ∷ past) → is_valid (e ∷ past) m ≡ true
unfolding is_valid
valid_new e past m l u =
    ap2 (λ (b c : Bool). if b then is_valid past m && not (ends_one_of (lineage_of (objects_of past) m) e) else c) (new_number m (objects_made past) l) (old_number m (objects_made (e ∷ past)) u)

-- an entry that ends no object leaves which of the old ones are valid
pub valid_same : (e : Entry) (past : Past) (m : ℕ) → m ≤ objects_made past → (is_done e.reply ≡ false) ⊎ (ended_object e.act ≡ None) → is_valid (e ∷ past) m ≡ is_valid past m
unfolding ends_one_of passes
valid_same e past m l h = valid_old e past m l ∙ by h
  where
    and_none : (b : Bool) → (b && false) ≡ false
    and_none true = refl
    and_none false = refl

    by : (is_done e.reply ≡ false) ⊎ (ended_object e.act ≡ None) → (is_valid past m && not (is_done e.reply && passes (contains_number (lineage_of (objects_of past) m)) (ended_object e.act))) ≡ is_valid past m
    by (inl q) = ap (λ (b : Bool). is_valid past m && not (b && passes (contains_number (lineage_of (objects_of past) m)) (ended_object e.act))) q ∙ and_true (is_valid past m)
    by (inr q) = ap (λ (o : Option ℕ). is_valid past m && not (is_done e.reply && passes (contains_number (lineage_of (objects_of past) m)) o)) q
        ∙ ap (λ (b : Bool). is_valid past m && not b) (and_none (is_done e.reply)) ∙ and_true (is_valid past m)

-- a done revoke or split ends exactly the object and those derived from it
pub valid_after_ending : (e : Entry) (past : Past) (m k : ℕ) → m ≤ objects_made past → is_done e.reply ≡ true → ended_object e.act ≡ Some k →
    is_valid (e ∷ past) m ≡ (is_valid past m && not (contains_number (lineage_of (objects_of past) m) k))
unfolding ends_one_of passes
valid_after_ending e past m k l d q =
    valid_old e past m l
    ∙ ap2 (λ (b : Bool) (o : Option ℕ). is_valid past m && not (b && passes (contains_number (lineage_of (objects_of past) m)) o)) d q

-- what was valid after an entry was valid before it
pub valid_before : (e : Entry) (past : Past) (m : ℕ) → m ≤ objects_made past → is_valid (e ∷ past) m ≡ true → is_valid past m ≡ true
valid_before e past m l h = first (is_valid past m) (not (ends_one_of (lineage_of (objects_of past) m) e)) (sym (valid_old e past m l) ∙ h)
  where
    first : (x y : Bool) → (x && y) ≡ true → x ≡ true
    first true y h = refl
    first false y h = cc
