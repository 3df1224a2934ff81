-- The memory objects that an entry makes, and the ones that they are derived from.
use Rattle.std.proofs.Common.{◌≡◌, refl, sym, ◌∙◌, ap, subst, ℕ, zero, ◌≤◌, ◌+◌, ◌-◌, ℤ, pos, negsuc, Bool, true, false, not, ◌⊎◌, List, [], ◌∷◌, Option, Some, None, arith, if◌then◌else◌, slice_get, inl, inr}
use Rattle.std.specs.Prelude.{nat_le}
use Rattle.std.proofs.lemmas.Bool.Decides.{nat_tests}
use Rattle.std.proofs.lemmas.Option.{slice_get_past}
use Rattle.jx_base.specs.declared.act.Act.{Act}
use Rattle.jx_base.specs.declared.act.Act.TheVariants as act
use Rattle.jx_base.specs.declared.act.Reply.{Reply}
use Rattle.jx_base.specs.declared.act.Reply.TheVariants as reply
use Rattle.jx_base.specs.declared.act.Refusal.{Refusal}
use Rattle.jx_base.specs.declared.act.Refusal.TheVariants as refusal
use Rattle.jx_base.specs.declared.ids.ObjectId.{ObjectId}
use Rattle.jx_base.specs.declared.program.System.{System}
use Rattle.jx_base.specs.Basics.{numbered, not_below_zero}
use Rattle.jx_base.specs.Histories.{Past, is_done}
use Rattle.jx_model.specs.MemoryObjects.{Part, makes_extent, part_within, sides_at, made_of, new_parts, objects_of, object_part, extents_made, allocated_bytes, ended_object, is_valid}
use Rattle.jx_model.specs.Holding.{holds_object}
use Rattle.jx_model.specs.Replies.{reply_to, with_object, allocated, derived, divided, given_or, is_positive_up_to, is_within, ◌refuses◌else◌}
use Rattle.program_model.specs.Limits.{allocation_limit}
use Rattle.jx_base.proofs.BasicLaws.{both}
use Rattle.jx_laws.proofs.Basics.{unturned}
use Rattle.jx_laws.proofs.Lists.{get_none, get_one, get_two}

-- ---- an object that an act works through

-- the domain holds the object, which is valid and has this part
pub record IsUsed (past : Past) (d m : ℕ) (o : Part) : Type 0 where
  pub held : holds_object past d m ≡ true
  pub valid : is_valid past m ≡ true
  pub part : object_part past m ≡ Some o

-- what comes of a reply that no refusal gives comes of an object that was held and valid
pub behind : {A : Type 0} (g : Reply → Option A) (past : Past) (d : ℕ) (m : ObjectId) (f : Part → Reply) (x : A) → ((r : Refusal) → g (reply.Refused r) ≡ None) →
    g (with_object past d m f) ≡ Some x → (o : Part) × IsUsed past d m.0 o × (g (f o) ≡ Some x)
unfolding with_object ◌refuses◌else◌ given_or
behind {A} g past d m f x n h = by (holds_object past d m.0) (is_valid past m.0) (object_part past m.0) refl refl refl h
  where
    by : (a b : Bool) (o : Option Part) → holds_object past d m.0 ≡ a → is_valid past m.0 ≡ b → object_part past m.0 ≡ o →
        g (not a refuses refusal.NotHeld else not b refuses refusal.Revoked else given_or o refusal.Revoked f) ≡ Some x → (o : Part) × IsUsed past d m.0 o × (g (f o) ≡ Some x)
    by false b o p q r h = let z = n refusal.NotHeld in cc
    by true false o p q r h = let z = n refusal.Revoked in cc
    by true true None p q r h = let z = n refusal.Revoked in cc
    by true true (Some o) p q r h = (o, record { held = p; valid = q; part = r }, h)

-- a mark where the reply is done
done_mark : Reply → Option ℕ
done_mark r = if is_done r then Some zero else None

-- a refusal has no mark
refused_mark : (r : Refusal) → done_mark (reply.Refused r) ≡ None
unfolding done_mark is_done
refused_mark r = refl

-- a done reply has its mark
done_marked : (r : Reply) → is_done r ≡ true → done_mark r ≡ Some zero
unfolding done_mark
done_marked r h = ap (λ (b : Bool). if b then Some zero else None) h

-- what was done through an object went through one that was held and valid
pub done_through : (past : Past) (d : ℕ) (m : ObjectId) (f : Part → Reply) → is_done (with_object past d m f) ≡ true → (o : Part) × IsUsed past d m.0 o
done_through past d m f h = let x = behind done_mark past d m f zero refused_mark (done_marked (with_object past d m f) h) in (x.0, x.1)

-- a done revoke or split ends an object that its domain held and that was valid
pub ended_used : (s : System) (past : Past) (d m : ℕ) (a : Act) → is_done (reply_to s past d a) ≡ true → ended_object a ≡ Some m → (o : Part) × IsUsed past d m o
unfolding reply_to ended_object
ended_used s past d m (act.Revoke k) h e =
    let q : k.0 ≡ m = cc (e) in
    let x = done_through past d k _ h in subst (λ (n : ℕ). (o : Part) × IsUsed past d n o) q x
ended_used s past d m (act.Split k at) h e =
    let q : k.0 ≡ m = cc (e) in
    let x = done_through past d k _ h in subst (λ (n : ℕ). (o : Part) × IsUsed past d n o) q x
ended_used s past d m _ h e = cc

-- ---- new objects

-- the first part of a new extent: all of it
pub record IsWholeExtent (past : Past) (a : Act) (r : Reply) (o : Part) : Type 0 where
  pub made : makes_extent a r ≡ true
  pub parent : o.parent ≡ 0
  pub extent : o.extent ≡ extents_made past + 1
  pub from : o.from ≡ 0
  pub size : o.size ≡ allocated_bytes a
  pub some : 1 ≤ o.size

-- a part that lies within another, with a byte at least where that has one
pub record IsInside (old o : Part) : Type 0 where
  pub extent : o.extent ≡ old.extent
  pub low : old.from ≤ o.from
  pub high : o.from + o.size ≤ old.from + old.size
  pub some : 1 ≤ old.size → 1 ≤ o.size

-- where a new object comes from: a new extent, or an object that was held and valid, as a child or in its place
pub data NewPart (past : Past) (d : ℕ) (a : Act) (r : Reply) (o : Part) : Type 0 where
  OfExtent : IsWholeExtent past a r o → NewPart past d a r o
  OfParent : (k : ℕ) (old : Part) → IsUsed past d k old → IsInside old o → o.parent ≡ k → ended_object a ≡ None → NewPart past d a r o
  OfEnded : (k : ℕ) (old : Part) → IsUsed past d k old → IsInside old o → o.parent ≡ old.parent → ended_object a ≡ Some k → NewPart past d a r o

-- an empty list has no item at any place
slice_empty : (i : ℕ) → slice_get {X = Part} [] i ≡ None
slice_empty i = slice_get_past [] i (omega arith)

-- a refusal makes no objects
no_parts : (olds : List Part) (x : ℕ) (a : Act) (i : ℕ) (r : Refusal) → slice_get (new_parts olds x a (reply.Refused r)) i ≡ None
unfolding new_parts
no_parts olds x (act.Alloc n) i r = slice_empty i
no_parts olds x (act.Sub m at count) i r = slice_empty i
no_parts olds x (act.Split m at) i r = slice_empty i
no_parts olds x (act.Revoke m) i r = slice_empty i
no_parts olds x _ i r = slice_empty i

-- what comes of a reply behind a test
unrefused : {A : Type 0} (g : Reply → Option A) (b : Bool) (r : Refusal) (rest : Reply) (x : A) → ((r : Refusal) → g (reply.Refused r) ≡ None) → g (b refuses r else rest) ≡ Some x → (b ≡ false) × (g rest ≡ Some x)
unfolding ◌refuses◌else◌
unrefused g true r rest x n h = let z = n r in cc
unrefused g false r rest x n h = (refl, h)

-- ---- numbers in range

-- a test that passes compares
le_of : (x y : ℕ) → nat_le x y ≡ true → x ≤ y
le_of x y h = grind (arith, nat_tests)

-- a number from 1 on
positive : (limit : ℕ) (n : ℤ) → is_positive_up_to limit n ≡ true → (1 ≤ not_below_zero n) × (not_below_zero n ≤ limit)
unfolding is_positive_up_to not_below_zero
positive limit (pos n) h = let x = both (nat_le 1 n) (nat_le n limit) h in (le_of 1 n x.0, le_of n limit x.1)
positive limit (negsuc n) h = cc

-- an offset and count within a size
inside_of : (at count : ℤ) (size : ℕ) → is_within at count size ≡ true → not_below_zero at + not_below_zero count ≤ size
unfolding is_within not_below_zero
inside_of (pos a) (pos n) size h = le_of (a + n) size h
inside_of (pos a) (negsuc n) size h = cc
inside_of (negsuc a) n size h = cc

-- ---- the parts

-- the one part of a sub
one_within : (n : ℕ) (q : Option Part) (old : Part) (at count i : ℕ) (o : Part) → q ≡ Some old → slice_get (made_of q (λ y. part_within n y at count ∷ [])) i ≡ Some o → part_within n old at count ≡ o
unfolding made_of
one_within n None old at count i o e h = cc
one_within n (Some y) old at count i o e h = let z : y ≡ old = cc (e) in ap (λ (y : Part). part_within n y at count) (sym z) ∙ get_one _ i o h

-- the two parts of a split
two_sides : (q : Option Part) (old : Part) (at i : ℕ) (o : Part) → q ≡ Some old → slice_get (made_of q (sides_at at)) i ≡ Some o →
    (part_within old.parent old 0 at ≡ o) ⊎ (part_within old.parent old at (old.size - at) ≡ o)
unfolding made_of sides_at
two_sides None old at i o e h = cc
two_sides (Some y) old at i o e h =
    let z : y ≡ old = cc (e) in
    elim (get_two _ _ i o h) [
      | inl q ↦ inl (ap (λ (y : Part). part_within y.parent y 0 at) (sym z) ∙ q)
      | inr q ↦ inr (ap (λ (y : Part). part_within y.parent y at (y.size - at)) (sym z) ∙ q)
    ]

-- the one part of a revoke
same_part : (q : Option Part) (old : Part) (i : ℕ) (o : Part) → q ≡ Some old → slice_get (made_of q (λ y. y ∷ [])) i ≡ Some o → old ≡ o
unfolding made_of
same_part None old i o e h = cc
same_part (Some y) old i o e h = let q = get_one _ i o h in cc (e, q)

-- the whole of an extent of so many bytes
whole_part : (x n : ℕ) → Part
whole_part x n = record { parent = 0; extent = x; from = 0; size = n }

-- what an alloc makes is the whole new extent
alloc_part : (olds : List Part) (x : ℕ) (n : ℤ) (r : Reply) (i : ℕ) (o : Part) → slice_get (new_parts olds x (act.Alloc n) r) i ≡ Some o → whole_part x (not_below_zero n) ≡ o
unfolding new_parts whole_part
alloc_part olds x n (reply.Made m g) i o h = get_one _ i o h
alloc_part olds x n _ i o h = get_none i o h

-- what a sub makes
sub_part : (olds : List Part) (x : ℕ) (m : ObjectId) (at count : ℤ) (r : Reply) (i : ℕ) (o old : Part) → numbered olds m.0 ≡ Some old → slice_get (new_parts olds x (act.Sub m at count) r) i ≡ Some o →
    part_within m.0 old (not_below_zero at) (not_below_zero count) ≡ o
unfolding new_parts
sub_part olds x m at count (reply.Object new) i o old p h = one_within m.0 (numbered olds m.0) old (not_below_zero at) (not_below_zero count) i o p h
sub_part olds x m at count _ i o old p h = get_none i o h

-- what a split makes
split_part : (olds : List Part) (x : ℕ) (m : ObjectId) (at : ℤ) (r : Reply) (i : ℕ) (o old : Part) → numbered olds m.0 ≡ Some old → slice_get (new_parts olds x (act.Split m at) r) i ≡ Some o →
    (part_within old.parent old 0 (not_below_zero at) ≡ o) ⊎ (part_within old.parent old (not_below_zero at) (old.size - not_below_zero at) ≡ o)
unfolding new_parts
split_part olds x m at (reply.Pair a b) i o old p h = two_sides (numbered olds m.0) old (not_below_zero at) i o p h
split_part olds x m at _ i o old p h = get_none i o h

-- what a revoke makes
revoke_part : (olds : List Part) (x : ℕ) (m : ObjectId) (r : Reply) (i : ℕ) (o old : Part) → numbered olds m.0 ≡ Some old → slice_get (new_parts olds x (act.Revoke m) r) i ≡ Some o → old ≡ o
unfolding new_parts
revoke_part olds x m (reply.Object new) i o old p h = same_part (numbered olds m.0) old i o p h
revoke_part olds x m _ i o old p h = get_none i o h

-- an alloc that makes an object makes an extent
alloc_made : (olds : List Part) (x : ℕ) (n : ℤ) (r : Reply) (i : ℕ) (o : Part) → slice_get (new_parts olds x (act.Alloc n) r) i ≡ Some o → makes_extent (act.Alloc n) r ≡ true
unfolding new_parts makes_extent
alloc_made olds x n (reply.Made m g) i o h = refl
alloc_made olds x n _ i o h = get_none i o h

-- the whole of a new extent, with a byte at least
whole_is : (past : Past) (n : ℤ) (r : Reply) → makes_extent (act.Alloc n) r ≡ true → 1 ≤ not_below_zero n → IsWholeExtent past (act.Alloc n) r (whole_part (extents_made past + 1) (not_below_zero n))
unfolding allocated_bytes whole_part
whole_is past n r m h = record { made = m; parent = refl; extent = refl; from = refl; size = refl; some = h }

-- the object is derived from that one
abbrev IsParent : ℕ → Part → Type 0
IsParent n o = o.parent ≡ n

-- a part within a part
within_is : (n : ℕ) (old : Part) (at count : ℕ) → 1 ≤ count → at + count ≤ old.size → IsInside old (part_within n old at count) × (IsParent n (part_within n old at count))
unfolding part_within
within_is n old at count l u = (record { extent = refl; low = omega arith; high = omega (arith, u); some = λ h. l }, refl)

-- each new object is of a new extent, or derived from an object that was held and valid
pub new_part : (s : System) (past : Past) (d : ℕ) (a : Act) (r : Reply) (i : ℕ) (o : Part) → r ≡ reply_to s past d a →
    slice_get (new_parts (objects_of past) (extents_made past + 1) a r) i ≡ Some o → NewPart past d a r o
unfolding reply_to allocated derived divided object_part new_parts ended_object
new_part s past d (act.Alloc n) r i o e h =
    let g : Reply → Option Part = λ y. slice_get (new_parts (objects_of past) (extents_made past + 1) (act.Alloc n) y) i in
    let t = unrefused g _ _ _ o (no_parts (objects_of past) (extents_made past + 1) (act.Alloc n) i) (ap g (sym e) ∙ h) in
    let p = positive allocation_limit n (unturned (is_positive_up_to allocation_limit n) t.0) in
    let m = alloc_made (objects_of past) (extents_made past + 1) n r i o h in
    OfExtent (subst (λ (y : Part). IsWholeExtent past (act.Alloc n) r y) (alloc_part (objects_of past) (extents_made past + 1) n r i o h) (whole_is past n r m p.0))
new_part s past d (act.Sub m at count) r i o e h =
    let g : Reply → Option Part = λ y. slice_get (new_parts (objects_of past) (extents_made past + 1) (act.Sub m at count) y) i in
    let n = no_parts (objects_of past) (extents_made past + 1) (act.Sub m at count) i in
    let x = behind g past d m _ o n (ap g (sym e) ∙ h) in
    let t = unrefused g _ _ _ o n x.2 in
    let b = both (is_within at count x.0.size) (is_positive_up_to x.0.size count) (unturned _ t.0) in
    let q = sub_part (objects_of past) (extents_made past + 1) m at count _ i o x.0 x.1.part x.2 in
    let w = within_is m.0 x.0 (not_below_zero at) (not_below_zero count) (positive x.0.size count b.1).0 (inside_of at count x.0.size b.0) in
    OfParent m.0 x.0 x.1 (subst (λ (y : Part). IsInside x.0 y) q w.0) (subst (λ (y : Part). IsParent m.0 y) q w.1) refl
new_part s past d (act.Split m at) r i o e h =
    let g : Reply → Option Part = λ y. slice_get (new_parts (objects_of past) (extents_made past + 1) (act.Split m at) y) i in
    let n = no_parts (objects_of past) (extents_made past + 1) (act.Split m at) i in
    let x = behind g past d m _ o n (ap g (sym e) ∙ h) in
    let t = unrefused g _ _ _ o n x.2 in
    let b = positive (x.0.size - 1) at (unturned (is_positive_up_to (x.0.size - 1) at) t.0) in
    let w = within_is x.0.parent x.0 0 (not_below_zero at) b.0 (omega (arith, b.1)) in
    let v = within_is x.0.parent x.0 (not_below_zero at) (x.0.size - not_below_zero at) (omega (arith, b)) (omega (arith, b)) in
    elim (split_part (objects_of past) (extents_made past + 1) m at _ i o x.0 x.1.part x.2) [
      | inl q ↦ OfEnded m.0 x.0 x.1 (subst (λ (y : Part). IsInside x.0 y) q w.0) (subst (λ (y : Part). IsParent x.0.parent y) q w.1) refl
      | inr q ↦ OfEnded m.0 x.0 x.1 (subst (λ (y : Part). IsInside x.0 y) q v.0) (subst (λ (y : Part). IsParent x.0.parent y) q v.1) refl
    ]
new_part s past d (act.Revoke m) r i o e h =
    let g : Reply → Option Part = λ y. slice_get (new_parts (objects_of past) (extents_made past + 1) (act.Revoke m) y) i in
    let x = behind g past d m _ o (no_parts (objects_of past) (extents_made past + 1) (act.Revoke m) i) (ap g (sym e) ∙ h) in
    let q = revoke_part (objects_of past) (extents_made past + 1) m _ i o x.0 x.1.part x.2 in
    OfEnded m.0 x.0 x.1 (subst (λ (y : Part). IsInside x.0 y) q (record { extent = refl; low = omega arith; high = omega arith; some = λ h. h })) (ap (λ (y : Part). y.parent) (sym q)) refl
new_part s past d _ r i o e h = get_none i o h
