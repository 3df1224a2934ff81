-- Objects that are made of others, and what is left of the others.
use Rattle.std.proofs.Common.{◌≡◌, ◌≢◌, refl, sym, ◌∙◌, ap, subst, arith, ℕ, zero, suc, ◌+◌, ◌-◌, ◌≤◌, Bool, true, false, not, ◌&&◌, ◌||◌, List, [], ◌∷◌, length, map, replicate, slice_get, Option, Some, None, Result, Ok, Err, if◌then◌else◌, ◌⊎◌, inl, inr}
use Rattle.std.specs.Prelude.{IsSome, IsSomeAnd, ℤ, pos, negsuc, nat_lt}
use Rattle.std.specs.List.{list_any}
use Rattle.std.specs.Option.{option_map}
use Rattle.std.proofs.lemmas.Bool.Decides.{nat_tests}
use Rattle.std.proofs.lemmas.List.{length-append, length-map, length-replicate}
use Rattle.jx_base.specs.declared.act.Act.TheVariants as act
use Rattle.jx_base.specs.declared.act.Refusal.{Refusal}
use Rattle.jx_base.specs.declared.act.Refusal.TheVariants as refusal
use Rattle.jx_base.specs.declared.act.Reply.{Reply}
use Rattle.jx_base.specs.declared.act.Reply.TheVariants as reply
use Rattle.jx_base.specs.declared.ids.ObjectId.{ObjectId}
use Rattle.jx_base.specs.Basics.{contains_number, not_below_zero, numbered}
use Rattle.jx_laws.proofs.Lists.{get_none, get_one, get_two, numbered_split, numbered_within}
use Rattle.jx_model.specs.MemoryObjects.{Part, lineage_of, made_of, new_parts, part_within, sides_at}
use Rattle.jx_model.specs.Replies.{◌refuses◌else◌, is_positive_up_to, is_within}
use Rattle.jx_model.specs.Tables.{ObjectRecord}
use Rattle.table_steps.specs.Steps.{is_record_used}
use Rattle.table_threads.specs.Changes.{changed_at, each_from, is_set}
use Rattle.domain_flags.specs.FlagLists.{with_flag}
use Rattle.memory_objects.proofs.HeldParts.{IsHeld, is_held}
use Rattle.memory_objects.proofs.Tree.{numbered_each}
use Rattle.memory_objects.specs.ObjectLists.{IsKept, IsRiding, ObjectsState, derived_in, divided_in, held_part, holds_in, is_kept, lacks_in, new_record, next_object, one_more, replied, revoked_in, with_holder, with_parts, with_parts_for, with_record, with_riding, without_holder}
use Rattle.memory_space.specs.declared.space.Space.TheInside.{Inside}
use Rattle.memory_objects.proofs.RowLists.{first_number}
use Rattle.memory_space.specs.SpaceLists.{SpaceState, objects_in}
use Rattle.table_threads.proofs.Numbered.{numbered_place}
use Rattle.memory_space.specs.Backing.{IsBacked, IsSpace, LiesIn, Shape, shapes_of, size_in, space_state}
use Rattle.memory_space.proofs.Backed.{are_numbers, held_size, numbered_map}
use Rattle.memory_space.proofs.Forgotten.{changed_from}

-- ---- parts more

-- a part lies in an extent that has bytes
pub record IsHome (shapes : List Shape) (o : Part) : Type 0 where
  pub lies : LiesIn shapes o
  pub some : IsSome (size_in shapes o.extent)

-- each part does
abbrev pub AreHome : List Shape → List Part → Type 0
AreHome shapes ps = (i : ℕ) (p : Part) → slice_get ps i ≡ Some p → IsHome shapes p

-- all goes together with such parts more
pub backed_parts : (y : ObjectsState) (shapes : List Shape) (flags : List Bool) (d : ℕ) (ps : List Part) → AreHome shapes ps → IsBacked y shapes flags → IsBacked (with_parts y d ps) shapes flags
backed_parts y shapes flags d ps home b =
    record {
      count = omega (arith, length-append y.parts ps, length-append y.records news, length-replicate (length ps) (new_record d), b.count);
      made = omega (arith, length-append y.parts ps, b.made);
      listed = b.listed;
      parts = λ m o h. elim (numbered_split y.parts ps m o h) [ inl q ↦ b.parts m o q | inr q ↦ (home q.0 o q.2).lies ];
      used = λ m o r h k u. elim (numbered_split y.parts ps m o h) [ inl q ↦ old m o r q (numbered_split y.records news m r k) u | inr q ↦ (home q.0 o q.2).some ];
      taken = b.taken;
    }
  where
    news : List ObjectRecord
    news = replicate (length ps) (new_record d)

    old : (m : ℕ) (o : Part) (r : ObjectRecord) → numbered y.parts m ≡ Some o → (numbered y.records m ≡ Some r) ⊎ ((k : ℕ) × (m ≡ length y.records + k + 1) × (slice_get news k ≡ Some r)) → is_record_used r ≡ true → IsSome (size_in shapes o.extent)
    old m o r h (inl q) u = b.used m o r h q u
    old m o r h (inr q) u = absurd (omega (arith, q.1, (numbered_within y.parts m o h).1, b.count))

-- ---- fewer used

-- a record was used before
abbrev pub WereUsed : List ObjectRecord → List ObjectRecord → Type 0
WereUsed olds news = (m : ℕ) (r : ObjectRecord) → numbered news m ≡ Some r → is_record_used r ≡ true → (q : ObjectRecord) × (numbered olds m ≡ Some q) × (is_record_used q ≡ true)

-- all goes together also where fewer are used
pub backed_records : (y : ObjectsState) (shapes : List Shape) (flags : List Bool) (rs : List ObjectRecord) → length rs ≡ length y.records → WereUsed y.records rs → IsBacked y shapes flags → IsBacked (record y { records = rs }) shapes flags
backed_records y shapes flags rs n were b =
    record {
      count = n ∙ b.count;
      made = b.made;
      listed = b.listed;
      parts = b.parts;
      used = λ m o r h k u. let w = were m r k u in b.used m o w.0 h w.1 w.2;
      taken = b.taken;
    }

length_each : {A : Type 0} (f : ℕ → A → A) (a : ℕ) (xs : List A) → length (each_from f a xs) ≡ length xs
length_each f a [] = refl
length_each f a (x ∷ xs) = ap suc (length_each f (a + 1) xs)

length_changed : {A : Type 0} (i : ℕ) (f : A → A) (xs : List A) → length (changed_at i f xs) ≡ length xs
length_changed i f [] = refl
length_changed zero f (x ∷ xs) = refl
length_changed (suc i) f (x ∷ xs) = ap suc (length_changed i f xs)

-- an object that ends, with what is derived from it
pub were_revoked : (parts : List Part) (m : ℕ) (records : List ObjectRecord) → WereUsed records (revoked_in parts m records)
were_revoked parts m records n r h u =
    by (numbered records n) refl (sym (numbered_each (λ j q. record q { valid = q.valid && not (contains_number (lineage_of parts j) m) }) records n) ∙ h)
  where
    ended : ObjectRecord → ObjectRecord
    ended q = record q { valid = q.valid && not (contains_number (lineage_of parts n) m) }

    less : (v b z : Bool) → ((v && b) && z) ≡ true → (v && z) ≡ true
    less true true z e = e
    less true false z e = cc
    less false b z e = cc

    by : (o : Option ObjectRecord) → numbered records n ≡ o → option_map ended o ≡ Some r → (q : ObjectRecord) × (numbered records n ≡ Some q) × (is_record_used q ≡ true)
    by None e g = cc
    by (Some q) e g =
        let same : ended q ≡ r = cc in
        (q, e, less q.valid (not (contains_number (lineage_of parts n) m)) (list_any is_set q.holders || nat_lt 0 q.riding) (ap is_record_used same ∙ u))

pub backed_revoked : (y : ObjectsState) (shapes : List Shape) (flags : List Bool) (m : ℕ) → IsBacked y shapes flags → IsBacked (record y { records = revoked_in y.parts m y.records }) shapes flags
backed_revoked y shapes flags m b =
    backed_records y shapes flags (revoked_in y.parts m y.records) (length_each (λ j q. record q { valid = q.valid && not (contains_number (lineage_of y.parts j) m) }) 1 y.records) (were_revoked y.parts m y.records) b

-- parts in place of an object that ends
pub backed_parts_for : (y : ObjectsState) (shapes : List Shape) (flags : List Bool) (d m : ℕ) (ps : List Part) → AreHome shapes ps → IsBacked y shapes flags → IsBacked (with_parts_for y d m ps) shapes flags
backed_parts_for y shapes flags d m [] home b = b
backed_parts_for y shapes flags d m (o ∷ os) home b = backed_parts (record y { records = revoked_in y.parts m y.records }) shapes flags d (o ∷ os) home (backed_revoked y shapes flags m b)

-- a flag that is set though one was taken away
flag_before : (i : ℕ) (flags : List Bool) → list_any is_set (changed_at i (λ _. false) flags) ≡ true → list_any is_set flags ≡ true
flag_before i [] h = h
flag_before zero (x ∷ flags) h = right x (list_any is_set flags) h
  where
    right : (x y : Bool) → y ≡ true → (x || y) ≡ true
    right true y e = refl
    right false y e = e
flag_before (suc i) (true ∷ flags) h = refl
flag_before (suc i) (false ∷ flags) h = flag_before i flags h

-- an object that is used though a domain holds it no more
used_before : (d : ℕ) (q : ObjectRecord) → is_record_used (with_holder d false q) ≡ true → is_record_used q ≡ true
used_before d q h = by q.valid (list_any is_set (with_flag d false q.holders)) (list_any is_set q.holders) (nat_lt 0 q.riding) (flag_before (d - 1) q.holders) h
  where
    by : (v a b z : Bool) → (a ≡ true → b ≡ true) → (v && (a || z)) ≡ true → (v && (b || z)) ≡ true
    by false a b z f e = cc
    by true true b z f e = ap (λ (c : Bool). c || z) (f refl)
    by true false true z f e = refl
    by true false false z f e = e

pub were_held : (d : ℕ) (records : List ObjectRecord) → WereUsed records (map (with_holder d false) records)
were_held d records m r h u = by (numbered records m) refl (sym (numbered_map (with_holder d false) records m) ∙ h)
  where
    by : (o : Option ObjectRecord) → numbered records m ≡ o → option_map (with_holder d false) o ≡ Some r → (q : ObjectRecord) × (numbered records m ≡ Some q) × (is_record_used q ≡ true)
    by None e g = cc
    by (Some q) e g = let same : with_holder d false q ≡ r = cc in (q, e, used_before d q (ap is_record_used same ∙ u))

-- one object that is held no more
pub were_changed : (d i : ℕ) (records : List ObjectRecord) → WereUsed records (changed_at i (with_holder d false) records)
unfolding numbered
were_changed d i records zero r h u = cc
were_changed d i records (suc j) r h u =
    elim (changed_from (with_holder d false) i records j r h) [
      | inl q ↦ (r, q.1, u)
      | inr q ↦ (q.0, q.1, used_before d q.0 (sym (ap is_record_used q.2) ∙ u))
    ]

pub backed_released : (y : ObjectsState) (shapes : List Shape) (flags : List Bool) (d m : ℕ) → IsBacked y shapes flags → IsBacked (without_holder y d m) shapes flags
backed_released y shapes flags d m b = by (holds_in y.records d m)
  where
    by : (h : Bool) → IsBacked (if h then with_record y m (with_holder d false) else y) shapes flags
    by true = backed_records y shapes flags (changed_at (m - 1) (with_holder d false) y.records) (length_changed (m - 1) (with_holder d false) y.records) (were_changed d (m - 1) y.records) b
    by false = b

pub backed_ended : (y : ObjectsState) (shapes : List Shape) (flags : List Bool) (d : ℕ) → IsBacked y shapes flags → IsBacked (record y { records = map (with_holder d false) y.records }) shapes flags
backed_ended y shapes flags d b = backed_records y shapes flags (map (with_holder d false) y.records) (length-map y.records (with_holder d false)) (were_held d y.records) b

-- ---- one record changed

-- one that was used if it is
pub were_one : (y : ObjectsState) (m : ℕ) (f : ObjectRecord → ObjectRecord) → ((q : ObjectRecord) → numbered y.records m ≡ Some q → is_record_used (f q) ≡ true → is_record_used q ≡ true) → 1 ≤ m → WereUsed y.records (changed_at (m - 1) f y.records)
unfolding numbered
were_one y m f h l zero r p u = cc
were_one y m f h l (suc j) r p u = by (changed_from f (m - 1) y.records j r p)
  where
    by : ((j ≢ m - 1) × (slice_get y.records j ≡ Some r)) ⊎ ((q : ObjectRecord) × (slice_get y.records j ≡ Some q) × (r ≡ f q) × (j ≡ m - 1)) → (q : ObjectRecord) × (slice_get y.records j ≡ Some q) × (is_record_used q ≡ true)
    by (inl q) = (r, q.1, u)
    by (inr q) =
        let there : numbered y.records m ≡ Some q.0 = numbered_place y.records m l ∙ ap (slice_get y.records) (sym q.3) ∙ q.1 in
        (q.0, q.1, h q.0 there (sym (ap is_record_used q.2) ∙ u))

-- all goes together once it changed
pub space_record : (x : Inside) (new : ObjectsState) (m : ℕ) (f : ObjectRecord → ObjectRecord) → IsSpace x → IsSome (numbered x.objects.records m) →
    ((q : ObjectRecord) → numbered x.objects.records m ≡ Some q → is_record_used (f q) ≡ true → is_record_used q ≡ true) → new ≡ with_record x.objects m f → IsSpace (record x { objects = new })
space_record x new m f inv s h e =
    record {
      granules = inv.granules;
      backed = subst (λ (z : ObjectsState). IsBacked z (shapes_of x.extents.items) x.pool) (sym e)
          (backed_records x.objects (shapes_of x.extents.items) x.pool (changed_at (m - 1) f x.objects.records) (length_changed (m - 1) f x.objects.records) (were_one x.objects m f h (first_number x.objects.records m s)) inv.backed);
    }

-- an object that there is
there_is : (P : ObjectRecord → Type 0) (o : Option ObjectRecord) → IsSomeAnd o P → IsSome o
there_is P None h = absurd h
there_is P (Some r) h = refl

it_has : (P : ObjectRecord → Type 0) (o : Option ObjectRecord) (q : ObjectRecord) → IsSomeAnd o P → o ≡ Some q → P q
it_has P o q h e = subst (λ (z : Option ObjectRecord). IsSomeAnd z P) e h

-- one that is held more was kept
pub space_held : (x : Inside) (y : SpaceState) (new : ObjectsState) (d m : ℕ) → IsSpace x → space_state x ≡ y → IsKept (objects_in y) m → new ≡ with_record x.objects m (with_holder d true) → IsSpace (record x { objects = new })
space_held x y new d m inv view kept e =
    let here : IsSomeAnd (numbered x.objects.records m) (λ r. is_kept r ≡ true) = subst (λ (z : SpaceState). IsSomeAnd (numbered z.objects m) (λ r. is_kept r ≡ true)) (sym view) kept in
    space_record x new m (with_holder d true) inv (there_is (λ r. is_kept r ≡ true) (numbered x.objects.records m) here)
    (λ q h u. used q.valid (is_kept q) (it_has (λ r. is_kept r ≡ true) (numbered x.objects.records m) q here h) (list_any is_set (with_flag d true q.holders) || nat_lt 0 q.riding) u) e
  where
    used : (v k : Bool) → k ≡ true → (z : Bool) → (v && z) ≡ true → (v && k) ≡ true
    used true k q z u = q
    used false k q z u = cc

-- one that is carried more was kept
pub space_carried : (x : Inside) (y : SpaceState) (new : ObjectsState) (m : ℕ) → IsSpace x → space_state x ≡ y → IsKept (objects_in y) m → new ≡ with_record x.objects m (with_riding (λ n. n + 1)) → IsSpace (record x { objects = new })
space_carried x y new m inv view kept e =
    let here : IsSomeAnd (numbered x.objects.records m) (λ r. is_kept r ≡ true) = subst (λ (z : SpaceState). IsSomeAnd (numbered z.objects m) (λ r. is_kept r ≡ true)) (sym view) kept in
    space_record x new m (with_riding (λ n. n + 1)) inv (there_is (λ r. is_kept r ≡ true) (numbered x.objects.records m) here)
    (λ q h u. used q.valid (is_kept q) (it_has (λ r. is_kept r ≡ true) (numbered x.objects.records m) q here h) (list_any is_set q.holders || nat_lt 0 (q.riding + 1)) u) e
  where
    used : (v k : Bool) → k ≡ true → (z : Bool) → (v && z) ≡ true → (v && k) ≡ true
    used true k q z u = q
    used false k q z u = cc

-- one that is carried less was carried
pub space_landed : (x : Inside) (y : SpaceState) (new : ObjectsState) (m : ℕ) → IsSpace x → space_state x ≡ y → IsRiding (objects_in y) m → new ≡ with_record x.objects m (with_riding (λ n. n - 1)) → IsSpace (record x { objects = new })
space_landed x y new m inv view riding e =
    let here : IsSomeAnd (numbered x.objects.records m) (λ r. 1 ≤ r.riding) = subst (λ (z : SpaceState). IsSomeAnd (numbered z.objects m) (λ r. 1 ≤ r.riding)) (sym view) riding in
    space_record x new m (with_riding (λ n. n - 1)) inv (there_is (λ r. 1 ≤ r.riding) (numbered x.objects.records m) here)
    (λ q h u. used q.valid (list_any is_set q.holders) q.riding (it_has (λ r. 1 ≤ r.riding) (numbered x.objects.records m) q here h) u) e
  where
    used : (v a : Bool) (n : ℕ) → 1 ≤ n → (v && (a || nat_lt 0 (n - 1))) ≡ true → (v && (a || nat_lt 0 n)) ≡ true
    used true true n l u = refl
    used true false n l u = grind (arith, nat_tests)
    used false a n l u = cc

-- ---- parts of held parts

-- a part of a part that is at home
pub home_within : (y : ObjectsState) (shapes : List Shape) (flags : List Bool) (d m parent : ℕ) (o : Part) (at count : ℕ) → IsBacked y shapes flags → IsHeld y d m o → at + count ≤ o.size → IsHome shapes (part_within parent o at count)
unfolding part_within
home_within y shapes flags d m parent o at count b h l =
    let s = held_size y shapes flags d m o b h in
    let p = b.parts m o h.part in
    let small = p.small in
    record {
      lies = record { first = p.first; last = p.last; small = omega (arith, small, l); within = λ n e. let w = p.within n e in omega (arith, w, l) };
      some = subst IsSome (sym s.1) refl;
    }

pub home_same : (y : ObjectsState) (shapes : List Shape) (flags : List Bool) (d m : ℕ) (o : Part) → IsBacked y shapes flags → IsHeld y d m o → IsHome shapes o
home_same y shapes flags d m o b h = record { lies = b.parts m o h.part; some = subst IsSome (sym (held_size y shapes flags d m o b h).1) refl }

none_home : (shapes : List Shape) → AreHome shapes []
none_home shapes i p h = get_none i p h

-- the part of a sub
pub sub_home : (y : ObjectsState) (shapes : List Shape) (flags : List Bool) (d : ℕ) (m : ObjectId) (at count : ℤ) (r : Reply) → IsBacked y shapes flags →
    r ≡ replied (held_part y d m.0) (derived_in y at count) → AreHome shapes (new_parts y.parts 0 (act.Sub m at count) r)
unfolding new_parts made_of ◌refuses◌else◌ not_below_zero
sub_home y shapes flags d m at count r b h = subst (λ (z : Reply). AreHome shapes (new_parts y.parts 0 (act.Sub m at count) z)) (sym h) (by (held_part y d m.0) refl)
  where
    made : (o : Part) → IsHeld y d m.0 o → is_within at count o.size ≡ true → AreHome shapes (made_of (numbered y.parts m.0) (λ z. part_within m.0 z (not_below_zero at) (not_below_zero count) ∷ []))
    made o k w =
        let n = are_numbers at count o.size w in
        let low : not_below_zero at + not_below_zero count ≤ o.size = omega (arith, n.low, ap not_below_zero n.at_is, ap not_below_zero n.count_is) in
        subst (λ (x : Option Part). AreHome shapes (made_of x (λ z. part_within m.0 z (not_below_zero at) (not_below_zero count) ∷ []))) (sym k.part)
        (λ i p e. subst (IsHome shapes) (get_one (part_within m.0 o (not_below_zero at) (not_below_zero count)) i p e) (home_within y shapes flags d m.0 m.0 o (not_below_zero at) (not_below_zero count) b k low))

    inside : (o : Part) → IsHeld y d m.0 o → (w f : Bool) → is_within at count o.size ≡ w → (l : Bool) →
        AreHome shapes (new_parts y.parts 0 (act.Sub m at count) (if not (w && f) then reply.Refused refusal.Range else if l then reply.Refused refusal.TooMany else reply.Object (next_object y 1)))
    inside o k false f e l = none_home shapes
    inside o k true false e l = none_home shapes
    inside o k true true e true = none_home shapes
    inside o k true true e false = made o k e

    by : (x : Result Part Refusal) → held_part y d m.0 ≡ x → AreHome shapes (new_parts y.parts 0 (act.Sub m at count) (replied x (derived_in y at count)))
    by (Err q) e = none_home shapes
    by (Ok o) e = inside o (is_held y d m.0 o (sym e)) (is_within at count o.size) (is_positive_up_to o.size count) refl (lacks_in y 1)

-- all goes together after a sub
pub space_sub : (x : Inside) (new : ObjectsState) (d : ℕ) (m : ObjectId) (at count : ℤ) (r : Reply) → IsSpace x → r ≡ replied (held_part x.objects d m.0) (derived_in x.objects at count) →
    new ≡ with_parts x.objects d (new_parts x.objects.parts 0 (act.Sub m at count) r) → IsSpace (record x { objects = new })
space_sub x new d m at count r inv h e =
    record {
      granules = inv.granules;
      backed = subst (λ (z : ObjectsState). IsBacked z (shapes_of x.extents.items) x.pool) (sym e)
          (backed_parts x.objects (shapes_of x.extents.items) x.pool d (new_parts x.objects.parts 0 (act.Sub m at count) r) (sub_home x.objects (shapes_of x.extents.items) x.pool d m at count r inv.backed h) inv.backed);
    }

-- a side with a byte at least on each side
side_number : (at : ℤ) (size : ℕ) → is_positive_up_to (size - 1) at ≡ true → not_below_zero at ≤ size
unfolding is_positive_up_to not_below_zero
side_number (pos n) size h = let l : n ≤ size - 1 = grind (arith, nat_tests) in omega (arith, l)
side_number (negsuc n) size h = cc

-- the parts of a split
pub split_home : (y : ObjectsState) (shapes : List Shape) (flags : List Bool) (d : ℕ) (m : ObjectId) (at : ℤ) (r : Reply) → IsBacked y shapes flags →
    r ≡ replied (held_part y d m.0) (divided_in y at) → AreHome shapes (new_parts y.parts 0 (act.Split m at) r)
unfolding new_parts made_of ◌refuses◌else◌ sides_at
split_home y shapes flags d m at r b h = subst (λ (z : Reply). AreHome shapes (new_parts y.parts 0 (act.Split m at) z)) (sym h) (by (held_part y d m.0) refl)
  where
    made : (o : Part) → IsHeld y d m.0 o → is_positive_up_to (o.size - 1) at ≡ true → AreHome shapes (made_of (numbered y.parts m.0) (sides_at (not_below_zero at)))
    made o k w =
        let a : ℕ = not_below_zero at in
        let low : a ≤ o.size = side_number at o.size w in
        subst (λ (x : Option Part). AreHome shapes (made_of x (sides_at a))) (sym k.part)
        (λ i p e. elim (get_two (part_within o.parent o 0 a) (part_within o.parent o a (o.size - a)) i p e) [
          | inl q ↦ subst (IsHome shapes) q (home_within y shapes flags d m.0 o.parent o 0 a b k (omega (arith, low)))
          | inr q ↦ subst (IsHome shapes) q (home_within y shapes flags d m.0 o.parent o a (o.size - a) b k (omega (arith, low)))
        ])

    inside : (o : Part) → IsHeld y d m.0 o → (w : Bool) → is_positive_up_to (o.size - 1) at ≡ w → (l : Bool) →
        AreHome shapes (new_parts y.parts 0 (act.Split m at) (if not w then reply.Refused refusal.Range else if l then reply.Refused refusal.TooMany else reply.Pair (next_object y 1) (next_object y 2)))
    inside o k false e l = none_home shapes
    inside o k true e true = none_home shapes
    inside o k true e false = made o k e

    by : (x : Result Part Refusal) → held_part y d m.0 ≡ x → AreHome shapes (new_parts y.parts 0 (act.Split m at) (replied x (divided_in y at)))
    by (Err q) e = none_home shapes
    by (Ok o) e = inside o (is_held y d m.0 o (sym e)) (is_positive_up_to (o.size - 1) at) refl (lacks_in y 2)

pub space_split : (x : Inside) (new : ObjectsState) (d : ℕ) (m : ObjectId) (at : ℤ) (r : Reply) → IsSpace x → r ≡ replied (held_part x.objects d m.0) (divided_in x.objects at) →
    new ≡ with_parts_for x.objects d m.0 (new_parts x.objects.parts 0 (act.Split m at) r) → IsSpace (record x { objects = new })
space_split x new d m at r inv h e =
    record {
      granules = inv.granules;
      backed = subst (λ (z : ObjectsState). IsBacked z (shapes_of x.extents.items) x.pool) (sym e)
          (backed_parts_for x.objects (shapes_of x.extents.items) x.pool d m.0 (new_parts x.objects.parts 0 (act.Split m at) r) (split_home x.objects (shapes_of x.extents.items) x.pool d m at r inv.backed h) inv.backed);
    }

-- the part of a revoke
pub revoke_home : (y : ObjectsState) (shapes : List Shape) (flags : List Bool) (d : ℕ) (m : ObjectId) (r : Reply) → IsBacked y shapes flags →
    r ≡ replied (held_part y d m.0) (λ _. one_more y) → AreHome shapes (new_parts y.parts 0 (act.Revoke m) r)
unfolding new_parts made_of ◌refuses◌else◌
revoke_home y shapes flags d m r b h = subst (λ (z : Reply). AreHome shapes (new_parts y.parts 0 (act.Revoke m) z)) (sym h) (by (held_part y d m.0) refl)
  where
    made : (o : Part) → IsHeld y d m.0 o → AreHome shapes (made_of (numbered y.parts m.0) (λ z. z ∷ []))
    made o k =
        subst (λ (x : Option Part). AreHome shapes (made_of x (λ z. z ∷ []))) (sym k.part)
        (λ i p e. subst (IsHome shapes) (get_one o i p e) (home_same y shapes flags d m.0 o b k))

    inside : (o : Part) → IsHeld y d m.0 o → (l : Bool) → AreHome shapes (new_parts y.parts 0 (act.Revoke m) (if l then reply.Refused refusal.TooMany else reply.Object (next_object y 1)))
    inside o k true = none_home shapes
    inside o k false = made o k

    by : (x : Result Part Refusal) → held_part y d m.0 ≡ x → AreHome shapes (new_parts y.parts 0 (act.Revoke m) (replied x (λ _. one_more y)))
    by (Err q) e = none_home shapes
    by (Ok o) e = inside o (is_held y d m.0 o (sym e)) (lacks_in y 1)

pub space_revoke : (x : Inside) (new : ObjectsState) (d : ℕ) (m : ObjectId) (r : Reply) → IsSpace x → r ≡ replied (held_part x.objects d m.0) (λ _. one_more x.objects) →
    new ≡ with_parts_for x.objects d m.0 (new_parts x.objects.parts 0 (act.Revoke m) r) → IsSpace (record x { objects = new })
space_revoke x new d m r inv h e =
    record {
      granules = inv.granules;
      backed = subst (λ (z : ObjectsState). IsBacked z (shapes_of x.extents.items) x.pool) (sym e)
          (backed_parts_for x.objects (shapes_of x.extents.items) x.pool d m.0 (new_parts x.objects.parts 0 (act.Revoke m) r) (revoke_home x.objects (shapes_of x.extents.items) x.pool d m r inv.backed h) inv.backed);
    }
