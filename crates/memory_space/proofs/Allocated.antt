-- A new extent, and the object that it is.
use Rattle.std.proofs.Common.{◌≡◌, ◌≢◌, refl, sym, ◌∙◌, ap, subst, arith, ℕ, zero, suc, ◌+◌, ◌-◌, ◌≤◌, ◌<◌, ◌^◌, ◌/◌, Bool, true, false, not, ◌&&◌, ◌||◌, ◌==◌, List, [], ◌∷◌, ◌++◌, length, slice_get, Option, Some, None, is_some, if◌then◌else◌, ◌⊎◌, inl, inr}
use Rattle.std.specs.Prelude.{IsSome, ℤ, pos, negsuc, nat_le, nat_lt}
use Rattle.std.specs.Option.{option_and_then, option_map}
use Rattle.std.proofs.lemmas.Bool.Decides.{nat_tests}
use Rattle.std.proofs.lemmas.List.{length-append, length-map, length-replicate, map-append}
use Rattle.std.proofs.lemmas.Option.{slice_get_past}
use Rattle.jx_base.specs.declared.act.Refusal.TheVariants as refusal
use Rattle.jx_base.specs.declared.act.Reply.{Reply}
use Rattle.jx_base.specs.declared.act.Reply.TheVariants as reply
use Rattle.jx_base.specs.Basics.{contains_number, not_below_zero, numbered, parts_of}
use Rattle.jx_base.proofs.BasicLaws.{ap2, get_left, get_right, same_number}
use Rattle.jx_laws.proofs.Lists.{get_one, numbered_split, numbered_within}
use Rattle.extent_pool.specs.Taken.{AreTaken, is_taken, with_run}
use Rattle.jx_model.specs.Granules.{extent_granules, least_free}
use Rattle.jx_model.specs.MemoryObjects.{Part}
use Rattle.jx_model.specs.Replies.{◌refuses◌else◌, given_or, is_positive_up_to}
use Rattle.jx_model.specs.Tables.{ExtentRecord, ObjectRecord}
use Rattle.program_model.specs.Limits.{allocation_limit, granule_bytes}
use Rattle.table_extents.proofs.Granules.{IsFirstFree, least_is_first}
use Rattle.table_steps.specs.Steps.{is_record_used}
use Rattle.table_threads.proofs.Records.{any_append, not_that, or_false, same_or_not}
use Rattle.memory_objects.specs.ObjectLists.{ObjectsState, lacks_in, new_record, next_object, whole_of, with_root}
use Rattle.memory_space.specs.declared.space.Space.TheInside.{Inside}
use Rattle.memory_space.specs.Backing.{IsBacked, IsSpace, LiesIn, Shape, shape_of, shapes_of, size_in}
use Rattle.memory_space.specs.ExtentLists.{ExtentsState, IsClear, zeros}
use Rattle.memory_space.specs.Numbers.{allocation}
use Rattle.memory_space.specs.SpaceLists.{SpaceState, allocated_in, objects_in, room_in}
use Rattle.memory_space.proofs.Backed.{length_run, numbered_map, still_taken}

-- ---- one item more

-- what comes last
pub numbered_last : {A : Type 0} (xs : List A) (x : A) → numbered (xs ++ x ∷ []) (length xs + 1) ≡ Some x
unfolding numbered
numbered_last xs x =
    let z : length xs + 1 ≡ suc (length xs) = omega arith in
    ap (numbered (xs ++ x ∷ [])) z ∙ get_right xs (x ∷ []) 0 (length xs) (omega arith)

-- the others
pub numbered_other : {A : Type 0} (xs : List A) (x : A) (e : ℕ) → e ≢ length xs + 1 → numbered (xs ++ x ∷ []) e ≡ numbered xs e
unfolding numbered
numbered_other xs x zero d = refl
numbered_other xs x (suc i) d = by (nat_lt i (length xs)) refl
  where
    by : (b : Bool) → nat_lt i (length xs) ≡ b → slice_get (xs ++ x ∷ []) i ≡ slice_get xs i
    by true q = get_left xs (x ∷ []) i (grind (arith, nat_tests))
    by false q =
        let l : length xs ≤ i = grind (arith, nat_tests) in
        let k : length (xs ++ x ∷ []) ≤ i = beyond l in
        slice_get_past (xs ++ x ∷ []) i k ∙ sym (slice_get_past xs i l)
      where
        apart : i ≢ length xs
        apart e = d (omega (arith, e))

        beyond : length xs ≤ i → length (xs ++ x ∷ []) ≤ i
        beyond l = elim (same_or_not i (length xs)) [ inl z ↦ absurd (apart z) | inr z ↦ omega (arith, l, z, length-append xs (x ∷ [])) ]

-- a number more
pub contains_more : (xs : List ℕ) (n e : ℕ) → contains_number (xs ++ n ∷ []) e ≡ (contains_number xs e || (n == e))
unfolding contains_number
contains_more xs n e = any_append (λ x. x == e) xs (n ∷ []) ∙ ap (λ (b : Bool). contains_number xs e || b) (or_false (n == e))

-- ---- the extent

module _ (y : ObjectsState) (shapes : List Shape) (flags : List Bool) (d size at n : ℕ) where
  -- the new shape
  abbrev new : Shape
  new = record { run = (at, n); size = Some size }

  abbrev all : List Shape
  all = shapes ++ new ∷ []

  -- the bytes of the others
  old_size : (e : ℕ) → e ≢ length shapes + 1 → size_in all e ≡ size_in shapes e
  old_size e k = ap (λ (o : Option Shape). option_and_then (λ s. s.size) o) (numbered_other shapes new e k)

  -- its own
  new_size : size_in all (length shapes + 1) ≡ Some size
  new_size = ap (λ (o : Option Shape). option_and_then (λ s. s.size) o) (numbered_last shapes new)

  listed : IsBacked y shapes flags → (e : ℕ) → contains_number (y.extents ++ (length shapes + 1) ∷ []) e ≡ is_some (size_in all e)
  listed b e = elim (same_or_not (length shapes + 1) e) [ inl z ↦ here z | inr z ↦ there z ]
    where
      left : (a : Bool) → (a || true) ≡ true
      left true = refl
      left false = refl

      here : length shapes + 1 ≡ e → contains_number (y.extents ++ (length shapes + 1) ∷ []) e ≡ is_some (size_in all e)
      here z =
          subst (λ (k : ℕ). contains_number (y.extents ++ (length shapes + 1) ∷ []) k ≡ is_some (size_in all k)) z
          (contains_more y.extents (length shapes + 1) (length shapes + 1)
          ∙ ap (λ (c : Bool). contains_number y.extents (length shapes + 1) || c) (same_number (length shapes + 1))
          ∙ left (contains_number y.extents (length shapes + 1))
          ∙ sym (ap (λ (o : Option ℕ). is_some o) new_size))

      there : length shapes + 1 ≢ e → contains_number (y.extents ++ (length shapes + 1) ∷ []) e ≡ is_some (size_in all e)
      there z =
          contains_more y.extents (length shapes + 1) e
          ∙ ap (λ (c : Bool). contains_number y.extents e || c) (not_that (length shapes + 1) e (λ q. z (sym q)))
          ∙ or_false (contains_number y.extents e)
          ∙ b.listed e
          ∙ sym (ap (λ (o : Option ℕ). is_some o) (old_size e (λ q. z (sym q))))

  -- an old part
  old_lies : (o : Part) → LiesIn shapes o → LiesIn all o
  old_lies o h =
      let last = h.last in
      record {
        first = h.first;
        last = omega (arith, last, length-append shapes (new ∷ []));
        small = h.small;
        within = λ k e. h.within k (sym (old_size o.extent (λ q. absurd (omega (arith, q, last)))) ∙ e);
      }

  -- the new one
  new_lies : size < 2 ^ 31 → LiesIn all (whole_of (length shapes + 1) size)
  new_lies l =
      record {
        first = omega arith;
        last = omega (arith, length-append shapes (new ∷ []));
        small = l;
        within = λ k e. let z : size ≡ k = same (sym new_size ∙ e) in omega (arith, z);
      }
    where
      same : {k : ℕ} → Some size ≡ Some k → size ≡ k
      same q = cc

  -- all goes together with a new extent
  pub backed_root : IsBacked y shapes flags → size < 2 ^ 31 → AreTaken (with_run flags at n true) at n → IsBacked (with_root y d (length shapes + 1) size) all (with_run flags at n true)
  backed_root b small given =
      record {
        count = omega (arith, length-append y.parts (whole ∷ []), length-append y.records (new_record d ∷ []), b.count);
        made = omega (arith, length-append y.parts (whole ∷ []), length-append shapes (new ∷ []), b.made);
        listed = listed b;
        parts = λ m o h. elim (numbered_split y.parts (whole ∷ []) m o h) [ inl q ↦ old_lies o (b.parts m o q) | inr q ↦ subst (LiesIn all) (get_one whole q.0 o q.2) (new_lies small) ];
        used = λ m o r h k u. elim (numbered_split y.parts (whole ∷ []) m o h) [
          | inl q ↦ old m o r q (numbered_split y.records (new_record d ∷ []) m r k) u
          | inr q ↦ subst (λ (p : Part). IsSome (size_in all p.extent)) (get_one whole q.0 o q.2) (subst IsSome (sym new_size) refl)
        ];
        taken = λ e s h k. elim (same_or_not e (length shapes + 1)) [ inl z ↦ mine e s h z | inr z ↦ still_taken flags at n s.run.0 s.run.1 (b.taken e s (sym (numbered_other shapes new e z) ∙ h) k) ];
      }
    where
      whole : Part
      whole = whole_of (length shapes + 1) size

      old : (m : ℕ) (o : Part) (r : ObjectRecord) → numbered y.parts m ≡ Some o → (numbered y.records m ≡ Some r) ⊎ ((k : ℕ) × (m ≡ length y.records + k + 1) × (slice_get (new_record d ∷ []) k ≡ Some r)) → is_record_used r ≡ true → IsSome (size_in all o.extent)
      old m o r h (inl q) u =
          let last = (b.parts m o h).last in
          subst IsSome (sym (old_size o.extent (λ z. absurd (omega (arith, z, last))))) (b.used m o r h q u)
      old m o r h (inr q) u = absurd (omega (arith, q.1, (numbered_within y.parts m o h).1, b.count))

      mine : (e : ℕ) (s : Shape) → numbered all e ≡ Some s → e ≡ length shapes + 1 → AreTaken (with_run flags at n true) s.run.0 s.run.1
      mine e s h z =
          let last : Some new ≡ Some s = sym (numbered_last shapes new) ∙ ap (numbered all) (sym z) ∙ h in
          let same : new ≡ s = cc in
          subst (λ (t : Shape). AreTaken (with_run flags at n true) t.run.0 t.run.1) same given

-- ---- the place

-- what is known of the least place
pub free_run : (flags : List Bool) (n at : ℕ) → Some at ≡ least_free (is_taken flags) n (length flags + 1 - n) 0 → IsFirstFree (is_taken flags) n 0 (0 + (length flags + 1 - n)) at
free_run flags n at h = least_is_first (is_taken flags) n (length flags + 1 - n) 0 at (sym h)

-- it ends among the granules
pub free_end : (flags : List Bool) (n at : ℕ) → Some at ≡ least_free (is_taken flags) n (length flags + 1 - n) 0 → at + n ≤ length flags
free_end flags n at h = omega (arith, (free_run flags n at h).high)

-- no extent with bytes has granules there
pub free_clear : (y : ObjectsState) (es : List ExtentRecord) (flags : List Bool) (n at : ℕ) → IsBacked y (shapes_of es) flags → Some at ≡ least_free (is_taken flags) n (length flags + 1 - n) 0 → IsClear es (at, n)
free_clear y es flags n at b h e item q s g l u low high =
    let t = b.taken e (shape_of item) (numbered_map shape_of es e ∙ ap (option_map shape_of) q) (some item.bytes s) g l u in
    let f = (free_run flags n at h).free g low high in
    let z : true ≡ false = sym t ∙ f in absurd cc
  where
    some : (o : Option (List ℕ)) → IsSome o → IsSome (option_map length o)
    some None k = absurd cc
    some (Some bytes) k = refl

-- an extent of a byte has a granule
pub some_granules : (size n : ℕ) → n ≡ extent_granules size → 1 ≤ size → 0 < n
unfolding extent_granules parts_of granule_bytes
some_granules size n e l = by size n e l
  where
    by : (k m : ℕ) → m ≡ (k + (64 - 1)) / 64 → 1 ≤ k → 0 < m
    by k m e l = omega (arith, e, l)

-- all goes together once it is made
pub space_root : (x : Inside) (objects : ObjectsState) (es : ExtentsState) (pool : List Bool) (d size at n : ℕ) → IsSpace x → size < 2 ^ 31 → n ≡ extent_granules size →
    AreTaken pool at n → pool ≡ with_run x.pool at n true → es ≡ record x.extents { items = x.extents.items ++ zeros at size ∷ [] } →
    objects ≡ with_root x.objects d (length x.extents.items + 1) size → IsSpace (record { objects = objects; extents = es; pool = pool })
space_root x objects es pool d size at n inv small g given p q r =
    let olds : List Shape = shapes_of x.extents.items in
    let shape : Shape = record { run = (at, n); size = Some size } in
    let last : shape_of (zeros at size) ≡ shape =
    ap2 (λ (k m : ℕ). let z : Shape = record { run = (at, k); size = Some m } in z) (sym g) (length-replicate size 0)
    in
    let shapes : shapes_of es.items ≡ olds ++ shape ∷ [] =
    ap (λ (z : ExtentsState). shapes_of z.items) q ∙ map-append shape_of x.extents.items (zeros at size ∷ []) ∙ ap (λ (s : Shape). olds ++ s ∷ []) last
    in
    let many : length olds ≡ length x.extents.items = length-map x.extents.items shape_of in
    let made : objects ≡ with_root x.objects d (length olds + 1) size = r ∙ ap (λ (k : ℕ). with_root x.objects d (k + 1) size) (sym many) in
    let run : AreTaken (with_run x.pool at n true) at n = subst (λ (bs : List Bool). AreTaken bs at n) p given in
    record {
      granules = ap (λ (z : ExtentsState). z.granules) q ∙ inv.granules ∙ sym (ap (λ (bs : List Bool). length bs) p ∙ length_run x.pool at n true);
      backed =
          subst (λ (z : ObjectsState). IsBacked z (shapes_of es.items) pool) (sym made)
          (subst (λ (ss : List Shape). IsBacked (with_root x.objects d (length olds + 1) size) ss pool) (sym shapes)
          (subst (λ (bs : List Bool). IsBacked (with_root x.objects d (length olds + 1) size) (olds ++ shape ∷ []) bs) (sym p)
          (backed_root x.objects olds x.pool d size at n inv.backed small run)));
    }

-- ---- the reply

-- a place that there is, or not
pub made_reply : (y : ObjectsState) (flags : List Bool) (n at : ℕ) → Some at ≡ least_free (is_taken flags) n (length flags + 1 - n) 0 →
    reply.Made (next_object y 1) at ≡ given_or (least_free (is_taken flags) n (length flags + 1 - n) 0) refusal.NoRoom (λ a. reply.Made (next_object y 1) a)
unfolding given_or
made_reply y flags n at h = ap (λ (o : Option ℕ). given_or o refusal.NoRoom (λ a. reply.Made (next_object y 1) a)) h

pub no_room : (y : ObjectsState) (flags : List Bool) (n : ℕ) → None ≡ least_free (is_taken flags) n (length flags + 1 - n) 0 →
    reply.Refused refusal.NoRoom ≡ given_or (least_free (is_taken flags) n (length flags + 1 - n) 0) refusal.NoRoom (λ a. reply.Made (next_object y 1) a)
unfolding given_or
no_room y flags n h = ap (λ (o : Option ℕ). given_or o refusal.NoRoom (λ a. reply.Made (next_object y 1) a)) h

-- what is known of an allocation
pub record IsAllocation (z : ℤ) (size : ℕ) : Type 0 where
  pub fits : is_positive_up_to allocation_limit z ≡ true
  pub number : size ≡ not_below_zero z
  pub some : 1 ≤ size
  pub small : size < 2 ^ 31

pub is_allocation : (z : ℤ) (size : ℕ) → Some size ≡ allocation z → IsAllocation z size
unfolding is_positive_up_to allocation_limit not_below_zero
is_allocation (pos n) size h = by (nat_le 1 n && nat_le n 1048576) refl h
  where
    by : (b : Bool) → (nat_le 1 n && nat_le n 1048576) ≡ b → Some size ≡ (if b then Some n else None) → IsAllocation (pos n) size
    by false q k = cc
    by true q k =
        let z : size ≡ n = cc in
        let low : 1 ≤ n = grind (arith, nat_tests) in
        let high : n ≤ 1048576 = grind (arith, nat_tests) in
        record { fits = q; number = z; some = omega (arith, z, low); small = omega (arith, z, high) }
is_allocation (negsuc n) size h = cc

pub no_allocation : (z : ℤ) → None ≡ allocation z → is_positive_up_to allocation_limit z ≡ false
no_allocation z h = by (is_positive_up_to allocation_limit z) h
  where
    by : (b : Bool) → None ≡ (if b then Some (not_below_zero z) else None) → b ≡ false
    by false q = refl
    by true q = cc

-- the replies to an allocation
pub out_of_range : (x : SpaceState) (z : ℤ) → is_positive_up_to allocation_limit z ≡ false → reply.Refused refusal.Range ≡ allocated_in x z
unfolding ◌refuses◌else◌
out_of_range x z h =
    let rest : Reply = lacks_in (objects_in x) 1 refuses refusal.TooMany else given_or (room_in x (extent_granules (not_below_zero z))) refusal.NoRoom (λ at. reply.Made (next_object (objects_in x) 1) at) in
    sym (ap (λ (b : Bool). if not b then reply.Refused refusal.Range else rest) h)

pub in_range : (x : SpaceState) (z : ℤ) (b : Bool) → is_positive_up_to allocation_limit z ≡ true → lacks_in (objects_in x) 1 ≡ b →
    (if b then reply.Refused refusal.TooMany else given_or (room_in x (extent_granules (not_below_zero z))) refusal.NoRoom (λ at. reply.Made (next_object (objects_in x) 1) at)) ≡ allocated_in x z
unfolding ◌refuses◌else◌
in_range x z b h k =
    let rest : Reply = given_or (room_in x (extent_granules (not_below_zero z))) refusal.NoRoom (λ at. reply.Made (next_object (objects_in x) 1) at) in
    ap (λ (c : Bool). if c then reply.Refused refusal.TooMany else rest) (sym k)
    ∙ sym (ap (λ (c : Bool). if not c then reply.Refused refusal.Range else if lacks_in (objects_in x) 1 then reply.Refused refusal.TooMany else rest) h)
