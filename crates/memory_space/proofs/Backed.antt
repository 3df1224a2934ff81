-- Objects, extents and granules that go together, and what is known of a place in an object.
use Rattle.std.proofs.Common.{◌≡◌, refl, sym, ◌∙◌, ap, subst, arith, ℕ, zero, suc, ◌+◌, ◌-◌, ◌≤◌, ◌<◌, Bool, true, false, not, ◌&&◌, ◌||◌, List, [], ◌∷◌, length, map, take, drop, ◌==◌, slice_get, Option, Some, None, Result, Ok, Err, is_some, if◌then◌else◌}
use Rattle.std.specs.Prelude.{IsSome, IsSomeAnd, ℤ, pos, negsuc, nat_le, nat_lt}
use Rattle.std.specs.List.{list_any}
use Rattle.std.specs.Option.{option_and_then, option_map, unwrap_or}
use Rattle.std.proofs.lemmas.Bool.Decides.{nat_tests}
use Rattle.std.proofs.lemmas.List.{get_or_past, length-drop, length-take-le}
use Rattle.std.proofs.lemmas.List.FromFn.{get_or-map-range_with_len, length-map-range_with_len}
use Rattle.std.proofs.lemmas.Option.{slice_get-map}
use Rattle.jx_base.specs.declared.act.Refusal.{Refusal}
use Rattle.jx_base.specs.declared.act.Refusal.TheVariants as refusal
use Rattle.jx_base.specs.declared.act.Reply.{Reply}
use Rattle.jx_base.specs.declared.act.Reply.TheVariants as reply
use Rattle.jx_base.specs.Basics.{contains_number, not_below_zero, numbered, passes}
use Rattle.jx_base.proofs.BasicLaws.{ap2, passed}
use Rattle.extent_pool.specs.Taken.{AreTaken, is_taken, with_run}
use Rattle.jx_model.specs.Granules.{Run, lies_in}
use Rattle.jx_model.specs.MemoryObjects.{Part}
use Rattle.jx_model.specs.Replies.{◌refuses◌else◌, done_within, is_within, number_reply}
use Rattle.jx_model.specs.Tables.{ExtentRecord, ObjectRecord}
use Rattle.table_extents.specs.ExtentChanges.{written}
use Rattle.table_reads.specs.TableReads.{flag_at}
use Rattle.table_steps.specs.Steps.{is_record_used, written_extent}
use Rattle.table_threads.specs.Changes.{changed_at, is_set}
use Rattle.region_bytes.proofs.Splices.{length_written}
use Rattle.memory_objects.proofs.HeldParts.{IsHeld, is_held}
use Rattle.memory_objects.specs.ObjectLists.{ObjectsState, and_given, held_part, place_within, replied}
use Rattle.memory_space.specs.declared.space.Space.TheInside.{Inside}
use Rattle.memory_space.specs.Backing.{IsBacked, IsSpace, Shape, shape_of, shapes_of, size_in}
use Rattle.memory_space.specs.ExtentLists.{AreDisjoint, ExtentsState, IsClear, LieWithin, bytes_in, number_in, with_written}
use Rattle.memory_space.specs.SpaceLists.{read_in}
use Rattle.region_bytes.specs.Extents.{number_of, number_read}
use Rattle.std.specs.Int.{cast_signed, w32}
use Rattle.memory_space.proofs.Forgotten.{change_shown}

-- ---- shapes

-- what a list shows at a number
pub numbered_map : {A B : Type 0} (f : A → B) (xs : List A) (m : ℕ) → numbered (map f xs) m ≡ option_map f (numbered xs m)
unfolding numbered
numbered_map f xs zero = refl
numbered_map f xs (suc i) = slice_get-map f xs i

-- the bytes of an extent by its shape
pub size_shown : (es : List ExtentRecord) (e : ℕ) → size_in (shapes_of es) e ≡ option_map length (bytes_in es e)
size_shown es e = ap (λ (o : Option Shape). option_and_then (λ s. s.size) o) (numbered_map shape_of es e) ∙ by (numbered es e)
  where
    by : (o : Option ExtentRecord) → option_and_then (λ (s : Shape). s.size) (option_map shape_of o) ≡ option_map length (option_and_then (λ (item : ExtentRecord). item.bytes) o)
    by None = refl
    by (Some item) = refl

-- within as many bytes as there are
pub lie_within : (es : List ExtentRecord) (e at count n : ℕ) → size_in (shapes_of es) e ≡ Some n → at + count ≤ n → LieWithin es e at count
lie_within es e at count n h l = by (bytes_in es e) (sym (size_shown es e) ∙ h)
  where
    by : (o : Option (List ℕ)) → option_map length o ≡ Some n → IsSomeAnd o (λ bytes. at + count ≤ length bytes)
    by None q = cc
    by (Some bytes) q = let k : length bytes ≡ n = cc in omega (arith, l, k)

-- an extent with a shape
pub shape_from : (es : List ExtentRecord) (e : ℕ) (s : Shape) → numbered (shapes_of es) e ≡ Some s → (item : ExtentRecord) × (numbered es e ≡ Some item) × (shape_of item ≡ s)
shape_from es e s h = by (numbered es e) refl (sym (numbered_map shape_of es e) ∙ h)
  where
    by : (o : Option ExtentRecord) → numbered es e ≡ o → option_map shape_of o ≡ Some s → (item : ExtentRecord) × (numbered es e ≡ Some item) × (shape_of item ≡ s)
    by None q g = cc
    by (Some item) q g = (item, q, cc)

-- a change of nothing
changed_none : {A : Type 0} (i : ℕ) (xs : List A) → changed_at i (λ x. x) xs ≡ xs
changed_none i [] = refl
changed_none zero (x ∷ xs) = refl
changed_none {A} (suc i) (x ∷ xs) = ap (λ (ys : List A). x ∷ ys) (changed_none i xs)

-- bytes that are written leave the shapes
pub shapes_written : (es : List ExtentRecord) (e at count : ℕ) (f : ℕ → ℕ) → shapes_of (with_written es e at count f) ≡ shapes_of es
shapes_written es e at count f =
    change_shown shape_of (written_extent at count f) (λ s. s) (e - 1) es (λ item. ap (λ (o : Option ℕ). let z : Shape = record { run = item.run; size = o } in z) (by item.bytes))
    ∙ changed_none (e - 1) (shapes_of es)
  where
    by : (o : Option (List ℕ)) → option_map length (option_map (written 0 at count f) o) ≡ option_map length o
    by None = refl
    by (Some bytes) = ap (λ (n : ℕ). Some n) (length_written at count f 0 bytes)

-- ---- granules

-- whether a granule is taken once a run is
pub taken_after : (flags : List Bool) (at n : ℕ) (b : Bool) (g : ℕ) → g < length flags → is_taken (with_run flags at n b) g ≡ (if lies_in g (at, n) then b else is_taken flags g)
taken_after flags at n b g l = get_or-map-range_with_len (λ k. if lies_in k (at, n) then b else is_taken flags k) 0 (length flags) g g false l (omega arith)

pub length_run : (flags : List Bool) (at n : ℕ) (b : Bool) → length (with_run flags at n b) ≡ length flags
length_run flags at n b = length-map-range_with_len (λ k. if lies_in k (at, n) then b else is_taken flags k) 0 (length flags)

-- a taken granule is one of them
pub taken_below : (flags : List Bool) (g : ℕ) → is_taken flags g ≡ true → g < length flags
taken_below flags g h = by (nat_lt g (length flags)) refl
  where
    by : (b : Bool) → nat_lt g (length flags) ≡ b → g < length flags
    by true q = grind (arith, nat_tests)
    by false q = let l : length flags ≤ g = grind (arith, nat_tests) in let f = get_or_past flags g false l in absurd cc

-- granules stay taken where others are
pub still_taken : (flags : List Bool) (at n a k : ℕ) → AreTaken flags a k → AreTaken (with_run flags at n true) a k
still_taken flags at n a k h g l u = taken_after flags at n true g (taken_below flags g (h g l u)) ∙ by (lies_in g (at, n)) (h g l u)
  where
    by : (b : Bool) → is_taken flags g ≡ true → (if b then true else is_taken flags g) ≡ true
    by true q = refl
    by false q = q

-- and where others are given back
pub still_given : (flags : List Bool) (at n a k : ℕ) → AreTaken flags a k → AreDisjoint (a, k) (at, n) → AreTaken (with_run flags at n false) a k
unfolding lies_in
still_given flags at n a k h d g l u = taken_after flags at n false g (taken_below flags g (h g l u)) ∙ by (nat_le at g && nat_lt g (at + n)) refl (h g l u)
  where
    by : (b : Bool) → (nat_le at g && nat_lt g (at + n)) ≡ b → is_taken flags g ≡ true → (if b then false else is_taken flags g) ≡ true
    by true q e =
        let low : at ≤ g = grind (arith, nat_tests) in
        let high : g < at + n = grind (arith, nat_tests) in
        absurd (d g l u low high)
    by false q e = e

-- all goes together also where granules are taken
pub backed_taken : (y : ObjectsState) (shapes : List Shape) (flags : List Bool) (at n : ℕ) → IsBacked y shapes flags → IsBacked y shapes (with_run flags at n true)
backed_taken y shapes flags at n b =
    record {
      count = b.count;
      made = b.made;
      listed = b.listed;
      parts = b.parts;
      used = b.used;
      taken = λ e s p q. still_taken flags at n s.run.0 s.run.1 (b.taken e s p q);
    }

-- and where granules are given back that no extent with bytes has
pub backed_given : (y : ObjectsState) (es : List ExtentRecord) (flags : List Bool) (at n : ℕ) → IsClear es (at, n) → IsBacked y (shapes_of es) flags → IsBacked y (shapes_of es) (with_run flags at n false)
backed_given y es flags at n c b =
    record {
      count = b.count;
      made = b.made;
      listed = b.listed;
      parts = b.parts;
      used = b.used;
      taken = λ e s p q. still_given flags at n s.run.0 s.run.1 (b.taken e s p q) (apart e s p q);
    }
  where
    some : (o : Option (List ℕ)) → IsSome (option_map length o) → IsSome o
    some None h = h
    some (Some bytes) h = refl

    apart : (e : ℕ) (s : Shape) → numbered (shapes_of es) e ≡ Some s → IsSome s.size → AreDisjoint s.run (at, n)
    apart e s p q =
        let f = shape_from es e s p in
        subst (λ (r : Run). AreDisjoint r (at, n)) (ap (λ (z : Shape). z.run) f.2)
        (c e f.0 f.1 (some f.0.bytes (subst (λ (z : Shape). IsSome z.size) (sym f.2) q)))

-- ---- the start

-- nothing has no number
pub no_number : {A B : Type 0} (m : ℕ) (x : A) → numbered [] m ≡ Some x → B
unfolding numbered
no_number zero x h = cc
no_number (suc zero) x h = cc
no_number (suc (suc i)) x h = cc

none_listed : (e : ℕ) → contains_number [] e ≡ is_some (size_in [] e)
unfolding numbered contains_number
none_listed zero = refl
none_listed (suc zero) = refl
none_listed (suc (suc e)) = refl

-- nothing goes together with nothing
backed_none : (flags : List Bool) → IsBacked (record { parts = []; records = []; extents = [] }) [] flags
backed_none flags =
    record {
      count = refl;
      made = omega arith;
      listed = none_listed;
      parts = λ m o h. no_number m o h;
      used = λ m o r h k u. no_number m o h;
      taken = λ e s h k. no_number e s h;
    }

pub backed_first : (y : ObjectsState) (es : ExtentsState) (flags : List Bool) (n : ℕ) → y ≡ record { parts = []; records = []; extents = [] } → es ≡ record { granules = n; items = [] } → IsBacked y (shapes_of es.items) flags
backed_first y es flags n p q =
    subst (λ (z : ObjectsState). IsBacked z (shapes_of es.items) flags) (sym p)
    (subst (λ (z : ExtentsState). IsBacked (record { parts = []; records = []; extents = [] }) (shapes_of z.items) flags) (sym q) (backed_none flags))

-- ---- writes

-- all goes together once bytes are written
pub space_written : (x : Inside) (es : ExtentsState) (e at count : ℕ) (f : ℕ → ℕ) → IsSpace x → es ≡ record x.extents { items = with_written x.extents.items e at count f } → IsSpace (record x { extents = es })
space_written x es e at count f inv h =
    record {
      granules = ap (λ (z : ExtentsState). z.granules) h ∙ inv.granules;
      backed = subst (λ (shapes : List Shape). IsBacked x.objects shapes x.pool) (sym (ap (λ (z : ExtentsState). shapes_of z.items) h ∙ shapes_written x.extents.items e at count f)) inv.backed;
    }

-- ---- held objects

-- a flag that is set
any_from : (flags : List Bool) (i : ℕ) → passes is_set (slice_get flags i) ≡ true → list_any is_set flags ≡ true
unfolding passes
any_from [] zero h = cc
any_from [] (suc i) h = cc
any_from (true ∷ flags) i h = refl
any_from (false ∷ flags) zero h = cc
any_from (false ∷ flags) (suc i) h = any_from flags i h

pub any_flag : (flags : List Bool) (d : ℕ) → flag_at flags d ≡ true → list_any is_set flags ≡ true
unfolding passes numbered
any_flag flags zero h = cc
any_flag flags (suc i) h = any_from flags i h

-- a record that is used
pub record Uses (y : ObjectsState) (m : ℕ) : Type 0 where
  pub item : ObjectRecord
  pub there : numbered y.records m ≡ Some item
  pub used : is_record_used item ≡ true

-- an object that is held and valid is used
pub held_used : (y : ObjectsState) (d m : ℕ) (o : Part) → IsHeld y d m o → Uses y m
unfolding passes
held_used y d m o h =
    let f = passed (λ (r : ObjectRecord). flag_at r.holders d) (numbered y.records m) h.held in
    let valid : f.0.valid ≡ true = sym (ap (passes (λ (r : ObjectRecord). r.valid)) f.1) ∙ h.valid in
    record {
      item = f.0;
      there = f.1;
      used = ap2 (λ (a b : Bool). a && (b || nat_lt 0 f.0.riding)) valid (any_flag f.0.holders d f.2);
    }

-- so its extent has bytes
pub held_size : (y : ObjectsState) (shapes : List Shape) (flags : List Bool) (d m : ℕ) (o : Part) → IsBacked y shapes flags → IsHeld y d m o → (n : ℕ) × (size_in shapes o.extent ≡ Some n) × (o.from + o.size ≤ n)
held_size y shapes flags d m o b h = by (size_in shapes o.extent) refl (b.used m o (held_used y d m o h).item h.part (held_used y d m o h).there (held_used y d m o h).used)
  where
    by : (s : Option ℕ) → size_in shapes o.extent ≡ s → IsSome s → (n : ℕ) × (size_in shapes o.extent ≡ Some n) × (o.from + o.size ≤ n)
    by None q k = absurd cc
    by (Some n) q k = (n, q, (b.parts m o h.part).within n q)

-- ---- places

-- what is known of a place that is found
pub record IsAt (y : ObjectsState) (d m : ℕ) (at count : ℤ) (p : ℕ × ℕ) : Type 0 where
  pub part : Part
  pub held : IsHeld y d m part
  pub known : held_part y d m ≡ Ok part
  pub within : is_within at count part.size ≡ true
  pub place : p ≡ (part.extent, part.from + not_below_zero at)

pub is_at : (y : ObjectsState) (d m : ℕ) (at count : ℤ) (p : ℕ × ℕ) → Ok p ≡ and_given (held_part y d m) (place_within at count) → IsAt y d m at count p
is_at y d m at count p h = by (held_part y d m) refl h
  where
    by : (r : Result Part Refusal) → held_part y d m ≡ r → Ok p ≡ and_given r (place_within at count) → IsAt y d m at count p
    by (Err r) q g = cc
    by (Ok o) q g = inside (is_within at count o.size) refl g
      where
        inside : (b : Bool) → is_within at count o.size ≡ b → Ok p ≡ (if b then Ok (o.extent, o.from + not_below_zero at) else Err refusal.Range) → IsAt y d m at count p
        inside false w k = cc
        inside true w k = record { part = o; held = is_held y d m o (sym q); known = q; within = w; place = cc }

-- the same place by the same numbers
pub found_at : (y : ObjectsState) (d m : ℕ) (at count a k : ℤ) (r : Result (ℕ × ℕ) Refusal) → r ≡ and_given (held_part y d m) (place_within a k) → a ≡ at → k ≡ count →
    r ≡ and_given (held_part y d m) (place_within at count)
found_at y d m at count a k r h e f = h ∙ ap2 (λ (b c : ℤ). and_given (held_part y d m) (place_within b c)) e f

-- two numbers that aren't below 0
pub record AreNumbers (at count : ℤ) (size : ℕ) : Type 0 where
  pub first : ℕ
  pub many : ℕ
  pub at_is : at ≡ pos first
  pub count_is : count ≡ pos many
  pub low : first + many ≤ size

pub are_numbers : (at count : ℤ) (size : ℕ) → is_within at count size ≡ true → AreNumbers at count size
unfolding is_within
are_numbers (pos a) (pos k) size h = record { first = a; many = k; at_is = refl; count_is = refl; low = grind (arith, nat_tests) }
are_numbers (pos a) (negsuc k) size h = cc
are_numbers (negsuc a) (pos k) size h = cc
are_numbers (negsuc a) (negsuc k) size h = cc

-- the bytes lie within the extent
pub place_lies : (y : ObjectsState) (es : List ExtentRecord) (flags : List Bool) (d m : ℕ) (at count : ℤ) (p : ℕ × ℕ) → IsBacked y (shapes_of es) flags → IsAt y d m at count p → LieWithin es p.0 p.1 (not_below_zero count)
unfolding not_below_zero
place_lies y es flags d m at count p b a =
    let s = held_size y (shapes_of es) flags d m a.part b a.held in
    let n = are_numbers at count a.part.size a.within in
    subst (λ (q : ℕ × ℕ). LieWithin es q.0 q.1 (not_below_zero count)) (sym a.place)
    (lie_within es a.part.extent (a.part.from + not_below_zero at) (not_below_zero count) s.0 s.1
    (omega (arith, n.low, s.2, ap not_below_zero n.at_is, ap not_below_zero n.count_is)))

-- ---- replies at places

-- a reply of what is done at a place
pub done_at : (y : ObjectsState) (d m : ℕ) (at count : ℤ) (p : ℕ × ℕ) → IsAt y d m at count p → reply.Done ≡ replied (held_part y d m) (done_within at count)
unfolding done_within ◌refuses◌else◌
done_at y d m at count p a =
    sym (ap (λ (r : Result Part Refusal). replied r (done_within at count)) a.known
    ∙ ap (λ (b : Bool). if not b then reply.Refused refusal.Range else reply.Done) a.within)

-- the place or the refusal
abbrev place_if : ℤ → Part → Bool → Result (ℕ × ℕ) Refusal
place_if at o b = if b then Ok (o.extent, o.from + not_below_zero at) else Err refusal.Range

-- a refusal, where what is out of range is refused so
pub refused_at : (y : ObjectsState) (d m : ℕ) (at count : ℤ) (r : Refusal) (f : Part → Reply) → Err r ≡ and_given (held_part y d m) (place_within at count) →
    ((o : Part) → is_within at count o.size ≡ false → f o ≡ reply.Refused refusal.Range) → reply.Refused r ≡ replied (held_part y d m) f
refused_at y d m at count r f h range = by (held_part y d m) h
  where
    by : (x : Result Part Refusal) → Err r ≡ and_given x (place_within at count) → reply.Refused r ≡ replied x f
    by (Err q) g = let e : r ≡ q = cc in ap (λ (z : Refusal). reply.Refused z) e
    by (Ok o) g = inside (is_within at count o.size) refl g
      where
        inside : (b : Bool) → is_within at count o.size ≡ b → Err r ≡ place_if at o b → reply.Refused r ≡ f o
        inside true w k = cc
        inside false w k = let e : r ≡ refusal.Range = cc in ap (λ (z : Refusal). reply.Refused z) e ∙ sym (range o w)

pub done_refused : (y : ObjectsState) (d m : ℕ) (at count : ℤ) (r : Refusal) → Err r ≡ and_given (held_part y d m) (place_within at count) → reply.Refused r ≡ replied (held_part y d m) (done_within at count)
unfolding done_within ◌refuses◌else◌
done_refused y d m at count r h =
    refused_at y d m at count r (done_within at count) h (λ o w. ap (λ (b : Bool). if not b then reply.Refused refusal.Range else reply.Done) w)

-- ---- reads

-- as many bytes as are read
pub read_length : (es : List ExtentRecord) (e at count : ℕ) → LieWithin es e at count → length (take count (drop at (unwrap_or (bytes_in es e) []))) ≡ count
read_length es e at count h = by (bytes_in es e) h
  where
    by : (o : Option (List ℕ)) → IsSomeAnd o (λ bytes. at + count ≤ length bytes) → length (take count (drop at (unwrap_or o []))) ≡ count
    by None q = absurd q
    by (Some bytes) q = length-take-le count (drop at bytes) (omega (arith, q, length-drop at bytes))

-- a number that is read
pub number_shown : (bytes : List ℕ) (width : ℕ) → length bytes ≡ width → reply.Number (number_read bytes) ≡ number_reply width (number_of bytes)
unfolding number_read number_reply
number_shown bytes width e =
    ap (λ (n : ℕ). reply.Number (if n == 4 then cast_signed w32 (number_of bytes) else pos (number_of bytes))) e ∙ by (width == 4)
  where
    by : (b : Bool) → reply.Number (if b then cast_signed w32 (number_of bytes) else pos (number_of bytes)) ≡ (if b then reply.Number (cast_signed w32 (number_of bytes)) else reply.Number (pos (number_of bytes)))
    by true = refl
    by false = refl

-- a reply to a read at a place
pub read_at : (y : ObjectsState) (es : List ExtentRecord) (d m : ℕ) (at : ℤ) (width : ℕ) (p : ℕ × ℕ) → IsAt y d m at (pos width) p → LieWithin es p.0 p.1 width →
    reply.Number (number_in es p.0 p.1 width) ≡ replied (held_part y d m) (read_in es at width)
unfolding ◌refuses◌else◌
read_at y es d m at width p a h =
    let bytes : ℕ → ℕ → List ℕ = λ e from. take width (drop from (unwrap_or (bytes_in es e) [])) in
    number_shown (bytes p.0 p.1) width (read_length es p.0 p.1 width h)
    ∙ ap (λ (q : ℕ × ℕ). number_reply width (number_of (bytes q.0 q.1))) a.place
    ∙ sym (ap (λ (r : Result Part Refusal). replied r (read_in es at width)) a.known
    ∙ ap (λ (b : Bool). if not b then reply.Refused refusal.Range else number_reply width (number_of (bytes a.part.extent (a.part.from + not_below_zero at)))) a.within)

pub read_refused : (y : ObjectsState) (es : List ExtentRecord) (d m : ℕ) (at : ℤ) (width : ℕ) (r : Refusal) → Err r ≡ and_given (held_part y d m) (place_within at (pos width)) →
    reply.Refused r ≡ replied (held_part y d m) (read_in es at width)
unfolding ◌refuses◌else◌
read_refused y es d m at width r h =
    refused_at y d m at (pos width) r (read_in es at width) h
    (λ o w. ap (λ (b : Bool). if not b then reply.Refused refusal.Range else number_reply width (number_of (take width (drop (o.from + not_below_zero at) (unwrap_or (bytes_in es o.extent) []))))) w)
