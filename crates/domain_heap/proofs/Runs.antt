-- Objects in a run of cells: where they lie, and what a longer run or another cell makes of them.
use Rattle.std.proofs.Common.{◌≡◌, refl, sym, ◌∙◌, ap, subst, ℕ, suc, zero, ◌+◌, ◌-◌, ◌<◌, ◌≤◌, List, [], ◌∷◌, ◌++◌, length, take, drop, map, set, Option, Some, None, arith, slice_get, get_or, length-drop, option_map}
use Rattle.std.proofs.lemmas.Bool.Decides.{nat_tests}
use Rattle.std.specs.Prelude.{replicate, nat_le, if◌then◌else◌, Bool, true}
use Rattle.jx_base.specs.declared.value.Value.TheVariants as value
use Rattle.std.proofs.lemmas.List.{length-map, take_all, map_push, length-replicate, drop-append-le, take-append-le, take-set-le, drop-set-lt, drop-set-add, length-take-le, drop_at}
use Rattle.std.proofs.lemmas.Option.{slice_get-map, slice_get_read}
use Rattle.jx_base.specs.declared.ids.ClassId.{ClassId}
use Rattle.jx_base.specs.declared.value.Value.{Value}
use Rattle.program_model.specs.Parcels.{HeapObject, cells_at}
use Rattle.domain_heap.specs.declared.heap.Place.{Place}
use Rattle.domain_heap.specs.declared.heap.Heap.TheInside.{Inside}
use Rattle.domain_heap.specs.Heaps.{HeapState, object_with, with_cell, has_room, with_object}
use Rattle.domain_heap.specs.Layout.{object_of, LaidOut, heap_state, IsHeap}

-- ---- where objects lie

pub laid_end : (from : ℕ) (places : List Place) (total : ℕ) → LaidOut from places total → from ≤ total
laid_end from [] total h = omega (arith, h)
laid_end from (p ∷ places) total h = omega (arith, laid_end (from + p.count) places total h.1)

-- an object lies behind the place where the run begins, and before its end
pub laid_at : (from : ℕ) (places : List Place) (total : ℕ) → LaidOut from places total → (r : ℕ) (p : Place) → slice_get places r ≡ Some p →
    (from ≤ p.at) × (p.at + p.count ≤ total)
laid_at from [] total h r p e = cc
laid_at from (q ∷ places) total h zero p e =
    let same : q ≡ p = cc in
    subst (λ (z : Place). (from ≤ z.at) × (z.at + z.count ≤ total)) same
    (omega (arith, h.0), omega (arith, h.0, laid_end (from + q.count) places total h.1))
laid_at from (q ∷ places) total h (suc r) p e =
    let later = laid_at (from + q.count) places total h.1 r p e in (omega (arith, later.0), later.1)

pub laid_more : (from : ℕ) (places : List Place) (total : ℕ) (c : ClassId) (n : ℕ) → LaidOut from places total →
    LaidOut from (places ++ record { class = c; at = total; count = n } ∷ []) (total + n)
laid_more from [] total c n h = (sym h, ap (λ (x : ℕ). x + n) h)
laid_more from (p ∷ places) total c n h = (h.0, laid_more (from + p.count) places total c n h.1)

-- ---- a longer run

part_stays : {A : Type 0} (at count : ℕ) (xs ys : List A) → at + count ≤ length xs → take count (drop at (xs ++ ys)) ≡ take count (drop at xs)
part_stays at count xs ys l =
    ap (take count) (drop-append-le at xs ys (omega (arith, l)))
    ∙ take-append-le count (drop at xs) ys (omega (arith, l, length-drop at xs))

pub objects_more : (from : ℕ) (places : List Place) (cells new : List Value) → LaidOut from places (length cells) →
    map (object_of (cells ++ new)) places ≡ map (object_of cells) places
objects_more from [] cells new h = refl
objects_more from (p ∷ places) cells new h =
    let l : p.at + p.count ≤ length cells = omega (arith, h.0, laid_end (from + p.count) places (length cells) h.1) in
    let e = part_stays p.at p.count cells new l in
    let object : HeapObject = record { class = p.class; cells = take p.count (drop p.at cells) } in
    ap (λ (xs : List Value). (record { class = p.class; cells = xs }) ∷ map (object_of (cells ++ new)) places) e
    ∙ ap (λ (os : List HeapObject). object ∷ os) (objects_more (from + p.count) places cells new h.1)

-- ---- another value in a cell

take_set : {A : Type 0} (n i : ℕ) (xs : List A) (v : A) → i < n → take n (set xs i v) ≡ set (take n xs) i v
take_set zero i xs v l = absurd (omega (arith, l))
take_set (suc n) i [] v l = refl
take_set (suc n) zero (x ∷ xs) v l = refl
take_set (suc n) (suc i) (x ∷ xs) v l = ap (λ (ys : List _). x ∷ ys) (take_set n i xs v (omega (arith, l)))

-- of objects behind the cell nothing changes
set_before : (from : ℕ) (places : List Place) (cells : List Value) (total k : ℕ) (v : Value) → LaidOut from places total → k < from →
    map (object_of (set cells k v)) places ≡ map (object_of cells) places
set_before from [] cells total k v h l = refl
set_before from (p ∷ places) cells total k v h l =
    let below : k < p.at = omega (arith, l, h.0) in
    let e = drop-set-lt p.at cells k v below in
    let object : HeapObject = record { class = p.class; cells = take p.count (drop p.at cells) } in
    ap (λ (xs : List Value). (record { class = p.class; cells = take p.count xs }) ∷ map (object_of (set cells k v)) places) e
    ∙ ap (λ (os : List HeapObject). object ∷ os) (set_before (from + p.count) places cells total k v h.1 (omega (arith, l)))

part_before : {A : Type 0} (at count k : ℕ) (xs : List A) (v : A) → at + count ≤ k → take count (drop at (set xs k v)) ≡ take count (drop at xs)
part_before at count k xs v l =
    let e : at + (k - at) ≡ k = omega arith in
    ap (λ (j : ℕ). take count (drop at (set xs j v))) (sym e)
    ∙ ap (take count) (drop-set-add at xs (k - at) v)
    ∙ take-set-le count (drop at xs) (k - at) v (omega (arith, l))

pub objects_set : (from : ℕ) (places : List Place) (cells : List Value) (total : ℕ) → LaidOut from places total →
    (r : ℕ) (p : Place) (i : ℕ) (v : Value) → slice_get places r ≡ Some p → i < p.count →
    map (object_of (set cells (p.at + i) v)) places ≡ set (map (object_of cells) places) r (object_with (object_of cells p) i v)
objects_set from [] cells total h r p i v e l = cc
objects_set from (q ∷ places) cells total h zero p i v e l =
    let same : q ≡ p = cc in
    subst (λ (z : Place). map (object_of (set cells (z.at + i) v)) (q ∷ places) ≡ set (map (object_of cells) (q ∷ places)) 0 (object_with (object_of cells z) i v)) same
    (ap (λ (xs : List Value). (record { class = q.class; cells = xs }) ∷ map (object_of (set cells (q.at + i) v)) places)
    (ap (take q.count) (drop-set-add q.at cells i v) ∙ take_set q.count i (drop q.at cells) v (subst (λ (z : Place). i < z.count) (sym same) l))
    ∙ ap (λ (os : List HeapObject). object_with (object_of cells q) i v ∷ os)
    (set_before (from + q.count) places cells total (q.at + i) v h.1 (omega (arith, h.0, subst (λ (z : Place). i < z.count) (sym same) l))))
objects_set from (q ∷ places) cells total h (suc r) p i v e l =
    let later = laid_at (from + q.count) places total h.1 r p e in
    let object : HeapObject = record { class = q.class; cells = take q.count (drop q.at cells) } in
    ap (λ (xs : List Value). (record { class = q.class; cells = xs }) ∷ map (object_of (set cells (p.at + i) v)) places)
    (part_before q.at q.count (p.at + i) cells v (omega (arith, h.0, later.0)))
    ∙ ap (λ (os : List HeapObject). object ∷ os) (objects_set (from + q.count) places cells total h.1 r p i v e l)

-- ---- the objects of a run

pub object_at : (places : List Place) (cells : List Value) (r : ℕ) (p : Place) → slice_get places r ≡ Some p →
    slice_get (map (object_of cells) places) r ≡ Some (object_of cells p)
object_at places cells r p e = slice_get-map (object_of cells) places r ∙ ap (option_map (object_of cells)) e

pub cells_of_place : (places : List Place) (cells : List Value) (r : ℕ) (p : Place) → slice_get places r ≡ Some p →
    cells_at (map (object_of cells) places) r ≡ take p.count (drop p.at cells)
unfolding cells_at
cells_of_place places cells r p e =
    ap (λ (o : Option HeapObject). elim o as (λ _. List Value) [ None ↦ [] | Some x ↦ x.cells ]) (object_at places cells r p e)

pub count_of_place : (places : List Place) (cells : List Value) (total : ℕ) → LaidOut 0 places (length cells) → (r : ℕ) (p : Place) → slice_get places r ≡ Some p →
    length (cells_at (map (object_of cells) places) r) ≡ p.count
count_of_place places cells total h r p e =
    let at = laid_at 0 places (length cells) h r p e in
    ap length (cells_of_place places cells r p e) ∙ length-take-le p.count (drop p.at cells) (omega (arith, at.1, length-drop p.at cells))

-- a cell is a cell of an object
pub has_object : (objects : List HeapObject) (r i : ℕ) → i < length (cells_at objects r) → r < length objects
unfolding cells_at
has_object [] r i l = absurd (omega (arith, l))
has_object (o ∷ objects) zero i l = omega arith
has_object (o ∷ objects) (suc r) i l = omega (arith, has_object objects r i l)

pub with_cell_at : (objects : List HeapObject) (r i : ℕ) (v : Value) (o : HeapObject) → slice_get objects r ≡ Some o →
    with_cell objects r i v ≡ set objects r (object_with o i v)
unfolding with_cell
with_cell_at objects r i v o e =
    ap (λ (x : Option HeapObject). elim x as (λ _. List HeapObject) [ None ↦ objects | Some o ↦ set objects r (object_with o i v) ]) e

-- ---- an opened heap

module _ (h : Inside) (state : HeapState) (is : heap_state h ≡ state) where
  pub same_objects : map (object_of h.cells.items) h.places.items ≡ state.objects
  same_objects = ap (λ (s : HeapState). s.objects) is

  pub same_count : length h.places.items ≡ length state.objects
  same_count = sym (length-map h.places.items (object_of h.cells.items)) ∙ ap length same_objects

  -- what was read is the object's place
  pub read_place : (r : ℕ) (p : Place) → r < length state.objects → p ≡ get_or h.places.items r p → slice_get h.places.items r ≡ Some p
  read_place r p l e = slice_get_read h.places.items (length h.places.items) r p refl (omega (arith, l, same_count)) e

  pub read_cells : (r : ℕ) (p : Place) → slice_get h.places.items r ≡ Some p → cells_at state.objects r ≡ take p.count (drop p.at h.cells.items)
  read_cells r p e = ap (λ (os : List HeapObject). cells_at os r) (sym same_objects) ∙ cells_of_place h.places.items h.cells.items r p e

  pub read_count : IsHeap h → (r : ℕ) (p : Place) → slice_get h.places.items r ≡ Some p → length (cells_at state.objects r) ≡ p.count
  read_count i r p e =
      ap (λ (os : List HeapObject). length (cells_at os r)) (sym same_objects) ∙ count_of_place h.places.items h.cells.items (length h.cells.items) i.laid r p e

-- ---- one more object

module _ (places new : List Place) (c : ClassId) (at total n : ℕ) where
  pub more_places : new ≡ places ++ (record { class = c; at = at; count = n }) ∷ [] → at ≡ total → new ≡ places ++ (record { class = c; at = total; count = n }) ∷ []
  more_places e h = e ∙ ap (λ (x : ℕ). places ++ (record { class = c; at = x; count = n }) ∷ []) h

pub more_cells : (cells new : List Value) (at len n : ℕ) → new ≡ take (at + n) cells ++ replicate (at + n - len) value.Null → at ≡ length cells → len ≡ length cells →
    new ≡ cells ++ replicate n value.Null
more_cells cells new at len n e h k =
    let all : length cells ≤ at + n = omega (arith, h) in
    let rest : at + n - len ≡ n = omega (arith, h, k) in
    e ∙ ap (λ (xs : List Value). xs ++ replicate (at + n - len) value.Null) (take_all (at + n) cells all)
    ∙ ap (λ (x : ℕ). cells ++ replicate x value.Null) rest

pub laid_longer : (places new : List Place) (total length_new : ℕ) (c : ClassId) (n : ℕ) → LaidOut 0 places total →
    new ≡ places ++ (record { class = c; at = total; count = n }) ∷ [] → length_new ≡ total + n → LaidOut 0 new length_new
laid_longer places new total length_new c n h e k =
    subst (λ (x : ℕ). LaidOut 0 new x) (sym k) (subst (λ (ps : List Place). LaidOut 0 ps (total + n)) (sym e) (laid_more 0 places total c n h))

last_object : (places : List Place) (cells : List Value) (c : ClassId) (n : ℕ) → LaidOut 0 places (length cells) →
    map (object_of (cells ++ replicate n value.Null)) (places ++ (record { class = c; at = length cells; count = n }) ∷ [])
    ≡ map (object_of cells) places ++ (record { class = c; cells = replicate n value.Null }) ∷ []
last_object places cells c n h =
    let run = cells ++ replicate n value.Null in
    let e : take n (drop (length cells) run) ≡ replicate n value.Null =
    ap (take n) (drop_at cells (replicate n value.Null) (length cells) refl)
    ∙ take_all n (replicate n value.Null) (omega (arith, length-replicate n value.Null)) in
    map_push (object_of run) places (record { class = c; at = length cells; count = n })
    ∙ ap (λ (os : List HeapObject). os ++ object_of run (record { class = c; at = length cells; count = n }) ∷ []) (objects_more 0 places cells (replicate n value.Null) h)
    ∙ ap (λ (xs : List Value). map (object_of cells) places ++ (record { class = c; cells = xs }) ∷ []) e

pub made_heap : (places new : List Place) (cells run : List Value) (state : HeapState) (c : ClassId) (n left : ℕ) → LaidOut 0 places (length cells) →
    new ≡ places ++ (record { class = c; at = length cells; count = n }) ∷ [] → run ≡ cells ++ replicate n value.Null →
    map (object_of cells) places ≡ state.objects → left ≡ state.left → n + 2 ≤ state.left →
    ◌≡◌ {A = HeapState} (record { objects = map (object_of run) new; left = left - (n + 2) }) (if has_room state n then with_object state c n else state)
made_heap places new cells run state c n left laid p q os l room =
    let is_room : nat_le (n + 2) state.left ≡ true = grind (arith, nat_tests) in
    let objects : map (object_of run) new ≡ state.objects ++ (record { class = c; cells = replicate n value.Null }) ∷ [] =
    ap (λ (xs : List Value). map (object_of xs) new) q
    ∙ ap (map (object_of (cells ++ replicate n value.Null))) p
    ∙ last_object places cells c n laid
    ∙ ap (λ (xs : List HeapObject). xs ++ (record { class = c; cells = replicate n value.Null }) ∷ []) os in
    let whole : ◌≡◌ {A = HeapState} (record { objects = map (object_of run) new; left = left - (n + 2) }) (with_object state c n) =
    λ j. record { objects = objects j; left = l j - (n + 2) } in
    whole ∙ sym (ap (λ (b : Bool). if b then with_object state c n else state) is_room)
