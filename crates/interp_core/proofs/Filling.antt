-- The cells of the newest object, filled one after the other, and a cell that is put.
use Rattle.std.proofs.Common.{◌≡◌, refl, sym, ◌∙◌, ap, subst, ℕ, zero, suc, ◌+◌, ◌-◌, ◌<◌, ◌≤◌, Bool, true, false, List, [], ◌∷◌, ◌++◌, length, take, set, replicate, Option, Some, None, arith, slice_get, append_assoc, length-append, append-nil}
use Rattle.std.specs.Prelude.{nat_le, nat_lt, if◌then◌else◌}
use Rattle.std.proofs.lemmas.Bool.Decides.{nat_tests}
use Rattle.std.proofs.lemmas.List.{set_at, take_more, length-take-le, length-replicate, take_all}
use Rattle.std.proofs.lemmas.Option.{get_or_from_slice_get, slice_get_past}
use Rattle.jx_base.specs.declared.ids.ClassId.{ClassId}
use Rattle.jx_base.specs.declared.value.Value.{Value}
use Rattle.jx_base.specs.declared.value.Value.TheVariants as value
use Rattle.program_model.specs.Parcels.{HeapObject, cells_at}
use Rattle.domain_heap.specs.Heaps as heap
use Rattle.domain_heap.specs.Heaps.{object_with}
use Rattle.machine_model.specs.State.{Store, cells_of, with_cell, new_object, new_array}
use Rattle.interp_core.specs.Making.{Makes, heap_with}

get_last : (objects : List HeapObject) (o : HeapObject) → slice_get (objects ++ o ∷ []) (length objects) ≡ Some o
get_last [] o = refl
get_last (x ∷ objects) o = get_last objects o

pub cells_last : (objects : List HeapObject) (o : HeapObject) → cells_at (objects ++ o ∷ []) (length objects) ≡ o.cells
unfolding cells_at
cells_last objects o = ap (λ (x : Option HeapObject). elim x as (λ _. List Value) [ None ↦ [] | Some o ↦ o.cells ]) (get_last objects o)

pub with_cell_last : (objects : List HeapObject) (o : HeapObject) (i : ℕ) (v : Value) → heap.with_cell (objects ++ o ∷ []) (length objects) i v ≡ objects ++ object_with o i v ∷ []
unfolding heap.with_cell
with_cell_last objects o i v =
    ap (λ (x : Option HeapObject). elim x as (λ _. List HeapObject) [ None ↦ objects ++ o ∷ [] | Some p ↦ set (objects ++ o ∷ []) (length objects) (object_with p i v) ]) (get_last objects o)
    ∙ set_at objects o [] (object_with o i v) (length objects) refl

-- the cells so far, and null for the others
abbrev pub filled : List Value → ℕ → List Value
filled xs i = take i xs ++ replicate (length xs - i) value.Null

pub length_filled : (xs : List Value) (i : ℕ) → i ≤ length xs → length (filled xs i) ≡ length xs
length_filled xs i l = omega (arith, length-append (take i xs) (replicate (length xs - i) value.Null), length-take-le i xs l, length-replicate (length xs - i) value.Null)

pub fill_more : (xs : List Value) (i : ℕ) (v : Value) → i < length xs → slice_get xs i ≡ Some v → set (filled xs i) i v ≡ filled xs (i + 1)
fill_more xs i v l e =
    let n : length xs - i ≡ suc (length xs - (i + 1)) = omega arith in
    let front = take i xs in
    let rest = replicate (length xs - (i + 1)) value.Null in
    let m : length front ≡ i = length-take-le i xs (omega arith) in
    ap (λ (k : ℕ). set (front ++ replicate k value.Null) i v) n
    ∙ set_at front value.Null rest v i m
    ∙ sym (append_assoc front (v ∷ []) rest)
    ∙ ap (λ ys. ys ++ rest) (ap (λ (x : Value). front ++ x ∷ []) (sym (get_or_from_slice_get xs i v v e)) ∙ sym (take_more xs i v l))

pub fill_all : (xs : List Value) (i : ℕ) → length xs ≤ i → filled xs i ≡ xs
fill_all xs i l =
    let n : length xs - i ≡ 0 = omega arith in
    ap (λ ys. ys ++ replicate (length xs - i) value.Null) (take_all i xs l)
    ∙ ap (λ (k : ℕ). xs ++ replicate k value.Null) n
    ∙ append-nil xs

-- ---- a cell that is put

same_cell : (xs : List Value) (i : ℕ) (v : Value) → length xs ≤ i → set xs i v ≡ xs
same_cell [] i v h = refl
same_cell (x ∷ xs) zero v h = absurd (omega arith)
same_cell (x ∷ xs) (suc i) v h = ap (λ ys. x ∷ ys) (same_cell xs i v (omega arith))

same_object : (objects : List HeapObject) (r : ℕ) (o : HeapObject) → slice_get objects r ≡ Some o → set objects r o ≡ objects
same_object [] r o e = absurd cc
same_object (x ∷ objects) zero o e = let q : x ≡ o = cc in ap (λ y. y ∷ objects) (sym q)
same_object (x ∷ objects) (suc r) o e = ap (λ ys. x ∷ ys) (same_object objects r o e)

-- as the heap has it
pub with_cell_is : (store : Store) (r i : ℕ) (v : Value) → with_cell store r i v ≡ record store { objects = heap.with_cell store.objects r i v }
unfolding with_cell heap.with_cell
with_cell_is store r i v = by (slice_get store.objects r)
  where
    by : (o : Option HeapObject)
        → elim o as (λ _. Store) [ None ↦ store | Some o ↦ record store { objects = set store.objects r (record o { cells = set o.cells i v }) } ]
        ≡ record store { objects = elim o as (λ _. List HeapObject) [ None ↦ store.objects | Some o ↦ set store.objects r (object_with o i v) ] }
    by None = refl
    by (Some o) = refl

-- where there is no such cell the store stays
pub with_no_cell : (store : Store) (r i : ℕ) (v : Value) → length (cells_of store r) ≤ i → with_cell store r i v ≡ store
unfolding with_cell cells_of
with_no_cell store r i v h = by (slice_get store.objects r) refl h
  where
    by : (o : Option HeapObject) → slice_get store.objects r ≡ o → length (elim o as (λ _. List Value) [ None ↦ [] | Some o ↦ o.cells ]) ≤ i
        → elim o as (λ _. Store) [ None ↦ store | Some o ↦ record store { objects = set store.objects r (record o { cells = set o.cells i v }) } ] ≡ store
    by None e l = refl
    by (Some o) e l =
        ap (λ (cells : List Value). record store { objects = set store.objects r (record o { cells = cells }) }) (same_cell o.cells i v l)
        ∙ ap (λ (objects : List HeapObject). record store { objects = objects }) (same_object store.objects r o e)

-- ---- room

pub no_room : (h : heap.HeapState) (n : ℕ) → h.left < n → heap.has_room h n ≡ false
no_room h n l = grind (arith, nat_tests)

pub some_place : (b : Bool) (n r : ℕ) → Some r ≡ (if b then Some n else None) → (b ≡ true) × (r ≡ n)
some_place true n r e = (refl, cc)
some_place false n r e = absurd cc

-- making an object, as the heap has it
pub made : (store : Store) (after : heap.HeapState) (c : ClassId) (cells : List Value) (r : Option ℕ)
    → r ≡ (if heap.has_room (record { objects = store.objects; left = store.left }) (length cells) then Some (length store.objects) else None)
    → after ≡ (if heap.has_room (record { objects = store.objects; left = store.left }) (length cells) then heap_with (record { objects = store.objects; left = store.left }) c cells else record { objects = store.objects; left = store.left })
    → Makes r store (record store { objects = after.objects; left = after.left }) (new_object store c.0 cells)
unfolding new_object
made store after c cells r place is = by (nat_le (length cells + 2) store.left) r place is
  where
    room : heap.HeapState
    room = record { objects = store.objects; left = store.left }

    new : heap.HeapState
    new = heap_with (record { objects = store.objects; left = store.left }) c cells

    by : (b : Bool) (r : Option ℕ) → r ≡ (if b then Some (length store.objects) else None) → after ≡ (if b then heap_with (record { objects = store.objects; left = store.left }) c cells else record { objects = store.objects; left = store.left })
        → Makes r store (record store { objects = after.objects; left = after.left }) (if b then Some (record store { objects = store.objects ++ record { class = record { 0 = c.0 }; cells = cells } ∷ []; left = store.left - (length cells + 2) }, length store.objects) else None)
    by true (Some r) e f =
        let q : r ≡ length store.objects = cc in
        ap (λ (h : heap.HeapState). Some (record store { objects = h.objects; left = h.left }, length store.objects)) (sym f) ∙ ap (λ (k : ℕ). Some (record store { objects = after.objects; left = after.left }, k)) (sym q)
    by true None e f = absurd cc
    by false (Some r) e f = absurd cc
    by false None e f = (refl, ap (λ (h : heap.HeapState). record store { objects = h.objects; left = h.left }) f)

-- an array that has room is an object of equal elements
pub array_is : (store : Store) (c n : ℕ) (v : Value) → new_array store c n v ≡ new_object store c (replicate n v)
unfolding new_array new_object
array_is store c n v = by (nat_le (n + 2) store.left) refl
  where
    same : length (replicate n v) + 2 ≡ n + 2
    same = omega (arith, length-replicate n v)

    by : (b : Bool) → nat_le (n + 2) store.left ≡ b → elim b as (λ _. Option (Store × ℕ)) [ true ↦ new_object store c (replicate n v) | false ↦ None ] ≡ new_object store c (replicate n v)
    by true e = refl
    by false e = sym (ap (λ (x : Bool). if x then Some (record store { objects = store.objects ++ record { class = record { 0 = c }; cells = replicate n v } ∷ []; left = store.left - (length (replicate n v) + 2) }, length store.objects) else None) (ap (λ (k : ℕ). nat_le k store.left) same ∙ e))

pub makes_array : (r : Option ℕ) (old new : Store) (c n : ℕ) (v : Value) → Makes r old new (new_object old c (replicate n v)) → Makes r old new (new_array old c n v)
makes_array r old new c n v h = subst (λ (x : Option (Store × ℕ)). Makes r old new x) (sym (array_is old c n v)) h

-- the cells of an object, as the heap has them
pub cells_same : (store : Store) (r : ℕ) → cells_of store r ≡ cells_at store.objects r
unfolding cells_of cells_at
cells_same store r = refl

-- there are none where there is no such object
pub no_cells : (store : Store) (r : ℕ) → false ≡ nat_lt r (length store.objects) → cells_of store r ≡ []
unfolding cells_of
no_cells store r h =
    let far : length store.objects ≤ r = grind (arith, nat_tests) in
    ap (λ (o : Option HeapObject). elim o as (λ _. List Value) [ None ↦ [] | Some o ↦ o.cells ]) (slice_get_past store.objects r far)
