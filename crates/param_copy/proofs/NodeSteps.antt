-- Nodes as objects, and words as values.
use Rattle.std.proofs.Common.{◌≡◌, refl, sym, ◌∙◌, ap, ℕ, suc, ◌+◌, ◌-◌, ◌*◌, ◌^◌, ◌<◌, ◌≤◌, true, false, List, [], ◌∷◌, ◌++◌, length, take, get_or, set, replicate, Option, Some, None, arith, map, slice_get, sum_by, All, append_assoc, length-append, append-nil}
use Rattle.std.specs.Prelude.{nat_le}
use Rattle.std.proofs.lemmas.Bool.Decides.{nat_tests}
use Rattle.std.proofs.lemmas.List.{set_at, map_more, length-map, length-take-le, length-replicate, take_all}
use Rattle.std.proofs.lemmas.List.Sums.{sum_by-cons}
use Rattle.jx_base.specs.declared.value.Value.{Value}
use Rattle.jx_base.specs.declared.value.Word.{Word}
use Rattle.jx_base.specs.declared.value.Word.TheVariants as word
use Rattle.jx_base.specs.declared.value.Node.{Node}
use Rattle.program_model.specs.ParcelParts.{node_size}
use Rattle.program_model.specs.Parcels.{HeapObject, cells_at}
use Rattle.domain_heap.specs.Heaps.{with_cell, object_with}
use Rattle.param_copy.specs.Copies.{IsNodePlaced, HasPlace}

get_last : (objects : List HeapObject) (o : HeapObject) → slice_get (objects ++ o ∷ []) (length objects) ≡ Some o
get_last [] o = refl
get_last (x ∷ objects) o = get_last objects o

pub cells_last : (objects : List HeapObject) (o : HeapObject) → cells_at (objects ++ o ∷ []) (length objects) ≡ o.cells
unfolding cells_at
cells_last objects o = ap (λ (x : Option HeapObject). elim x as (λ _. List Value) [ None ↦ [] | Some o ↦ o.cells ]) (get_last objects o)

pub with_cell_last : (objects : List HeapObject) (o : HeapObject) (i : ℕ) (v : Value) → with_cell (objects ++ o ∷ []) (length objects) i v ≡ objects ++ object_with o i v ∷ []
unfolding with_cell
with_cell_last objects o i v =
    ap (λ (x : Option HeapObject). elim x as (λ _. List HeapObject) [ None ↦ objects ++ o ∷ [] | Some o' ↦ set (objects ++ o ∷ []) (length objects) (object_with o' i v) ]) (get_last objects o)
    ∙ set_at objects o [] (object_with o i v) (length objects) refl

-- the cells so far, and null for the others
abbrev pub filled : {A B : Type 0} → (A → B) → B → List A → ℕ → List B
filled f z xs i = map f (take i xs) ++ replicate (length xs - i) z

pub length_filled : {A B : Type 0} (f : A → B) (z : B) (xs : List A) (i : ℕ) → i ≤ length xs → length (filled f z xs i) ≡ length xs
length_filled f z xs i l =
    omega (arith, length-append (map f (take i xs)) (replicate (length xs - i) z), length-map (take i xs) f, length-take-le i xs l, length-replicate (length xs - i) z)

pub fill_more : {A B : Type 0} (f : A → B) (z : B) (xs : List A) (i : ℕ) (d : A) → i < length xs → set (filled f z xs i) i (f (get_or xs i d)) ≡ filled f z xs (i + 1)
fill_more f z xs i d l =
    let n : length xs - i ≡ suc (length xs - (i + 1)) = omega arith in
    let front = map f (take i xs) in
    let rest = replicate (length xs - (i + 1)) z in
    let m : length front ≡ i = length-map (take i xs) f ∙ length-take-le i xs (omega arith) in
    ap (λ (k : ℕ). set (front ++ replicate k z) i (f (get_or xs i d))) n
    ∙ set_at front z rest (f (get_or xs i d)) i m
    ∙ sym (append_assoc front (f (get_or xs i d) ∷ []) rest)
    ∙ ap (λ ys. ys ++ rest) (sym (map_more f xs i d l))

pub fill_all : {A B : Type 0} (f : A → B) (z : B) (xs : List A) (i : ℕ) → length xs ≤ i → filled f z xs i ≡ map f xs
fill_all f z xs i l =
    let n : length xs - i ≡ 0 = omega arith in
    ap (λ ys. map f ys ++ replicate (length xs - i) z) (take_all i xs l)
    ∙ ap (λ (k : ℕ). map f xs ++ replicate k z) n
    ∙ append-nil (map f xs)

-- ---- places

place_of_word : (first n : ℕ) (w : Word) → first + n ≤ 2 ^ 32 → IsNodePlaced n w → HasPlace first w
place_of_word first n (word.Int k) l p = tt
place_of_word first n (word.Long k) l p = tt
place_of_word first n word.Null l p = tt
place_of_word first n (word.Portal s c) l p = tt
place_of_word first n (word.Mem m) l p = tt
place_of_word first n (word.Node k) l p = omega (arith, l, p)

pub places_of_words : (first n : ℕ) (ws : List Word) → first + n ≤ 2 ^ 32 → All (IsNodePlaced n) ws → All (HasPlace first) ws
places_of_words first n ws l p = λ k d m. place_of_word first n (get_or ws k d) l (p k d m)

-- each node takes two cells at least
pub two_each : (nodes : List Node) → 2 * length nodes ≤ sum_by node_size nodes
unfolding node_size
two_each [] = omega arith
two_each (n ∷ nodes) = omega (arith, two_each nodes, sum_by-cons node_size n nodes)

-- ---- room

pub room_of : (nodes slice : List Node) (left cells : ℕ) → slice ≡ nodes → cells ≡ left → nat_le (sum_by node_size slice) cells ≡ true → sum_by node_size nodes ≤ left
room_of nodes slice left cells e h t =
    let l : sum_by node_size slice ≤ cells = grind (arith, nat_tests) in
    omega (arith, l, h, ap (sum_by node_size) e)

pub no_room_of : (nodes slice : List Node) (left cells : ℕ) → slice ≡ nodes → cells ≡ left → nat_le (sum_by node_size slice) cells ≡ false → left < sum_by node_size nodes
no_room_of nodes slice left cells e h t =
    let l : cells < sum_by node_size slice = grind (arith, nat_tests) in
    omega (arith, l, h, ap (sum_by node_size) e)
