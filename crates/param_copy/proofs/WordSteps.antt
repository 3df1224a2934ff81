-- Values as words, and objects as nodes.
use Rattle.std.proofs.Common.{◌≡◌, refl, sym, ◌∙◌, ap, ℕ, zero, suc, ◌+◌, ◌<◌, Bool, true, false, ◌&&◌, List, [], ◌∷◌, ◌++◌, length, Option, Some, None, arith, if◌then◌else◌, ◌==◌, map, slice_get, position, sum_by, option_map, All}
use Rattle.std.specs.Prelude.{nat_le}
use Rattle.std.proofs.lemmas.List.{length-map}
use Rattle.std.proofs.lemmas.List.Sums.{sum_by-cons}
use Rattle.std.proofs.lemmas.List.Elements.{All-head, All-tail}
use Rattle.jx_base.specs.declared.ids.ClassId.{ClassId}
use Rattle.jx_base.specs.declared.states.Exported.{Exported}
use Rattle.jx_base.specs.declared.value.Value.{Value}
use Rattle.jx_base.specs.declared.value.Value.TheVariants as value
use Rattle.jx_base.specs.declared.value.Word.{Word}
use Rattle.jx_base.specs.declared.value.Word.TheVariants as word
use Rattle.jx_base.specs.declared.value.Node.{Node}
use Rattle.std.specs.Option.{unwrap_or}
use Rattle.program_model.specs.Limits.{node_limit, parcel_limit}
use Rattle.program_model.specs.ParcelParts.{parcel_words, node_cells, node_size}
use Rattle.program_model.specs.Parcels.{HeapObject, export_at, word_of, node_of, nodes_of, cells_at, walk_of, references_of, parcel_of, packed, is_small_parcel}
use Rattle.param_copy.specs.Copies.{IsPlaced, AreClosed, object_size, is_small_walk}
use Rattle.param_copy.proofs.WalkSteps.{walk_placed}

pub word_exported : (exports : List Exported) (walk : List ℕ) (r : ℕ) (x : Exported) → export_at exports r ≡ Some x →
    word_of exports walk (value.Ref r) ≡ word.Portal x.service x.iface
unfolding word_of
word_exported exports walk r x e =
    ap (λ (o : Option Exported). elim o as (λ _. Word) [ Some x ↦ word.Portal x.service x.iface | None ↦ word.Node (unwrap_or (position (λ y. y == r) walk) 0) ]) e

pub word_kept : (exports : List Exported) (walk : List ℕ) (r : ℕ) → export_at exports r ≡ None →
    word_of exports walk (value.Ref r) ≡ word.Node (unwrap_or (position (λ y. y == r) walk) 0)
unfolding word_of
word_kept exports walk r e =
    ap (λ (o : Option Exported). elim o as (λ _. Word) [ Some x ↦ word.Portal x.service x.iface | None ↦ word.Node (unwrap_or (position (λ y. y == r) walk) 0) ]) e

-- ---- nodes

-- the node of an object that there is
pub nodes_some : (objects : List HeapObject) (exports : List Exported) (walk : List ℕ) (r : ℕ) (rs : List ℕ) (o : HeapObject) → slice_get objects r ≡ Some o →
    nodes_of objects exports walk (r ∷ rs) ≡ node_of exports walk o ∷ nodes_of objects exports walk rs
unfolding nodes_of
nodes_some objects exports walk r rs o e =
    ap (λ (x : Option HeapObject). elim x as (λ _. List Node) [
      | None ↦ nodes_of objects exports walk rs
      | Some o ↦ node_of exports walk o ∷ nodes_of objects exports walk rs
    ]) e

pub object_at : (objects : List HeapObject) (r : ℕ) → r < length objects → (o : HeapObject) × (slice_get objects r ≡ Some o)
object_at [] r l = absurd (omega (arith, l))
object_at (o ∷ objects) zero l = (o, refl)
object_at (o ∷ objects) (suc r) l = object_at objects r (omega (arith, l))

pub cells_of_object : (objects : List HeapObject) (r : ℕ) (o : HeapObject) → slice_get objects r ≡ Some o → cells_at objects r ≡ o.cells
unfolding cells_at
cells_of_object objects r o e = ap (λ (x : Option HeapObject). elim x as (λ _. List Value) [ None ↦ [] | Some o ↦ o.cells ]) e

pub nodes_none : (objects : List HeapObject) (exports : List Exported) (walk : List ℕ) → nodes_of objects exports walk [] ≡ []
unfolding nodes_of
nodes_none objects exports walk = refl

pub nodes_append : (objects : List HeapObject) (exports : List Exported) (walk rs ts : List ℕ) →
    nodes_of objects exports walk (rs ++ ts) ≡ nodes_of objects exports walk rs ++ nodes_of objects exports walk ts
unfolding nodes_of
nodes_append objects exports walk [] ts = refl
nodes_append objects exports walk (r ∷ rs) ts = by (slice_get objects r) (nodes_append objects exports walk rs ts)
  where
    by : (x : Option HeapObject) → nodes_of objects exports walk (rs ++ ts) ≡ nodes_of objects exports walk rs ++ nodes_of objects exports walk ts →
        (elim x as (λ _. List Node) [ None ↦ nodes_of objects exports walk (rs ++ ts) | Some o ↦ node_of exports walk o ∷ nodes_of objects exports walk (rs ++ ts) ])
        ≡ (elim x as (λ _. List Node) [ None ↦ nodes_of objects exports walk rs | Some o ↦ node_of exports walk o ∷ nodes_of objects exports walk rs ])
        ++ nodes_of objects exports walk ts
    by None h = h
    by (Some o) h = ap (λ (ns : List Node). node_of exports walk o ∷ ns) h

-- the node of one object, by its class and its cells
pub node_at : (objects : List HeapObject) (exports : List Exported) (walk : List ℕ) (r : ℕ) (c : ClassId) (words : List Word) → r < length objects →
    option_map (λ o. o.class) (slice_get objects r) ≡ Some c → words ≡ map (word_of exports walk) (cells_at objects r) →
    ◌≡◌ {A = List Node} (record { class = c; cells = words } ∷ []) (nodes_of objects exports walk (r ∷ []))
unfolding node_of nodes_of
node_at objects exports walk r c words l e h =
    let o = object_at objects r l in
    let is_class : o.0.class ≡ c = same_some (sym (ap (option_map (λ (x : HeapObject). x.class)) o.1) ∙ e) in
    let is_words : words ≡ map (word_of exports walk) o.0.cells = h ∙ ap (map (word_of exports walk)) (cells_of_object objects r o.0 o.1) in
    (λ j. record { class = sym is_class j; cells = is_words j } ∷ []) ∙ sym (nodes_some objects exports walk r [] o.0 o.1)
  where
    same_some : {A : Type 0} {x y : A} → ◌≡◌ {A = Option A} (Some x) (Some y) → x ≡ y
    same_some h = cc

-- ---- sizes

pub nodes_count : (objects : List HeapObject) (exports : List Exported) (walk rs : List ℕ) → All (λ r. r < length objects) rs →
    (length (nodes_of objects exports walk rs) ≡ length rs) × (sum_by node_size (nodes_of objects exports walk rs) ≡ sum_by (object_size objects) rs)
unfolding nodes_of node_size node_of
nodes_count objects exports walk [] p = (refl, refl)
nodes_count objects exports walk (r ∷ rs) p =
    let o = object_at objects r (All-head (λ (r : ℕ). r < length objects) r rs p) in
    let rest = nodes_count objects exports walk rs (All-tail (λ (r : ℕ). r < length objects) r rs p) in
    let e = nodes_some objects exports walk r rs o.0 o.1 in
    let n : length (map (word_of exports walk) o.0.cells) ≡ length (cells_at objects r) = length-map o.0.cells (word_of exports walk) ∙ ap length (sym (cells_of_object objects r o.0 o.1)) in (
      ap length e ∙ ap suc rest.0,
      ap (sum_by node_size) e
          ∙ sum_by-cons node_size (node_of exports walk o.0) (nodes_of objects exports walk rs)
          ∙ (λ j. 2 + n j + rest.1 j)
          ∙ sym (sum_by-cons (object_size objects) r rs),
    )

-- the parcel is within its limits where the walk is
pub small_parcel : (objects : List HeapObject) (exports : List Exported) (roots : List Value) →
    All (λ r. r < length objects) (walk_of objects exports (references_of exports roots)) →
    is_small_parcel (parcel_of objects exports roots) ≡ is_small_walk objects (length roots) (walk_of objects exports (references_of exports roots))
unfolding is_small_parcel parcel_of parcel_words node_cells
small_parcel objects exports roots p =
    let walk = walk_of objects exports (references_of exports roots) in
    let n = nodes_count objects exports walk walk p in
    let m = length-map roots (word_of exports walk) in
    λ j. nat_le (n.0 j) node_limit && nat_le (m j + n.1 j) parcel_limit

pub packed_small : (objects : List HeapObject) (exports : List Exported) (roots : List Value) → is_small_parcel (parcel_of objects exports roots) ≡ true →
    packed objects exports roots ≡ Some (parcel_of objects exports roots)
unfolding packed
packed_small objects exports roots e =
    ap (λ (b : Bool). if b then Some (parcel_of objects exports roots) else None) e

pub packed_large : (objects : List HeapObject) (exports : List Exported) (roots : List Value) → is_small_parcel (parcel_of objects exports roots) ≡ false →
    packed objects exports roots ≡ None
unfolding packed
packed_large objects exports roots e =
    ap (λ (b : Bool). if b then Some (parcel_of objects exports roots) else None) e

pub too_large : (objects : List HeapObject) (exports : List Exported) (roots : List Value) → AreClosed objects → All (IsPlaced (length objects)) roots →
    is_small_walk objects (length roots) (walk_of objects exports (references_of exports roots)) ≡ false → packed objects exports roots ≡ None
too_large objects exports roots p q e = packed_large objects exports roots (small_parcel objects exports roots (walk_placed objects exports roots p q) ∙ e)

pub small_enough : (objects : List HeapObject) (exports : List Exported) (roots : List Value) (walk : List ℕ) (words : List Word) (nodes : List Node) →
    AreClosed objects → All (IsPlaced (length objects)) roots → walk ≡ walk_of objects exports (references_of exports roots) → is_small_walk objects (length roots) walk ≡ true →
    words ≡ map (word_of exports walk) roots → nodes ≡ nodes_of objects exports walk walk →
    packed objects exports roots ≡ Some (record { roots = words; nodes = nodes })
unfolding parcel_of
small_enough objects exports roots walk words nodes p q w e h k =
    let small = small_parcel objects exports roots (walk_placed objects exports roots p q) ∙ ap (is_small_walk objects (length roots)) (sym w) ∙ e in
    let is_words : map (word_of exports (walk_of objects exports (references_of exports roots))) roots ≡ words = ap (λ (xs : List ℕ). map (word_of exports xs) roots) (sym w) ∙ sym h in
    let is_nodes : nodes_of objects exports (walk_of objects exports (references_of exports roots)) (walk_of objects exports (references_of exports roots)) ≡ nodes =
    ap (λ (xs : List ℕ). nodes_of objects exports xs xs) (sym w) ∙ sym k in
    packed_small objects exports roots small ∙ (λ j. Some (record { roots = is_words j; nodes = is_nodes j }))
