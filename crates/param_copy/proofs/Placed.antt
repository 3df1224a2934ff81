-- The words of a parcel are of its own nodes, and what is unpacked refers to objects that there are.
use Rattle.std.proofs.Common.{◌≡◌, sym, ◌∙◌, ap, subst, ℕ, ◌+◌, ◌<◌, ◌≤◌, List, [], ◌∷◌, ◌++◌, length, Option, Some, None, arith, if◌then◌else◌, ◌==◌, map, position, is_some, All, length-append}
use Rattle.std.proofs.lemmas.List.{length-map}
use Rattle.std.proofs.lemmas.List.Elements.{All-head, All-tail, All-nil, All-cons, All-append, All-weaker, All-map}
use Rattle.jx_base.specs.declared.states.Exported.{Exported}
use Rattle.jx_base.specs.declared.value.Value.{Value}
use Rattle.jx_base.specs.declared.value.Value.TheVariants as value
use Rattle.jx_base.specs.declared.value.Word.{Word}
use Rattle.jx_base.specs.declared.value.Word.TheVariants as word
use Rattle.jx_base.specs.declared.value.Node.{Node}
use Rattle.jx_base.specs.declared.value.Parcel.{Parcel}
use Rattle.std.specs.Option.{unwrap_or}
use Rattle.program_model.specs.Parcels.{HeapObject, export_at, reference_of, references_of, walk_of, word_of, node_of, nodes_of, parcel_of, packed, value_of, unpacked_object}
use Rattle.program_model.proofs.WalkRounds.{Has, has_head, has_tail}
use Rattle.param_copy.specs.Copies.{IsPlaced, AreClosed, IsNodePlaced, ArePlaced}
use Rattle.param_copy.proofs.Images.{place_below, has_left, has_right}
use Rattle.param_copy.proofs.WalkSteps.{walk_placed}
use Rattle.param_copy.proofs.WordSteps.{nodes_some, nodes_none, nodes_count, cells_of_object, object_at}
use Rattle.param_copy.proofs.Members.{root_met, object_met}
use Rattle.param_copy.proofs.Repacked.{packed_is}

word_placed : (exports : List Exported) (walk : List ℕ) (v : Value) → ((r : ℕ) → Has (reference_of exports v) r → Has walk r) → IsNodePlaced (length walk) (word_of exports walk v)
unfolding reference_of word_of
word_placed exports walk (value.Int n) s = tt
word_placed exports walk (value.Long n) s = tt
word_placed exports walk value.Null s = tt
word_placed exports walk (value.Portal t c) s = tt
word_placed exports walk (value.Mem m) s = tt
word_placed exports walk (value.Ref r) s = by (export_at exports r) s
  where
    by : (o : Option Exported) → ((x : ℕ) → Has (if is_some o then [] else r ∷ []) x → Has walk x) →
        IsNodePlaced (length walk) (elim o as (λ _. Word) [ Some x ↦ word.Portal x.service x.iface | None ↦ word.Node (unwrap_or (position (λ y. y == r) walk) 0) ])
    by (Some x) s = tt
    by None s = place_below walk r (s r (has_head r []))

words_placed : (exports : List Exported) (walk : List ℕ) (vs : List Value) → ((r : ℕ) → Has (references_of exports vs) r → Has walk r) →
    All (IsNodePlaced (length walk)) (map (word_of exports walk) vs)
unfolding references_of
words_placed exports walk [] s = All-nil (IsNodePlaced (length walk))
words_placed exports walk (v ∷ vs) s =
    All-cons (IsNodePlaced (length walk)) (word_of exports walk v) (map (word_of exports walk) vs)
    (word_placed exports walk v (λ r h. s r (has_left (reference_of exports v) (references_of exports vs) r h)))
    (words_placed exports walk vs (λ r h. s r (has_right (reference_of exports v) (references_of exports vs) r h)))

node_placed : (exports : List Exported) (walk : List ℕ) (o : HeapObject) → ((r : ℕ) → Has (references_of exports o.cells) r → Has walk r) →
    All (IsNodePlaced (length walk)) (node_of exports walk o).cells
unfolding node_of
node_placed exports walk o s = words_placed exports walk o.cells s

module _ (objects : List HeapObject) (exports : List Exported) (roots : List Value) where
  abbrev walk : List ℕ
  walk = walk_of objects exports (references_of exports roots)

  nodes_placed : (xs : List ℕ) → All (λ r. r < length objects) xs → ((y : ℕ) → Has xs y → Has walk y) →
      All (λ n. All (IsNodePlaced (length walk)) n.cells) (nodes_of objects exports walk xs)
  nodes_placed [] p s =
      subst (λ (ns : List Node). All (λ n. All (IsNodePlaced (length walk)) n.cells) ns) (sym (nodes_none objects exports walk)) (All-nil (λ (n : Node). All (IsNodePlaced (length walk)) n.cells))
  nodes_placed (x ∷ xs) p s =
      let o = object_at objects x (All-head (λ (r : ℕ). r < length objects) x xs p) in
      let own : (r : ℕ) → Has (references_of exports o.0.cells) r → Has walk r =
      λ r h. object_met objects exports roots x r (s x (has_head x xs)) (subst (λ (vs : List Value). Has (references_of exports vs) r) (sym (cells_of_object objects x o.0 o.1)) h) in
      subst (λ (ns : List Node). All (λ n. All (IsNodePlaced (length walk)) n.cells) ns) (sym (nodes_some objects exports walk x xs o.0 o.1))
      (All-cons (λ (n : Node). All (IsNodePlaced (length walk)) n.cells) (node_of exports walk o.0) (nodes_of objects exports walk xs)
      (node_placed exports walk o.0 own)
      (nodes_placed xs (All-tail (λ (r : ℕ). r < length objects) x xs p) (λ y t. s y (has_tail x xs y t))))

  parcel_placed : AreClosed objects → All (IsPlaced (length objects)) roots → ArePlaced (parcel_of objects exports roots)
  unfolding parcel_of
  parcel_placed p q =
      let placed = walk_placed objects exports roots p q in
      let n = (nodes_count objects exports walk walk placed).0 in
      record {
        roots = subst (λ (k : ℕ). All (IsNodePlaced k) (map (word_of exports walk) roots)) (sym n) (words_placed exports walk roots (root_met objects exports roots));
        nodes =
            subst (λ (k : ℕ). All (λ n. All (IsNodePlaced k) n.cells) (nodes_of objects exports walk walk)) (sym n)
            (nodes_placed walk placed (λ y t. t));
      }

  pub packed_placed : (p : Parcel) → AreClosed objects → All (IsPlaced (length objects)) roots → packed objects exports roots ≡ Some p → ArePlaced p
  packed_placed p c q e = subst ArePlaced (packed_is objects exports roots p e).0 (parcel_placed c q)

-- ---- the way back

farther : (n m : ℕ) (v : Value) → n ≤ m → IsPlaced n v → IsPlaced m v
farther n m (value.Int k) l p = tt
farther n m (value.Long k) l p = tt
farther n m value.Null l p = tt
farther n m (value.Portal s c) l p = tt
farther n m (value.Mem k) l p = tt
farther n m (value.Ref r) l p = omega (arith, l, p)

value_placed : (first n : ℕ) (w : Word) → IsNodePlaced n w → IsPlaced (first + n) (value_of first w)
unfolding value_of
value_placed first n (word.Int k) p = tt
value_placed first n (word.Long k) p = tt
value_placed first n word.Null p = tt
value_placed first n (word.Portal s c) p = tt
value_placed first n (word.Mem k) p = tt
value_placed first n (word.Node k) p = omega (arith, p)

pub values_placed : (first n : ℕ) (ws : List Word) → All (IsNodePlaced n) ws → All (IsPlaced (first + n)) (map (value_of first) ws)
values_placed first n ws p =
    All-map (IsPlaced (first + n)) (value_of first) ws (All-weaker (IsNodePlaced n) (λ (w : Word). IsPlaced (first + n) (value_of first w)) (value_placed first n) ws p)

object_placed : (first n : ℕ) (x : Node) → All (IsNodePlaced n) x.cells → All (IsPlaced (first + n)) (unpacked_object first x).cells
unfolding unpacked_object
object_placed first n x p = values_placed first n x.cells p

pub unpacked_closed : (objects : List HeapObject) (p : Parcel) → ArePlaced p → AreClosed objects → AreClosed (objects ++ map (unpacked_object (length objects)) p.nodes)
unpacked_closed objects p a c =
    let first = length objects in let n = length p.nodes in
    let m : length (objects ++ map (unpacked_object first) p.nodes) ≡ first + n = length-append objects (map (unpacked_object first) p.nodes) ∙ ap (λ (k : ℕ). first + k) (length-map p.nodes (unpacked_object first)) in
    let P : ℕ → HeapObject → Type 0 = λ k o. All (IsPlaced k) o.cells in
    subst (λ (k : ℕ). All (P k) (objects ++ map (unpacked_object first) p.nodes)) (sym m)
    (All-append (P (first + n)) objects (map (unpacked_object first) p.nodes)
    (All-weaker (P first) (P (first + n)) (λ o h. All-weaker (IsPlaced first) (IsPlaced (first + n)) (λ v t. farther first (first + n) v (omega arith) t) o.cells h) objects c)
    (All-map (P (first + n)) (unpacked_object first) p.nodes (All-weaker (λ (x : Node). All (IsNodePlaced n) x.cells) (λ (x : Node). P (first + n) (unpacked_object first x)) (object_placed first n) p.nodes a.nodes)))
