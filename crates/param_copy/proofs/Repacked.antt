-- What was packed and unpacked is packed again to the same parcel.
use Rattle.std.proofs.Common.{◌≡◌, refl, sym, ◌∙◌, ap, subst, ℕ, zero, suc, ◌+◌, ◌<◌, ◌≤◌, Bool, true, false, List, [], ◌∷◌, ◌++◌, length, take, Option, Some, None, arith, if◌then◌else◌, ◌==◌, inl, inr, slice_get, map, position, is_some, All}
use Rattle.std.proofs.lemmas.List.{map-append, take-map}
use Rattle.std.proofs.lemmas.List.Elements.{All-head, All-tail}
use Rattle.std.proofs.lemmas.Bool.Decides.{nat_tests}
use Rattle.jx_base.specs.declared.states.Exported.{Exported}
use Rattle.jx_base.specs.declared.value.Value.{Value}
use Rattle.jx_base.specs.declared.value.Value.TheVariants as value
use Rattle.jx_base.specs.declared.value.Word.{Word}
use Rattle.jx_base.specs.declared.value.Word.TheVariants as word
use Rattle.jx_base.specs.declared.value.Node.{Node}
use Rattle.jx_base.specs.declared.value.Parcel.{Parcel}
use Rattle.jx_base.specs.Basics.{firsts}
use Rattle.std.specs.Option.{unwrap_or}
use Rattle.program_model.specs.Parcels.{HeapObject, lesser_export, export_at, reference_of, references_of, object_references, cells_at, walk_of, word_of, node_of, nodes_of, parcel_of, packed, is_small_parcel, value_of, unpacked_object, unpacked_objects}
use Rattle.std.proofs.lemmas.Option.{slice_get_within, get_or_from_slice_get}
use Rattle.program_model.proofs.WalkRounds.{Has, has_head, has_tail}
use Rattle.program_model.proofs.OneWalk.{only_walk}
use Rattle.param_copy.proofs.WalkSteps.{has_append}
use Rattle.param_copy.proofs.WordSteps.{nodes_some, nodes_none, cells_of_object, object_at, word_kept}
use Rattle.param_copy.proofs.Members.{root_met, object_met, all_met}
use Rattle.param_copy.proofs.Images.{firsts_image, position_image, at_place, has_image, get_map, get_from_map, get_right, has_left, has_right, take_has}

map_map : {A B C : Type 0} (g : B → C) (f : A → B) (xs : List A) → map g (map f xs) ≡ map (λ x. g (f x)) xs
map_map g f [] = refl
map_map g f (x ∷ xs) = ap (λ (ys : List _). g (f x) ∷ ys) (map_map g f xs)

-- an object behind those from before isn't exported
not_exported : (exports : List Exported) (n r : ℕ) → All (λ x. x.object < n) exports → n ≤ r → export_at exports r ≡ None
unfolding export_at
not_exported [] n r p l = refl
not_exported (x ∷ exports) n r p l =
    let below = All-head (λ (x : Exported). x.object < n) x exports p in
    let t : (x.object == r) ≡ false = grind (arith, nat_tests) in
    ap (λ (b : Bool). if b then Some (lesser_export x (export_at exports r)) else export_at exports r) t
    ∙ not_exported exports n r (All-tail (λ (x : Exported). x.object < n) x exports p) l

module _ (sent : List HeapObject) (sent_exports : List Exported) (roots : List Value) (objects : List HeapObject) (exports : List Exported) where
  abbrev refs : List ℕ
  refs = references_of sent_exports roots

  abbrev walk : List ℕ
  walk = walk_of sent sent_exports refs

  -- where a sent object lies after it was unpacked
  abbrev new_place : ℕ → ℕ
  new_place r = length objects + unwrap_or (position (λ y. y == r) walk) 0

  -- a sent value after it was unpacked
  abbrev new_value : Value → Value
  new_value v = value_of (length objects) (word_of sent_exports walk v)

  abbrev new_objects : List HeapObject
  new_objects = objects ++ map (unpacked_object (length objects)) (nodes_of sent sent_exports walk walk)

  apart : (x y : ℕ) → Has walk x → Has walk y → new_place x ≡ new_place y → x ≡ y
  apart x y h k e =
      let same : unwrap_or (position (λ z. z == x) walk) 0 ≡ unwrap_or (position (λ z. z == y) walk) 0 = omega (arith, e) in
      let p : ◌≡◌ {A = Option ℕ} (Some x) (Some y) = sym (at_place walk x h) ∙ ap (slice_get walk) same ∙ at_place walk y k in
      cc p

  module _ (before : All (λ x. x.object < length objects) exports) where
    reference_again : (v : Value) → reference_of exports (new_value v) ≡ map new_place (reference_of sent_exports v)
    unfolding reference_of word_of value_of
    reference_again (value.Int n) = refl
    reference_again (value.Long n) = refl
    reference_again value.Null = refl
    reference_again (value.Portal s c) = refl
    reference_again (value.Mem m) = refl
    reference_again (value.Ref r) = by (export_at sent_exports r)
      where
        by : (o : Option Exported) →
            reference_of exports (value_of (length objects) (elim o as (λ _. Word) [ Some x ↦ word.Portal x.service x.iface | None ↦ word.Node (unwrap_or (position (λ y. y == r) walk) 0) ]))
            ≡ map new_place (if is_some o then [] else r ∷ [])
        by (Some x) = refl
        by None = ap (λ (o : Option Exported). if is_some o then [] else new_place r ∷ []) (not_exported exports (length objects) (new_place r) before (omega arith))

    references_again : (vs : List Value) → references_of exports (map new_value vs) ≡ map new_place (references_of sent_exports vs)
    unfolding references_of
    references_again [] = refl
    references_again (v ∷ vs) =
        ap (λ (xs : List ℕ). xs ++ references_of exports (map new_value vs)) (reference_again v)
        ∙ ap (λ (xs : List ℕ). map new_place (reference_of sent_exports v) ++ xs) (references_again vs)
        ∙ sym (map-append new_place (reference_of sent_exports v) (references_of sent_exports vs))

  -- the node of a member
  node_get : (xs : List ℕ) (k r : ℕ) (o : HeapObject) → All (λ r. r < length sent) xs → slice_get xs k ≡ Some r → slice_get sent r ≡ Some o →
      slice_get (nodes_of sent sent_exports walk xs) k ≡ Some (node_of sent_exports walk o)
  node_get [] k r o p e h = cc
  node_get (x ∷ xs) zero r o p e h =
      let q : x ≡ r = cc in
      ap (λ (ns : List Node). slice_get ns 0) (nodes_some sent sent_exports walk x xs o (ap (slice_get sent) q ∙ h))
  node_get (x ∷ xs) (suc k) r o p e h =
      let first = object_at sent x (All-head (λ (r : ℕ). r < length sent) x xs p) in
      ap (λ (ns : List Node). slice_get ns (suc k)) (nodes_some sent sent_exports walk x xs first.0 first.1)
      ∙ node_get xs k r o (All-tail (λ (r : ℕ). r < length sent) x xs p) e h

  module _ (placed : All (λ r. r < length sent) walk) where
    -- the object that was made for a member
    object_again : (r : ℕ) (o : HeapObject) → Has walk r → slice_get sent r ≡ Some o →
        slice_get new_objects (new_place r) ≡ Some (unpacked_object (length objects) (node_of sent_exports walk o))
    object_again r o h e =
        let k = unwrap_or (position (λ (y : ℕ). y == r) walk) 0 in let nodes = nodes_of sent sent_exports walk walk in
        get_right objects (map (unpacked_object (length objects)) nodes) k
        ∙ get_map (unpacked_object (length objects)) nodes k (node_of sent_exports walk o) (node_get walk k r o placed (at_place walk r h) e)

    member_object : (r : ℕ) → Has walk r → (o : HeapObject) × (slice_get sent r ≡ Some o)
    member_object r h =
        let k = unwrap_or (position (λ (y : ℕ). y == r) walk) 0 in
        let at = at_place walk r h in
        object_at sent r (subst (λ (x : ℕ). x < length sent) (get_or_from_slice_get walk k r 0 at) (placed k 0 (slice_get_within walk k r at)))

    cells_again : (r : ℕ) → Has walk r → cells_at new_objects (new_place r) ≡ map new_value (cells_at sent r)
    unfolding unpacked_object node_of
    cells_again r h =
        let o = member_object r h in
        cells_of_object new_objects (new_place r) (unpacked_object (length objects) (node_of sent_exports walk o.0)) (object_again r o.0 h o.1)
        ∙ map_map (value_of (length objects)) (word_of sent_exports walk) o.0.cells
        ∙ ap (map new_value) (sym (cells_of_object sent r o.0 o.1))

    module _ (before : All (λ x. x.object < length objects) exports) where
      objects_again : (xs : List ℕ) → ((y : ℕ) → Has xs y → Has walk y) → object_references new_objects exports (map new_place xs) ≡ map new_place (object_references sent sent_exports xs)
      unfolding object_references
      objects_again [] s = refl
      objects_again (x ∷ xs) s =
          ap (λ (ys : List Value). references_of exports ys ++ object_references new_objects exports (map new_place xs)) (cells_again x (s x (has_head x xs)))
          ∙ ap (λ (ys : List ℕ). ys ++ object_references new_objects exports (map new_place xs)) (references_again before (cells_at sent x))
          ∙ ap (λ (ys : List ℕ). map new_place (references_of sent_exports (cells_at sent x)) ++ ys) (objects_again xs (λ y t. s y (has_tail x xs y t)))
          ∙ sym (map-append new_place (references_of sent_exports (cells_at sent x)) (object_references sent sent_exports xs))

      mentions_again : (xs : List ℕ) → ((y : ℕ) → Has xs y → Has walk y) →
          map new_place refs ++ object_references new_objects exports (map new_place xs) ≡ map new_place (refs ++ object_references sent sent_exports xs)
      mentions_again xs s =
          ap (λ (ys : List ℕ). map new_place refs ++ ys) (objects_again xs s) ∙ sym (map-append new_place refs (object_references sent sent_exports xs))

      met : (xs : List ℕ) → ((y : ℕ) → Has xs y → Has walk y) → (r : ℕ) → Has (refs ++ object_references sent sent_exports xs) r → Has walk r
      met xs s r h = elim (has_append refs (object_references sent sent_exports xs) r h) [ inl a ↦ root_met sent sent_exports roots r a | inr b ↦ all_met sent sent_exports roots xs r s b ]

      -- the walk of what was unpacked
      walk_again : walk_of new_objects exports (map new_place refs) ≡ map new_place walk
      walk_again =
          let first = only_walk sent sent_exports refs in
          sym ((only_walk new_objects exports (map new_place refs)).only (map new_place walk) (record {
            closed =
                ap (map new_place) first.walk.closed
                ∙ sym (firsts_image new_place walk apart (refs ++ object_references sent sent_exports walk) (met walk (λ y t. t)))
                ∙ ap firsts (sym (mentions_again walk (λ y t. t)));
            reached = λ k r h.
                let m = get_from_map new_place walk k r h in
                let within : (y : ℕ) → Has (take k walk) y → Has walk y = λ y t. take_has k walk y t in
                let was = has_image new_place (refs ++ object_references sent sent_exports (take k walk)) m.0 (first.walk.reached k m.0 m.1) in
                let there : take k (map new_place walk) ≡ map new_place (take k walk) = take-map new_place k walk in
                subst (λ (xs : List ℕ). Has (map new_place refs ++ object_references new_objects exports xs) r) (sym there)
                (subst (λ (xs : List ℕ). Has xs r) (sym (mentions_again (take k walk) within)) (subst (λ (x : ℕ). Has (map new_place (refs ++ object_references sent sent_exports (take k walk))) x) m.2 was));
          }))

      -- ---- words

      word_again : (v : Value) → ((r : ℕ) → Has (reference_of sent_exports v) r → Has walk r) → word_of exports (map new_place walk) (new_value v) ≡ word_of sent_exports walk v
      unfolding reference_of word_of value_of
      word_again (value.Int n) s = refl
      word_again (value.Long n) s = refl
      word_again value.Null s = refl
      word_again (value.Portal t c) s = refl
      word_again (value.Mem m) s = refl
      word_again (value.Ref r) s = by (export_at sent_exports r) s
        where
          by : (o : Option Exported) → ((x : ℕ) → Has (if is_some o then [] else r ∷ []) x → Has walk x) →
              word_of exports (map new_place walk) (value_of (length objects) (elim o as (λ _. Word) [ Some x ↦ word.Portal x.service x.iface | None ↦ word.Node (unwrap_or (position (λ y. y == r) walk) 0) ]))
              ≡ (elim o as (λ _. Word) [ Some x ↦ word.Portal x.service x.iface | None ↦ word.Node (unwrap_or (position (λ y. y == r) walk) 0) ])
          by (Some x) s = refl
          by None s =
              word_kept exports (map new_place walk) (new_place r) (not_exported exports (length objects) (new_place r) before (omega arith))
              ∙ ap (λ (o : Option ℕ). word.Node (unwrap_or o 0)) (position_image new_place walk apart r (s r (has_head r [])))

      words_again : (vs : List Value) → ((r : ℕ) → Has (references_of sent_exports vs) r → Has walk r) →
          map (word_of exports (map new_place walk)) (map new_value vs) ≡ map (word_of sent_exports walk) vs
      unfolding references_of
      words_again [] s = refl
      words_again (v ∷ vs) s =
          let w = word_again v (λ r h. s r (has_left (reference_of sent_exports v) (references_of sent_exports vs) r h)) in
          let ws = words_again vs (λ r h. s r (has_right (reference_of sent_exports v) (references_of sent_exports vs) r h)) in
          λ j. w j ∷ ws j

      node_again : (r : ℕ) (o : HeapObject) → Has walk r → slice_get sent r ≡ Some o →
          node_of exports (map new_place walk) (unpacked_object (length objects) (node_of sent_exports walk o)) ≡ node_of sent_exports walk o
      unfolding node_of unpacked_object
      node_again r o h e =
          let own : (x : ℕ) → Has (references_of sent_exports o.cells) x → Has walk x =
          λ x t. object_met sent sent_exports roots r x h (subst (λ (vs : List Value). Has (references_of sent_exports vs) x) (sym (cells_of_object sent r o e)) t) in
          let words = ap (map (word_of exports (map new_place walk))) (map_map (value_of (length objects)) (word_of sent_exports walk) o.cells) ∙ words_again o.cells own in
          λ j. record { class = o.class; cells = words j }

      nodes_again : (xs : List ℕ) → ((y : ℕ) → Has xs y → Has walk y) →
          nodes_of new_objects exports (map new_place walk) (map new_place xs) ≡ nodes_of sent sent_exports walk xs
      nodes_again [] s = nodes_none new_objects exports (map new_place walk) ∙ sym (nodes_none sent sent_exports walk)
      nodes_again (x ∷ xs) s =
          let h = s x (has_head x xs) in
          let o = member_object x h in
          nodes_some new_objects exports (map new_place walk) (new_place x) (map new_place xs) (unpacked_object (length objects) (node_of sent_exports walk o.0)) (object_again x o.0 h o.1)
          ∙ ap (λ (n : Node). n ∷ nodes_of new_objects exports (map new_place walk) (map new_place xs)) (node_again x o.0 h o.1)
          ∙ ap (λ (ns : List Node). node_of sent_exports walk o.0 ∷ ns) (nodes_again xs (λ y t. s y (has_tail x xs y t)))
          ∙ sym (nodes_some sent sent_exports walk x xs o.0 o.1)

      pub parcel_again : parcel_of (objects ++ unpacked_objects (length objects) (parcel_of sent sent_exports roots)) exports (map (value_of (length objects)) (parcel_of sent sent_exports roots).roots)
          ≡ parcel_of sent sent_exports roots
      unfolding parcel_of unpacked_objects
      parcel_again =
          let values : map (value_of (length objects)) (map (word_of sent_exports walk) roots) ≡ map new_value roots = map_map (value_of (length objects)) (word_of sent_exports walk) roots in
          let walks : walk_of new_objects exports (references_of exports (map new_value roots)) ≡ map new_place walk = ap (walk_of new_objects exports) (references_again before roots) ∙ walk_again in
          let words = words_again roots (root_met sent sent_exports roots) in
          let nodes = nodes_again walk (λ y t. t) in
          ap (λ (vs : List Value). parcel_of new_objects exports vs) values
          ∙ ap (λ (xs : List ℕ). record { roots = map (word_of exports xs) (map new_value roots); nodes = nodes_of new_objects exports xs xs }) walks
          ∙ (λ j. record { roots = words j; nodes = nodes j })

-- what was packed is a parcel of that walk, and small
pub packed_is : (objects : List HeapObject) (exports : List Exported) (roots : List Value) (p : Parcel) → packed objects exports roots ≡ Some p →
    (parcel_of objects exports roots ≡ p) × (is_small_parcel (parcel_of objects exports roots) ≡ true)
unfolding packed
packed_is objects exports roots p e = by (is_small_parcel (parcel_of objects exports roots)) refl e
  where
    by : (b : Bool) → is_small_parcel (parcel_of objects exports roots) ≡ b → ◌≡◌ {A = Option Parcel} (if b then Some (parcel_of objects exports roots) else None) (Some p) →
        (parcel_of objects exports roots ≡ p) × (is_small_parcel (parcel_of objects exports roots) ≡ true)
    by true s e = (cc, s)
    by false s e = cc
