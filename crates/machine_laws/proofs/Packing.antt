-- A parcel that is packed of values is well made.
use Rattle.std.proofs.Common.{◌≡◌, refl, sym, ap, subst, ℕ, suc, ◌+◌, ◌<◌, ◌≤◌, Bool, true, false, not, cond, List, [], ◌∷◌, ◌++◌, length, map, Option, Some, None, is_some, arith, ◌==◌, ◌⊎◌, inl, inr, slice_get}
use Rattle.std.specs.Prelude.{nat_lt, nat_le, if◌then◌else◌, flat_map}
use Rattle.std.specs.List.{AllByRecursion, position, prefix_len, position_or_len}
use Rattle.std.proofs.lemmas.Bool.Decides.{nat_tests}
use Rattle.jx_base.specs.declared.program.System.{System}
use Rattle.jx_base.specs.declared.states.Exported.{Exported}
use Rattle.jx_base.specs.declared.value.Node.{Node}
use Rattle.jx_base.specs.declared.value.Parcel.{Parcel}
use Rattle.jx_base.specs.declared.value.Value.{Value}
use Rattle.jx_base.specs.declared.value.Value.TheVariants as value
use Rattle.jx_base.specs.declared.value.Word.{Word}
use Rattle.jx_base.specs.declared.value.Word.TheVariants as word
use Rattle.jx_base.specs.Basics.{contains_number, firsts, firsts_after, distinct, distinct_after}
use Rattle.jx_base.specs.Histories.{Past}
use Rattle.program_model.specs.Limits.{node_limit, parcel_limit}
use Rattle.program_model.specs.ParcelParts.{parcel_cells, parcel_words}
use Rattle.program_model.specs.Parcels.{HeapObject, export_at, lesser_export, reference_of, references_of, cells_at, object_references, walk_of, word_of, node_of, nodes_of, parcel_of, is_small_parcel, packed}
use Rattle.machine_model.specs.State.{Store, class_of_object}
use Rattle.jx_model.specs.WellMade.{IsClass, IsWordIn, IsParcelIn}
use Rattle.jx_base.proofs.BasicLaws.{both}
use Rattle.program_model.proofs.WalkRounds.{Has, has_head, has_tail, has_cases, has_none, has_first}
use Rattle.program_model.proofs.OneWalk.{only_walk}
use Rattle.machine_laws.specs.Values.{IsValueIn, IsObject, IsObjectIn, IsExportIn, IsStoreIn}
use Rattle.machine_laws.proofs.Lists.{all_append, all_get, all_left, all_right}
use Rattle.std.specs.Option.{option_map, unwrap_or}

-- ---- the members of a walk

-- what a list has, its first mentions have, or it was seen
kept : (seen xs : List ℕ) (x : ℕ) → Has xs x → Has (firsts_after seen xs) x ⊎ Has seen x
unfolding distinct_after contains_number
kept seen [] x h = has_none x h
kept seen (y ∷ xs) x h = by (contains_number seen y) refl (has_cases y xs x h) (kept seen xs x) (kept (y ∷ seen) xs x)
  where
    after : Has (firsts_after (y ∷ seen) xs) x ⊎ Has (y ∷ seen) x → Has (y ∷ firsts_after (y ∷ seen) xs) x ⊎ Has seen x
    after (inl a) = inl (has_tail y (firsts_after (y ∷ seen) xs) x a)
    after (inr b) = elim (has_cases y seen x b) [
      | inl q ↦ inl (subst (λ (z : ℕ). Has (y ∷ firsts_after (y ∷ seen) xs) z) q (has_head y (firsts_after (y ∷ seen) xs)))
      | inr t ↦ inr t
    ]

    by : (c : Bool) → contains_number seen y ≡ c → (y ≡ x) ⊎ Has xs x → (Has xs x → Has (firsts_after seen xs) x ⊎ Has seen x) → (Has xs x → Has (firsts_after (y ∷ seen) xs) x ⊎ Has (y ∷ seen) x) →
        Has (if c then firsts_after seen xs else y ∷ firsts_after (y ∷ seen) xs) x ⊎ Has seen x
    by true s (inl q) p r = inr (subst (λ (z : ℕ). Has seen z) q s)
    by true s (inr t) p r = p t
    by false s (inl q) p r = inl (subst (λ (z : ℕ). Has (y ∷ firsts_after (y ∷ seen) xs) z) q (has_head y (firsts_after (y ∷ seen) xs)))
    by false s (inr t) p r = after (r t)

in_firsts : (xs : List ℕ) (x : ℕ) → Has xs x → Has (firsts xs) x
unfolding distinct
in_firsts xs x h = elim (kept [] xs x h) [ inl a ↦ a | inr b ↦ has_none x b ]

of_firsts : (xs : List ℕ) (x : ℕ) → Has (firsts xs) x → Has xs x
unfolding distinct
of_firsts xs x h = has_first [] xs x h

-- each item of a list is in it
all_has_more : (ys xs : List ℕ) → ((x : ℕ) → Has xs x → Has ys x) → AllByRecursion (Has ys) xs
all_has_more ys [] f = tt
all_has_more ys (x ∷ xs) f = (f x (has_head x xs), all_has_more ys xs (λ z h. f z (has_tail x xs z h)))

-- what holds of each item holds of one that a list has
all_of : (P : ℕ → Type 0) (xs : List ℕ) (x : ℕ) → AllByRecursion P xs → Has xs x → P x
all_of P [] x h k = has_none x k
all_of P (y ∷ xs) x h k = elim (has_cases y xs x k) [ inl q ↦ subst P q h.0 | inr t ↦ all_of P xs x h.1 t ]

-- what holds of each item that a list has
all_by_has : (P : ℕ → Type 0) (xs : List ℕ) → ((x : ℕ) → Has xs x → P x) → AllByRecursion P xs
all_by_has P [] f = tt
all_by_has P (x ∷ xs) f = (f x (has_head x xs), all_by_has P xs (λ z h. f z (has_tail x xs z h)))

-- an item that a list has is at a place in it
has_place : (xs : List ℕ) (r : ℕ) → Has xs r → prefix_len (λ x. not (x == r)) xs < length xs
has_place [] r h = has_none r h
has_place (y ∷ xs) r h = by (y == r) refl (λ t. has_place xs r t)
  where
    by : (b : Bool) → (y == r) ≡ b → (Has xs r → prefix_len (λ x. not (x == r)) xs < length xs) → cond (not b) (1 + prefix_len (λ x. not (x == r)) xs) 0 < suc (length xs)
    by true q again = omega arith
    by false q again = elim (has_cases y xs r h) [ inl e ↦ absurd (grind (arith, nat_tests, e, q)) | inr t ↦ omega (arith, again t) ]

place_below : (xs : List ℕ) (r : ℕ) → Has xs r → unwrap_or (position (λ y. y == r) xs) 0 < length xs
place_below xs r h = by (nat_lt (position_or_len (λ y. y == r) xs) (length xs))
  where
    by : (b : Bool) → unwrap_or (cond b (Some (position_or_len (λ y. y == r) xs)) None) 0 < length xs
    by true = has_place xs r h
    by false = omega (arith, has_place xs r h)

-- ---- exports

module _ (s : System) (past : Past) (store : Store) (h : IsStoreIn s past store) where
  lesser_in : (x : Exported) (o : Option Exported) → IsExportIn past store x → ((y : Exported) → o ≡ Some y → IsExportIn past store y) → IsExportIn past store (lesser_export x o)
  unfolding lesser_export
  lesser_in x None i f = i
  lesser_in x (Some y) i f = by (nat_le x.service.0 y.service.0)
    where
      by : (b : Bool) → IsExportIn past store (if b then x else y)
      by true = i
      by false = f y refl

  export_in : (xs : List Exported) (r : ℕ) (x : Exported) → AllByRecursion (IsExportIn past store) xs → export_at xs r ≡ Some x → IsExportIn past store x
  unfolding export_at
  export_in [] r x i e = cc
  export_in (y ∷ xs) r x i e = by (y.object == r) e (export_in xs r) i.1
    where
      by : (b : Bool) → (if b then Some (lesser_export y (export_at xs r)) else export_at xs r) ≡ Some x →
          ((z : Exported) → AllByRecursion (IsExportIn past store) xs → export_at xs r ≡ Some z → IsExportIn past store z) → AllByRecursion (IsExportIn past store) xs → IsExportIn past store x
      by true e again k = let q : lesser_export y (export_at xs r) ≡ x = cc in subst (IsExportIn past store) q (lesser_in y (export_at xs r) i.0 (λ z w. again z k w))
      by false e again k = again x k e

  -- ---- references

  -- the references of values are objects
  reference_objects : (v : Value) → IsValueIn past store v → AllByRecursion (IsObject store) (reference_of store.exports v)
  unfolding reference_of
  reference_objects (value.Ref r) i = by (is_some (export_at store.exports r))
    where
      by : (b : Bool) → AllByRecursion (IsObject store) (if b then [] else r ∷ [])
      by true = tt
      by false = (i, tt)
  reference_objects _ i = tt

  references_objects : (vs : List Value) → AllByRecursion (IsValueIn past store) vs → AllByRecursion (IsObject store) (references_of store.exports vs)
  unfolding references_of
  references_objects [] i = tt
  references_objects (v ∷ vs) i = all_append (IsObject store) (reference_of store.exports v) (references_of store.exports vs) (reference_objects v i.0) (references_objects vs i.1)

  cells_values : (r : ℕ) → AllByRecursion (IsValueIn past store) (cells_at store.objects r)
  unfolding cells_at
  cells_values r = by (slice_get store.objects r) refl
    where
      by : (o : Option HeapObject) → slice_get store.objects r ≡ o → AllByRecursion (IsValueIn past store) (elim o as (λ _. List Value) [ None ↦ [] | Some o ↦ o.cells ])
      by None e = tt
      by (Some o) e = (all_get (IsObjectIn s past store) store.objects r o e h.objects).cells

  object_references_objects : (rs : List ℕ) → AllByRecursion (IsObject store) (object_references store.objects store.exports rs)
  unfolding object_references
  object_references_objects [] = tt
  object_references_objects (r ∷ rs) =
      all_append (IsObject store) (references_of store.exports (cells_at store.objects r)) (object_references store.objects store.exports rs)
      (references_objects (cells_at store.objects r) (cells_values r)) (object_references_objects rs)

  -- ---- words

  -- a value whose reference the walk has is a word in range
  word_in : (walk : List ℕ) (v : Value) → IsValueIn past store v → AllByRecursion (Has walk) (reference_of store.exports v) → IsWordIn past (length walk) (word_of store.exports walk v)
  unfolding word_of reference_of
  word_in walk (value.Int n) i k = i
  word_in walk (value.Long n) i k = i
  word_in walk value.Null i k = tt
  word_in walk (value.Portal x c) i k = i
  word_in walk (value.Mem m) i k = i
  word_in walk (value.Ref r) i k = by (export_at store.exports r) refl k
    where
      by : (o : Option Exported) → export_at store.exports r ≡ o → AllByRecursion (Has walk) (if is_some o then [] else r ∷ []) →
          IsWordIn past (length walk) (elim o as (λ _. Word) [ None ↦ word.Node (unwrap_or (position (λ y. y == r) walk) 0) | Some x ↦ word.Portal x.service x.iface ])
      by None e k = place_below walk r k.0
      by (Some x) e k = (export_in store.exports r x h.exports e).known

  words_in : (walk : List ℕ) (vs : List Value) → AllByRecursion (IsValueIn past store) vs → AllByRecursion (Has walk) (references_of store.exports vs) →
      AllByRecursion (IsWordIn past (length walk)) (map (word_of store.exports walk) vs)
  unfolding references_of
  words_in walk [] i k = tt
  words_in walk (v ∷ vs) i k = (
    word_in walk v i.0 (all_left (Has walk) (reference_of store.exports v) (references_of store.exports vs) k),
    words_in walk vs i.1 (all_right (Has walk) (reference_of store.exports v) (references_of store.exports vs) k),
  )

  -- ---- nodes

  -- as many nodes as objects, of classes of the system, with words in range
  record AreNodes (walk rs : List ℕ) (nodes : List Node) : Type 0 where
    count : length nodes ≡ length rs
    classes : AllByRecursion (λ (n : Node). IsClass s n.class.0) nodes
    words : AllByRecursion (IsWordIn past (length walk)) (flat_map (λ (n : Node). n.cells) nodes)

  nodes_in : (walk rs : List ℕ) → AllByRecursion (IsObject store) rs → AllByRecursion (Has walk) (object_references store.objects store.exports rs) → AreNodes walk rs (nodes_of store.objects store.exports walk rs)
  unfolding nodes_of object_references cells_at class_of_object node_of
  nodes_in walk [] i k = record { count = refl; classes = tt; words = tt }
  nodes_in walk (r ∷ rs) i k = by (slice_get store.objects r) refl i.0 k (λ x y. nodes_in walk rs x y)
    where
      by : (o : Option HeapObject) → slice_get store.objects r ≡ o → is_some (option_map (λ (o : HeapObject). o.class.0) o) ≡ true →
          AllByRecursion (Has walk) (references_of store.exports (elim o as (λ _. List Value) [ None ↦ [] | Some o ↦ o.cells ]) ++ object_references store.objects store.exports rs) →
          (AllByRecursion (IsObject store) rs → AllByRecursion (Has walk) (object_references store.objects store.exports rs) → AreNodes walk rs (nodes_of store.objects store.exports walk rs)) →
          AreNodes walk (r ∷ rs) (elim o as (λ _. List Node) [ None ↦ nodes_of store.objects store.exports walk rs | Some o ↦ node_of store.exports walk o ∷ nodes_of store.objects store.exports walk rs ])
      by None e t k again = cc
      by (Some o) e t k again =
          let old = all_get (IsObjectIn s past store) store.objects r o e h.objects in
          let rest = again i.1 (all_right (Has walk) (references_of store.exports o.cells) (object_references store.objects store.exports rs) k) in
          let here = words_in walk o.cells old.cells (all_left (Has walk) (references_of store.exports o.cells) (object_references store.objects store.exports rs) k) in
          record {
            count = ap suc rest.count;
            classes = (old.known, rest.classes);
            words = all_append (IsWordIn past (length walk)) (map (word_of store.exports walk) o.cells) (flat_map (λ (n : Node). n.cells) (nodes_of store.objects store.exports walk rs)) here rest.words;
          }

  -- ---- parcels

  -- the parcel of values, where it is within its limits
  small_in : (p : Parcel) → is_small_parcel p ≡ true → (length p.nodes ≤ node_limit) × (parcel_words p ≤ parcel_limit)
  unfolding is_small_parcel
  small_in p e = let q = both (nat_le (length p.nodes) node_limit) (nat_le (parcel_words p) parcel_limit) e in (grind (arith, nat_tests, q.0), grind (arith, nat_tests, q.1))

  parcel_in : (roots : List Value) → AllByRecursion (IsValueIn past store) roots → is_small_parcel (parcel_of store.objects store.exports roots) ≡ true → IsParcelIn s past (parcel_of store.objects store.exports roots)
  unfolding parcel_of parcel_cells
  parcel_in roots i e = record {
    few = (small_in (parcel_of store.objects store.exports roots) e).0;
    small = (small_in (parcel_of store.objects store.exports roots) e).1;
    classes = nodes.classes;
    cells = subst (λ (n : ℕ). AllByRecursion (IsWordIn past n) (map (word_of store.exports walk) roots ++ flat_map (λ (n : Node). n.cells) (nodes_of store.objects store.exports walk walk))) (sym nodes.count)
        (all_append (IsWordIn past (length walk)) (map (word_of store.exports walk) roots) (flat_map (λ (n : Node). n.cells) (nodes_of store.objects store.exports walk walk))
        (words_in walk roots i (all_left (Has walk) first others has)) nodes.words);
  }
    where
      first : List ℕ
      first = references_of store.exports roots

      walk : List ℕ
      walk = walk_of store.objects store.exports first

      others : List ℕ
      others = object_references store.objects store.exports walk

      closed : walk ≡ firsts (first ++ others)
      closed = (only_walk store.objects store.exports first).walk.closed

      has : AllByRecursion (Has walk) (first ++ others)
      has = all_has_more walk (first ++ others) (λ x k. subst (λ (w : List ℕ). Has w x) (sym closed) (in_firsts (first ++ others) x k))

      there : AllByRecursion (IsObject store) walk
      there = all_by_has (IsObject store) walk (λ x k. all_of (IsObject store) (first ++ others) x
          (all_append (IsObject store) first others (references_objects roots i) (object_references_objects walk))
          (of_firsts (first ++ others) x (subst (λ (w : List ℕ). Has w x) closed k)))

      nodes : AreNodes walk walk (nodes_of store.objects store.exports walk walk)
      nodes = nodes_in walk walk there (all_right (Has walk) first others has)

  -- what is packed of values is a parcel that a nucleus can be asked with
  pub packed_in : (roots : List Value) (p : Parcel) → AllByRecursion (IsValueIn past store) roots → packed store.objects store.exports roots ≡ Some p → IsParcelIn s past p
  unfolding packed
  packed_in roots p i e = by (is_small_parcel (parcel_of store.objects store.exports roots)) refl e
    where
      by : (b : Bool) → is_small_parcel (parcel_of store.objects store.exports roots) ≡ b → (if b then Some (parcel_of store.objects store.exports roots) else None) ≡ Some p → IsParcelIn s past p
      by true q e = let z : parcel_of store.objects store.exports roots ≡ p = cc in subst (IsParcelIn s past) z (parcel_in roots i q)
      by false q e = cc
