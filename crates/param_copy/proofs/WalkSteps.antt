-- The walk grows object by object, and each list on the way begins it.
use Rattle.std.proofs.Common.{◌≡◌, refl, sym, ◌∙◌, ap, subst, ℕ, zero, suc, ◌+◌, ◌<◌, ◌≤◌, Bool, true, false, ◌&&◌, List, [], ◌∷◌, ◌++◌, length, take, drop, get_or, Some, None, arith, append_assoc, append-nil, slice_get, ◌⊎◌, inl, inr, IsTrue, sum_by, length-append, All, is_some, if◌then◌else◌}
use Rattle.std.specs.Prelude.{nat_le}
use Rattle.std.specs.List.{flat_map}
use Rattle.std.proofs.lemmas.List.{take_more, take_all, take-append-le, take-append-drop}
use Rattle.std.proofs.lemmas.List.Elements.{All-head, All-tail}
use Rattle.std.proofs.lemmas.Option.{slice_get_within, get_or_from_slice_get, slice_get-get_or}
use Rattle.std.proofs.lemmas.Grind.{flat_map-append}
use Rattle.std.proofs.lemmas.Bool.Decides.{nat_tests}
use Rattle.std.proofs.lemmas.List.Sums.{sum_by-append}
use Rattle.jx_base.specs.declared.states.Exported.{Exported}
use Rattle.jx_base.specs.declared.value.Value.{Value}
use Rattle.jx_base.specs.declared.value.Value.TheVariants as value
use Rattle.program_model.specs.Limits.{node_limit, parcel_limit}
use Rattle.jx_base.specs.Basics.{contains_number, firsts, distinct}
use Rattle.program_model.specs.Parcels.{HeapObject, walk_of, object_references, references_of, reference_of, cells_at, export_at}
use Rattle.program_model.proofs.WalkRounds.{Has, has_head, has_tail, has_cases, has_none, has_first, has_at, get_left, Begins, firsts_begin, mentions_begin}
use Rattle.program_model.proofs.OneWalk.{only_walk}
use Rattle.param_copy.specs.Copies.{IsPlaced, AreClosed, object_size, walk_words, is_small_walk}

-- ---- beginnings

pub take_begins : (k : ℕ) (xs : List ℕ) → Begins (take k xs) xs
take_begins k xs = (drop k xs, sym (take-append-drop k xs))

pub begins_along : (a b c : List ℕ) → Begins a b → Begins b c → Begins a c
begins_along a b c p q = (p.0 ++ q.0, q.1 ∙ ap (λ (xs : List ℕ). xs ++ q.0) p.1 ∙ append_assoc a p.0 q.0)

-- ---- which objects are referred to

pub has_append : (a b : List ℕ) (x : ℕ) → Has (a ++ b) x → Has a x ⊎ Has b x
has_append [] b x h = inr h
has_append (y ∷ a) b x h = elim (has_cases y (a ++ b) x h) [
  | inl q ↦ inl (subst (λ (z : ℕ). Has (y ∷ a) z) q (has_head y a))
  | inr t ↦ elim (has_append a b x t) [ inl u ↦ inl (has_tail y a x u) | inr u ↦ inr u ]
]

one_placed : (exports : List Exported) (n : ℕ) (v : Value) (r : ℕ) → IsPlaced n v → Has (reference_of exports v) r → r < n
unfolding reference_of
one_placed exports n (value.Int k) r p h = has_none r h
one_placed exports n (value.Long k) r p h = has_none r h
one_placed exports n value.Null r p h = has_none r h
one_placed exports n (value.Portal s c) r p h = has_none r h
one_placed exports n (value.Mem m) r p h = has_none r h
one_placed exports n (value.Ref k) r p h = by (is_some (export_at exports k)) h
  where
    by : (b : Bool) → Has (if b then [] else k ∷ []) r → r < n
    by true h = has_none r h
    by false h = elim (has_cases k [] r h) [ inl q ↦ subst (λ (z : ℕ). z < n) q p | inr t ↦ has_none r t ]

pub references_placed : (exports : List Exported) (n : ℕ) (values : List Value) (r : ℕ) → All (IsPlaced n) values → Has (references_of exports values) r → r < n
unfolding references_of
references_placed exports n [] r p h = has_none r h
references_placed exports n (v ∷ values) r p h = elim (has_append (reference_of exports v) (references_of exports values) r h) [
  | inl a ↦ one_placed exports n v r (All-head (IsPlaced n) v values p) a
  | inr b ↦ references_placed exports n values r (All-tail (IsPlaced n) v values p) b
]

cells_placed : (n : ℕ) (objects : List HeapObject) (r : ℕ) → All (λ o. All (IsPlaced n) o.cells) objects → All (IsPlaced n) (cells_at objects r)
unfolding cells_at
cells_placed n [] r p = λ k d l. absurd (omega (arith, l))
cells_placed n (o ∷ objects) zero p = All-head (λ (o : HeapObject). All (IsPlaced n) o.cells) o objects p
cells_placed n (o ∷ objects) (suc r) p = cells_placed n objects r (All-tail (λ (o : HeapObject). All (IsPlaced n) o.cells) o objects p)

objects_placed : (objects : List HeapObject) (exports : List Exported) (xs : List ℕ) (r : ℕ) → AreClosed objects → Has (object_references objects exports xs) r → r < length objects
unfolding object_references
objects_placed objects exports [] r p h = has_none r h
objects_placed objects exports (x ∷ xs) r p h = elim (has_append (references_of exports (cells_at objects x)) (object_references objects exports xs) r h) [
  | inl a ↦ references_placed exports (length objects) (cells_at objects x) r (cells_placed (length objects) objects x p) a
  | inr b ↦ objects_placed objects exports xs r p b
]

-- ---- limits

pub too_many_nodes : (objects : List HeapObject) (roots : ℕ) (walk : List ℕ) → node_limit < length walk → is_small_walk objects roots walk ≡ false
too_many_nodes objects roots walk l =
    let e : nat_le (length walk) node_limit ≡ false = grind (arith, nat_tests) in
    ap (λ (b : Bool). b && nat_le (walk_words objects roots walk) parcel_limit) e

pub too_many_words : (objects : List HeapObject) (roots : ℕ) (walk : List ℕ) → parcel_limit < walk_words objects roots walk → is_small_walk objects roots walk ≡ false
too_many_words objects roots walk l =
    let e : nat_le (walk_words objects roots walk) parcel_limit ≡ false = grind (arith, nat_tests) in
    ap (λ (b : Bool). nat_le (length walk) node_limit && b) e ∙ by (nat_le (length walk) node_limit)
  where
    by : (b : Bool) → (b && false) ≡ false
    by true = refl
    by false = refl

pub few_enough : (objects : List HeapObject) (roots : ℕ) (walk : List ℕ) → length walk ≤ node_limit → walk_words objects roots walk ≤ parcel_limit → is_small_walk objects roots walk ≡ true
few_enough objects roots walk l m =
    let e : nat_le (length walk) node_limit ≡ true = grind (arith, nat_tests) in
    let f : nat_le (walk_words objects roots walk) parcel_limit ≡ true = grind (arith, nat_tests) in
    ap (λ (b : Bool). b && nat_le (walk_words objects roots walk) parcel_limit) e ∙ f

-- with one object more
pub words_more : (objects : List HeapObject) (roots : ℕ) (walk : List ℕ) (k r : ℕ) → slice_get walk k ≡ Some r →
    walk_words objects roots (take (k + 1) walk) ≡ walk_words objects roots (take k walk) + (length (cells_at objects r) + 2)
words_more objects roots walk k r e =
    let l = slice_get_within walk k r e in
    let at : take (k + 1) walk ≡ take k walk ++ r ∷ [] = take_more walk k 0 l ∙ ap (λ (x : ℕ). take k walk ++ x ∷ []) (get_or_from_slice_get walk k r 0 e) in
    let s : sum_by (object_size objects) (take (k + 1) walk) ≡ sum_by (object_size objects) (take k walk) + sum_by (object_size objects) (r ∷ []) =
    ap (sum_by (object_size objects)) at ∙ sum_by-append (object_size objects) (take k walk) (r ∷ []) in
    omega (arith, s)

pub words_begin : (objects : List HeapObject) (roots : ℕ) (a b : List ℕ) → Begins a b → walk_words objects roots a ≤ walk_words objects roots b
words_begin objects roots a b p =
    let s : sum_by (object_size objects) b ≡ sum_by (object_size objects) a + sum_by (object_size objects) p.0 =
    ap (sum_by (object_size objects)) p.1 ∙ sum_by-append (object_size objects) a p.0 in
    omega (arith, s)

pub length_begin : (a b : List ℕ) → Begins a b → length a ≤ length b
length_begin a b p = omega (arith, ap length p.1, length-append a p.0)

-- ---- the walk

module _ (objects : List HeapObject) (exports : List Exported) (refs : List ℕ) where
  abbrev pub mentioned : List ℕ → List ℕ
  mentioned xs = refs ++ object_references objects exports xs

  pub begins_walk : (keys found : List ℕ) (k : ℕ) → Begins keys (walk_of objects exports refs) → found ≡ firsts (mentioned (take k keys)) → Begins found (walk_of objects exports refs)
  begins_walk keys found k p e =
      let w = walk_of objects exports refs in
      let b = begins_along (take k keys) keys w (take_begins k keys) p in
      let f = firsts_begin (mentioned (take k keys)) (mentioned w) (mentions_begin objects exports refs (take k keys) w b) in
      (f.0, (only_walk objects exports refs).walk.closed ∙ f.1 ∙ ap (λ (xs : List ℕ). xs ++ f.0) (sym e))

  -- no object is referred to before the first one
  pub mentioned_first : mentioned [] ≡ refs
  unfolding object_references
  mentioned_first = append-nil refs

  pub starts : (found : List ℕ) → found ≡ firsts refs → (found ≡ firsts (mentioned (take 0 found))) × Begins found (walk_of objects exports refs)
  starts found e =
      let h : found ≡ firsts (mentioned []) = e ∙ ap firsts (sym mentioned_first) in
      (h, begins_walk [] found 0 (walk_of objects exports refs, refl) h)

  mentioned_more : (xs : List ℕ) (r : ℕ) → mentioned (xs ++ r ∷ []) ≡ mentioned xs ++ references_of exports (cells_at objects r)
  unfolding object_references
  mentioned_more xs r =
      let f = λ (x : ℕ). references_of exports (cells_at objects x) in
      ap (λ (ys : List ℕ). refs ++ ys) (flat_map-append f xs (r ∷ []) ∙ ap (λ (ys : List ℕ). flat_map f xs ++ ys) (append-nil (f r)))
      ∙ sym (append_assoc refs (flat_map f xs) (f r))

  -- one object more has been looked at
  pub grows : (keys found : List ℕ) (k r : ℕ) → slice_get keys k ≡ Some r → keys ≡ firsts (mentioned (take k keys)) →
      found ≡ firsts (mentioned (take k keys) ++ references_of exports (cells_at objects r)) →
      (found ≡ firsts (mentioned (take (k + 1) found))) × (length keys ≤ length found) × (take (k + 1) found ≡ take (k + 1) keys)
  grows keys found k r at e h =
      let l = slice_get_within keys k r at in
      let new = references_of exports (cells_at objects r) in
      let b : Begins keys found =
      let f = firsts_begin (mentioned (take k keys)) (mentioned (take k keys) ++ new) (new, refl) in
      (f.0, h ∙ f.1 ∙ ap (λ (xs : List ℕ). xs ++ f.0) (sym e)) in
      let same : take (k + 1) found ≡ take (k + 1) keys = ap (take (k + 1)) b.1 ∙ take-append-le (k + 1) keys b.0 (omega (arith, l)) in
      let last : take (k + 1) keys ≡ take k keys ++ r ∷ [] = take_more keys k 0 l ∙ ap (λ (x : ℕ). take k keys ++ x ∷ []) (get_or_from_slice_get keys k r 0 at) in
      (h ∙ ap firsts (sym (mentioned_more (take k keys) r) ∙ ap mentioned (sym (same ∙ last))), length_begin keys found b, same)

  -- where nothing is left to look at, it is the walk
  pub ends : (keys : List ℕ) (k : ℕ) → length keys ≤ k → keys ≡ firsts (mentioned (take k keys)) → Begins keys (walk_of objects exports refs) → keys ≡ walk_of objects exports refs
  ends keys k l e b =
      let only = only_walk objects exports refs in
      only.only keys (record {
        closed = e ∙ ap (λ (xs : List ℕ). firsts (mentioned xs)) (take_all k keys l);
        reached = λ i r h.
            let m = slice_get_within keys i r h in
            let same : take i (walk_of objects exports refs) ≡ take i keys = ap (take i) b.1 ∙ take-append-le i keys b.0 (omega (arith, m)) in
            let at : slice_get (walk_of objects exports refs) i ≡ Some r = ap (λ (xs : List ℕ). slice_get xs i) b.1 ∙ get_left keys b.0 i m ∙ h in
            subst (λ (xs : List ℕ). IsTrue (contains_number (mentioned xs) r)) same (only.walk.reached i r at);
      })

-- each member is an object
pub members_placed : (objects : List HeapObject) (exports : List Exported) (roots : List Value) (keys xs : List ℕ) (k r : ℕ) → AreClosed objects → All (IsPlaced (length objects)) roots →
    keys ≡ firsts (references_of exports roots ++ object_references objects exports xs) → slice_get keys k ≡ Some r → r < length objects
unfolding distinct
members_placed objects exports roots keys xs k r p q e at =
    let refs = references_of exports roots in let more = object_references objects exports xs in
    let h : Has (firsts (refs ++ more)) r = subst (λ (ys : List ℕ). Has ys r) e (has_at keys k r at) in
    elim (has_append refs more r (has_first [] (refs ++ more) r h)) [
      | inl a ↦ references_placed exports (length objects) roots r q a
      | inr b ↦ objects_placed objects exports xs r p b
    ]

-- each object of the walk is one that there is
pub walk_placed : (objects : List HeapObject) (exports : List Exported) (roots : List Value) → AreClosed objects → All (IsPlaced (length objects)) roots →
    All (λ r. r < length objects) (walk_of objects exports (references_of exports roots))
walk_placed objects exports roots p q =
    let w = walk_of objects exports (references_of exports roots) in
    λ k d l. members_placed objects exports roots w w k (get_or w k d) p q (only_walk objects exports (references_of exports roots)).walk.closed (slice_get-get_or w k d l)

pub past_end : (xs : List ℕ) (k : ℕ) → slice_get xs k ≡ None → length xs ≤ k
past_end [] k e = omega arith
past_end (x ∷ xs) zero e = cc
past_end (x ∷ xs) (suc k) e = omega (arith, past_end xs k e)

pub few_nodes : (objects : List HeapObject) (roots : ℕ) (walk : List ℕ) → is_small_walk objects roots walk ≡ true → length walk ≤ node_limit
few_nodes objects roots walk h = by (nat_le (length walk) node_limit) refl h
  where
    by : (b : Bool) → nat_le (length walk) node_limit ≡ b → (b && nat_le (walk_words objects roots walk) parcel_limit) ≡ true → length walk ≤ node_limit
    by true e h = grind (arith, nat_tests)
    by false e h = cc
