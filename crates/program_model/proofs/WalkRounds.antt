-- The rounds of a walk end in the walk.
use Rattle.std.proofs.Common.{◌≡◌, refl, sym, ◌∙◌, ap, subst, ℕ, suc, zero, ◌+◌, ◌-◌, ◌<◌, ◌≤◌, Bool, true, false, not, cond, ◌||◌, List, [], ◌∷◌, ◌++◌, length, take, Option, Some, None, arith, ◌==◌, if◌then◌else◌, ◌⊎◌, inl, inr, slice_get, filter, append_assoc, append-nil}
use Rattle.std.specs.List.{range_with_len, flat_map}
use Rattle.std.specs.Prelude.{nat_lt}
use Rattle.std.proofs.lemmas.Grind.{flat_map-append}
use Rattle.std.proofs.lemmas.Option.{slice_get_past}
use Rattle.std.proofs.lemmas.List.{take-append-le}
use Rattle.std.proofs.Math.Seq.{take-append-add}
use Rattle.std.proofs.lemmas.Bool.Decides.{nat_tests}
use Rattle.jx_base.specs.declared.states.Exported.{Exported}
use Rattle.jx_base.specs.declared.value.Value.{Value}
use Rattle.jx_base.specs.Basics.{contains_number, firsts, firsts_after, distinct, distinct_after}
use Rattle.program_model.specs.Parcels.{HeapObject, IsWalk, walk_of, walk_rounds, object_references, references_of, reference_of, cells_at}
use Rattle.jx_base.proofs.BasicLaws.{eq_of, differs, same_number}

-- ---- membership

abbrev pub Has : List ℕ → ℕ → Type 0
Has xs x = contains_number xs x ≡ true

pub has_head : (x : ℕ) (xs : List ℕ) → Has (x ∷ xs) x
unfolding contains_number
has_head x xs = ap (λ (b : Bool). b || contains_number xs x) (same_number x)

pub has_tail : (y : ℕ) (xs : List ℕ) (x : ℕ) → Has xs x → Has (y ∷ xs) x
unfolding contains_number
has_tail y xs x h = by (y == x) (contains_number xs x) h
  where
    by : (a b : Bool) → b ≡ true → (a || b) ≡ true
    by true b h = refl
    by false b h = h

-- the head, or one of the rest
pub has_cases : (y : ℕ) (xs : List ℕ) (x : ℕ) → Has (y ∷ xs) x → (y ≡ x) ⊎ Has xs x
unfolding contains_number
has_cases y xs x h = by (y == x) refl h
  where
    by : (b : Bool) → (y == x) ≡ b → (b || contains_number xs x) ≡ true → (y ≡ x) ⊎ (contains_number xs x ≡ true)
    by true q h = inl (eq_of y x q)
    by false q h = inr h

pub has_none : {A : Type 0} (x : ℕ) → Has [] x → A
unfolding contains_number
has_none x h = cc

has_left : (a b : List ℕ) (x : ℕ) → Has a x → Has (a ++ b) x
has_left [] b x h = has_none x h
has_left (y ∷ a) b x h = elim (has_cases y a x h) [
  | inl q ↦ subst (λ (z : ℕ). Has (y ∷ (a ++ b)) z) q (has_head y (a ++ b))
  | inr t ↦ has_tail y (a ++ b) x (has_left a b x t)
]

has_right : (a b : List ℕ) (x : ℕ) → Has b x → Has (a ++ b) x
has_right [] b x h = h
has_right (y ∷ a) b x h = has_tail y (a ++ b) x (has_right a b x h)

has_append : (a b : List ℕ) (x : ℕ) → Has (a ++ b) x → Has a x ⊎ Has b x
has_append [] b x h = inr h
has_append (y ∷ a) b x h = elim (has_cases y (a ++ b) x h) [
  | inl q ↦ inl (subst (λ (z : ℕ). Has (y ∷ a) z) q (has_head y a))
  | inr t ↦ elim (has_append a b x t) [ inl u ↦ inl (has_tail y a x u) | inr u ↦ inr u ]
]

pub get_left : (xs ys : List ℕ) (i : ℕ) → i < length xs → slice_get (xs ++ ys) i ≡ slice_get xs i
get_left [] ys i l = absurd (omega (arith, l))
get_left (x ∷ xs) ys zero l = refl
get_left (x ∷ xs) ys (suc i) l = get_left xs ys i (omega (arith, l))

pub has_at : (xs : List ℕ) (k x : ℕ) → slice_get xs k ≡ Some x → Has xs x
has_at [] k x h = cc
has_at (y ∷ xs) zero x h = let q : y ≡ x = cc in subst (λ (z : ℕ). Has (y ∷ xs) z) q (has_head y xs)
has_at (y ∷ xs) (suc k) x h = has_tail y xs x (has_at xs k x h)

-- ---- first mentions

-- what was seen after a list
seen_after : List ℕ → List ℕ → List ℕ
seen_after seen [] = seen
seen_after seen (x ∷ xs) = if contains_number seen x then seen_after seen xs else seen_after (x ∷ seen) xs

firsts_append : (seen a b : List ℕ) → firsts_after seen (a ++ b) ≡ firsts_after seen a ++ firsts_after (seen_after seen a) b
unfolding distinct_after contains_number seen_after
firsts_append seen [] b = refl
firsts_append seen (x ∷ a) b = by (contains_number seen x) (firsts_append seen a b) (firsts_append (x ∷ seen) a b)
  where
    by : (c : Bool) → firsts_after seen (a ++ b) ≡ firsts_after seen a ++ firsts_after (seen_after seen a) b →
        firsts_after (x ∷ seen) (a ++ b) ≡ firsts_after (x ∷ seen) a ++ firsts_after (seen_after (x ∷ seen) a) b →
        (if c then firsts_after seen (a ++ b) else x ∷ firsts_after (x ∷ seen) (a ++ b))
        ≡ (if c then firsts_after seen a else x ∷ firsts_after (x ∷ seen) a) ++ firsts_after (if c then seen_after seen a else seen_after (x ∷ seen) a) b
    by true p q = p
    by false p q = ap (λ (xs : List ℕ). x ∷ xs) q

-- what was seen stays seen, and what comes is seen
seen_stays : (seen a : List ℕ) (x : ℕ) → Has seen x → Has (seen_after seen a) x
unfolding seen_after
seen_stays seen [] x h = h
seen_stays seen (y ∷ a) x h = by (contains_number seen y) (seen_stays seen a x h) (seen_stays (y ∷ seen) a x (has_tail y seen x h))
  where
    by : (c : Bool) → Has (seen_after seen a) x → Has (seen_after (y ∷ seen) a) x → Has (if c then seen_after seen a else seen_after (y ∷ seen) a) x
    by true p q = p
    by false p q = q

all_seen : (seen a : List ℕ) (x : ℕ) → Has a x → Has (seen_after seen a) x
unfolding seen_after
all_seen seen [] x h = has_none x h
all_seen seen (y ∷ a) x h = by (contains_number seen y) refl (has_cases y a x h) (all_seen seen a x) (all_seen (y ∷ seen) a x)
  where
    by : (c : Bool) → contains_number seen y ≡ c → (y ≡ x) ⊎ Has a x → (Has a x → Has (seen_after seen a) x) → (Has a x → Has (seen_after (y ∷ seen) a) x) →
        Has (if c then seen_after seen a else seen_after (y ∷ seen) a) x
    by true s (inl q) p r = seen_stays seen a x (subst (λ (z : ℕ). Has seen z) q s)
    by true s (inr t) p r = p t
    by false s (inl q) p r = seen_stays (y ∷ seen) a x (subst (λ (z : ℕ). Has (y ∷ seen) z) q (has_head y seen))
    by false s (inr t) p r = r t

nothing_new : (seen b : List ℕ) → ((x : ℕ) → Has b x → Has seen x) → firsts_after seen b ≡ []
unfolding distinct_after contains_number
nothing_new seen [] h = refl
nothing_new seen (x ∷ b) h =
    ap (λ (c : Bool). if c then firsts_after seen b else x ∷ firsts_after (x ∷ seen) b) (h x (has_head x b))
    ∙ nothing_new seen b (λ y t. h y (has_tail x b y t))

-- ---- prefixes

abbrev pub Begins : List ℕ → List ℕ → Type 0
Begins a b = (c : List ℕ) × (b ≡ a ++ c)

pub firsts_begin : (a b : List ℕ) → Begins a b → Begins (firsts a) (firsts b)
unfolding distinct
firsts_begin a b p = (firsts_after (seen_after [] a) p.0, ap (firsts_after []) p.1 ∙ firsts_append [] a p.0)

pub has_first : (seen xs : List ℕ) (x : ℕ) → Has (firsts_after seen xs) x → Has xs x
unfolding distinct_after contains_number
has_first seen [] x h = h
has_first seen (y ∷ xs) x h = by (contains_number seen y) h (has_first seen xs x) (has_first (y ∷ seen) xs x)
  where
    by : (c : Bool) → Has (if c then firsts_after seen xs else y ∷ firsts_after (y ∷ seen) xs) x → (Has (firsts_after seen xs) x → Has xs x) → (Has (firsts_after (y ∷ seen) xs) x → Has xs x) → Has (y ∷ xs) x
    by true h p q = has_tail y xs x (p h)
    by false h p q = elim (has_cases y (firsts_after (y ∷ seen) xs) x h) [
      | inl e ↦ subst (λ (z : ℕ). Has (y ∷ xs) z) e (has_head y xs)
      | inr t ↦ has_tail y xs x (q t)
    ]

pub below : (i n : ℕ) → nat_lt i n ≡ true → i < n
below i n h = grind (arith, nat_tests)

pub above : (i n : ℕ) → nat_lt i n ≡ false → n ≤ i
above i n h = grind (arith, nat_tests)

-- ---- counts

count_most : (p : ℕ → Bool) (a m : ℕ) → length (filter p (range_with_len a m)) ≤ m
count_most p a zero = omega arith
count_most p a (suc m) = by (p a) (count_most p (a + 1) m)
  where
    by : (b : Bool) → length (filter p (range_with_len (a + 1) m)) ≤ m → length (cond b (a ∷ filter p (range_with_len (a + 1) m)) (filter p (range_with_len (a + 1) m))) ≤ suc m
    by true h = omega (arith, h)
    by false h = omega (arith, h)

-- where a test asks more, fewer pass
count_fewer : (p q : ℕ → Bool) (a m : ℕ) → ((i : ℕ) → q i ≡ true → p i ≡ true) → length (filter q (range_with_len a m)) ≤ length (filter p (range_with_len a m))
count_fewer p q a zero f = omega arith
count_fewer p q a (suc m) f = by (p a) (q a) refl refl (count_fewer p q (a + 1) m f)
  where
    by : (x y : Bool) → p a ≡ x → q a ≡ y → length (filter q (range_with_len (a + 1) m)) ≤ length (filter p (range_with_len (a + 1) m)) →
        length (cond y (a ∷ filter q (range_with_len (a + 1) m)) (filter q (range_with_len (a + 1) m))) ≤ length (cond x (a ∷ filter p (range_with_len (a + 1) m)) (filter p (range_with_len (a + 1) m)))
    by true true r s h = omega (arith, h)
    by true false r s h = omega (arith, h)
    by false true r s h = cc (f a s, r)
    by false false r s h = h

-- where as many pass, the same pass
count_even : (p q : ℕ → Bool) (a m : ℕ) → ((i : ℕ) → q i ≡ true → p i ≡ true) → length (filter q (range_with_len a m)) ≡ length (filter p (range_with_len a m)) →
    (i : ℕ) → a ≤ i → i < a + m → p i ≡ true → q i ≡ true
count_even p q a zero f e i l u h = absurd (omega (arith, l, u))
count_even p q a (suc m) f e i l u h = by (p a) (q a) refl refl e (count_even p q (a + 1) m f)
  where
    later : (length (filter q (range_with_len (a + 1) m)) ≡ length (filter p (range_with_len (a + 1) m)) → (i : ℕ) → a + 1 ≤ i → i < a + 1 + m → p i ≡ true → q i ≡ true) →
        length (filter q (range_with_len (a + 1) m)) ≡ length (filter p (range_with_len (a + 1) m)) → (a ≡ i → q i ≡ true) → q i ≡ true
    later again g here = at (a == i) refl
      where
        at : (b : Bool) → (a == i) ≡ b → q i ≡ true
        at true z = here (eq_of a i z)
        at false z = let d = differs a i z in again g i (omega (arith, l, d)) (omega (arith, u)) h

    by : (x y : Bool) → p a ≡ x → q a ≡ y →
        length (cond y (a ∷ filter q (range_with_len (a + 1) m)) (filter q (range_with_len (a + 1) m))) ≡ length (cond x (a ∷ filter p (range_with_len (a + 1) m)) (filter p (range_with_len (a + 1) m))) →
        (length (filter q (range_with_len (a + 1) m)) ≡ length (filter p (range_with_len (a + 1) m)) → (i : ℕ) → a + 1 ≤ i → i < a + 1 + m → p i ≡ true → q i ≡ true) → q i ≡ true
    by true true r s g again = later again (omega (arith, g)) (λ z. ap q (sym z) ∙ s)
    by true false r s g again = absurd (omega (arith, g, count_fewer p q (a + 1) m f))
    by false true r s g again = cc (f a s, r)
    by false false r s g again = later again g (λ z. cc (ap p z, r, h))

-- ---- rounds

module _ (objects : List HeapObject) (exports : List Exported) (roots : List ℕ) where
  abbrev refs : ℕ → List ℕ
  refs r = references_of exports (cells_at objects r)

  abbrev pub mentions : List ℕ → List ℕ
  mentions xs = roots ++ object_references objects exports xs

  abbrev round : ℕ → List ℕ
  round k = walk_rounds objects exports roots k

  refs_append : (a b : List ℕ) → object_references objects exports (a ++ b) ≡ object_references objects exports a ++ object_references objects exports b
  unfolding object_references
  refs_append a b = flat_map-append refs a b

  mentions_append : (a c : List ℕ) → mentions (a ++ c) ≡ mentions a ++ object_references objects exports c
  mentions_append a c = ap (λ (xs : List ℕ). roots ++ xs) (refs_append a c) ∙ sym (append_assoc roots (object_references objects exports a) (object_references objects exports c))

  pub mentions_begin : (a b : List ℕ) → Begins a b → Begins (mentions a) (mentions b)
  mentions_begin a b p = (object_references objects exports p.0, ap mentions p.1 ∙ mentions_append a p.0)

  -- each round begins with the one before it
  rounds_begin : (k : ℕ) → Begins (round k) (round (suc k))
  unfolding walk_rounds
  rounds_begin zero = (round 1, refl)
  rounds_begin (suc k) = firsts_begin (mentions (round k)) (mentions (round (suc k))) (mentions_begin (round k) (round (suc k)) (rounds_begin k))

  -- ---- references of members

  from_member : (xs : List ℕ) (x : ℕ) → Has (object_references objects exports xs) x → (r : ℕ) × Has xs r × Has (refs r) x
  unfolding object_references
  from_member [] x h = has_none x h
  from_member (r ∷ xs) x h = elim (has_append (refs r) (object_references objects exports xs) x h) [
    | inl a ↦ (r, has_head r xs, a)
    | inr b ↦ let m = from_member xs x b in (m.0, has_tail r xs m.0 m.1, m.2)
  ]

  of_member : (xs : List ℕ) (r x : ℕ) → Has xs r → Has (refs r) x → Has (object_references objects exports xs) x
  unfolding object_references
  of_member [] r x h m = has_none r h
  of_member (y ∷ xs) r x h m = elim (has_cases y xs r h) [
    | inl q ↦ has_left (refs y) (object_references objects exports xs) x (subst (λ (z : ℕ). Has (refs z) x) (sym q) m)
    | inr t ↦ has_right (refs y) (object_references objects exports xs) x (of_member xs r x t m)
  ]

  beyond : {A : Type 0} (r x : ℕ) → length objects ≤ r → Has (refs r) x → A
  unfolding cells_at references_of
  beyond r x l h =
      has_none x (ap (λ (o : Option HeapObject). contains_number (flat_map (reference_of exports) (elim o as (λ _. List Value) [ None ↦ [] | Some y ↦ y.cells ])) x) (sym (slice_get_past objects r l)) ∙ h)

  -- ---- a round that finds no object is the last

  abbrev Settled : ℕ → Type 0
  Settled k = (i : ℕ) → i < length objects → Has (round (suc k)) i → Has (round k) i

  settles : (k : ℕ) → Settled k → round (suc (suc k)) ≡ round (suc k)
  unfolding walk_rounds distinct
  settles k s =
      let c = rounds_begin k in
      ap (λ (xs : List ℕ). firsts (mentions xs)) c.1
      ∙ ap firsts (mentions_append (round k) c.0)
      ∙ firsts_append [] (mentions (round k)) (object_references objects exports c.0)
      ∙ ap (λ (xs : List ℕ). firsts (mentions (round k)) ++ xs) (nothing_new (seen_after [] (mentions (round k))) (object_references objects exports c.0) (λ x h. all_seen [] (mentions (round k)) x (known c.0 c.1 x (from_member c.0 x h))))
      ∙ append-nil (firsts (mentions (round k)))
    where
      known : (c : List ℕ) → round (suc k) ≡ round k ++ c → (x : ℕ) → ((r : ℕ) × Has c r × Has (refs r) x) → Has (mentions (round k)) x
      known c e x m = by (nat_lt m.0 (length objects)) refl
        where
          inside : m.0 < length objects → Has (mentions (round k)) x
          inside l =
              has_right roots (object_references objects exports (round k)) x
              (of_member (round k) m.0 x (s m.0 l (subst (λ (xs : List ℕ). Has xs m.0) (sym e) (has_right (round k) c m.0 m.1))) m.2)

          by : (b : Bool) → nat_lt m.0 (length objects) ≡ b → Has (mentions (round k)) x
          by true q = inside (below m.0 (length objects) q)
          by false q = beyond m.0 x (above m.0 (length objects) q) m.2

  -- ---- a round settles in time

  missing : ℕ → ℕ
  missing k = length (filter (λ i. not (contains_number (round k) i)) (range_with_len 0 (length objects)))

  found_stays : (k i : ℕ) → not (contains_number (round (suc k)) i) ≡ true → not (contains_number (round k) i) ≡ true
  found_stays k i h = by (contains_number (round k) i) refl
    where
      by : (b : Bool) → contains_number (round k) i ≡ b → not b ≡ true
      by false q = refl
      by true q = let c = rounds_begin k in cc (subst (λ (xs : List ℕ). Has xs i) (sym c.1) (has_left (round k) c.0 i q), h)

  even_settles : (k : ℕ) → missing (suc k) ≡ missing k → Settled k
  unfolding missing
  even_settles k e i l h = by (contains_number (round k) i) refl
    where
      by : (b : Bool) → contains_number (round k) i ≡ b → b ≡ true
      by true q = refl
      by false q =
          let z = count_even (λ i. not (contains_number (round k) i)) (λ i. not (contains_number (round (suc k)) i)) 0 (length objects) (λ i. found_stays k i) e i (omega arith) (omega (arith, l)) (ap not q) in
          cc (z, h)

  missing_falls : (k : ℕ) → missing (suc k) ≤ missing k
  unfolding missing
  missing_falls k = count_fewer (λ i. not (contains_number (round k) i)) (λ i. not (contains_number (round (suc k)) i)) 0 (length objects) (λ i. found_stays k i)

  settled_by : (m k : ℕ) → missing k ≤ m → (j : ℕ) × (j ≤ k + m) × (round (suc (suc j)) ≡ round (suc j))
  settled_by zero k l = (k, omega arith, settles k (even_settles k (omega (arith, l, missing_falls k))))
  settled_by (suc m) k l = by (missing (suc k) == missing k) refl (settled_by m (suc k))
    where
      by : (b : Bool) → (missing (suc k) == missing k) ≡ b → (missing (suc k) ≤ m → (j : ℕ) × (j ≤ suc k + m) × (round (suc (suc j)) ≡ round (suc j))) →
          (j : ℕ) × (j ≤ k + suc m) × (round (suc (suc j)) ≡ round (suc j))
      by true q again = (k, omega arith, settles k (even_settles k (eq_of (missing (suc k)) (missing k) q)))
      by false q again =
          let d = differs (missing (suc k)) (missing k) q in
          let r = again (omega (arith, l, d, missing_falls k)) in (r.0, omega (arith, r.1), r.2)

  stays : (d i k : ℕ) → i + d ≡ k → round (suc i) ≡ round i → round (suc k) ≡ round k
  unfolding walk_rounds
  stays zero i k e h = let q : i ≡ k = omega (arith, e) in subst (λ (n : ℕ). round (suc n) ≡ round n) q h
  stays (suc d) i zero e h = absurd (omega (arith, e))
  stays (suc d) i (suc k) e h = ap (λ (xs : List ℕ). firsts (mentions xs)) (stays d i k (omega (arith, e)) h)

  last_round : round (suc (length objects + 1)) ≡ round (length objects + 1)
  unfolding missing
  last_round =
      let s = settled_by (length objects) 0 (count_most (λ i. not (contains_number (round 0) i)) 0 (length objects)) in
      stays (length objects - s.0) (suc s.0) (length objects + 1) (omega (arith, s.1)) s.2

  -- ---- each member is mentioned before it

  -- a part of the next round that has all of this one
  longer : (m k : ℕ) → length (round m) ≤ k → Begins (round m) (take k (round (suc m)))
  longer m k l =
      let c = rounds_begin m in
      let n : length (round m) + (k - length (round m)) ≡ k = omega (arith, l) in (
        take (k - length (round m)) c.0,
        ap (take k) c.1
            ∙ ap (λ (i : ℕ). take i (round m ++ c.0)) (sym n)
            ∙ take-append-add (round m) c.0 (k - length (round m)),
      )

  reached : (m k r : ℕ) → slice_get (round m) k ≡ Some r → Has (mentions (take k (round m))) r
  unfolding walk_rounds distinct
  reached zero k r h = cc
  reached (suc m) k r h = by (nat_lt k (length (round m))) refl (reached m k r)
    where
      c : Begins (round m) (round (suc m))
      c = rounds_begin m

      by : (b : Bool) → nat_lt k (length (round m)) ≡ b → (slice_get (round m) k ≡ Some r → Has (mentions (take k (round m))) r) → Has (mentions (take k (round (suc m)))) r
      by true q again =
          let l = below k (length (round m)) q in
          let old : slice_get (round m) k ≡ Some r = sym (get_left (round m) c.0 k l) ∙ ap (λ (xs : List ℕ). slice_get xs k) (sym c.1) ∙ h in
          let same : take k (round (suc m)) ≡ take k (round m) = ap (take k) c.1 ∙ take-append-le k (round m) c.0 (omega (arith, l)) in
          subst (λ (xs : List ℕ). Has (mentions xs) r) (sym same) (again old)
      by false q again =
          let p = mentions_begin (round m) (take k (round (suc m))) (longer m k (above k (length (round m)) q)) in
          subst (λ (xs : List ℕ). Has xs r) (sym p.1) (has_left (mentions (round m)) p.0 r (has_first [] (mentions (round m)) r (has_at (round (suc m)) k r h)))

-- the rounds end in the walk
pub rounds_walk : (objects : List HeapObject) (exports : List Exported) (roots : List ℕ) → IsWalk objects exports roots (walk_of objects exports roots)
unfolding walk_of walk_rounds
rounds_walk objects exports roots =
    record {
      closed = sym (last_round objects exports roots);
      reached = λ k r h. reached objects exports roots (length objects + 1) k r h;
    }
