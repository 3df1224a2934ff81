-- There is one walk of each list of roots.
use Rattle.std.proofs.Common.{◌≡◌, refl, sym, ◌∙◌, ap, subst, ℕ, suc, zero, ◌+◌, ◌<◌, ◌≤◌, Bool, true, false, List, [], ◌∷◌, ◌++◌, length, take, Option, Some, None, arith, if◌then◌else◌, ◌⊎◌, inl, inr, slice_get}
use Rattle.std.specs.Prelude.{nat_lt}
use Rattle.std.proofs.lemmas.Option.{slice_get_past}
use Rattle.jx_base.specs.declared.states.Exported.{Exported}
use Rattle.jx_base.specs.Basics.{contains_number, firsts, firsts_after, distinct, distinct_after}
use Rattle.program_model.specs.Parcels.{HeapObject, IsWalk, IsOnlyWalk, walk_of}
use Rattle.program_model.proofs.WalkRounds.{rounds_walk, Has, has_head, has_tail, has_cases, has_none, has_at, get_left, Begins, firsts_begin, mentions, mentions_begin, below, above}

-- what a list has, its first mentions have, or it was seen
kept : (seen xs : List ℕ) (x : ℕ) → Has xs x → Has (firsts_after seen xs) x ⊎ Has seen x
unfolding distinct_after contains_number
kept seen [] x h = has_none x h
kept seen (y ∷ xs) x h = by (contains_number seen y) refl (has_cases y xs x h) (kept seen xs x) (kept (y ∷ seen) xs x)
  where
    after : Has (firsts_after (y ∷ seen) xs) x ⊎ Has (y ∷ seen) x → Has (y ∷ firsts_after (y ∷ seen) xs) x ⊎ Has seen x
    after (inl a) = inl (has_tail y (firsts_after (y ∷ seen) xs) x a)
    after (inr b) = elim (has_cases y seen x b) [
      | inl q ↦ inl (subst (λ (z : ℕ). Has (y ∷ firsts_after (y ∷ seen) xs) z) q (has_head y (firsts_after (y ∷ seen) xs)))
      | inr t ↦ inr t
    ]

    by : (c : Bool) → contains_number seen y ≡ c → (y ≡ x) ⊎ Has xs x → (Has xs x → Has (firsts_after seen xs) x ⊎ Has seen x) → (Has xs x → Has (firsts_after (y ∷ seen) xs) x ⊎ Has (y ∷ seen) x) →
        Has (if c then firsts_after seen xs else y ∷ firsts_after (y ∷ seen) xs) x ⊎ Has seen x
    by true s (inl q) p r = inr (subst (λ (z : ℕ). Has seen z) q s)
    by true s (inr t) p r = p t
    by false s (inl q) p r = inl (subst (λ (z : ℕ). Has (y ∷ firsts_after (y ∷ seen) xs) z) q (has_head y (firsts_after (y ∷ seen) xs)))
    by false s (inr t) p r = after (r t)

in_firsts : (xs : List ℕ) (x : ℕ) → Has xs x → Has (firsts xs) x
unfolding distinct
in_firsts xs x h = elim (kept [] xs x h) [ inl a ↦ a | inr b ↦ has_none x b ]

-- no first mention was seen before
unseen : (seen xs : List ℕ) (x : ℕ) → Has (firsts_after seen xs) x → contains_number seen x ≡ false
unfolding distinct_after contains_number
unseen seen [] x h = has_none x h
unseen seen (y ∷ xs) x h = by (contains_number seen y) refl h (unseen seen xs x) (unseen (y ∷ seen) xs x)
  where
    tail : (b : Bool) → contains_number seen x ≡ b → contains_number (y ∷ seen) x ≡ false → b ≡ false
    tail false q h = refl
    tail true q h = cc (has_tail y seen x q, h)

    by : (c : Bool) → contains_number seen y ≡ c → Has (if c then firsts_after seen xs else y ∷ firsts_after (y ∷ seen) xs) x →
        (Has (firsts_after seen xs) x → contains_number seen x ≡ false) → (Has (firsts_after (y ∷ seen) xs) x → contains_number (y ∷ seen) x ≡ false) → contains_number seen x ≡ false
    by true s h p q = p h
    by false s h p q = elim (has_cases y (firsts_after (y ∷ seen) xs) x h) [
      | inl e ↦ ap (contains_number seen) (sym e) ∙ s
      | inr t ↦ tail (contains_number seen x) refl (q t)
    ]

-- no first mention stands twice
one_place : (seen xs : List ℕ) (i j x : ℕ) → slice_get (firsts_after seen xs) i ≡ Some x → slice_get (firsts_after seen xs) j ≡ Some x → i ≡ j
unfolding distinct_after contains_number
one_place seen [] i j x h k = cc
one_place seen (y ∷ xs) i j x h k = by (contains_number seen y) i j h k (one_place seen xs) (one_place (y ∷ seen) xs)
  where
    again : {A : Type 0} (i : ℕ) → slice_get (firsts_after (y ∷ seen) xs) i ≡ Some x → y ≡ x → A
    again i h q =
        let u = unseen (y ∷ seen) xs x (has_at (firsts_after (y ∷ seen) xs) i x h) in
        let v : Has (y ∷ seen) x = subst (λ (z : ℕ). Has (y ∷ seen) z) q (has_head y seen) in cc (u, v)

    by : (c : Bool) (i j : ℕ) → slice_get (if c then firsts_after seen xs else y ∷ firsts_after (y ∷ seen) xs) i ≡ Some x → slice_get (if c then firsts_after seen xs else y ∷ firsts_after (y ∷ seen) xs) j ≡ Some x →
        ((i j x : ℕ) → slice_get (firsts_after seen xs) i ≡ Some x → slice_get (firsts_after seen xs) j ≡ Some x → i ≡ j) →
        ((i j x : ℕ) → slice_get (firsts_after (y ∷ seen) xs) i ≡ Some x → slice_get (firsts_after (y ∷ seen) xs) j ≡ Some x → i ≡ j) → i ≡ j
    by true i j h k p q = p i j x h k
    by false zero zero h k p q = refl
    by false zero (suc j) h k p q = again j k cc
    by false (suc i) zero h k p q = again i h cc
    by false (suc i) (suc j) h k p q = ap suc (q i j x h k)

at_has : (xs : List ℕ) (x : ℕ) → Has xs x → (j : ℕ) × (slice_get xs j ≡ Some x) × (j < length xs)
at_has [] x h = has_none x h
at_has (y ∷ xs) x h = elim (has_cases y xs x h) [
  | inl q ↦ (0, ap Some q, omega arith)
  | inr t ↦ let m = at_has xs x t in (suc m.0, m.1, omega (arith, m.2))
]

-- what is there, as a list
one_of : Option ℕ → List ℕ
one_of None = []
one_of (Some x) = x ∷ []

take_more : (xs : List ℕ) (k : ℕ) → take (suc k) xs ≡ take k xs ++ one_of (slice_get xs k)
unfolding one_of
take_more [] zero = refl
take_more [] (suc k) = refl
take_more (x ∷ xs) zero = refl
take_more (x ∷ xs) (suc k) = ap (λ (ys : List ℕ). x ∷ ys) (take_more xs k)

take_begins : (xs : List ℕ) (k : ℕ) → Begins (take k xs) xs
take_begins xs zero = (xs, refl)
take_begins [] (suc k) = ([], refl)
take_begins (x ∷ xs) (suc k) = let p = take_begins xs k in (p.0, ap (λ (ys : List ℕ). x ∷ ys) p.1)

take_whole : (xs : List ℕ) (k : ℕ) → length xs ≤ k → take k xs ≡ xs
take_whole [] zero l = refl
take_whole [] (suc k) l = refl
take_whole (x ∷ xs) zero l = absurd (omega (arith, l))
take_whole (x ∷ xs) (suc k) l = ap (λ (ys : List ℕ). x ∷ ys) (take_whole xs k (omega (arith, l)))

module _ (objects : List HeapObject) (exports : List Exported) (roots : List ℕ) where
  -- a walk's member is told by those before it
  next_member : (walk : List ℕ) → IsWalk objects exports roots walk → (k : ℕ) → slice_get walk k ≡ slice_get (firsts (mentions objects exports roots (take k walk))) k
  unfolding distinct
  next_member walk w k = by (nat_lt k (length (firsts (mentions objects exports roots (take k walk))))) refl
    where
      found : List ℕ
      found = firsts (mentions objects exports roots (take k walk))

      start : Begins (firsts (mentions objects exports roots (take k walk))) (firsts (mentions objects exports roots walk))
      start = firsts_begin (mentions objects exports roots (take k walk)) (mentions objects exports roots walk) (mentions_begin objects exports roots (take k walk) walk (take_begins walk k))

      same : (j : ℕ) → j < length (firsts (mentions objects exports roots (take k walk))) → slice_get walk j ≡ slice_get (firsts (mentions objects exports roots (take k walk))) j
      same j l = ap (λ (xs : List ℕ). slice_get xs j) (w.closed ∙ start.1) ∙ get_left (firsts (mentions objects exports roots (take k walk))) start.0 j l

      none : (o : Option ℕ) → slice_get walk k ≡ o → length (firsts (mentions objects exports roots (take k walk))) ≤ k → o ≡ None
      none None q l = refl
      none (Some r) q l =
          let m = at_has (firsts (mentions objects exports roots (take k walk))) r (in_firsts (mentions objects exports roots (take k walk)) r (w.reached k r q)) in
          let first : slice_get walk m.0 ≡ Some r = same m.0 m.2 ∙ m.1 in
          let e : m.0 ≡ k = one_place [] (mentions objects exports roots walk) m.0 k r
          (ap (λ (xs : List ℕ). slice_get xs m.0) (sym w.closed) ∙ first) (ap (λ (xs : List ℕ). slice_get xs k) (sym w.closed) ∙ q) in
          absurd (omega (arith, l, m.2, e))

      by : (b : Bool) → nat_lt k (length (firsts (mentions objects exports roots (take k walk)))) ≡ b → slice_get walk k ≡ slice_get (firsts (mentions objects exports roots (take k walk))) k
      by true q = same k (below k (length (firsts (mentions objects exports roots (take k walk)))) q)
      by false q =
          let l = above k (length (firsts (mentions objects exports roots (take k walk)))) q in
          none (slice_get walk k) refl l ∙ sym (slice_get_past (firsts (mentions objects exports roots (take k walk))) k l)

  same_start : (a b : List ℕ) → IsWalk objects exports roots a → IsWalk objects exports roots b → (k : ℕ) → take k a ≡ take k b
  same_start a b v w zero = refl
  same_start a b v w (suc k) =
      let p = same_start a b v w k in
      take_more a k
      ∙ ap (λ (xs : List ℕ). xs ++ one_of (slice_get a k)) p
      ∙ ap (λ (o : Option ℕ). take k b ++ one_of o) (next_member a v k ∙ ap (λ (xs : List ℕ). slice_get (firsts (mentions objects exports roots xs)) k) p ∙ sym (next_member b w k))
      ∙ sym (take_more b k)

  -- there is one walk
  pub one_walk : (a b : List ℕ) → IsWalk objects exports roots a → IsWalk objects exports roots b → a ≡ b
  one_walk a b v w =
      sym (take_whole a (length a + length b) (omega arith)) ∙ same_start a b v w (length a + length b) ∙ take_whole b (length a + length b) (omega arith)

-- the rounds of a walk end in the one walk
pub only_walk : (objects : List HeapObject) (exports : List Exported) (roots : List ℕ) → IsOnlyWalk objects exports roots
only_walk objects exports roots =
    let w = rounds_walk objects exports roots in
    record { walk = w; only = λ other v. one_walk objects exports roots other (walk_of objects exports roots) v w }
