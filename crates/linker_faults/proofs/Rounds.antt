-- The classes above a class, round by round, and as a list that grows at its end.
use Rattle.std.proofs.Common.{◌≡◌, ◌∙◌, refl, sym, ap, subst, ℕ, zero, suc, ◌+◌, ◌<◌, ◌≤◌, ◌⊎◌, inl, inr, List, [], ◌∷◌, ◌++◌, length, take, get_or, slice_get, Some, arith}
use Rattle.std.specs.Prelude.{flat_map}
use Rattle.std.proofs.lemmas.Grind.{flat_map-append}
use Rattle.std.proofs.lemmas.List.{append-nil, length-append, take_all, take_more, take-append-le, take-append-drop}
use Rattle.std.proofs.lemmas.Option.{get_or_from_slice_get}
use Rattle.link_laws.proofs.Lists.{below_length}
use Rattle.jx_base.specs.Basics.{all_added, firsts}
use Rattle.linker_faults.specs.Hierarchies.{joined}
use Rattle.linker_faults.proofs.Growing.{Begins, begins_both, begins_itself, begins_joined, begins_longer, begins_whole, firsts_joined, joined_lists}

module _ (next : ℕ → List ℕ) (start : List ℕ) where
  -- what stands above, as far as so many rounds lead
  abbrev pub rounds : ℕ → List ℕ
  rounds zero = []
  rounds (suc k) = firsts (start ++ flat_map next (rounds k))

  -- the start with what stands above these
  abbrev pub led_to : List ℕ → List ℕ
  led_to xs = joined (joined [] start) (flat_map next xs)

  -- a round leads from what the rounds before led to
  round_more : (k : ℕ) → rounds (suc k) ≡ led_to (rounds k)
  round_more k = firsts_joined (start ++ flat_map next (rounds k)) ∙ joined_lists [] start (flat_map next (rounds k))

  -- more leads to more
  led_further : (xs zs : List ℕ) → led_to (xs ++ zs) ≡ joined (led_to xs) (flat_map next zs)
  led_further xs zs =
      ap (joined (joined [] start)) (flat_map-append next xs zs)
      ∙ joined_lists (joined [] start) (flat_map next xs) (flat_map next zs)

  -- so a beginning leads to a beginning
  led_begins : (xs ys : List ℕ) → Begins xs ys → Begins (led_to xs) (led_to ys)
  led_begins xs ys h =
      subst (Begins (led_to xs)) (sym (ap led_to h.1 ∙ led_further xs h.0)) (begins_joined (led_to xs) (flat_map next h.0))

  -- rounds begin the next ones
  round_begins : (k : ℕ) → Begins (rounds k) (rounds (suc k))
  round_begins zero = (rounds 1, refl)
  round_begins (suc k) =
      let r = led_begins (rounds k) (rounds (suc k)) (round_begins k) in
      (r.0, round_more (suc k) ∙ r.1 ∙ ap (λ xs. xs ++ r.0) (sym (round_more k)))

  -- and all later ones
  rounds_begin : (k j : ℕ) → Begins (rounds k) (rounds (j + k))
  rounds_begin k zero = subst (λ n. Begins (rounds k) (rounds n)) (none k) (begins_itself (rounds k))
    where
      none : (k : ℕ) → k ≡ 0 + k
      none k = omega arith
  rounds_begin k (suc j) = begins_longer (rounds k) (rounds (j + k)) (rounds (suc j + k)) (rounds_begin k j) (subst (λ n. Begins (rounds (j + k)) (rounds n)) (one j k) (round_begins (j + k)))
    where
      one : (j k : ℕ) → suc (j + k) ≡ suc j + k
      one j k = omega arith

  -- rounds that found nothing new find nothing later
  rounds_stay : (k j : ℕ) → rounds k ≡ rounds (suc k) → rounds (j + k) ≡ rounds k
  rounds_stay k zero h = ap rounds (none k)
    where
      none : (k : ℕ) → 0 + k ≡ k
      none k = omega arith
  rounds_stay k (suc j) h =
      ap rounds (one j k) ∙ round_more (j + k) ∙ ap led_to (rounds_stay k j h) ∙ sym (round_more k) ∙ sym h
    where
      one : (j k : ℕ) → suc j + k ≡ suc (j + k)
      one j k = omega arith

  -- each round finds something new, or none does from there on
  rounds_grow : (k : ℕ) → (k ≤ length (rounds k)) ⊎ (rounds k ≡ rounds (suc k))
  rounds_grow zero = inl (omega arith)
  rounds_grow (suc k) = elim (rounds_grow k) [
    | inr same ↦ inr (again same)
    | inl long ↦ more (round_begins k) long
  ]
    where
      again : rounds k ≡ rounds (suc k) → rounds (suc k) ≡ rounds (suc (suc k))
      again same = round_more k ∙ ap led_to same ∙ sym (round_more (suc k))

      more : Begins (rounds k) (rounds (suc k)) → k ≤ length (rounds k) → (suc k ≤ length (rounds (suc k))) ⊎ (rounds (suc k) ≡ rounds (suc (suc k)))
      more h long = by h.0 h.1
        where
          by : (zs : List ℕ) → rounds (suc k) ≡ rounds k ++ zs → (suc k ≤ length (rounds (suc k))) ⊎ (rounds (suc k) ≡ rounds (suc (suc k)))
          by [] e = inr (again (sym (e ∙ append-nil (rounds k))))
          by (z ∷ zs) e = inl (omega (arith, long, ap length e, length-append (rounds k) (z ∷ zs)))

  -- ---- the list that grows

  -- a list that was followed up to a place: it is what its front leads to, and one round more than there are places leads to it
  pub record IsFollowed (i : ℕ) (xs : List ℕ) : Type 0 where
    pub led : xs ≡ led_to (take i xs)
    pub within : Begins xs (rounds (suc i))

  -- the start isn't followed yet
  pub followed_none : IsFollowed 0 (joined [] start)
  unfolding all_added
  followed_none = record { led = refl; within = subst (Begins (joined [] start)) (sym (round_more 0)) (begins_joined (joined [] start) []) }

  -- one place more is followed
  pub followed_more : (i : ℕ) (xs : List ℕ) (y : ℕ) → slice_get xs i ≡ Some y → IsFollowed i xs → IsFollowed (i + 1) (joined xs (next y))
  followed_more i xs y at h = record { led = sym leads; within = subst (λ n. Begins more (rounds (suc n))) (one i) reached }
    where
      more : List ℕ
      more = joined xs (next y)

      one : (i : ℕ) → suc i ≡ i + 1
      one i = omega arith

      le : i < length xs
      le = below_length xs i y at

      is : y ≡ get_or xs i y
      is = sym (get_or_from_slice_get xs i y y at)

      -- the front stays
      front : take (i + 1) more ≡ take i xs ++ y ∷ []
      front =
          let b = begins_joined xs (next y) in
          ap (take (i + 1)) b.1 ∙ take-append-le (i + 1) xs b.0 (omega (arith, le)) ∙ take_more xs i y le ∙ ap (λ z. take i xs ++ z ∷ []) (sym is)

      leads : led_to (take (i + 1) more) ≡ more
      leads =
          ap led_to front ∙ led_further (take i xs) (y ∷ []) ∙ ap (joined (led_to (take i xs))) (append-nil (next y))
          ∙ ap (λ zs. joined zs (next y)) (sym h.led)

      -- the front begins what the rounds led to
      begun : Begins (take (i + 1) more) (rounds (suc i))
      begun = begins_longer (take (i + 1) more) xs (rounds (suc i)) (subst (λ zs. Begins zs xs) (sym (front ∙ ap (λ z. take i xs ++ z ∷ []) is ∙ sym (take_more xs i y le))) (rest (i + 1) xs)) h.within
        where
          rest : (n : ℕ) (zs : List ℕ) → Begins (take n zs) zs
          rest n zs = (_, sym (take-append-drop n zs))

      reached : Begins more (rounds (suc (suc i)))
      reached = subst (Begins more) (sym (round_more (suc i))) (subst (λ zs. Begins zs (led_to (rounds (suc i)))) leads (led_begins (take (i + 1) more) (rounds (suc i)) begun))

  -- a list that leads to itself begins with what any rounds lead to
  closed : (xs : List ℕ) → xs ≡ led_to xs → (k : ℕ) → Begins (rounds k) xs
  closed xs e zero = (xs, refl)
  closed xs e (suc k) =
      let r = led_begins (rounds k) xs (closed xs e k) in
      (r.0, e ∙ r.1 ∙ ap (λ ys. ys ++ r.0) (sym (round_more k)))

  -- a list that was followed to its end is what so many rounds lead to, if it isn't longer
  pub followed_all : (n i : ℕ) (xs : List ℕ) → length xs ≤ i → length xs ≤ n → IsFollowed i xs → xs ≡ rounds n
  followed_all n i xs end short h = elim (rounds_grow n) [
    | inl long ↦ begins_whole (rounds n) xs (closed xs all n) (omega (arith, short, long))
    | inr same ↦ begins_both (rounds (n + suc i)) xs (closed xs all (n + suc i)) (begins_longer xs (rounds (suc i)) (rounds (n + suc i)) h.within (rounds_begin (suc i) n)) ∙ ap rounds (turned n (suc i)) ∙ rounds_stay n (suc i) same
  ]
    where
      all : xs ≡ led_to xs
      all = h.led ∙ ap led_to (take_all i xs end)

      turned : (a b : ℕ) → a + b ≡ b + a
      turned a b = omega arith
