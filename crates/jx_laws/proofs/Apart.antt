-- Runs of granules that lie apart.
use Rattle.std.proofs.Common.{◌≡◌, refl, sym, ◌∙◌, ap, subst, ℕ, suc, zero, ◌<◌, ◌≤◌, ◌+◌, Bool, true, false, not, ◌&&◌, List, [], ◌∷◌, ◌++◌, Option, Some, arith, ◌⊎◌, inl, inr, slice_get}
use Rattle.std.specs.List.{list_any, range_with_len, filter_map}
use Rattle.std.specs.Prelude.{nat_lt, nat_le, ⊤}
use Rattle.std.proofs.lemmas.Bool.Decides.{nat_tests}
use Rattle.std.proofs.lemmas.List.Folds.{list_any-append}
use Rattle.jx_model.specs.Granules.{Run, run_if, lies_in, lies_in_one, is_free_run, least_free}
use Rattle.jx_laws.specs.Laws.{AreApart}
use Rattle.jx_base.proofs.BasicLaws.{both}
use Rattle.jx_laws.proofs.Basics.{turned, or_first, or_second}
use Rattle.jx_laws.proofs.Lists.{get_none}
use Rattle.jx_laws.proofs.Ranges.{all_range}

-- two runs share no granule
abbrev pub AreClear : Run → Run → Type 0
AreClear r q = (g : ℕ) → lies_in g r ≡ true → lies_in g q ≡ true → ⊥

-- a run shares no granule with any of these
abbrev pub IsClearOf : Run → List Run → Type 0
IsClearOf r [] = ⊤
IsClearOf r (q ∷ qs) = AreClear r q × IsClearOf r qs

-- no run shares a granule with one behind it
abbrev pub LieApart : List Run → Type 0
LieApart [] = ⊤
LieApart (r ∷ rs) = IsClearOf r rs × LieApart rs

-- none of the first runs shares a granule with one of the others
abbrev pub AreClearOf : List Run → List Run → Type 0
AreClearOf [] qs = ⊤
AreClearOf (r ∷ rs) qs = IsClearOf r qs × AreClearOf rs qs

-- a run shares no granule with another, and so the other with it
pub clear_back : (r q : Run) → AreClear r q → AreClear q r
clear_back r q h g x y = h g y x

-- ---- by places

-- a run that is clear of a list is clear of each of its runs
clear_at : (r : Run) (qs : List Run) (i : ℕ) (q : Run) → IsClearOf r qs → slice_get qs i ≡ Some q → AreClear r q
clear_at r [] i q h e = get_none i q e
clear_at r (x ∷ qs) zero q h e = let z : x ≡ q = cc (e) in subst (λ (y : Run). AreClear r y) z h.0
clear_at r (x ∷ qs) (suc i) q h e = clear_at r qs i q h.1 e

-- runs that lie apart share no granule at two places
pub apart_places : (runs : List Run) → LieApart runs → AreApart runs
apart_places [] h i j g r q a b x y = get_none i r a
apart_places (z ∷ runs) h zero zero g r q a b x y = refl
apart_places (z ∷ runs) h zero (suc j) g r q a b x y = absurd (clear_at z runs j q h.0 b g (first z r a g x) y)
  where
    first : (z r : Run) → Some z ≡ Some r → (g : ℕ) → lies_in g r ≡ true → lies_in g z ≡ true
    first z r a g x = let w : z ≡ r = cc (a) in ap (lies_in g) w ∙ x
apart_places (z ∷ runs) h (suc i) zero g r q a b x y = absurd (clear_at z runs i r h.0 a g (first z q b g y) x)
  where
    first : (z r : Run) → Some z ≡ Some r → (g : ℕ) → lies_in g r ≡ true → lies_in g z ≡ true
    first z r a g x = let w : z ≡ r = cc (a) in ap (lies_in g) w ∙ x
apart_places (z ∷ runs) h (suc i) (suc j) g r q a b x y = ap suc (apart_places runs h.1 i j g r q a b x y)

-- ---- lists of runs

-- a run that is clear of two lists is clear of both together
clear_append : (r : Run) (xs ys : List Run) → IsClearOf r xs → IsClearOf r ys → IsClearOf r (xs ++ ys)
clear_append r [] ys h i = i
clear_append r (x ∷ xs) ys h i = (h.0, clear_append r xs ys h.1 i)

-- two lists of runs that lie apart, each of the one clear of the other
pub apart_append : (xs ys : List Run) → LieApart xs → LieApart ys → AreClearOf xs ys → LieApart (xs ++ ys)
apart_append [] ys h i c = i
apart_append (x ∷ xs) ys h i c = (clear_append x xs ys h.0 c.0, apart_append xs ys h.1 i c.1)

-- the runs of the things in use, of the numbers from a on
abbrev pub runs_of : (ℕ → Bool) → (ℕ → Run) → ℕ → ℕ → List Run
runs_of used run a n = filter_map (run_if used run) (range_with_len a n)

-- the list of runs begins with that of a thing in use
runs_true : (used : ℕ → Bool) (run : ℕ → Run) (a n : ℕ) → used a ≡ true → runs_of used run a (suc n) ≡ run a ∷ runs_of used run (a + 1) n
unfolding run_if
runs_true used run a n h = rw h refl

-- the list of runs leaves out a thing that isn't in use
runs_false : (used : ℕ → Bool) (run : ℕ → Run) (a n : ℕ) → used a ≡ false → runs_of used run a (suc n) ≡ runs_of used run (a + 1) n
unfolding run_if
runs_false used run a n h = rw h refl

-- a run that shares no granule with those of things in use is clear of their list
pub clear_runs : (used : ℕ → Bool) (run : ℕ → Run) (r : Run) (a n : ℕ) → ((j : ℕ) → a ≤ j → j < a + n → used j ≡ true → AreClear r (run j)) → IsClearOf r (runs_of used run a n)
clear_runs used run r a zero h = tt
clear_runs used run r a (suc n) h = by (used a) refl (clear_runs used run r (a + 1) n (λ j l u q. h j (omega (arith, l)) (omega (arith, u)) q))
  where
    by : (b : Bool) → used a ≡ b → IsClearOf r (runs_of used run (a + 1) n) → IsClearOf r (runs_of used run a (suc n))
    by true q again = subst (λ (l : List Run). IsClearOf r l) (sym (runs_true used run a n q)) (h a (omega arith) (omega arith) q, again)
    by false q again = subst (λ (l : List Run). IsClearOf r l) (sym (runs_false used run a n q)) again

-- things in use that share no granule have runs that lie apart
pub apart_runs : (used : ℕ → Bool) (run : ℕ → Run) (a n : ℕ) →
    ((i j : ℕ) → a ≤ i → i < j → j < a + n → used i ≡ true → used j ≡ true → AreClear (run i) (run j)) → LieApart (runs_of used run a n)
apart_runs used run a zero h = tt
apart_runs used run a (suc n) h = by (used a) refl (apart_runs used run (a + 1) n (λ i j l m u p q. h i j (omega (arith, l)) m (omega (arith, u)) p q))
  where
    by : (b : Bool) → used a ≡ b → LieApart (runs_of used run (a + 1) n) → LieApart (runs_of used run a (suc n))
    by true q again =
        subst (λ (l : List Run). LieApart l) (sym (runs_true used run a n q))
        (clear_runs used run (run a) (a + 1) n (λ j l u p. h a j (omega arith) (omega (arith, l)) (omega (arith, u)) q p), again)
    by false q again = subst (λ (l : List Run). LieApart l) (sym (runs_false used run a n q)) again

-- things in use whose runs are clear of a list
pub all_clear : (used : ℕ → Bool) (run : ℕ → Run) (qs : List Run) (a n : ℕ) → ((i : ℕ) → a ≤ i → i < a + n → used i ≡ true → IsClearOf (run i) qs) → AreClearOf (runs_of used run a n) qs
all_clear used run qs a zero h = tt
all_clear used run qs a (suc n) h = by (used a) refl (all_clear used run qs (a + 1) n (λ i l u q. h i (omega (arith, l)) (omega (arith, u)) q))
  where
    by : (b : Bool) → used a ≡ b → AreClearOf (runs_of used run (a + 1) n) qs → AreClearOf (runs_of used run a (suc n)) qs
    by true q again = subst (λ (l : List Run). AreClearOf l qs) (sym (runs_true used run a n q)) (h a (omega arith) (omega arith) q, again)
    by false q again = subst (λ (l : List Run). AreClearOf l qs) (sym (runs_false used run a n q)) again

-- ---- granules in use

-- a granule of a thing in use is one of the runs'
pub run_lies : (used : ℕ → Bool) (run : ℕ → Run) (a n i g : ℕ) → a ≤ i → i < a + n → used i ≡ true → lies_in g (run i) ≡ true → list_any (lies_in g) (runs_of used run a n) ≡ true
run_lies used run a zero i g l u q h = absurd (omega (arith, l, u))
run_lies used run a (suc n) i g l u q h = by (used a) refl (cases a i l) (run_lies used run (a + 1) n i g)
  where
    cases : (a i : ℕ) → a ≤ i → (a ≡ i) ⊎ (a + 1 ≤ i)
    cases a i l = grind arith

    by : (b : Bool) → used a ≡ b → (a ≡ i) ⊎ (a + 1 ≤ i) →
        (a + 1 ≤ i → i < a + 1 + n → used i ≡ true → lies_in g (run i) ≡ true → list_any (lies_in g) (runs_of used run (a + 1) n) ≡ true) →
        list_any (lies_in g) (runs_of used run a (suc n)) ≡ true
    by true p (inl z) again = ap (list_any (lies_in g)) (runs_true used run a n p) ∙ or_first _ _ (ap (λ (k : ℕ). lies_in g (run k)) z ∙ h)
    by true p (inr z) again = ap (list_any (lies_in g)) (runs_true used run a n p) ∙ or_second _ _ (again z (omega (arith, u)) q h)
    by false p (inl z) again = let w = ap used z in cc (w, p, q)
    by false p (inr z) again = ap (list_any (lies_in g)) (runs_false used run a n p) ∙ again z (omega (arith, u)) q h

-- a granule of one of two lists of runs is one of both
pub lies_first : (g : ℕ) (xs ys : List Run) → list_any (lies_in g) xs ≡ true → lies_in_one (xs ++ ys) g ≡ true
unfolding lies_in_one
lies_first g xs ys h = list_any-append (lies_in g) xs ys ∙ or_first (list_any (lies_in g) xs) (list_any (lies_in g) ys) h

-- a granule of the second of two lists of runs is one of both
pub lies_second : (g : ℕ) (xs ys : List Run) → list_any (lies_in g) ys ≡ true → lies_in_one (xs ++ ys) g ≡ true
unfolding lies_in_one
lies_second g xs ys h = list_any-append (lies_in g) xs ys ∙ or_second (list_any (lies_in g) xs) (list_any (lies_in g) ys) h

-- ---- the place of a new run

-- the least free place is free
least_is_free : (used : ℕ → Bool) (n more g r : ℕ) → least_free used n more g ≡ Some r → is_free_run used n r ≡ true
unfolding least_free
least_is_free used n zero g r h = cc
least_is_free used n (suc more) g r h = by (is_free_run used n g) refl h (least_is_free used n more (g + 1) r)
  where
    by : (b : Bool) → is_free_run used n g ≡ b → (elim b as (λ _. Option ℕ) [ true ↦ Some g | false ↦ least_free used n more (g + 1) ]) ≡ Some r →
        (least_free used n more (g + 1) ≡ Some r → is_free_run used n r ≡ true) → is_free_run used n r ≡ true
    by true q h again = let z : g ≡ r = cc (h) in ap (is_free_run used n) (sym z) ∙ q
    by false q h again = again h

-- a granule of a run lies between its ends
within_run : (g n k : ℕ) → (nat_le g k && nat_lt k (g + n)) ≡ true → (g ≤ k) × (k < g + n)
within_run g n k h = let x = both (nat_le g k) (nat_lt k (g + n)) h in (low g k x.0, high k (g + n) x.1)
  where
    low : (g k : ℕ) → nat_le g k ≡ true → g ≤ k
    low g k h = grind (arith, nat_tests)

    high : (k n : ℕ) → nat_lt k n ≡ true → k < n
    high k n h = grind (arith, nat_tests)

-- none of the granules at the least free place is in use
pub least_unused : (used : ℕ → Bool) (n more g r k : ℕ) → least_free used n more g ≡ Some r → lies_in k (r, n) ≡ true → used k ≡ false
unfolding lies_in is_free_run
least_unused used n more g r k h i =
    let w = within_run r n k i in turned (used k) (all_range (λ j. not (used j)) r n k (least_is_free used n more g r h) w.0 w.1)

-- the least free place is one of those that were tried
pub least_below : (used : ℕ → Bool) (n more g r : ℕ) → least_free used n more g ≡ Some r → r < g + more
unfolding least_free
least_below used n zero g r h = cc
least_below used n (suc more) g r h = by (is_free_run used n g) h (least_below used n more (g + 1) r)
  where
    by : (b : Bool) → (elim b as (λ _. Option ℕ) [ true ↦ Some g | false ↦ least_free used n more (g + 1) ]) ≡ Some r →
        (least_free used n more (g + 1) ≡ Some r → r < g + 1 + more) → r < g + suc more
    by true h again = let z : g ≡ r = cc (h) in omega (arith, z)
    by false h again = omega (arith, again h)

-- a run of the list is that of a thing in use
pub record IsRunOf (used : ℕ → Bool) (run : ℕ → Run) (a n : ℕ) (r : Run) : Type 0 where
  pub at : ℕ
  pub low : a ≤ at
  pub high : at < a + n
  pub using : used at ≡ true
  pub is : run at ≡ r

-- each run of the list is that of a thing in use
pub get_runs : (used : ℕ → Bool) (run : ℕ → Run) (a n i : ℕ) (r : Run) → slice_get (runs_of used run a n) i ≡ Some r → IsRunOf used run a n r
get_runs used run a zero i r h = get_none i r h
get_runs used run a (suc n) i r h = by (used a) refl (get_runs used run (a + 1) n)
  where
    later : IsRunOf used run (a + 1) n r → IsRunOf used run a (suc n) r
    later k = record { at = k.at; low = omega (arith, k.low); high = omega (arith, k.high); using = k.using; is = k.is }

    here : used a ≡ true → (i : ℕ) → slice_get (run a ∷ runs_of used run (a + 1) n) i ≡ Some r → ((i : ℕ) (r : Run) → slice_get (runs_of used run (a + 1) n) i ≡ Some r → IsRunOf used run (a + 1) n r) → IsRunOf used run a (suc n) r
    here q zero h again = record { at = a; low = omega arith; high = omega arith; using = q; is = cc (h) }
    here q (suc i) h again = later (again i r h)

    by : (b : Bool) → used a ≡ b → ((i : ℕ) (r : Run) → slice_get (runs_of used run (a + 1) n) i ≡ Some r → IsRunOf used run (a + 1) n r) → IsRunOf used run a (suc n) r
    by true q again = here q i (ap (λ (l : List Run). slice_get l i) (sym (runs_true used run a n q)) ∙ h) again
    by false q again = later (again i r (ap (λ (l : List Run). slice_get l i) (sym (runs_false used run a n q)) ∙ h))
