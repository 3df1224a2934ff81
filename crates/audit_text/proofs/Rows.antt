-- Rows, by their places.
use Rattle.std.proofs.Common.{◌≡◌, ◌≢◌, refl, sym, ◌∙◌, ap, ℕ, zero, suc, ◌+◌, ◌<◌, ◌≤◌, Bool, true, ◌||◌, ◌==◌, List, [], ◌∷◌, length, set, replicate, take, drop, get_or, Some, slice_get, arith, ◌⊎◌, inl, inr}
use Rattle.std.specs.List.{list_any}
use Rattle.std.proofs.lemmas.Option.{slice_get_within, get_or_from_slice_get}
use Rattle.jx_base.specs.Basics.{contains_number}
use Rattle.jx_base.proofs.BasicLaws.{same_number}
use Rattle.jx_laws.proofs.Lists.{contains_first, contains_rest, no_number}
use Rattle.audit_text.specs.CallTables.{HasRows}

-- ---- one row

-- each place of a row of equals has that
pub all_there : {A : Type 0} (n i : ℕ) (x : A) → i < n → slice_get (replicate n x) i ≡ Some x
all_there zero i x l = absurd (omega (arith, l))
all_there (suc n) zero x l = refl
all_there (suc n) (suc i) x l = all_there n i x (omega (arith, l))

-- what was put at a place stands there
pub put_there : {A : Type 0} (xs : List A) (i : ℕ) (x : A) → i < length xs → slice_get (set xs i x) i ≡ Some x
put_there [] i x l = absurd (omega (arith, l))
put_there (y ∷ xs) zero x l = refl
put_there (y ∷ xs) (suc i) x l = put_there xs i x (omega (arith, l))

-- and nowhere else
pub put_elsewhere : {A : Type 0} (xs : List A) (i j : ℕ) (x : A) → i ≢ j → slice_get (set xs i x) j ≡ slice_get xs j
put_elsewhere [] i j x other = refl
put_elsewhere (y ∷ xs) zero zero x other = absurd (other refl)
put_elsewhere (y ∷ xs) zero (suc j) x other = refl
put_elsewhere (y ∷ xs) (suc i) zero x other = refl
put_elsewhere (y ∷ xs) (suc i) (suc j) x other = put_elsewhere xs i j x (λ q. other (omega (arith, q)))

-- two numbers are one or not
pub same_or_other : (i j : ℕ) → (i ≡ j) ⊎ (i ≢ j)
same_or_other i j = grind arith

-- ---- rows of what a function gives

-- the rows of one function are those of another that agrees
pub rows_same : {A : Type 0} (rows : List A) (f g : ℕ → A) (last : ℕ) → HasRows rows f last → ((i : ℕ) → g i ≡ f i) → HasRows rows g last
rows_same {A} rows f g last has same i l = has i l ∙ ap (λ (x : A). Some x) (sym (same i))

-- a function that differs at one place, with the row there
pub rows_put : {A : Type 0} (rows : List A) (f g : ℕ → A) (last k : ℕ) (x : A) → HasRows rows f last → g k ≡ x → ((i : ℕ) → k ≢ i → g i ≡ f i) → HasRows (set rows k x) g last
rows_put {A} rows f g last k x has new old i l = by (same_or_other k i)
  where
    within : k ≡ i → k < length rows
    within q = omega (arith, q, slice_get_within rows i (f i) (has i l))

    by : (k ≡ i) ⊎ (k ≢ i) → slice_get (set rows k x) i ≡ Some (g i)
    by (inl q) = ap (λ (n : ℕ). slice_get (set rows k x) n) (sym q) ∙ put_there rows k x (within q) ∙ ap (λ (y : A). Some y) (sym new ∙ ap g q)
    by (inr q) = put_elsewhere rows k i x q ∙ has i l ∙ ap (λ (y : A). Some y) (sym (old i q))

-- what is read at a place
pub row_is : {A : Type 0} (rows : List A) (f : ℕ → A) (last i : ℕ) (d : A) → HasRows rows f last → i ≤ last → get_or rows i d ≡ f i
row_is rows f last i d has l = get_or_from_slice_get rows i (f i) d (has i l)

-- ---- a number among some of a row

contains_here : (x : ℕ) (xs : List ℕ) → contains_number (x ∷ xs) x ≡ true
unfolding contains_number
contains_here x xs = ap (λ (b : Bool). b || list_any (λ y. y == x) xs) (same_number x)

in_front : (n : ℕ) (row : List ℕ) (c : ℕ) → contains_number (take n row) c ≡ true → (i : ℕ) × (i < length row) × (slice_get row i ≡ Some c)
in_front zero row c h = no_number c h
in_front (suc n) [] c h = no_number c h
in_front (suc n) (x ∷ row) c h = elim (contains_first x c (take n row) h) [
  | inl q ↦ (0, omega arith, ap (λ (y : ℕ). Some y) q)
  | inr q ↦ let r = in_front n row c q in (suc r.0, omega (arith, r.1), r.2)
]

-- a number among some of a row stands in it
pub stands_in : (m n : ℕ) (row : List ℕ) (c : ℕ) → contains_number (take n (drop m row)) c ≡ true → (i : ℕ) × (i < length row) × (slice_get row i ≡ Some c)
stands_in zero n row c h = in_front n row c h
stands_in (suc m) n [] c h = in_front n [] c h
stands_in (suc m) n (x ∷ row) c h = let r = stands_in m n row c h in (suc r.0, omega (arith, r.1), r.2)

front_has : (n i : ℕ) (row : List ℕ) (c : ℕ) → slice_get row i ≡ Some c → i < n → contains_number (take n row) c ≡ true
front_has n i [] c h u = cc
front_has zero i (x ∷ row) c h u = absurd (omega (arith, u))
front_has (suc n) zero (x ∷ row) c h u = let q : x ≡ c = cc in ap (λ (y : ℕ). contains_number (x ∷ take n row) y) (sym q) ∙ contains_here x (take n row)
front_has (suc n) (suc i) (x ∷ row) c h u = contains_rest x c (take n row) (front_has n i row c h (omega (arith, u)))

-- a number of a row is among some of it that hold its place
pub stands_among : (m n i : ℕ) (row : List ℕ) (c : ℕ) → slice_get row i ≡ Some c → m ≤ i → i < m + n → contains_number (take n (drop m row)) c ≡ true
stands_among zero n i row c h l u = front_has n i row c h (omega (arith, u))
stands_among (suc m) n i [] c h l u = cc
stands_among (suc m) n zero (x ∷ row) c h l u = absurd (omega (arith, l))
stands_among (suc m) n (suc i) (x ∷ row) c h l u = stands_among m n i row c h (omega (arith, l)) (omega (arith, u))
