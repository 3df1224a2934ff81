-- Items of lists, and numbers in them.
use Rattle.std.proofs.Common.{◌≡◌, refl, ℕ, suc, zero, ◌<◌, ◌≤◌, ◌+◌, Bool, true, false, ◌||◌, List, [], ◌∷◌, ◌++◌, length, Some, arith, ◌==◌, slice_get, ◌⊎◌, inl, inr}
use Rattle.std.proofs.lemmas.Option.{slice_get_within}
use Rattle.jx_base.specs.Basics.{numbered, contains_number}
use Rattle.jx_base.proofs.BasicLaws.{eq_of}

-- ---- items

-- an empty list has no item
pub get_none : {A B : Type 0} (i : ℕ) (x : A) → slice_get [] i ≡ Some x → B
get_none zero x h = cc
get_none (suc i) x h = cc

-- the item of a list of one
pub get_one : {A : Type 0} (a : A) (i : ℕ) (x : A) → slice_get (a ∷ []) i ≡ Some x → a ≡ x
get_one a zero x h = cc
get_one a (suc i) x h = get_none i x h

-- an item of a list of two
pub get_two : {A : Type 0} (a b : A) (i : ℕ) (x : A) → slice_get (a ∷ b ∷ []) i ≡ Some x → (a ≡ x) ⊎ (b ≡ x)
get_two a b zero x h = inl cc
get_two a b (suc i) x h = inr (get_one b i x h)

-- an item of a list stays where it is when more come behind
pub get_left : {A : Type 0} (xs ys : List A) (i : ℕ) (x : A) → slice_get xs i ≡ Some x → slice_get (xs ++ ys) i ≡ Some x
get_left [] ys i x h = get_none i x h
get_left (a ∷ xs) ys zero x h = h
get_left (a ∷ xs) ys (suc i) x h = get_left xs ys i x h

-- an item of two lists is one of the first, or one of the second behind all of the first
pub get_split : {A : Type 0} (xs ys : List A) (i : ℕ) (x : A) → slice_get (xs ++ ys) i ≡ Some x →
    (slice_get xs i ≡ Some x) ⊎ ((k : ℕ) × (i ≡ length xs + k) × (slice_get ys k ≡ Some x))
get_split [] ys i x h = inr (i, omega arith, h)
get_split (a ∷ xs) ys zero x h = inl h
get_split (a ∷ xs) ys (suc i) x h = elim (get_split xs ys i x h) [ inl q ↦ inl q | inr q ↦ inr (q.0, omega (arith, q.1), q.2) ]

-- ---- numbered items

-- a numbered item keeps its number when more come behind
pub numbered_left : {A : Type 0} (xs ys : List A) (m : ℕ) (x : A) → numbered xs m ≡ Some x → numbered (xs ++ ys) m ≡ Some x
unfolding numbered
numbered_left xs ys zero x h = cc
numbered_left xs ys (suc i) x h = get_left xs ys i x h

-- a numbered item of two lists is one of the first, or one of the second behind all of the first
pub numbered_split : {A : Type 0} (xs ys : List A) (m : ℕ) (x : A) → numbered (xs ++ ys) m ≡ Some x →
    (numbered xs m ≡ Some x) ⊎ ((k : ℕ) × (m ≡ length xs + k + 1) × (slice_get ys k ≡ Some x))
unfolding numbered
numbered_split xs ys zero x h = cc
numbered_split xs ys (suc i) x h = elim (get_split xs ys i x h) [ inl q ↦ inl q | inr q ↦ inr (q.0, omega (arith, q.1), q.2) ]

-- a number with an item is one of the list's
pub numbered_within : {A : Type 0} (xs : List A) (m : ℕ) (x : A) → numbered xs m ≡ Some x → (1 ≤ m) × (m ≤ length xs)
unfolding numbered
numbered_within xs zero x h = cc
numbered_within xs (suc i) x h = (omega arith, omega (arith, slice_get_within xs i x h))

-- each place of a list has an item
got : {A : Type 0} (xs : List A) (i : ℕ) → i < length xs → (x : A) × (slice_get xs i ≡ Some x)
got [] i l = absurd (omega (arith, l))
got (x ∷ xs) zero l = (x, refl)
got (x ∷ xs) (suc i) l = got xs i (omega (arith, l))

-- each of the list's numbers has an item
pub numbered_there : {A : Type 0} (xs : List A) (m : ℕ) → 1 ≤ m → m ≤ length xs → (x : A) × (numbered xs m ≡ Some x)
unfolding numbered
numbered_there xs zero l u = absurd (omega (arith, l))
numbered_there xs (suc i) l u = got xs i (omega (arith, u))

-- ---- numbers in a list

-- an empty list has no number
pub no_number : {A : Type 0} (m : ℕ) → contains_number [] m ≡ true → A
unfolding contains_number
no_number m h = cc

-- a number of a list is its first, or one behind it
pub contains_first : (x m : ℕ) (xs : List ℕ) → contains_number (x ∷ xs) m ≡ true → (x ≡ m) ⊎ (contains_number xs m ≡ true)
unfolding contains_number
contains_first x m xs h = by (x == m) refl h
  where
    by : (b : Bool) → (x == m) ≡ b → (b || contains_number xs m) ≡ true → (x ≡ m) ⊎ (contains_number xs m ≡ true)
    by true q h = inl (eq_of x m q)
    by false q h = inr h

-- the number of a list of one
pub contains_one : (x m : ℕ) → contains_number (x ∷ []) m ≡ true → x ≡ m
contains_one x m h = elim (contains_first x m [] h) [ inl q ↦ q | inr q ↦ no_number m q ]

-- a number behind the first is one of the list
pub contains_rest : (x m : ℕ) (xs : List ℕ) → contains_number xs m ≡ true → contains_number (x ∷ xs) m ≡ true
unfolding contains_number
contains_rest x m xs h = by (x == m)
  where
    by : (b : Bool) → (b || contains_number xs m) ≡ true
    by true = refl
    by false = h
