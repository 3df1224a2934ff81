-- Places of lists, and items that change.
use Rattle.std.proofs.Common.{◌≡◌, ◌≢◌, refl, ◌∙◌, ap, ℕ, ◌-◌, suc, zero, ◌<◌, Bool, true, false, ◌||◌, List, [], ◌∷◌, ◌++◌, length, map, take, replicate, Some, arith, slice_get, ◌⊎◌, inl, inr}
use Rattle.std.proofs.Math.Seq.{take-nil}
use Rattle.table_threads.specs.Changes.{changed_at}

-- ---- tests

-- neither passes
pub neither : (a b : Bool) → (a || b) ≡ false → (a ≡ false) × (b ≡ false)
neither true b h = cc
neither false b h = (refl, h)

-- one passes
pub either : (a b : Bool) → (a || b) ≡ true → (a ≡ true) ⊎ (b ≡ true)
either true b h = inl refl
either false b h = inr h

-- a test passes or fails
pub passes_or_fails : (a : Bool) → (a ≡ true) ⊎ (a ≡ false)
passes_or_fails true = inl refl
passes_or_fails false = inr refl

-- the first passes, or the second does
pub or_first : (a b : Bool) → a ≡ true → (a || b) ≡ true
or_first true b h = refl
or_first false b h = cc

pub or_second : (a b : Bool) → b ≡ true → (a || b) ≡ true
or_second true b h = refl
or_second false b h = h

-- ---- items that change

-- the item that changes
pub get_changed : {A : Type 0} (i : ℕ) (f : A → A) (xs : List A) (x : A) → slice_get xs i ≡ Some x → slice_get (changed_at i f xs) i ≡ Some (f x)
get_changed i f [] x h = cc
get_changed {A = A} zero f (y ∷ xs) x h = let q : y ≡ x = cc in ap (λ (z : A). Some (f z)) q
get_changed (suc i) f (y ∷ xs) x h = get_changed i f xs x h

-- the others stay
pub get_other : {A : Type 0} (i j : ℕ) (f : A → A) (xs : List A) → i ≢ j → slice_get (changed_at i f xs) j ≡ slice_get xs j
get_other i j f [] d = refl
get_other zero zero f (x ∷ xs) d = absurd (d refl)
get_other zero (suc j) f (x ∷ xs) d = refl
get_other (suc i) zero f (x ∷ xs) d = refl
get_other (suc i) (suc j) f (x ∷ xs) d = get_other i j f xs (λ e. d (ap suc e))

-- their number stays
pub length_changed : {A : Type 0} (i : ℕ) (f : A → A) (xs : List A) → length (changed_at i f xs) ≡ length xs
length_changed i f [] = refl
length_changed zero f (x ∷ xs) = refl
length_changed (suc i) f (x ∷ xs) = ap suc (length_changed i f xs)

-- an item within the list
pub get_there : {A : Type 0} (xs : List A) (i : ℕ) → i < length xs → (x : A) × (slice_get xs i ≡ Some x)
get_there [] i l = absurd (omega (arith, l))
get_there (x ∷ xs) zero l = (x, refl)
get_there (x ∷ xs) (suc i) l = get_there xs i (omega (arith, l))

-- lists with the same items
pub same_items : {A B : Type 0} (f : A → B) (xs : List A) (ys : List B) → length xs ≡ length ys →
    ((i : ℕ) (x : A) (y : B) → slice_get xs i ≡ Some x → slice_get ys i ≡ Some y → f x ≡ y) → map f xs ≡ ys
same_items f [] [] e h = refl
same_items f [] (y ∷ ys) e h = absurd (omega (arith, e))
same_items f (x ∷ xs) [] e h = absurd (omega (arith, e))
same_items {A} {B} f (x ∷ xs) (y ∷ ys) e h =
    ap (λ (z : B). z ∷ map f xs) (h zero x y refl refl)
    ∙ ap (λ (zs : List B). y ∷ zs) (same_items f xs ys (omega (arith, e)) (λ i a b p q. h (suc i) a b p q))

-- an empty list that is filled up
pub filled : {A : Type 0} (n k : ℕ) (old new : List A) (x : A) → old ≡ [] → k ≡ 0 → new ≡ take n old ++ replicate (n - k) x → new ≡ replicate n x
filled {A} n k old new x e z h =
    h ∙ ap (λ (xs : List A). take n xs ++ replicate (n - k) x) e ∙ ap (λ (xs : List A). xs ++ replicate (n - k) x) (take-nil n) ∙ ap (λ (i : ℕ). replicate i x) (omega (arith, z))
