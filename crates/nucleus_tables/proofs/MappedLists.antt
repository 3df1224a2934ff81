-- Maps of lists that agree, and of lists that change.
use Rattle.std.proofs.Common.{◌≡◌, refl, ap, ℕ, suc, zero, List, [], ◌∷◌, map}
use Rattle.jx_base.proofs.BasicLaws.{ap2}
use Rattle.table_threads.specs.Changes.{changed_at}

-- what is the same of each item
pub map_same : {A B : Type 0} (f g : A → B) (xs : List A) → ((x : A) → f x ≡ g x) → map f xs ≡ map g xs
map_same f g [] h = refl
map_same {B = B} f g (x ∷ xs) h = ap2 (λ (y : B) (ys : List B). y ∷ ys) (h x) (map_same f g xs h)

-- a map of a list with one item changed
pub map_changed : {A B : Type 0} (g : A → B) (i : ℕ) (f : A → A) (h : B → B) (xs : List A) → ((x : A) → g (f x) ≡ h (g x)) → map g (changed_at i f xs) ≡ changed_at i h (map g xs)
map_changed g i f h [] q = refl
map_changed {B = B} g zero f h (x ∷ xs) q = ap (λ (y : B). y ∷ map g xs) (q x)
map_changed {B = B} g (suc i) f h (x ∷ xs) q = ap (λ (ys : List B). g x ∷ ys) (map_changed g i f h xs q)

-- to change what stays the same changes nothing
pub changed_not : {A B : Type 0} (g : A → B) (i : ℕ) (f : A → A) (xs : List A) → ((x : A) → g (f x) ≡ g x) → map g (changed_at i f xs) ≡ map g xs
changed_not g i f [] q = refl
changed_not {B = B} g zero f (x ∷ xs) q = ap (λ (y : B). y ∷ map g xs) (q x)
changed_not {B = B} g (suc i) f (x ∷ xs) q = ap (λ (ys : List B). g x ∷ ys) (changed_not g i f xs q)
