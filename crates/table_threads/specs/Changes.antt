-- Lists of which each item changes by its number, or one alone.
use Rattle.std.specs.Prelude.{ℕ, suc, zero, ◌+◌, Bool, List, [], ◌∷◌}

-- a flag that is set
abbrev pub is_set : Bool → Bool
is_set b = b

-- each item changed by its number, counted from that one
abbrev pub each_from : {A : Type 0} → (ℕ → A → A) → ℕ → List A → List A
each_from f a [] = []
each_from f a (x ∷ xs) = f a x ∷ each_from f (a + 1) xs

-- each record changed by its number
abbrev pub each_record : {A : Type 0} → (ℕ → A → A) → List A → List A
each_record f xs = each_from f 1 xs

-- one item changed
abbrev pub changed_at : {A : Type 0} → ℕ → (A → A) → List A → List A
changed_at i f [] = []
changed_at zero f (x ∷ xs) = f x ∷ xs
changed_at (suc i) f (x ∷ xs) = x ∷ changed_at i f xs
