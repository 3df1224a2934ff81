-- How holes are cut and joined.
use Rattle.std.specs.Prelude.{ℕ, zero, suc, ◌+◌, ◌-◌, ◌^◌, ◌<◌, ◌≤◌, List, [], ◌∷◌, length, slice_index_or, Option, Some, None, ◌==◌, if◌then◌else◌}
use Rattle.extent_pool.specs.declared.hole.Hole.{Hole}

-- the granule behind a hole
abbrev pub hole_end : Hole → ℕ
hole_end h = h.at + h.count

-- the granule behind the hole has a place
abbrev pub HasEnd : Hole → Type 0
HasEnd h = hole_end h < 2 ^ 32

-- all of so many granules
abbrev pub one_hole : ℕ → List Hole
one_hole n = if n == 0 then [] else record { at = 0; count = n } ∷ []

-- the holes are in order of place
abbrev pub AreInOrder : List Hole → Type 0
AreInOrder holes = (i j : ℕ) (d : Hole) → i ≤ j → j < length holes → (slice_index_or holes i d).at ≤ (slice_index_or holes j d).at

-- the hole, where there is one and it begins at that granule
abbrev pub hole_from : Option Hole → ℕ → Option Hole
hole_from None at = None
hole_from (Some h) at = if h.at == at then Some h else None

-- a hole without its first n granules, before others
abbrev pub shortened : ℕ → Hole → List Hole → List Hole
shortened n h holes = if h.count == n then holes else record { at = h.at + n; count = h.count - n } ∷ holes

-- the holes without the first n granules of one of them
abbrev pub cut_front : ℕ → List Hole → ℕ → List Hole
cut_front n [] i = []
cut_front n (h ∷ holes) zero = shortened n h holes
cut_front n (h ∷ holes) (suc i) = h ∷ cut_front n holes i

-- a hole before others, joined to the first where they touch
abbrev pub before_holes : Hole → List Hole → List Hole
before_holes h [] = h ∷ []
before_holes h (next ∷ holes) =
    if hole_end h == next.at then record { at = h.at; count = h.count + next.count } ∷ holes else h ∷ next ∷ holes

-- a hole between others, joined to those that it touches
abbrev pub joined : List Hole → Hole → List Hole → List Hole
joined [] h after = before_holes h after
joined (left ∷ []) h after =
    if hole_end left == h.at then before_holes (record { at = left.at; count = left.count + h.count }) after
    else left ∷ before_holes h after
joined (left ∷ next ∷ before) h after = left ∷ joined (next ∷ before) h after
