-- Holes: the granules that lie in them, and holes that lie apart.
use Rattle.std.specs.Prelude.{ℕ, ◌+◌, ◌<◌, ◌≤◌, Bool, not, List, [], ◌∷◌, map, ⊤}
use Rattle.std.specs.List.{list_any, range_with_len}
use Rattle.jx_model.specs.Granules.{lies_in}
use Rattle.extent_pool.specs.declared.hole.Hole.{Hole}

-- whether the granule lies in the hole
abbrev pub lies_in_hole : ℕ → Hole → Bool
lies_in_hole g h = lies_in g (h.at, h.count)

-- whether the granule lies in one of the holes
abbrev pub lies_in_holes : List Hole → ℕ → Bool
lies_in_holes holes g = list_any (lies_in_hole g) holes

-- of so many granules, whether each is taken: it lies in none of the holes
abbrev pub granules_of : ℕ → List Hole → List Bool
granules_of n holes = map (λ g. not (lies_in_holes holes g)) (range_with_len 0 n)

-- the holes begin there at the least and end before the limit, in order of place, none is empty, and no two touch
abbrev pub AreApart : ℕ → ℕ → List Hole → Type 0
AreApart low limit [] = ⊤
AreApart low limit (h ∷ holes) = (low ≤ h.at) × (0 < h.count) × (h.at + h.count < limit) × AreApart (h.at + h.count + 1) limit holes
