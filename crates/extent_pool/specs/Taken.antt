-- For each granule of a pool whether it is taken.
use Rattle.std.specs.Prelude.{◌≡◌, ℕ, ◌+◌, ◌<◌, ◌≤◌, Bool, true, false, List, length, map, if◌then◌else◌, slice_index_or}
use Rattle.std.specs.List.{range_with_len}
use Rattle.jx_model.specs.Granules.{lies_in}

-- whether the granule is one of the pool's and taken
abbrev pub is_taken : List Bool → ℕ → Bool
is_taken granules g = slice_index_or granules g false

-- these n granules are the pool's and taken
abbrev pub AreTaken : List Bool → ℕ → ℕ → Type 0
AreTaken granules at n = (g : ℕ) → at ≤ g → g < at + n → is_taken granules g ≡ true

-- the same granules, but for these n, which are taken or free
abbrev pub with_run : List Bool → ℕ → ℕ → Bool → List Bool
with_run granules at n taken =
    map (λ g. if lies_in g (at, n) then taken else is_taken granules g) (range_with_len 0 (length granules))
