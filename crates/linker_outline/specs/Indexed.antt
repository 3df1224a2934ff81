-- Lists whose items are found by a map.
use Rattle.std.specs.Prelude.{◌≡◌, ℕ, Bool, List, Option, Some, None, position, if◌then◌else◌}
use Rattle.std.specs.Str.{bytes_eq}
use Rattle.indexmap.specs.IndexMap.{IndexMap, get_by}

-- the map leads from each name of the list to its first place, and from no other
abbrev pub IsIndexed : {S : Type 0} → List (List ℕ) → IndexMap (List ℕ) ℕ S → Type 0
IsIndexed names places = (name : List ℕ) → get_by (bytes_eq name) places ≡ position (bytes_eq name) names

-- the place, or that one where the test passes
abbrev pub place_or : Option ℕ → Bool → ℕ → Option ℕ
place_or (Some i) test place = Some i
place_or None test place = if test then Some place else None
