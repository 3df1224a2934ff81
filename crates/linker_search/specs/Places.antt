-- Maps that lead from a member of a class to a place.
use Rattle.std.specs.Prelude.{ℕ, Bool, Option}
use Rattle.indexmap.specs.IndexMap.{IndexMap, get_by}
use Rattle.jx_base.specs.declared.program.Selector.{Selector}
use Rattle.linker_search.specs.KeysAlike.{same_member}
use Rattle.linker_search.specs.declared.places.Key.{Key}

-- whether the key is the member of class c with that selector
abbrev pub is_at : ℕ → Selector → Key → Bool
is_at c x k = same_member c x k.class k.selector

-- the place that a map has for that member
abbrev pub place_in : {S : Type 0} → IndexMap Key ℕ S → ℕ → Selector → Option ℕ
place_in places c x = get_by (is_at c x) places
