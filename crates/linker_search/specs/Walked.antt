-- Walks over the supers of classes.
use Rattle.std.specs.Prelude.{◌≡◌, ℕ, suc, Bool, true, List, [], ◌++◌, Some, map, nat_eq, slice_get, unwrap_or}
use Rattle.std.specs.List.{list_any}
use Rattle.indexmap.specs.IndexMap.{IndexMap, get, keys}
use Rattle.jx_base.specs.Basics.{all_added}
use Rattle.jx_base.specs.declared.program.Class.{Class}
use Rattle.jx_base.specs.declared.program.System.{System}
use Rattle.program_model.specs.Lookup.{parent_list, supers_of, supers_within}

-- whether the number is in the list
abbrev pub has : List ℕ → ℕ → Bool
has xs n = list_any (nat_eq n) xs

-- the interfaces of a class, then its super
abbrev pub above : Class → List ℕ
above k = map (λ i. i.0) k.interfaces ++ parent_list k.parent

-- the class and all that it extends and implements, each once
abbrev pub distinct_supers : System → ℕ → List ℕ
distinct_supers s c = all_added nat_eq [] (supers_of s c)

-- whether all of these numbers are in the list
abbrev pub HasAll : List ℕ → List ℕ → Type 0
HasAll xs ys = (n : ℕ) → has ys n ≡ true → has xs n ≡ true

-- where the map has a number of steps for a class, it has the class and all that so many steps lead on to
abbrev pub AreFollowed : {S : Type 0} → System → IndexMap ℕ ℕ S → Type 0
AreFollowed s followed = (c k : ℕ) → get nat_eq followed c ≡ Some k → HasAll (keys followed) (supers_within s (suc k) c)

-- the list of that place, empty where there is none
abbrev pub list_at : List (List ℕ) → ℕ → List ℕ
list_at lists c = unwrap_or (slice_get lists c) []
