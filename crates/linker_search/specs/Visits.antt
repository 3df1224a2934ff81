-- A walk over supers that is under way.
use Rattle.std.specs.Prelude.{ℕ, zero, suc, ◌+◌, ⊤, List, [], ◌∷◌, ◌++◌, None, Some, drop, flat_map, sum_by}
use Rattle.jx_base.specs.declared.program.System.{System}
use Rattle.program_model.specs.Lookup.{class_at, supers_within}
use Rattle.linker_search.specs.Walked.{HasAll, above}
use Rattle.linker_search.specs.declared.walk.Visit.{Visit}

-- the classes right above class c
abbrev pub above_at : System → ℕ → List ℕ
above_at s c = elim (class_at s c) [ None ↦ [] | Some x ↦ above x ]

-- the classes that a visit has still to go on to
abbrev pub next_ones : System → Visit → List ℕ
next_ones s v = drop v.place (above_at s v.class)

-- all that a visit still leads to
abbrev pub rest_of : System → Visit → List ℕ
rest_of s v = flat_map (supers_within s v.steps) (next_ones s v)

-- all that visits still lead to, of which the last comes first
abbrev pub to_come : System → List Visit → List ℕ
to_come s vs = flat_map (rest_of s) vs

-- at the end of each visit its class is there, and all that its steps lead on to
abbrev pub IsOwed : System → List ℕ → List Visit → Type 0
IsOwed s there [] = ⊤
IsOwed s there (v ∷ vs) = HasAll (there ++ rest_of s v) (v.class ∷ supers_within s (suc v.steps) v.class) × IsOwed s (there ++ rest_of s v) vs

-- how long a walk may be at most, in turns
unfoldable pub turns_within : System → ℕ → ℕ → ℕ
turns_within s zero c = 1
turns_within s (suc k) c = 2 + sum_by (turns_within s k) (above_at s c)

-- how many turns a visit may still take
abbrev pub turns_of : System → Visit → ℕ
turns_of s v = 1 + sum_by (turns_within s v.steps) (next_ones s v)
