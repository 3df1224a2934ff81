-- How the names are kept.
use Rattle.std.specs.Prelude.{◌≡◌, ◌==◌, ◌≤◌, ◌<◌, ◌+◌, ◌*◌, ◌^◌, ℕ, zero, suc, List, length, map, reverse, nat_eq, Option, Some, None, slice_get, slice_range, vec_capacity, if◌then◌else◌}
use Rattle.jx_base.specs.Basics.{passes}
use Rattle.indexmap.specs.IndexMap.{get, spare, IsUnique}
use Rattle.portal_table.specs.NameLists.{NamesState, digest_of, name_words}
use Rattle.portal_table.specs.declared.names.Bind.{Bind}
use Rattle.portal_table.specs.declared.names.Names.TheInside.{Inside}

-- a name with its service, by where its units stand
abbrev pub bind_of : List ℕ → Bind → List ℕ × ℕ
bind_of units b = (slice_range units b.start b.end, b.service.0)

-- the names with their services, the oldest first
abbrev pub binds_of : List ℕ → List Bind → List (List ℕ × ℕ)
binds_of units binds = map (bind_of units) binds

-- what the names are seen as
abbrev pub names_state : Inside → NamesState
names_state x = record { binds = reverse (binds_of x.units.items x.binds.items); words = x.words }

-- the place of the newest of the first n names that has the digest
abbrev pub newest_before : List (List ℕ × ℕ) → ℕ → ℕ → Option ℕ
newest_before binds digest zero = None
newest_before binds digest (suc n) =
    if passes (λ b. digest_of b.0 == digest) (slice_get binds n) then Some n else newest_before binds digest n

-- the units of the name stand in the run
pub record IsWithin (units : ℕ) (b : Bind) : Type 0 where
  pub order : b.start ≤ b.end
  pub end : b.end ≤ units

-- the name at that place knows the newest of those before it that has its digest
abbrev pub KnowsOlder : List ℕ → List Bind → ℕ → Bind → Type 0
KnowsOlder units binds i b = b.older ≡ newest_before (binds_of units binds) (digest_of (bind_of units b).0) i

-- each name stands in the run and knows the next older of its digest, the map knows the newest of each digest, and there is room for all
pub record IsNames (x : Inside) : Type 0 where
  pub within : (i : ℕ) (b : Bind) → slice_get x.binds.items i ≡ Some b → IsWithin (length x.units.items) b
  pub older : (i : ℕ) (b : Bind) → slice_get x.binds.items i ≡ Some b → KnowsOlder x.units.items x.binds.items i b
  pub newest : (digest : ℕ) → get nat_eq x.newest digest ≡ newest_before (binds_of x.units.items x.binds.items) digest (length x.binds.items)
  pub unique : IsUnique nat_eq x.newest
  pub cost : name_words (reverse (binds_of x.units.items x.binds.items)) ≡ length x.units.items + 8 * length x.binds.items
  pub fits : length x.units.items + 8 * length x.binds.items ≤ x.words
  pub units : x.words ≤ vec_capacity x.units
  pub binds : x.words < 8 * vec_capacity x.binds + 8
  pub room : x.words < 8 * (length x.binds.items + spare x.newest) + 8
  pub small : x.words < 2 ^ 32
