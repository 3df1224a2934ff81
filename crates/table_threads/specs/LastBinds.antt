-- The binds that a table of names keeps.
use Rattle.std.specs.Prelude.{◌≡◌, ℕ, List}
use Rattle.jx_base.specs.Histories.{Past}
use Rattle.jx_model.specs.Portals.{last_bound}
use Rattle.jx_model.specs.Tables.{named_service}

-- the list has the last bind of each name
abbrev pub HasLastBinds : List (List ℕ × ℕ) → Past → Type 0
HasLastBinds names past = (name : List ℕ) → named_service names name ≡ last_bound past name
