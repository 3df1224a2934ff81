-- Exports by their objects.
use Rattle.std.specs.Prelude.{◌≡◌, ℕ, List, Option, Some, None, nat_eq}
use Rattle.indexmap.specs.IndexMap.{IndexMap, get}
use Rattle.jx_base.specs.declared.states.Exported.{Exported}
use Rattle.program_model.specs.Parcels.{export_at, lesser_export}

-- of an earlier export, if there is one, and a later one that with the lesser service
abbrev pub lesser_of : Option Exported → Exported → Exported
lesser_of None y = y
lesser_of (Some x) y = lesser_export x (Some y)

-- the map leads from each exported object to the export of its least service
abbrev pub LeadsToLeast : {S : Type 0} → IndexMap ℕ Exported S → List Exported → Type 0
LeadsToLeast map exports = (r : ℕ) → get nat_eq map r ≡ export_at exports r
