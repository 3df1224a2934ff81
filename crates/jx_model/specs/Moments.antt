-- A history as it grows.
use Rattle.std.specs.Prelude.{◌≡◌, Bool, false, ◌∷◌, ◌++◌}
use Rattle.std.specs.List.{list_any}
use Rattle.jx_base.specs.declared.act.Entry.{Entry}
use Rattle.jx_base.specs.declared.act.History.{History}
use Rattle.jx_base.specs.Histories.{Past}

-- the entry stands in the whole past, with this past before it
abbrev pub IsMoment : Past → Entry → Past → Type 0
IsMoment whole e past = (later : Past) × (whole ≡ later ++ e ∷ past)

-- the new past is the old one with more entries after it
abbrev pub HasGrown : Past → Past → Type 0
HasGrown old new = (later : Past) × (new ≡ later ++ old)

-- the whole history begins with the entries of the other
abbrev pub BeginsWith : History → History → Type 0
BeginsWith whole start = (later : Past) × (whole.entries ≡ start.entries ++ later)

-- no entry passes
abbrev pub NonePasses : (Entry → Bool) → Past → Type 0
NonePasses p past = list_any p past ≡ false
