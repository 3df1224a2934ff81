-- Units of modified UTF-8, one after the other.
use Rattle.std.specs.Prelude.{ℕ, List, [], ◌∷◌, Option, Some, None, if◌then◌else◌}
use Rattle.class_grammar.specs.ModifiedUtf8.{IsModifiedUtf8, begins_one, is_two, is_three, unit_of_two, unit_of_three}

-- the unit of two bytes, and of three, where they are its shortest form
unfoldable pub two : ℕ → ℕ → Option ℕ
two b c = if is_two b c then Some (unit_of_two b c) else None

unfoldable pub three : ℕ → ℕ → ℕ → Option ℕ
three b c d = if is_three b c d then Some (unit_of_three b c d) else None

-- a unit with the bytes behind it
abbrev pub with_rest : Option ℕ → List ℕ → Option (ℕ × List ℕ) → Option (ℕ × List ℕ)
with_rest None rest longer = longer
with_rest (Some u) rest longer = Some (u, rest)

-- the unit at the front of three bytes, of two, and of one
unfoldable pub unit_of_three_at : ℕ → ℕ → List ℕ → Option (ℕ × List ℕ)
unit_of_three_at b c [] = None
unit_of_three_at b c (d ∷ rest) = with_rest (three b c d) rest None

unfoldable pub unit_of_two_at : ℕ → List ℕ → Option (ℕ × List ℕ)
unit_of_two_at b [] = None
unit_of_two_at b (c ∷ rest) = with_rest (two b c) rest (unit_of_three_at b c rest)

-- the unit at the front in its shortest form, and the bytes behind it
unfoldable pub unit_at : List ℕ → Option (ℕ × List ℕ)
unit_at [] = None
unit_at (b ∷ rest) = if begins_one b then Some (b, rest) else unit_of_two_at b rest

-- the bytes spell this text, or spell none
abbrev pub IsTextOf : List ℕ → Option (List ℕ) → Type 0
IsTextOf bytes (Some text) = IsModifiedUtf8 bytes text
IsTextOf bytes None = (text : List ℕ) → IsModifiedUtf8 bytes text → ⊥
