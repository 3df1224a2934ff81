-- How numbers and texts in quotes are read.
use Rattle.std.specs.Prelude.{ℕ, ◌+◌, ◌-◌, ◌^◌, min, ℤ, pos, negsuc, ◌-ℤ◌, Bool, false, if◌then◌else◌, List, [], ◌∷◌, Option, Some, None, ◌==◌}
use Rattle.jx_base.specs.Texts.{is_plain}
use Rattle.asm_words.specs.Words.{quote}
use Rattle.asm_words.specs.Quotes.{backslash, letter_u, escaped_unit}

-- the number, or the nearest one of 64 bits and a sign
unfoldable pub capped : ℤ → ℤ
capped (pos n) = pos (min n (2 ^ 64 - 1))
capped (negsuc n) = pos 0 -ℤ pos (min (n + 1) (2 ^ 64 - 1))

-- ---- texts in quotes

-- whether the units are the quote that stands at the end
unfoldable pub is_closing : List ℕ → Bool
is_closing [] = false
is_closing (u ∷ []) = u == quote
is_closing (u ∷ v ∷ units) = false

-- a unit with what stands behind it
unfoldable pub with_rest : Option ℕ → List ℕ → Option (ℕ × List ℕ)
with_rest None rest = None
with_rest (Some u) rest = Some (u, rest)

-- the unit of an escape behind its backslash, and what stands behind it
unfoldable pub escape_at : List ℕ → Option (ℕ × List ℕ)
escape_at (v ∷ a ∷ b ∷ c ∷ d ∷ units) = if v == letter_u then with_rest (escaped_unit a b c d) units else None
escape_at _ = None

-- the unit at the front, and what stands behind it
unfoldable pub unit_at : List ℕ → Option (ℕ × List ℕ)
unit_at [] = None
unit_at (u ∷ units) = if u == backslash then escape_at units else if is_plain u then Some (u, units) else None
