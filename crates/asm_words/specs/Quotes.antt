-- Texts in quotes.
use Rattle.std.specs.Prelude.{◌≡◌, ℕ, ◌^◌, ◌<◌, ◌&&◌, Bool, if◌then◌else◌, List, [], ◌∷◌, Option, Some, None, option_map, ◌==◌, nat_le}
use Rattle.std.specs.List.{AllByRecursion}
use Rattle.jx_base.specs.Texts.{is_plain, quoted}
use Rattle.asm_words.specs.Words.{quote}
use Rattle.asm_words.specs.Numbers.{four_digits}

abbrev pub backslash : ℕ
backslash = 0x5c

abbrev pub letter_u : ℕ
letter_u = 0x75

-- the word is the text in quotes, written as texts in quotes are written
pub record IsQuoted (word units : List ℕ) : Type 0 where
  pub spelled : word ≡ quoted units
  pub are_units : AllByRecursion (λ u. u < 2 ^ 16) units

-- ---- reading

-- a unit in front of those behind it
unfoldable pub with_unit : ℕ → Option (List ℕ) → Option (List ℕ)
with_unit u rest = option_map (λ units. u ∷ units) rest

unfoldable pub with_plain : ℕ → Option (List ℕ) → Option (List ℕ)
with_plain u rest = if is_plain u then with_unit u rest else None

-- whether a hexadecimal digit is in upper case
unfoldable pub is_upper : ℕ → Bool
is_upper u = nat_le 0x41 u && nat_le u 0x5a

-- the unit of an escape, which is written with digits in lower case, and where the unit isn't plain
unfoldable pub escaped_unit : ℕ → ℕ → ℕ → ℕ → Option ℕ
escaped_unit a b c d =
    if is_upper a then None else if is_upper b then None else if is_upper c then None else if is_upper d then None
    else elim (four_digits a b c d) [ None ↦ None | Some u ↦ if is_plain u then None else Some u ]

unfoldable pub with_escaped : Option ℕ → Option (List ℕ) → Option (List ℕ)
with_escaped None rest = None
with_escaped (Some u) rest = with_unit u rest

-- the units up to the quote that stands at the end
unfoldable pub up_to_quote : List ℕ → Option (List ℕ)
up_to_quote [] = None
up_to_quote (u ∷ []) = if u == quote then Some [] else None
up_to_quote (u ∷ v ∷ []) = with_plain u (up_to_quote (v ∷ []))
up_to_quote (u ∷ v ∷ a ∷ []) = with_plain u (up_to_quote (v ∷ a ∷ []))
up_to_quote (u ∷ v ∷ a ∷ b ∷ []) = with_plain u (up_to_quote (v ∷ a ∷ b ∷ []))
up_to_quote (u ∷ v ∷ a ∷ b ∷ c ∷ []) = with_plain u (up_to_quote (v ∷ a ∷ b ∷ c ∷ []))
up_to_quote (u ∷ v ∷ a ∷ b ∷ c ∷ d ∷ units) =
    if u == backslash then (if v == letter_u then with_escaped (escaped_unit a b c d) (up_to_quote units) else None)
    else with_plain u (up_to_quote (v ∷ a ∷ b ∷ c ∷ d ∷ units))

-- the text that the word quotes
unfoldable pub unquoted : List ℕ → Option (List ℕ)
unquoted [] = None
unquoted (u ∷ units) = if u == quote then up_to_quote units else None
