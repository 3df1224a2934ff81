-- How texts and lines of words are written in ASCII.
use Rattle.std.specs.Prelude.{ℕ, ◌+◌, ◌/◌, ◌%◌, ◌==◌, ◌&&◌, Bool, not, List, [], ◌∷◌, ◌++◌, if◌then◌else◌, nat_le, nat_lt, codes}
use Rattle.std.specs.List.{flat_map}

-- a hexadecimal digit, in lower case
abbrev pub hex_digit : ℕ → ℕ
hex_digit d = if nat_lt d 10 then 48 + d else 87 + d

-- a unit of printable ASCII
abbrev pub is_printable : ℕ → Bool
is_printable u = nat_le 32 u && nat_le u 126

-- a unit that stands for itself within quotes: printable, and neither `"` nor `\`
abbrev pub is_plain : ℕ → Bool
is_plain u = is_printable u && not (u == 34) && not (u == 92)

-- `\u` and the four hexadecimal digits of a unit
abbrev pub escape : ℕ → List ℕ
escape u =
    codes "\\u" ++ hex_digit (u / 4096) ∷ hex_digit (u / 256 % 16) ∷ hex_digit (u / 16 % 16) ∷ hex_digit (u % 16) ∷ []

-- a unit within quotes
unfoldable pub unit_text : ℕ → List ℕ
unit_text u = if is_plain u then u ∷ [] else escape u

-- units within quotes
abbrev pub units_text : List ℕ → List ℕ
units_text units = flat_map unit_text units

-- a text in quotes
unfoldable pub quoted : List ℕ → List ℕ
quoted units = codes "\"" ++ (units_text units ++ codes "\"")

-- a word behind a space
abbrev pub after_space : List ℕ → List ℕ
after_space word = codes " " ++ word

-- words with one space between
unfoldable pub spaced : List (List ℕ) → List ℕ
spaced [] = []
spaced (word ∷ words) = word ++ flat_map after_space words

-- a line of words
unfoldable pub line : List (List ℕ) → List ℕ
line words = spaced words ++ codes "\n"
