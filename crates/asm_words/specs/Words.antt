-- The lines of a text, and the words of a line.
use Rattle.std.specs.Prelude.{ℕ, if◌then◌else◌, List, [], ◌∷◌, flat_map, ◌==◌, Option, Some, None}
use Rattle.std.specs.Char.Escape.{encode_utf16}
use Rattle.std.specs.Str.{is_utf8, chars}
use Rattle.asm_words.specs.declared.words.Position.{Position}
use Rattle.asm_words.specs.declared.words.Position.TheVariants as position

-- a line feed, a space, a quote
abbrev pub feed : ℕ
feed = 0x0a

abbrev pub space : ℕ
space = 0x20

abbrev pub quote : ℕ
quote = 0x22

-- the first list, begun with that
unfoldable pub begun : ℕ → List (List ℕ) → List (List ℕ)
begun u [] = (u ∷ []) ∷ []
begun u (word ∷ words) = (u ∷ word) ∷ words

-- ---- lines

-- the lines of a text: a line feed ends one, and so does the end of the text behind anything else
unfoldable pub lines_of : List ℕ → List (List ℕ)
lines_of [] = []
lines_of (b ∷ bytes) = if b == feed then [] ∷ lines_of bytes else begun b (lines_of bytes)

-- ---- words

-- where the next unit of a word stands behind this one, none where the word ends in front of it
unfoldable pub position_behind : Position → ℕ → Option Position
position_behind position.Front u = if u == space then None else Some (if u == quote then position.Quoted else position.Plain)
position_behind position.Quoted u = Some (if u == quote then position.Plain else position.Quoted)
position_behind position.Plain u = if u == space then None else Some position.Plain

-- the words from that position of the first one on
unfoldable pub words_from : Position → List ℕ → List (List ℕ)
words_from p [] = [] ∷ []
words_from p (u ∷ units) =
    elim (position_behind p u) [ None ↦ [] ∷ words_from position.Front units | Some q ↦ begun u (words_from q units) ]

-- the words of a line, split at each space that doesn't stand between a quote at a word's front and the next one
unfoldable pub words_of : List ℕ → List (List ℕ)
words_of units = words_from position.Front units

-- the units of a line, none where it isn't UTF-8
unfoldable pub units_of : List ℕ → Option (List ℕ)
units_of bytes = if is_utf8 bytes then Some (flat_map encode_utf16 (chars bytes)) else None
