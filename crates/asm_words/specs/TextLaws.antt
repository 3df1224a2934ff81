-- What lines, words and texts in quotes are, said by joining them again.
use Rattle.std.specs.Prelude.{◌≡◌, ◌≢◌, ℕ, ◌⊎◌, Bool, true, false, ◌&&◌, ◌||◌, not, if◌then◌else◌, List, [], ◌∷◌, ◌++◌, flat_map, ◌==◌, Some}
use Rattle.std.specs.List.{list_any, list_all, AllByRecursion}
use Rattle.asm_words.specs.Words.{feed, space, quote, lines_of, words_of}
use Rattle.asm_words.specs.Quotes.{IsQuoted, unquoted}

unfoldable pub has_unit : ℕ → List ℕ → Bool
has_unit u units = list_any (λ v. v == u) units

-- ---- lines

-- the lines one behind the other, each ended by a line feed
unfoldable pub ended_lines : List (List ℕ) → List ℕ
ended_lines lines = flat_map (λ line. line ++ feed ∷ []) lines

-- The text is those lines, none of which has a line feed. The last one may want its line feed, if it isn't empty.
pub record IsLines (text : List ℕ) (lines : List (List ℕ)) : Type 0 where
  pub joined : (text ≡ ended_lines lines)
      ⊎ ((before : List (List ℕ)) × (last : List ℕ) × (lines ≡ before ++ last ∷ []) × (last ≢ []) × (text ≡ ended_lines before ++ last))
  pub apart : AllByRecursion (λ line. has_unit feed line ≡ false) lines

-- ---- words

-- what stands up to the next quote, and what behind it has no space, where there is one
unfoldable pub is_quoted_part : List ℕ → Bool
is_quoted_part [] = true
is_quoted_part (u ∷ units) = if u == quote then not (has_unit space units) else is_quoted_part units

-- whether the units are one word: no space stands in it, but between a quote at its front and the next one
unfoldable pub is_word : List ℕ → Bool
is_word [] = true
is_word (u ∷ units) = if u == quote then is_quoted_part units else not (has_unit space (u ∷ units))

-- whether a word may have another behind it: a quote at its front has a next one
unfoldable pub is_closed : List ℕ → Bool
is_closed [] = true
is_closed (u ∷ units) = not (u == quote) || has_unit quote units

-- words with a space between each two
unfoldable pub spaced_words : List (List ℕ) → List ℕ
spaced_words [] = []
spaced_words (word ∷ []) = word
spaced_words (word ∷ next ∷ words) = word ++ space ∷ spaced_words (next ∷ words)

-- each word but the last one is closed
unfoldable pub are_closed : List (List ℕ) → Bool
are_closed [] = true
are_closed (word ∷ []) = true
are_closed (word ∷ next ∷ words) = is_closed word && are_closed (next ∷ words)

-- the line is those words; an empty line is one empty word
pub record IsWords (line : List ℕ) (words : List (List ℕ)) : Type 0 where
  pub joined : line ≡ spaced_words words
  pub some : words ≢ []
  pub are_words : list_all is_word words ≡ true
  pub closed : are_closed words ≡ true

-- ---- laws

-- a text has just those lines
abbrev pub HasItsLines : Type 0
HasItsLines = (text : List ℕ) → IsLines text (lines_of text)

abbrev pub HasNoOtherLines : Type 0
HasNoOtherLines = (text : List ℕ) (lines : List (List ℕ)) → IsLines text lines → lines ≡ lines_of text

-- a line has just those words
abbrev pub HasItsWords : Type 0
HasItsWords = (line : List ℕ) → IsWords line (words_of line)

abbrev pub HasNoOtherWords : Type 0
HasNoOtherWords = (line : List ℕ) (words : List (List ℕ)) → IsWords line words → words ≡ words_of line

-- what is read in quotes is quoted so, and what is quoted is read so
abbrev pub IsReadQuoted : Type 0
IsReadQuoted = (word units : List ℕ) → unquoted word ≡ Some units → IsQuoted word units

abbrev pub IsQuotedRead : Type 0
IsQuotedRead = (word units : List ℕ) → IsQuoted word units → unquoted word ≡ Some units
