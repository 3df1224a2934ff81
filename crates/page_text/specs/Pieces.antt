-- The text of a piece.
use Rattle.std.specs.Prelude.{ℕ, Bool, List, [], ◌∷◌, map, decimal, if◌then◌else◌}
use Rattle.std.specs.List.{flat_map, list_all}
use Rattle.std.specs.Fmt.{signed_decimal}
use Rattle.jx_base.specs.Texts.{is_printable, unit_text, quoted, after_space, line}
use Rattle.page_text.specs.declared.pieces.Piece.{Piece}
use Rattle.page_text.specs.declared.pieces.Piece.TheVariants.{Plain, Number, Signed, Quoted, Shown}

-- a unit as it is, or as it stands within quotes
unfoldable pub shown_unit : Bool → ℕ → List ℕ
shown_unit plain u = if plain then u ∷ [] else unit_text u

-- a text as it is where all of it is printable, else as it stands within quotes
abbrev pub shown : List ℕ → List ℕ
shown units = flat_map (shown_unit (list_all is_printable units)) units

unfoldable pub piece_text : Piece → List ℕ
piece_text (Plain text) = text.now
piece_text (Number n) = decimal n
piece_text (Signed n) = signed_decimal n
piece_text (Quoted units) = quoted units.now
piece_text (Shown units) = shown units.now

abbrev pub piece_texts : List Piece → List (List ℕ)
piece_texts pieces = map piece_text pieces

-- a piece behind a space
abbrev pub spaced_piece : Piece → List ℕ
spaced_piece piece = after_space (piece_text piece)

-- a line whose words are these pieces
abbrev pub line_of : List Piece → List ℕ
line_of pieces = line (piece_texts pieces)
