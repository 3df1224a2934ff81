-- The entries of a pool: its constants with their indices.
use Rattle.std.specs.Prelude.{◌≡◌, ℕ, suc, ◌+◌, Bool, List, [], ◌∷◌, ◌++◌, sum_by}
use Rattle.std.specs.Int.{to_be_bytes, cast_unsigned, w32, w64}
use Rattle.class_grammar.specs.ModifiedUtf8.{modified_utf8}
use Rattle.std.specs.List.{list_all}
use Rattle.std.specs.Map.{keys_of}
use Rattle.asm_constants.specs.declared.content.Content.{Content}
use Rattle.asm_constants.specs.declared.content.Content.TheVariants as content
use Rattle.asm_constants.specs.Contents.{tag_of}
use Rattle.asm_constants.specs.Pools.{places, is_short, index_of, two_bytes, text_bytes}

-- each number is its constant's index, where the first constant has that index
unfoldable pub AreNumbered : ℕ → List (Content × ℕ) → Type 0
AreNumbered i [] = Unit {0}
AreNumbered i (e ∷ entries) = (e.1 ≡ i) × AreNumbered (i + places e.0) entries

-- The entries are of a pool whose next constant has that index, and whose texts are short or aren't.
pub record IsPool (entries : List (Content × ℕ)) (next : ℕ) (are_short : Bool) : Type 0 where
  pub numbered : AreNumbered 1 entries
  pub counted : next ≡ suc (sum_by places (keys_of entries))
  pub short : are_short ≡ list_all is_short (keys_of entries)

-- the tag of a constant
unfoldable pub content_tag : Content → ℕ
content_tag (content.Utf8 units) = 1
content_tag (content.Integer z) = 3
content_tag (content.Long z) = 5
content_tag (content.Class name) = 7
content_tag (content.Str units) = 8
content_tag (content.NameAndType name descriptor) = 12
content_tag (content.Member kind class name descriptor) = tag_of kind

-- the bytes of a constant behind its tag
unfoldable pub bytes_behind_tag : List Content → Content → List ℕ
bytes_behind_tag pool (content.Utf8 units) = text_bytes (modified_utf8 units)
bytes_behind_tag pool (content.Integer z) = to_be_bytes w32 (cast_unsigned w32 z)
bytes_behind_tag pool (content.Long z) = to_be_bytes w64 (cast_unsigned w64 z)
bytes_behind_tag pool (content.Class name) = two_bytes (index_of pool (content.Utf8 name))
bytes_behind_tag pool (content.Str units) = two_bytes (index_of pool (content.Utf8 units))
bytes_behind_tag pool (content.NameAndType name descriptor) =
    two_bytes (index_of pool (content.Utf8 name)) ++ two_bytes (index_of pool (content.Utf8 descriptor))
bytes_behind_tag pool (content.Member kind class name descriptor) =
    two_bytes (index_of pool (content.Class class)) ++ two_bytes (index_of pool (content.NameAndType name descriptor))
