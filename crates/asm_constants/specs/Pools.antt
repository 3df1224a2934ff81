-- The constants of a class file, in order of first need, and their bytes.
use Rattle.std.specs.Prelude.{ℕ, ◌+◌, ◌&&◌, Bool, true, List, [], ◌∷◌, ◌++◌, flat_map, length, sum_by, if◌then◌else◌, nat_le}
use Rattle.std.specs.Int.{to_be_bytes, cast_unsigned, w16, w32, w64}
use Rattle.std.specs.List.{list_any, list_all}
use Rattle.jx_base.specs.Basics.{added, all_added}
use Rattle.class_grammar.specs.ModifiedUtf8.{modified_utf8}
use Rattle.asm_constants.specs.declared.content.Content.{Content}
use Rattle.asm_constants.specs.declared.content.Content.TheVariants as content
use Rattle.asm_constants.specs.Contents.{tag_of, same_content, needed}

-- ---- constants at first need

unfoldable pub has_content : List Content → Content → Bool
has_content pool c = list_any (same_content c) pool

-- the constants with a new one at their end; an equal one is used again
abbrev pub with_new : List Content → Content → List Content
with_new pool c = added same_content pool c

-- the constants with those others that are new
abbrev pub with_all_new : List Content → List Content → List Content
with_all_new pool contents = all_added same_content pool contents

-- the constants with one more, and those that it names in front of it
unfoldable pub with_needed : List Content → Content → List Content
with_needed pool c = with_all_new pool (needed c)

-- ---- indices

-- a long takes up two indices, each other constant one
unfoldable pub places : Content → ℕ
places (content.Long z) = 2
places _ = 1

-- the index of a constant where the first of these has that index, and 0 where it isn't there
unfoldable pub index_from : ℕ → List Content → Content → ℕ
index_from i [] c = 0
index_from i (d ∷ pool) c = if same_content c d then i else index_from (i + places d) pool c

-- the index of a constant among all; index 0 has none
unfoldable pub index_of : List Content → Content → ℕ
index_of pool c = index_from 1 pool c

-- ---- limits

-- whether a text has at most 65,535 bytes
unfoldable pub is_short : Content → Bool
is_short (content.Utf8 units) = nat_le (length (modified_utf8 units)) 65535
is_short _ = true

-- whether a class file may have those constants: at most 65,534 indices, and no text that is too long
unfoldable pub fits : List Content → Bool
fits pool = nat_le (sum_by places pool) 65534 && list_all is_short pool

-- ---- bytes

abbrev pub two_bytes : ℕ → List ℕ
two_bytes n = to_be_bytes w16 n

-- the length of bytes, and the bytes
abbrev pub text_bytes : List ℕ → List ℕ
text_bytes bytes = two_bytes (length bytes) ++ bytes

-- a constant's tag, and what it says, in which a part is named by its index
unfoldable pub constant_bytes : List Content → Content → List ℕ
constant_bytes pool (content.Utf8 units) = 1 ∷ text_bytes (modified_utf8 units)
constant_bytes pool (content.Integer z) = 3 ∷ to_be_bytes w32 (cast_unsigned w32 z)
constant_bytes pool (content.Long z) = 5 ∷ to_be_bytes w64 (cast_unsigned w64 z)
constant_bytes pool (content.Class name) = 7 ∷ two_bytes (index_of pool (content.Utf8 name))
constant_bytes pool (content.Str units) = 8 ∷ two_bytes (index_of pool (content.Utf8 units))
constant_bytes pool (content.NameAndType name descriptor) =
    12 ∷ two_bytes (index_of pool (content.Utf8 name)) ++ two_bytes (index_of pool (content.Utf8 descriptor))
constant_bytes pool (content.Member kind class name descriptor) =
    tag_of kind ∷ two_bytes (index_of pool (content.Class class)) ++ two_bytes (index_of pool (content.NameAndType name descriptor))

-- all constants, one behind the other
unfoldable pub pool_bytes : List Content → List ℕ
pool_bytes pool = flat_map (constant_bytes pool) pool
