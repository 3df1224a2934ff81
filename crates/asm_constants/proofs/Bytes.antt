-- The bytes of a constant: its tag, and those behind it.
use Rattle.std.proofs.Common.{◌≡◌, refl, List, ◌∷◌}
use Rattle.asm_constants.specs.declared.content.Content.{Content}
use Rattle.asm_constants.specs.declared.content.Content.TheVariants as content
use Rattle.asm_constants.specs.Pools.{constant_bytes}
use Rattle.asm_constants.specs.Entries.{content_tag, bytes_behind_tag}

pub tag_comes_first : (pool : List Content) (c : Content) → constant_bytes pool c ≡ content_tag c ∷ bytes_behind_tag pool c
unfolding constant_bytes content_tag bytes_behind_tag
tag_comes_first pool (content.Utf8 units) = refl
tag_comes_first pool (content.Integer z) = refl
tag_comes_first pool (content.Long z) = refl
tag_comes_first pool (content.Class name) = refl
tag_comes_first pool (content.Str units) = refl
tag_comes_first pool (content.NameAndType name descriptor) = refl
tag_comes_first pool (content.Member kind class name descriptor) = refl
