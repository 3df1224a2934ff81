-- Constants by what they say: which are the same, and what each needs.
use Rattle.std.specs.Prelude.{ℕ, ◌&&◌, Bool, false, List, [], ◌∷◌, ◌==◌}
use Rattle.std.specs.Ordering.{int_eq}
use Rattle.std.specs.Str.{bytes_eq}
use Rattle.asm_constants.specs.declared.content.Content.{Content}
use Rattle.asm_constants.specs.declared.content.Content.TheVariants as content
use Rattle.asm_constants.specs.declared.content.Reference.{Reference}
use Rattle.asm_constants.specs.declared.content.Reference.TheVariants as reference

-- the tag of a reference
unfoldable pub tag_of : Reference → ℕ
tag_of reference.Field = 9
tag_of reference.Method = 10
tag_of reference.InterfaceMethod = 11

-- whether two constants are of one kind and say the same
unfoldable pub same_content : Content → Content → Bool
same_content (content.Utf8 a) (content.Utf8 b) = bytes_eq a b
same_content (content.Integer a) (content.Integer b) = int_eq a b
same_content (content.Long a) (content.Long b) = int_eq a b
same_content (content.Class a) (content.Class b) = bytes_eq a b
same_content (content.Str a) (content.Str b) = bytes_eq a b
same_content (content.NameAndType a d) (content.NameAndType b e) = bytes_eq a b && bytes_eq d e
same_content (content.Member j c a d) (content.Member k x b e) = (tag_of j == tag_of k) && bytes_eq c x && bytes_eq a b && bytes_eq d e
same_content _ _ = false

-- a constant behind those that it names
unfoldable pub needed : Content → List Content
needed (content.Class name) = content.Utf8 name ∷ content.Class name ∷ []
needed (content.Str units) = content.Utf8 units ∷ content.Str units ∷ []
needed (content.NameAndType name descriptor) =
    content.Utf8 name ∷ content.Utf8 descriptor ∷ content.NameAndType name descriptor ∷ []
needed (content.Member kind class name descriptor) =
    content.Utf8 class ∷ content.Class class ∷ content.Utf8 name ∷ content.Utf8 descriptor
    ∷ content.NameAndType name descriptor ∷ content.Member kind class name descriptor ∷ []
needed c = c ∷ []
