-- The derived equality of constants is that of the definitions.
use Rattle.std.proofs.Common.{◌≡◌, ◌∙◌, refl, ap, Bool, true, false}
use Rattle.std.specs.Prelude.{◌&&◌, ◌==◌}
use Rattle.std.specs.Str.{bytes_eq}
use denote.Enum.Bare.{sameb}
use Rattle.asm_constants.specs.contracts.content.Reference.{the_type}
use Rattle.asm_constants.specs.declared.content.Content.{Content}
use Rattle.asm_constants.specs.declared.content.Content.TheVariants as content
use Rattle.asm_constants.specs.declared.content.Reference.{Reference}
use Rattle.asm_constants.specs.declared.content.Reference.TheVariants as reference
use Rattle.asm_constants.specs.contracts.content.ContentPartialEq.TheImpl.{eq-value}
use Rattle.asm_constants.specs.Contents.{same_content, tag_of}

abbrev pub equal : Content → Content → Bool
equal a b = eq-value.it a b

same_tag : (j k : Reference) → sameb the_type j k ≡ (tag_of j == tag_of k)
unfolding tag_of
same_tag reference.Field reference.Field = refl
same_tag reference.Field reference.Method = refl
same_tag reference.Field reference.InterfaceMethod = refl
same_tag reference.Method reference.Field = refl
same_tag reference.Method reference.Method = refl
same_tag reference.Method reference.InterfaceMethod = refl
same_tag reference.InterfaceMethod reference.Field = refl
same_tag reference.InterfaceMethod reference.Method = refl
same_tag reference.InterfaceMethod reference.InterfaceMethod = refl

regrouped : (a b c d : Bool) → (a && (b && (c && d))) ≡ (((a && b) && c) && d)
regrouped true true c d = refl
regrouped true false c d = refl
regrouped false b c d = refl

pub equal_is : (a b : Content) → equal a b ≡ same_content a b
unfolding same_content
equal_is (content.Utf8 a) (content.Utf8 b) = refl
equal_is (content.Integer a) (content.Integer b) = refl
equal_is (content.Long a) (content.Long b) = refl
equal_is (content.Class a) (content.Class b) = refl
equal_is (content.Str a) (content.Str b) = refl
equal_is (content.NameAndType a d) (content.NameAndType b e) = refl
equal_is (content.Member j x a d) (content.Member k y b e) =
    ap (λ same. same && (bytes_eq x y && (bytes_eq a b && bytes_eq d e))) (same_tag j k)
    ∙ regrouped (tag_of j == tag_of k) (bytes_eq x y) (bytes_eq a b) (bytes_eq d e)
equal_is _ _ = refl
