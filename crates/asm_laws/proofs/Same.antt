-- Constants that say the same are equal.
use Rattle.std.proofs.Common.{◌≡◌, refl, ap, ℕ, List, true}
use Rattle.std.specs.Prelude.{◌&&◌, ◌==◌}
use Rattle.std.specs.Str.{bytes_eq}
use Rattle.std.proofs.lemmas.Bool.{and_parts, and_from}
use Rattle.std.proofs.lemmas.Bool.Decides.{Decides-int_eq}
use Rattle.std.proofs.lemmas.Slice.Eq.{bytes_eq-Decides}
use Rattle.asm_constants.specs.declared.content.Content.{Content}
use Rattle.asm_constants.specs.declared.content.Content.TheVariants as content
use Rattle.asm_constants.specs.declared.content.Reference.{Reference}
use Rattle.asm_constants.specs.declared.content.Reference.TheVariants as reference
use Rattle.asm_constants.specs.Contents.{tag_of, same_content}

same_text : (a b : List ℕ) → bytes_eq a b ≡ true → a ≡ b
same_text a b h = (bytes_eq-Decides a b).0 h

itself : (a : List ℕ) → bytes_eq a a ≡ true
itself a = (bytes_eq-Decides a a).1 refl

same_reference : (j k : Reference) → (tag_of j == tag_of k) ≡ true → j ≡ k
unfolding tag_of
same_reference reference.Field reference.Field h = refl
same_reference reference.Field reference.Method h = absurd (cc)
same_reference reference.Field reference.InterfaceMethod h = absurd (cc)
same_reference reference.Method reference.Field h = absurd (cc)
same_reference reference.Method reference.Method h = refl
same_reference reference.Method reference.InterfaceMethod h = absurd (cc)
same_reference reference.InterfaceMethod reference.Field h = absurd (cc)
same_reference reference.InterfaceMethod reference.Method h = absurd (cc)
same_reference reference.InterfaceMethod reference.InterfaceMethod h = refl

reference_itself : (j : Reference) → (tag_of j == tag_of j) ≡ true
unfolding tag_of
reference_itself reference.Field = refl
reference_itself reference.Method = refl
reference_itself reference.InterfaceMethod = refl

pub same_is_equal : (c d : Content) → same_content c d ≡ true → c ≡ d
unfolding same_content
same_is_equal (content.Utf8 a) (content.Utf8 b) h = ap content.Utf8 (same_text a b h)
same_is_equal (content.Integer a) (content.Integer b) h = ap content.Integer ((Decides-int_eq a b).0 h)
same_is_equal (content.Long a) (content.Long b) h = ap content.Long ((Decides-int_eq a b).0 h)
same_is_equal (content.Class a) (content.Class b) h = ap content.Class (same_text a b h)
same_is_equal (content.Str a) (content.Str b) h = ap content.Str (same_text a b h)
same_is_equal (content.NameAndType a d) (content.NameAndType b e) h =
    let parts = and_parts (bytes_eq a b) (bytes_eq d e) h in
    let names = same_text a b parts.0 in
    let descriptors = same_text d e parts.1 in
    cc
same_is_equal (content.Member j c a d) (content.Member k x b e) h =
    let front = and_parts (((tag_of j == tag_of k) && bytes_eq c x) && bytes_eq a b) (bytes_eq d e) h in
    let middle = and_parts ((tag_of j == tag_of k) && bytes_eq c x) (bytes_eq a b) front.0 in
    let first = and_parts (tag_of j == tag_of k) (bytes_eq c x) middle.0 in
    let kinds = same_reference j k first.0 in
    let classes = same_text c x first.1 in
    let names = same_text a b middle.1 in
    let descriptors = same_text d e front.1 in
    cc
same_is_equal _ _ h = absurd (cc)

pub same_itself : (c : Content) → same_content c c ≡ true
unfolding same_content
same_itself (content.Utf8 a) = itself a
same_itself (content.Integer a) = (Decides-int_eq a a).1 refl
same_itself (content.Long a) = (Decides-int_eq a a).1 refl
same_itself (content.Class a) = itself a
same_itself (content.Str a) = itself a
same_itself (content.NameAndType a d) = and_from _ _ (itself a) (itself d)
same_itself (content.Member j c a d) = and_from _ _ (and_from _ _ (and_from _ _ (reference_itself j) (itself c)) (itself a)) (itself d)
