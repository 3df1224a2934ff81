-- The bytes of a constant spell it, and those of all constants spell a table's entries.
use Rattle.std.proofs.Common.{◌≡◌, refl, sym, ap, subst, ℕ, zero, suc, ◌+◌, ◌-◌, ◌<◌, ◌^◌, List, [], ◌∷◌, ◌++◌, length, true, false, Some, append_assoc, ℤ, arith}
use Rattle.std.specs.Prelude.{IsTrue, not, nat_le, sum_by, flat_map, FitsSigned}
use Rattle.std.specs.Int.{w8, w16, w32, w64, to_be_bytes, cast_unsigned}
use Rattle.std.specs.List.{AllByRecursion}
use Rattle.std.proofs.lemmas.Bool.{leb-true}
use Rattle.std.proofs.lemmas.Int.{to_z-of_z, ints}
use Rattle.std.proofs.lemmas.List.Sums.{sum_by-cons}
use Rattle.jx_base.specs.declared.class_file.Constant.{Constant}
use Rattle.jx_base.specs.declared.class_file.Constant.TheVariants as constant
use Rattle.jx_base.specs.declared.constant_tag.ConstantTag.{ConstantTag}
use Rattle.jx_base.specs.declared.constant_tag.ConstantTag.TheVariants as tag
use Rattle.class_grammar.specs.Parts.{number, bytes_of}
use Rattle.class_grammar.specs.ModifiedUtf8.{modified_utf8}
use Rattle.class_grammar.specs.Constants.{cut_off, constant_tags, tag_of, index_pair, utf8_body, constant_body, constant_part, is_double_width, constants_part}
use Rattle.asm_constants.specs.declared.content.Content.{Content}
use Rattle.asm_constants.specs.declared.content.Content.TheVariants as content
use Rattle.asm_constants.specs.declared.content.Reference.{Reference}
use Rattle.asm_constants.specs.declared.content.Reference.TheVariants as reference
use Rattle.asm_constants.specs.Contents.{tag_of as reference_tag}
use Rattle.asm_constants.specs.Pools.{places, is_short, index_of, two_bytes, text_bytes, constant_bytes}
use Rattle.asm_laws.specs.Tables.{AreUnits, IsRangedContent, AreRangedContents, member_constant, constant_of, entries_of, entries_from}
use Rattle.asm_laws.proofs.Numbers.{number_spelled}

-- ---- what stands behind a tag

-- a tag, and what stands behind it
with_tag : (size n : ℕ) (t : ConstantTag) (text rest : List ℕ) (k : Constant) → n < 2 ^ 8 → tag_of n ≡ Some t
    → ((at : ℕ) → (constant_body size at t).spells text k rest) → (constant_part size).spells (to_be_bytes w8 n ++ text) k rest
unfolding constant_part
with_tag size n t text rest k small is body = (
  size - length (to_be_bytes w8 n ++ text),
  to_be_bytes w8 n ++ text,
  (refl, refl),
  (
    n,
    text,
    number_spelled (cut_off size) w8 n text small,
    (t, text, (is, refl), body (size - length (to_be_bytes w8 n ++ text))),
  ),
)

text_spelled : (size at : ℕ) (units rest : List ℕ) → nat_le (length (modified_utf8 units)) 65535 ≡ true → AreUnits units
    → (constant_body size at tag.Utf8).spells (text_bytes (modified_utf8 units) ++ rest) (constant.Utf8 units) rest
unfolding constant_body utf8_body bytes_of
text_spelled size at units rest short ranged =
    let n = length (modified_utf8 units) in
    let small : n < 2 ^ 16 = omega (arith, leb-true n 65535 short) in (
      n,
      modified_utf8 units ++ rest,
      number_spelled (cut_off size) w16 n (modified_utf8 units ++ rest) small,
      (
        modified_utf8 units,
        rest,
        (refl, refl),
        (units, rest, (record { spelled = refl; are_units = ranged }, refl), (refl, refl)),
      ),
    )

pub bits_32 : (z : ℤ) → FitsSigned w32 z → cast_unsigned w32 z < 2 ^ 32
bits_32 z h = omega (arith, ints)

bits_64 : (z : ℤ) → FitsSigned w64 z → cast_unsigned w64 z < 2 ^ 64
bits_64 z h = omega (arith, ints)

integer_spelled : (size at : ℕ) (z : ℤ) (rest : List ℕ) → FitsSigned w32 z
    → (constant_body size at tag.Integer).spells (to_be_bytes w32 (cast_unsigned w32 z) ++ rest) (constant.Integer z) rest
unfolding constant_body
integer_spelled size at z rest h =
    (cast_unsigned w32 z, rest, number_spelled (cut_off size) w32 (cast_unsigned w32 z) rest (bits_32 z h), (ap constant.Integer (sym (to_z-of_z w32 z h)), refl))

long_spelled : (size at : ℕ) (z : ℤ) (rest : List ℕ) → FitsSigned w64 z
    → (constant_body size at tag.Long).spells (to_be_bytes w64 (cast_unsigned w64 z) ++ rest) (constant.Long z) rest
unfolding constant_body
long_spelled size at z rest h =
    (cast_unsigned w64 z, rest, number_spelled (cut_off size) w64 (cast_unsigned w64 z) rest (bits_64 z h), (ap constant.Long (sym (to_z-of_z w64 z h)), refl))

index_spelled : (size i : ℕ) (rest : List ℕ) → i < 2 ^ 16 → (number (cut_off size) w16).spells (two_bytes i ++ rest) i rest
index_spelled size i rest h = number_spelled (cut_off size) w16 i rest h

pair_spelled : (size i j : ℕ) (rest : List ℕ) → i < 2 ^ 16 → j < 2 ^ 16 → (index_pair size).spells ((two_bytes i ++ two_bytes j) ++ rest) (i, j) rest
unfolding index_pair
pair_spelled size i j rest h k =
    (i, two_bytes j ++ rest, index_spelled size i (two_bytes j ++ rest) h, (j, rest, index_spelled size j rest k, (refl, refl)))

-- ---- one constant

abbrev pub HasSmallIndices : List Content → Type 0
HasSmallIndices pool = (c : Content) → index_of pool c < 2 ^ 16

member_spelled : (size : ℕ) (kind : Reference) (i j : ℕ) (rest : List ℕ) → i < 2 ^ 16 → j < 2 ^ 16
    → (constant_part size).spells ((reference_tag kind ∷ two_bytes i ++ two_bytes j) ++ rest) (member_constant kind i j) rest
unfolding constant_body constant_tags tag_of reference_tag member_constant
member_spelled size reference.Field i j rest h k =
    with_tag size 9 tag.Field ((two_bytes i ++ two_bytes j) ++ rest) rest (constant.Field i j) (omega arith) refl
    (λ at. ((i, j), rest, pair_spelled size i j rest h k, (refl, refl)))
member_spelled size reference.Method i j rest h k =
    with_tag size 10 tag.Method ((two_bytes i ++ two_bytes j) ++ rest) rest (constant.Method i j) (omega arith) refl
    (λ at. ((i, j), rest, pair_spelled size i j rest h k, (refl, refl)))
member_spelled size reference.InterfaceMethod i j rest h k =
    with_tag size 11 tag.InterfaceMethod ((two_bytes i ++ two_bytes j) ++ rest) rest (constant.InterfaceMethod i j) (omega arith) refl
    (λ at. ((i, j), rest, pair_spelled size i j rest h k, (refl, refl)))

pub constant_spelled : (size : ℕ) (pool : List Content) (c : Content) (rest : List ℕ) → HasSmallIndices pool → is_short c ≡ true → IsRangedContent c
    → (constant_part size).spells (constant_bytes pool c ++ rest) (constant_of pool c) rest
unfolding constant_bytes constant_of is_short constant_tags tag_of constant_body
constant_spelled size pool (content.Utf8 units) rest small short h =
    with_tag size 1 tag.Utf8 (text_bytes (modified_utf8 units) ++ rest) rest (constant.Utf8 units) (omega arith) refl (λ at. text_spelled size at units rest short h)
constant_spelled size pool (content.Integer z) rest small short h =
    with_tag size 3 tag.Integer (to_be_bytes w32 (cast_unsigned w32 z) ++ rest) rest (constant.Integer z) (omega arith) refl (λ at. integer_spelled size at z rest h)
constant_spelled size pool (content.Long z) rest small short h =
    with_tag size 5 tag.Long (to_be_bytes w64 (cast_unsigned w64 z) ++ rest) rest (constant.Long z) (omega arith) refl (λ at. long_spelled size at z rest h)
constant_spelled size pool (content.Class name) rest small short h =
    let i = index_of pool (content.Utf8 name) in
    with_tag size 7 tag.Class (two_bytes i ++ rest) rest (constant.Class i) (omega arith) refl
    (λ at. (i, rest, index_spelled size i rest (small (content.Utf8 name)), (refl, refl)))
constant_spelled size pool (content.Str units) rest small short h =
    let i = index_of pool (content.Utf8 units) in
    with_tag size 8 tag.Str (two_bytes i ++ rest) rest (constant.Str i) (omega arith) refl
    (λ at. (i, rest, index_spelled size i rest (small (content.Utf8 units)), (refl, refl)))
constant_spelled size pool (content.NameAndType name descriptor) rest small short h =
    let i = index_of pool (content.Utf8 name) in
    let j = index_of pool (content.Utf8 descriptor) in
    with_tag size 12 tag.NameAndType ((two_bytes i ++ two_bytes j) ++ rest) rest (constant.NameAndType i j) (omega arith) refl
    (λ at. ((i, j), rest, pair_spelled size i j rest (small (content.Utf8 name)) (small (content.Utf8 descriptor)), (refl, refl)))
constant_spelled size pool (content.Member kind class name descriptor) rest small short h =
    member_spelled size kind (index_of pool (content.Class class)) (index_of pool (content.NameAndType name descriptor)) rest
    (small (content.Class class)) (small (content.NameAndType name descriptor))

-- ---- all constants

-- a constant that takes up one index, and others behind it
narrow_then : (size n : ℕ) (text middle rest : List ℕ) (k : Constant) (ks : List Constant) → is_double_width k ≡ false
    → (constant_part size).spells text k middle → (constants_part size n).spells middle ks rest → (constants_part size (suc n)).spells text (k ∷ ks) rest
unfolding constants_part
narrow_then size zero text middle rest k ks narrow one more =
    let asked : IsTrue (not (is_double_width k)) = rw narrow refl in
    let last : k ∷ ks ≡ k ∷ [] = ap (λ (cs : List Constant). k ∷ cs) more.0 in
    (size - length text, text, (refl, refl), (k, middle, one, (tt, middle, (asked, refl), (last, more.1))))
narrow_then size (suc n) text middle rest k ks narrow one more =
    (k, middle, one, rw narrow (ks, rest, more, (refl, refl)))

-- one that takes up two
wide_then : (size n : ℕ) (text middle rest : List ℕ) (k : Constant) (ks : List Constant) → is_double_width k ≡ true
    → (constant_part size).spells text k middle → (constants_part size n).spells middle ks rest → (constants_part size (suc (suc n))).spells text (k ∷ constant.Unusable ∷ ks) rest
unfolding constants_part
wide_then size n text middle rest k ks wide one more =
    (k, middle, one, rw wide (ks, rest, more, (refl, refl)))

member_narrow : (kind : Reference) (i j : ℕ) → is_double_width (member_constant kind i j) ≡ false
unfolding member_constant is_double_width
member_narrow reference.Field i j = refl
member_narrow reference.Method i j = refl
member_narrow reference.InterfaceMethod i j = refl

-- whichever it is
entries_then : (size n : ℕ) (pool : List Content) (c : Content) (text middle rest : List ℕ) (ks : List Constant)
    → (constant_part size).spells text (constant_of pool c) middle → (constants_part size n).spells middle ks rest → (constants_part size (places c + n)).spells text (entries_of pool c ++ ks) rest
unfolding constant_of entries_of places is_double_width member_constant
entries_then size n pool (content.Utf8 units) text middle rest ks one more =
    subst (λ (m : ℕ). (constants_part size m).spells text (constant.Utf8 units ∷ ks) rest) (omega arith) (narrow_then size n text middle rest _ ks refl one more)
entries_then size n pool (content.Integer z) text middle rest ks one more =
    subst (λ (m : ℕ). (constants_part size m).spells text (constant.Integer z ∷ ks) rest) (omega arith) (narrow_then size n text middle rest _ ks refl one more)
entries_then size n pool (content.Long z) text middle rest ks one more =
    subst (λ (m : ℕ). (constants_part size m).spells text (constant.Long z ∷ constant.Unusable ∷ ks) rest) (omega arith) (wide_then size n text middle rest _ ks refl one more)
entries_then size n pool (content.Class name) text middle rest ks one more =
    subst (λ (m : ℕ). (constants_part size m).spells text (constant_of pool (content.Class name) ∷ ks) rest) (omega arith) (narrow_then size n text middle rest _ ks refl one more)
entries_then size n pool (content.Str units) text middle rest ks one more =
    subst (λ (m : ℕ). (constants_part size m).spells text (constant_of pool (content.Str units) ∷ ks) rest) (omega arith) (narrow_then size n text middle rest _ ks refl one more)
entries_then size n pool (content.NameAndType name descriptor) text middle rest ks one more =
    subst (λ (m : ℕ). (constants_part size m).spells text (constant_of pool (content.NameAndType name descriptor) ∷ ks) rest) (omega arith) (narrow_then size n text middle rest _ ks refl one more)
entries_then size n pool (content.Member kind class name descriptor) text middle rest ks one more =
    subst (λ (m : ℕ). (constants_part size m).spells text (constant_of pool (content.Member kind class name descriptor) ∷ ks) rest) (omega arith)
    (narrow_then size n text middle rest _ ks (member_narrow kind (index_of pool (content.Class class)) (index_of pool (content.NameAndType name descriptor))) one more)

pub constants_spelled : (size : ℕ) (pool contents : List Content) (rest : List ℕ) → HasSmallIndices pool → AllByRecursion (λ c. is_short c ≡ true) contents → AreRangedContents contents
    → (constants_part size (sum_by places contents)).spells (flat_map (constant_bytes pool) contents ++ rest) (entries_from pool contents) rest
unfolding constants_part entries_from
constants_spelled size pool [] rest small short h = (refl, refl)
constants_spelled size pool (c ∷ contents) rest small short h =
    let behind = flat_map (constant_bytes pool) contents ++ rest in
    let text : (constant_bytes pool c ++ flat_map (constant_bytes pool) contents) ++ rest ≡ constant_bytes pool c ++ behind = append_assoc (constant_bytes pool c) (flat_map (constant_bytes pool) contents) rest in
    let all : (constants_part size (places c + sum_by places contents)).spells (constant_bytes pool c ++ behind) (entries_of pool c ++ entries_from pool contents) rest =
    entries_then size (sum_by places contents) pool c (constant_bytes pool c ++ behind) behind rest (entries_from pool contents)
    (constant_spelled size pool c behind small short.0 h.0)
    (constants_spelled size pool contents rest small short.1 h.1) in
    subst (λ (m : ℕ). (constants_part size m).spells (flat_map (constant_bytes pool) (c ∷ contents) ++ rest) (entries_of pool c ++ entries_from pool contents) rest) (sym (sum_by-cons places c contents))
    (subst (λ (t : List ℕ). (constants_part size (places c + sum_by places contents)).spells t (entries_of pool c ++ entries_from pool contents) rest) (sym text) all)
