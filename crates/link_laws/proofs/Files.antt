-- What the grammar of class files says of a file: its texts are units, and its methods have code where they need it.
use Rattle.std.proofs.Common.{◌≡◌, ℕ, zero, suc, ◌≤◌, inl, inr, Bool, true, false, not, ◌&&◌, ◌||◌, List, [], ◌∷◌, ◌++◌, length, Option, Some, None, is_some, is_none, slice_get, refl, sym, ap, subst, arith}
use Rattle.std.specs.Prelude.{⊤, IsTrue, MatchBool, nat_le}
use Rattle.std.specs.List.{AllByRecursion}
use Rattle.std.proofs.lemmas.Bool.Decides.{nat_tests}
use Rattle.class_grammar.specs.ClassGrammar.{IsClassFile, class_file_part, pool_part, methods_part}
use Rattle.class_grammar.specs.Constants.{constant_body, constant_part, constants_part, utf8_body, skipped_body, index_pair, is_double_width, text_at, text_of_constant}
use Rattle.class_grammar.specs.Flags.{is_abstract}
use Rattle.class_grammar.specs.Members.{name_part, method_part, method_attributes, code_body, code_part, is_code_name}
use Rattle.class_grammar.specs.Parts.{Part, repeated, bytes_of}
use Rattle.jx_base.specs.declared.class_file.ClassFile.{ClassFile}
use Rattle.jx_base.specs.declared.class_file.Code.{Code}
use Rattle.jx_base.specs.declared.class_file.Constant.{Constant}
use Rattle.jx_base.specs.declared.class_file.Constant.TheVariants as constant
use Rattle.jx_base.specs.declared.class_file.Member.{Member}
use Rattle.jx_base.specs.declared.constant_tag.ConstantTag.{ConstantTag}
use Rattle.jx_base.specs.declared.constant_tag.ConstantTag.TheVariants as tag
use Rattle.jx_base.specs.declared.fault.ClassFault.{ClassFault}
use Rattle.program_model.specs.DistinctNames.{AreUnits}
use Rattle.link_laws.proofs.Lists.{among_either, of_each, of_all, at_among}

-- ---- texts

-- the text of a constant is of units
abbrev pub HasUnits : Constant → Type 0
HasUnits (constant.Utf8 text) = AreUnits text
HasUnits _ = ⊤

-- what stands behind a tag has units
body_units : (size at : ℕ) (t : ConstantTag) (bytes : List ℕ) (c : Constant) (rest : List ℕ) → (constant_body size at t).spells bytes c rest → HasUnits c
unfolding constant_body utf8_body skipped_body index_pair
body_units size at tag.Utf8 bytes c rest h = subst HasUnits (sym h.3.3.3.0) h.3.3.2.0.are_units
body_units size at tag.Integer bytes c rest h = subst HasUnits (sym h.3.0) tt
body_units size at tag.Float bytes c rest h = subst HasUnits (sym h.3.0) tt
body_units size at tag.Long bytes c rest h = subst HasUnits (sym h.3.0) tt
body_units size at tag.Double bytes c rest h = subst HasUnits (sym h.3.0) tt
body_units size at tag.Class bytes c rest h = subst HasUnits (sym h.3.0) tt
body_units size at tag.Str bytes c rest h = subst HasUnits (sym h.3.0) tt
body_units size at tag.Field bytes c rest h = subst HasUnits (sym h.3.0) tt
body_units size at tag.Method bytes c rest h = subst HasUnits (sym h.3.0) tt
body_units size at tag.InterfaceMethod bytes c rest h = subst HasUnits (sym h.3.0) tt
body_units size at tag.NameAndType bytes c rest h = subst HasUnits (sym h.3.0) tt
body_units size at tag.MethodHandle bytes c rest h = subst HasUnits (sym h.3.0) tt
body_units size at tag.MethodType bytes c rest h = subst HasUnits (sym h.3.0) tt
body_units size at tag.InvokeDynamic bytes c rest h = subst HasUnits (sym h.3.0) tt

-- so does a constant
constant_units : (size : ℕ) (bytes : List ℕ) (c : Constant) (rest : List ℕ) → (constant_part size).spells bytes c rest → HasUnits c
unfolding constant_part
constant_units size bytes c rest h = body_units size h.0 h.3.3.0 h.3.3.1 c rest h.3.3.3

-- and each of a list of constants
constants_units : (size n : ℕ) (bytes : List ℕ) (cs : List Constant) (rest : List ℕ) → (constants_part size n).spells bytes cs rest → AllByRecursion HasUnits cs
unfolding constants_part
constants_units size zero bytes cs rest h = subst (AllByRecursion HasUnits) (sym h.0) tt
constants_units size (suc zero) bytes cs rest h =
    subst (AllByRecursion HasUnits) (sym h.3.3.3.0) (constant_units size _ h.3.0 _ h.3.2, tt)
constants_units size (suc (suc n)) bytes cs rest h = by (is_double_width h.0) (constant_units size bytes h.0 h.1 h.2) h.3
    (λ ms rs. constants_units size n h.1 ms rs) (λ ms rs. constants_units size (suc n) h.1 ms rs)
  where
    by : (b : Bool) → HasUnits h.0
        → MatchBool b
        ((x : List Constant) × (middle : List ℕ) × (constants_part size n).spells h.1 x middle × ((cs ≡ h.0 ∷ constant.Unusable ∷ x) × (rest ≡ middle)))
        ((x : List Constant) × (middle : List ℕ) × (constants_part size (suc n)).spells h.1 x middle × ((cs ≡ h.0 ∷ x) × (rest ≡ middle)))
        → ((x : List Constant) (r : List ℕ) → (constants_part size n).spells h.1 x r → AllByRecursion HasUnits x)
        → ((x : List Constant) (r : List ℕ) → (constants_part size (suc n)).spells h.1 x r → AllByRecursion HasUnits x)
        → AllByRecursion HasUnits cs
    by true u k one two = subst (AllByRecursion HasUnits) (sym k.3.0) (u, (tt, one k.0 k.1 k.2))
    by false u k one two = subst (AllByRecursion HasUnits) (sym k.3.0) (u, two k.0 k.1 k.2)

-- and each of a file's constants
pool_units : (size : ℕ) (bytes : List ℕ) (cs : List Constant) (rest : List ℕ) → (pool_part size).spells bytes cs rest → AllByRecursion HasUnits cs
unfolding pool_part
pool_units size bytes cs rest h =
    subst (AllByRecursion HasUnits) (sym h.3.3.3.3.0) (tt, constants_units size _ _ h.3.3.0 _ h.3.3.2)

-- the text at an index is of units
text_units : (cs : List Constant) (i : ℕ) (text : List ℕ) → AllByRecursion HasUnits cs → text_at cs i ≡ Some text → AreUnits text
unfolding text_at text_of_constant
text_units cs i text units h = by (slice_get cs i) refl h
  where
    by : (o : Option Constant) → slice_get cs i ≡ o → text_of_constant o ≡ Some text → AreUnits text
    by None e k = absurd cc
    by (Some (constant.Utf8 t)) e k = subst AreUnits (same t text k) (of_each HasUnits cs (constant.Utf8 t) units (at_among cs i (constant.Utf8 t) e))
      where
        same : (a b : List ℕ) → Some a ≡ Some b → a ≡ b
        same a b q = cc
    by (Some constant.Unusable) e k = absurd cc
    by (Some (constant.Integer n)) e k = absurd cc
    by (Some (constant.Long n)) e k = absurd cc
    by (Some (constant.Class n)) e k = absurd cc
    by (Some (constant.Str n)) e k = absurd cc
    by (Some (constant.Field n m)) e k = absurd cc
    by (Some (constant.Method n m)) e k = absurd cc
    by (Some (constant.InterfaceMethod n m)) e k = absurd cc
    by (Some (constant.NameAndType n m)) e k = absurd cc
    by (Some (constant.Skipped n)) e k = absurd cc

-- a name is of units
name_units : (size : ℕ) (cut : ClassFault) (cs : List Constant) (bytes name rest : List ℕ) → AllByRecursion HasUnits cs → (name_part size cut cs).spells bytes name rest → AreUnits name
unfolding name_part
name_units size cut cs bytes name rest units h = text_units cs h.3.0 name units h.3.3.0

-- ---- methods

-- what holds of the items of each of repeated parts holds of all
pub of_repeated : {A F : Type 0} (P : A → Type 0) (p : Part (List A) F) → ((bytes : List ℕ) (xs : List A) (rest : List ℕ) → p.spells bytes xs rest → AllByRecursion P xs)
    → (n : ℕ) (bytes : List ℕ) (xs : List A) (rest : List ℕ) → (repeated n p).spells bytes xs rest → AllByRecursion P xs
unfolding repeated
of_repeated P p each zero bytes xs rest h = subst (AllByRecursion P) (sym h.0) tt
of_repeated P p each (suc n) bytes xs rest h =
    let one = each bytes h.0 h.2 h.3 in
    let more = of_repeated P p each n h.2 h.1 rest h.4 in
    subst (AllByRecursion P) (sym h.5) (of_all P (h.0 ++ h.1) (λ x a. elim (among_either h.0 h.1 x a) [ inl k ↦ of_each P h.0 x one k | inr k ↦ of_each P h.1 x more k ]))

-- there is code to run, where there is code
abbrev pub IsFilled : Option Code → Type 0
IsFilled None = ⊤
IsFilled (Some c) = 1 ≤ length c.code

-- a method's name and descriptor are units, and it has code just where it is not abstract
pub record IsMethod (m : Member) : Type 0 where
  pub name : AreUnits m.name
  pub descriptor : AreUnits m.descriptor
  pub code : is_abstract m.flags ≡ false → is_some m.code ≡ true
  pub no_code : is_abstract m.flags ≡ true → m.code ≡ None
  pub filled : IsFilled m.code

-- the code of a Code is filled
part_filled : (size : ℕ) (cut : ClassFault) (cs : List Constant) (bytes : List ℕ) (c : Code) (rest : List ℕ) → (code_part size cut cs).spells bytes c rest → 1 ≤ length c.code
unfolding code_part bytes_of
part_filled size cut cs bytes c rest h =
    let n : ℕ = h.3.3.0 in
    let code : List ℕ = h.3.3.3.3.3.0 in
    let long : length code ≡ n = h.3.3.3.3.3.2.0 in
    let some : 1 ≤ n = first_of_two n h.3.3.3.2.0 in
    subst (λ (x : Code). 1 ≤ length x.code) (sym h.3.3.3.3.3.3.3.3.0) (omega (arith, long, some))
  where
    first_of_two : (n : ℕ) → IsTrue (nat_le 1 n && nat_le n 65535) → 1 ≤ n
    first_of_two n k = grind (arith, nat_tests)

-- a code is filled
body_filled : (size at : ℕ) (cs : List Constant) (n : ℕ) (bytes : List ℕ) (c : Code) (rest : List ℕ) → (code_body size at cs n).spells bytes c rest → 1 ≤ length c.code
unfolding code_body
body_filled size at cs n bytes c rest h = part_filled _ _ cs _ c [] h.3.3

-- what a method's attributes give: filled code, and none where there may be none
abbrev IsGiven : Bool → Option Code → Type 0
IsGiven may_have code = IsFilled code × (may_have ≡ false → code ≡ None)

-- each attribute keeps to that
attributes_give : (size : ℕ) (cs : List Constant) (may_have : Bool) (n : ℕ) (code : Option Code) (bytes : List ℕ) (result : Option Code) (rest : List ℕ)
    → IsGiven may_have code → (method_attributes size cs may_have n code).spells bytes result rest → IsGiven may_have result
unfolding method_attributes bytes_of
attributes_give size cs may_have zero code bytes result rest g h = subst (IsGiven may_have) (sym h.0) g
attributes_give size cs may_have (suc k) code bytes result rest g h =
    by (is_code_name h.3.0) h.3.3.3.3 (λ c bs g. attributes_give size cs may_have k c bs result rest g)
  where
    may : (a b : Bool) → IsTrue (a && b) → a ≡ false → ⊥
    may true b e f = cc
    may false b e f = cc

    by : (b : Bool)
        → MatchBool b
        ((u : Unit {0}) × (middle : List ℕ) × (IsTrue (may_have && is_none code) × (middle ≡ h.3.3.3.1))
        × ((found : Code) × (behind : List ℕ) × (code_body size h.0 cs h.3.3.0).spells middle found behind × (method_attributes size cs may_have k (Some found)).spells behind result rest))
        ((skipped : List ℕ) × (middle : List ℕ) × ((length skipped ≡ h.3.3.0) × (h.3.3.3.1 ≡ skipped ++ middle)) × (method_attributes size cs may_have k code).spells middle result rest)
        → ((c : Option Code) (bs : List ℕ) → IsGiven may_have c → (method_attributes size cs may_have k c).spells bs result rest → IsGiven may_have result)
        → IsGiven may_have result
    by true q again = again (Some q.3.0) q.3.1 (body_filled size h.0 cs h.3.3.0 q.1 q.3.0 q.3.1 q.3.2, λ e. absurd (may may_have (is_none code) q.2.0 e)) q.3.3
    by false q again = again code q.1 g q.3

-- a method of a file
method_is : (size : ℕ) (cs : List Constant) (interface : Bool) (bytes : List ℕ) (ms : List Member) (rest : List ℕ) → AllByRecursion HasUnits cs
    → (method_part size cs interface).spells bytes ms rest → AllByRecursion IsMethod ms
unfolding method_part
method_is size cs interface bytes ms rest units h =
    let flags : ℕ = h.3.0 in
    let name : List ℕ = h.3.3.0 in
    let descriptor : List ℕ = h.3.3.3.3.0 in
    let named = name_units size _ cs _ name _ units h.3.3.2 in
    let described = name_units size _ cs _ descriptor _ units h.3.3.3.3.2 in
    let after = h.3.3.3.3.3.3.3 in
    let code : Option Code = after.3.0 in
    let given = attributes_give size cs (not (is_abstract flags)) after.0 None _ code _ (tt, λ e. refl) after.3.2 in
    let one : IsMethod (record { flags = flags; name = name; descriptor = descriptor; code = code }) = record {
      name = named;
      descriptor = described;
      code = λ e. needed (is_abstract flags) (is_some code) after.3.3.2.0 e;
      no_code = λ e. given.1 (ap not e);
      filled = given.0;
    } in
    subst (AllByRecursion IsMethod) (sym after.3.3.3.0) (one, tt)
  where
    needed : (a b : Bool) → IsTrue (a || b) → a ≡ false → b ≡ true
    needed true b e f = cc
    needed false b e f = e

-- ---- a file

-- a file's texts are units, and its methods are methods
pub record IsFile (f : ClassFile) : Type 0 where
  pub texts : AllByRecursion HasUnits f.constants
  pub methods : AllByRecursion IsMethod f.methods

-- so is each class file of some bytes
pub is_file : (bytes : List ℕ) (f : ClassFile) → IsClassFile bytes f → IsFile f
unfolding class_file_part methods_part
is_file bytes f h =
    let size : ℕ = length bytes in
    let pool = h.3 in
    let constants : List Constant = pool.0 in
    let units = pool_units size _ constants _ pool.2 in
    let methods = pool.3.3.3 in
    let each = of_repeated IsMethod _ (λ bs ms rest k. method_is size constants _ bs ms rest units k) _ _ methods.0 _ methods.2.3 in
    subst IsFile (sym methods.3.3.3.3.0) (record { texts = units; methods = each })
