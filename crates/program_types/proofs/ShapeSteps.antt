-- Values at the type of a class.
use Rattle.std.proofs.Common.{◌≡◌, ◌≢◌, refl, ◌∙◌, ap, ℕ, ◌<◌, ◌≤◌, Bool, true, false, ◌&&◌, ◌||◌, List, [], ◌∷◌, ◌++◌, length, drop, reverse, get_or, Option, Some, None, arith, ◌==◌, if◌then◌else◌, slice_get}
use Rattle.std.proofs.lemmas.List.{reverse-append, reverse-reverse}
use Rattle.std.proofs.lemmas.Bool.Decides.{nat_tests}
use Rattle.jx_base.specs.declared.program.System.{System}
use Rattle.jx_base.specs.declared.program.Class.{Class}
use Rattle.jx_base.specs.Basics.{passes, is_number}
use Rattle.program_model.specs.BuiltIn.{portal_class}
use Rattle.program_model.specs.Types.{is_int_type, is_long_type, is_reference_type}
use Rattle.program_model.specs.Lookup.{Shape, IntShape, LongShape, NullShape, ObjectShape, PortalShape, Unknown, class_at, class_named, class_of_type, class_name_of_type, type_of_name, type_of_class, is_below, is_interface, fits_type, object_fits, shape_fits, shape_fits_class}
use Rattle.program_types.proofs.ClassSteps.{fits_class}

-- ---- the type of a class that is no array's

pub plain_type : (name : List ℕ) → get_or name 0 91 ≢ 91 → type_of_name name ≡ 76 ∷ name ++ 59 ∷ []
unfolding type_of_name
plain_type [] n = absurd (n refl)
plain_type (u ∷ units) n =
    let t : (u == 91) ≡ false = grind (arith, nat_tests) in
    ap (λ (b : Bool). if b then u ∷ units else 76 ∷ u ∷ units ++ 59 ∷ []) t

name_in_type : (name : List ℕ) → class_name_of_type (76 ∷ name ++ 59 ∷ []) ≡ name
unfolding class_name_of_type
name_in_type name = ap (λ xs. reverse (drop 1 xs)) (reverse-append name (59 ∷ [])) ∙ reverse-reverse name

class_of_plain_type : (s : System) (name : List ℕ) → class_of_type s (76 ∷ name ++ 59 ∷ []) ≡ class_named s name
unfolding class_of_type is_reference_type
class_of_plain_type s [] = ap (class_named s) (name_in_type [])
class_of_plain_type s (u ∷ units) = ap (class_named s) (name_in_type (u ∷ units))

-- a value at a class that is no array's, if there is one
abbrev pub at_class : System → Bool → Shape → Option ℕ → Bool
at_class s loose NullShape above = true
at_class s loose (ObjectShape a) above = passes (is_below s a) above || (loose && passes (is_interface s) above)
at_class s loose (PortalShape i) above = (passes (is_below s i) above || is_number above portal_class) || (loose && passes (is_interface s) above)
at_class s loose _ above = false

fits_plain_type : (s : System) (loose : Bool) (v : Shape) (name : List ℕ) → 1 ≤ length name →
    shape_fits s loose v (76 ∷ name ++ 59 ∷ []) ≡ at_class s loose v (class_named s name)
unfolding shape_fits object_fits is_int_type is_long_type is_reference_type
fits_plain_type s loose v [] l = absurd (omega (arith, l))
fits_plain_type s loose (IntShape n) (u ∷ units) l = refl
fits_plain_type s loose LongShape (u ∷ units) l = refl
fits_plain_type s loose NullShape (u ∷ units) l = refl
fits_plain_type s loose Unknown (u ∷ units) l = refl
fits_plain_type s loose (ObjectShape a) (u ∷ units) l =
    let type = 76 ∷ (u ∷ units) ++ 59 ∷ [] in
    ap (λ (b : Bool). b || (loose && passes (is_interface s) (class_of_type s type))) (fits_class s a type (omega arith) (omega arith))
    ∙ ap (at_class s loose (ObjectShape a)) (class_of_plain_type s (u ∷ units))
fits_plain_type s loose (PortalShape i) (u ∷ units) l =
    let type = 76 ∷ (u ∷ units) ++ 59 ∷ [] in
    ap (λ (b : Bool). (b || is_number (class_of_type s type) portal_class) || (loose && passes (is_interface s) (class_of_type s type))) (fits_class s i type (omega arith) (omega arith))
    ∙ ap (at_class s loose (PortalShape i)) (class_of_plain_type s (u ∷ units))

pub fits_named : (s : System) (loose : Bool) (v : Shape) (name : List ℕ) → get_or name 0 91 ≢ 91 →
    shape_fits s loose v (type_of_name name) ≡ at_class s loose v (class_named s name)
fits_named s loose v [] n = absurd (n refl)
fits_named s loose v (u ∷ units) n =
    ap (shape_fits s loose v) (plain_type (u ∷ units) n) ∙ fits_plain_type s loose v (u ∷ units) (omega arith)

-- ---- the type of any class

pub array_type : (name : List ℕ) → get_or name 0 0 ≡ 91 → type_of_name name ≡ name
unfolding type_of_name
array_type [] e = refl
array_type (u ∷ units) e =
    let t : (u == 91) ≡ true = grind (arith, nat_tests) in
    ap (λ (b : Bool). if b then u ∷ units else 76 ∷ u ∷ units ++ 59 ∷ []) t

pub empty_name : (name : List ℕ) → length name < 1 → name ≡ []
empty_name [] l = refl
empty_name (u ∷ units) l = absurd (omega (arith, l))

pub no_type : (s : System) (loose : Bool) (v : Shape) → shape_fits s loose v (type_of_name []) ≡ false
unfolding shape_fits object_fits is_int_type is_long_type is_reference_type type_of_name class_of_type fits_type passes is_number
no_type s loose (IntShape n) = refl
no_type s loose LongShape = refl
no_type s loose NullShape = refl
no_type s loose Unknown = refl
no_type s true (ObjectShape a) = refl
no_type s false (ObjectShape a) = refl
no_type s true (PortalShape i) = refl
no_type s false (PortalShape i) = refl

pub fits_found : (s : System) (loose : Bool) (v : Shape) (b : ℕ) (k : Class) → slice_get s.program.classes b ≡ Some k →
    shape_fits_class s loose v b ≡ shape_fits s loose v (type_of_name k.name)
unfolding shape_fits_class class_at passes type_of_class
fits_found s loose v b k e = ap (λ (o : Option Class). passes (λ k. shape_fits s loose v (type_of_class k)) o) e

pub fits_nowhere : (s : System) (loose : Bool) (v : Shape) (b : ℕ) → slice_get s.program.classes b ≡ None → shape_fits_class s loose v b ≡ false
unfolding shape_fits_class class_at passes type_of_class
fits_nowhere s loose v b e = ap (λ (o : Option Class). passes (λ k. shape_fits s loose v (type_of_class k)) o) e
