-- Descriptors of fields and methods (JVMS 4.3): the types that they spell.
use Rattle.std.specs.Prelude.{◌≡◌, ◌≢◌, ℕ, zero, suc, List, [], ◌∷◌, ◌++◌, length, replicate, Option, Some, None, Bool, false, true, ◌&&◌, ◌||◌, ◌==◌, if◌then◌else◌, codes}
use Rattle.std.specs.List.{flat_map, list_any, AllByRecursion}

-- a number, or an object of a class
pub data Base : Type 0 where
  Number : ℕ → Base
  Object : List ℕ → Base

-- a base under so many dimensions of arrays
pub record FieldType : Type 0 where
  pub dimensions : ℕ
  pub base : Base

-- the types of a method's parameters, and of its result where it has one
pub record MethodType : Type 0 where
  pub parameters : List FieldType
  pub result : Option FieldType

-- the letters of numbers
abbrev pub number_letters : List ℕ
number_letters = codes "BCDFIJSZ"

unfoldable pub is_number_letter : ℕ → Bool
is_number_letter u = list_any (λ k. k == u) number_letters

-- ---- spellings

-- `;`, `L`, `[`, `(`, `)`, `V`
abbrev pub semicolon : ℕ
semicolon = 0x3b

abbrev pub letter_l : ℕ
letter_l = 0x4c

abbrev pub bracket : ℕ
bracket = 0x5b

abbrev pub opening : ℕ
opening = 0x28

abbrev pub closing : ℕ
closing = 0x29

abbrev pub letter_v : ℕ
letter_v = 0x56

unfoldable pub base_text : Base → List ℕ
base_text (Number letter) = letter ∷ []
base_text (Object name) = letter_l ∷ name ++ semicolon ∷ []

unfoldable pub type_text : FieldType → List ℕ
type_text t = replicate t.dimensions bracket ++ base_text t.base

unfoldable pub result_text : Option FieldType → List ℕ
result_text None = letter_v ∷ []
result_text (Some t) = type_text t

unfoldable pub method_type_text : MethodType → List ℕ
method_type_text m = opening ∷ flat_map type_text m.parameters ++ (closing ∷ result_text m.result)

-- a class name here is any text of one unit or more but `;`
abbrev pub IsBase : Base → Type 0
IsBase (Number letter) = is_number_letter letter ≡ true
IsBase (Object name) = (name ≢ []) × AllByRecursion (λ u. u ≢ semicolon) name

abbrev pub IsResult : Option FieldType → Type 0
IsResult None = Unit {0}
IsResult (Some t) = IsBase t.base

-- the text is the descriptor of a field of that type
pub record IsFieldDescriptor (text : List ℕ) (t : FieldType) : Type 0 where
  pub spelled : text ≡ type_text t
  pub base : IsBase t.base

-- the text is the descriptor of a method of that type
pub record IsMethodDescriptor (text : List ℕ) (m : MethodType) : Type 0 where
  pub spelled : text ≡ method_type_text m
  pub parameters : AllByRecursion (λ t. IsBase t.base) m.parameters
  pub result : IsResult m.result

-- ---- floats and doubles

-- F and D
unfoldable pub is_floating_base : Base → Bool
is_floating_base (Number letter) = (letter == 0x46) || (letter == 0x44)
is_floating_base (Object name) = false

unfoldable pub is_floating : FieldType → Bool
is_floating t = is_floating_base t.base

unfoldable pub is_floating_result : Option FieldType → Bool
is_floating_result None = false
is_floating_result (Some t) = is_floating t

unfoldable pub has_floating : MethodType → Bool
has_floating m = list_any is_floating m.parameters || is_floating_result m.result

-- ---- reading

-- the class name up to the first `;`, behind so much of it
unfoldable pub object_at : List ℕ → List ℕ → Option (Base × List ℕ)
object_at name [] = None
object_at name (u ∷ units) =
    if u == semicolon then (if length name == 0 then None else Some (Object name, units))
    else object_at (name ++ u ∷ []) units

-- the base at the front, and what stands behind it
unfoldable pub base_at : ℕ → List ℕ → Option (Base × List ℕ)
base_at u units =
    if is_number_letter u then Some (Number u, units)
    else if u == letter_l then object_at [] units else None

-- a base with its dimensions
unfoldable pub under_dimensions : ℕ → Option (Base × List ℕ) → Option (FieldType × List ℕ)
under_dimensions n None = None
under_dimensions n (Some x) = Some (record { dimensions = n; base = x.0 }, x.1)

-- the type at the front behind so many dimensions, and what stands behind it
unfoldable pub type_at : ℕ → List ℕ → Option (FieldType × List ℕ)
type_at n [] = None
type_at n (u ∷ units) =
    if u == bracket then type_at (suc n) units else under_dimensions n (base_at u units)

-- what was read, where nothing is left
unfoldable pub whole_type : Option (FieldType × List ℕ) → Option FieldType
whole_type None = None
whole_type (Some x) = if length x.1 == 0 then Some x.0 else None

-- the type of a field's descriptor
unfoldable pub field_type_of : List ℕ → Option FieldType
field_type_of text = whole_type (type_at 0 text)

-- a type in front of others
unfoldable pub with_type : FieldType → Option (List FieldType × List ℕ)
    → Option (List FieldType × List ℕ)
with_type t None = None
with_type t (Some x) = Some (t ∷ x.0, x.1)

-- the types up to the closing parenthesis, of which there are at most so many, and what stands
-- behind it
unfoldable pub types_at : ℕ → List ℕ → Option (List FieldType × List ℕ)
types_at n [] = None
types_at zero (u ∷ units) = if u == closing then Some ([], units) else None
types_at (suc n) (u ∷ units) =
    if u == closing then Some ([], units)
    else elim (type_at 0 (u ∷ units)) [ None ↦ None | Some x ↦ with_type x.0 (types_at n x.1) ]

-- the type of a result, none for `V`
unfoldable pub result_of : List ℕ → Option (Option FieldType)
result_of [] = None
result_of (u ∷ units) =
    if (u == letter_v) && (length units == 0) then Some None
    else elim (field_type_of (u ∷ units)) [ None ↦ None | Some t ↦ Some (Some t) ]

-- parameters with a result
unfoldable pub with_result : List FieldType → Option (Option FieldType) → Option MethodType
with_result types None = None
with_result types (Some r) = Some (record { parameters = types; result = r })

-- the type of a method's descriptor
unfoldable pub method_type_of : List ℕ → Option MethodType
method_type_of [] = None
method_type_of (u ∷ units) =
    if u == opening then elim (types_at (length units) units) [
      | None ↦ None
      | Some x ↦ with_result x.0 (result_of x.1)
    ] else None

-- what a computed case opens
unfoldable pub opened_descriptors : Unit {0}
unfolding is_number_letter base_text type_text result_text method_type_text is_floating_base
    is_floating is_floating_result has_floating object_at base_at under_dimensions type_at
    whole_type field_type_of with_type types_at result_of with_result method_type_of
opened_descriptors = tt
