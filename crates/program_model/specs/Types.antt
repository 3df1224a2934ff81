-- Descriptors: the types of fields, parameters and results.
use Rattle.std.specs.Prelude.{ℕ, ℤ, pos, negsuc, int_le, Bool, true, false, ◌&&◌, not, List, [], ◌∷◌, ◌++◌, ◌==◌, if◌then◌else◌, codes}
use Rattle.std.specs.Int.{w8, w16, int_rem_euclid}
use Rattle.std.specs.Str.{bytes_eq}
use Rattle.jx_base.specs.Basics.{contains_number}
use Rattle.program_model.specs.Arithmetic.{low_bits, low_char}

-- ---- a method's descriptor

-- the types of a method's parameters, and of its result
pub record Signature : Type 0 where
  pub parameters : List (List ℕ)
  pub result : List ℕ

-- with more parameters in front
unfoldable pub with_parameters : List (List ℕ) → Signature → Signature
with_parameters types x = record x { parameters = types ++ x.parameters }

-- a descriptor's part so far, whether it ends inside a class name, and the type that is whole, if one is
pub record Scan : Type 0 where
  pub part : List ℕ
  pub in_name : Bool
  pub whole : List (List ℕ)

-- the part with one unit more
unfoldable pub scan_with : List ℕ → Bool → ℕ → Scan
scan_with part true u =
    if u == 59
    then record { part = []; in_name = false; whole = (part ++ u ∷ []) ∷ [] }
    else record { part = part ++ u ∷ []; in_name = true; whole = [] }
scan_with part false u =
    if u == 91 then record { part = part ++ u ∷ []; in_name = false; whole = [] }
    else if u == 76 then record { part = part ++ u ∷ []; in_name = true; whole = [] }
    else record { part = []; in_name = false; whole = (part ++ u ∷ []) ∷ [] }

-- the signature from behind the opening parenthesis on, where so much of a type stands before
unfoldable pub signature_from : List ℕ → Bool → List ℕ → Signature
signature_from part in_name [] = record { parameters = []; result = [] }
signature_from part in_name (u ∷ units) = elim (not in_name && (u == 41)) [
  | true ↦ record { parameters = []; result = units }
  | false ↦ let x : Scan = scan_with part in_name u in with_parameters x.whole (signature_from x.part x.in_name units)
]

-- the signature of a method's descriptor
unfoldable pub signature_of : List ℕ → Signature
signature_of [] = record { parameters = []; result = [] }
signature_of (parenthesis ∷ units) = signature_from [] false units

-- the types of a method's parameters
unfoldable pub parameter_types : List ℕ → List (List ℕ)
parameter_types descriptor = (signature_of descriptor).parameters

-- the type of a method's result
unfoldable pub result_type : List ℕ → List ℕ
result_type descriptor = (signature_of descriptor).result

-- ---- kinds of types

-- V, the result of a method without one
unfoldable pub is_void : List ℕ → Bool
is_void type = bytes_eq type (codes "V")

-- J
unfoldable pub is_long_type : List ℕ → Bool
is_long_type type = bytes_eq type (codes "J")

-- B, C, I, S or Z, whose values are ints
unfoldable pub is_int_type : List ℕ → Bool
is_int_type (u ∷ []) = contains_number (codes "BCISZ") u
is_int_type _ = false

-- a class, an interface or an array
unfoldable pub is_reference_type : List ℕ → Bool
is_reference_type (u ∷ v ∷ units) = true
is_reference_type _ = false

-- the type of an array's elements, under all its dimensions
unfoldable pub innermost_type : List ℕ → List ℕ
innermost_type [] = []
innermost_type (u ∷ units) = elim (u == 91) [ true ↦ innermost_type units | false ↦ u ∷ units ]

-- B, C, I, J, S or Z
unfoldable pub is_number_type : List ℕ → Bool
is_number_type (u ∷ []) = contains_number (codes "BCIJSZ") u
is_number_type _ = false

-- the type of the elements that newarray's operand names
unfoldable pub element_type : ℕ → List ℕ
element_type code =
    if code == 4 then codes "Z" else if code == 5 then codes "C"
    else if code == 8 then codes "B" else if code == 9 then codes "S" else if code == 10 then codes "I" else codes "J"

-- ---- numbers of a small type

-- whether an int lies in the type's range
unfoldable pub lies_in_type : ℤ → List ℕ → Bool
lies_in_type n type =
    if bytes_eq type (codes "B") then int_le (negsuc 127) n && int_le n (pos 127)
    else if bytes_eq type (codes "C") then int_le (pos 0) n && int_le n (pos 65535)
    else if bytes_eq type (codes "S") then int_le (negsuc 32767) n && int_le n (pos 32767)
    else if bytes_eq type (codes "Z") then int_le (pos 0) n && int_le n (pos 1) else true

-- what a store of an int leaves of it: the bits that the type has
unfoldable pub cut_to_type : List ℕ → ℤ → ℤ
cut_to_type type n =
    if bytes_eq type (codes "B") then low_bits w8 8 n
    else if bytes_eq type (codes "C") then low_char n
    else if bytes_eq type (codes "S") then low_bits w16 16 n
    else if bytes_eq type (codes "Z") then int_rem_euclid n (pos 2) else n

-- what a computed case opens
unfoldable pub opened_types : Unit {0}
unfolding with_parameters scan_with signature_from signature_of parameter_types result_type is_void is_long_type is_int_type is_reference_type innermost_type is_number_type element_type lies_in_type cut_to_type
opened_types = tt
