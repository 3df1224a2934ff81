-- The ranges of numbers, texts and names in acts and parcels, as facts and as tests.
use Rattle.std.specs.Prelude.{FitsSigned, ◌^◌, ◌≡◌, ℕ, ◌<◌, ◌≤◌, ℤ, pos, negsuc, Bool, ◌&&◌, ◌||◌, ◌⊎◌, List, length, ◌==◌, nat_lt, nat_le}
use Rattle.std.specs.List.{AllByRecursion, list_all}
use Rattle.std.specs.Int.{w32}
use Rattle.program_model.specs.Limits.{text_limit, name_limit}

-- the number of a domain, a thread, a service, a call or a memory object: one of 32 bits
abbrev pub IsId : ℕ → Type 0
IsId n = n < 2 ^ 32

-- a number of 32 bits with a sign
abbrev pub IsInt : ℤ → Type 0
IsInt n = FitsSigned w32 n

-- a text of units of sixteen bits, within the limit
pub record IsText (units : List ℕ) : Type 0 where
  pub short : length units ≤ text_limit
  pub sixteen_bits : AllByRecursion (λ u. u < 2 ^ 16) units

-- a printable unit that is no blank
abbrev pub IsNameUnit : ℕ → Type 0
IsNameUnit u = (33 ≤ u) × (u ≤ 126)

-- a name that a service can be bound to
pub record IsServiceName (units : List ℕ) : Type 0 where
  pub present : 1 ≤ length units
  pub short : length units ≤ name_limit
  pub printable : AllByRecursion IsNameUnit units

-- a width of one, two or four bytes
abbrev pub IsWidth : ℕ → Type 0
IsWidth w = (w ≡ 1) ⊎ (w ≡ 2) ⊎ (w ≡ 4)

-- ---- the same as tests

-- whether it can be the number of a thing
unfoldable pub is_id : ℕ → Bool
is_id n = nat_lt n (2 ^ 32)

-- whether the number has so many bits besides its sign
unfoldable pub has_bits : ℕ → ℤ → Bool
has_bits bits (pos n) = nat_lt n (2 ^ bits)
has_bits bits (negsuc n) = nat_lt n (2 ^ bits)

-- whether it is a number of 32 bits with a sign
unfoldable pub is_int : ℤ → Bool
is_int n = has_bits 31 n

-- whether it is a text
unfoldable pub is_text : List ℕ → Bool
is_text units = nat_le (length units) text_limit && list_all (λ u. nat_lt u (2 ^ 16)) units

-- whether the unit is printable and no blank
unfoldable pub is_name_unit : ℕ → Bool
is_name_unit u = nat_le 33 u && nat_le u 126

-- whether a service can be bound to the name
unfoldable pub is_service_name : List ℕ → Bool
is_service_name units = nat_le 1 (length units) && nat_le (length units) name_limit && list_all is_name_unit units

-- whether the width is one, two or four bytes
unfoldable pub is_width : ℕ → Bool
is_width w = (w == 1) || (w == 2) || (w == 4)

-- what a computed case opens
unfoldable pub opened_ranges : Unit {0}
unfolding is_id has_bits is_int is_text is_name_unit is_service_name is_width
opened_ranges = tt
