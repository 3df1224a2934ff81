-- Numbers and flags, as words say them.
use Rattle.std.specs.Prelude.{ℕ, ◌+◌, ◌*◌, ◌-◌, ℤ, pos, ◌-ℤ◌, int_le, Bool, ◌&&◌, if◌then◌else◌, List, [], ◌∷◌, fold, Option, Some, None, option_map, nat_le, ◌==◌}
use Rattle.std.specs.List.{list_all}

unfoldable pub is_digit : ℕ → Bool
is_digit u = nat_le 0x30 u && nat_le u 0x39

-- the number of these digits
unfoldable pub value_of : List ℕ → ℕ
value_of digits = fold (λ n u. n * 10 + (u - 0x30)) 0 digits

-- a number without a sign: one digit or more, zeros in front too
unfoldable pub natural_of : List ℕ → Option ℕ
natural_of [] = None
natural_of (u ∷ units) = if list_all is_digit (u ∷ units) then Some (value_of (u ∷ units)) else None

-- a number, which may have a minus in front
unfoldable pub number_of : List ℕ → Option ℤ
number_of [] = None
number_of (u ∷ units) = if u == 0x2d then option_map (λ n. pos 0 -ℤ pos n) (natural_of units) else option_map pos (natural_of (u ∷ units))

-- the number, where it lies between these, both included
unfoldable pub within : ℤ → ℤ → Option ℤ → Option ℤ
within low high None = None
within low high (Some z) = if int_le low z && int_le z high then Some z else None

-- a hexadecimal digit of either case
unfoldable pub digit_value : ℕ → Option ℕ
digit_value u =
    if nat_le 0x30 u && nat_le u 0x39 then Some (u - 0x30)
    else if nat_le 0x41 u && nat_le u 0x46 then Some (u - 0x37)
    else if nat_le 0x61 u && nat_le u 0x66 then Some (u - 0x57) else None

-- the number of the digits so far, and one more
unfoldable pub with_digit : Option ℕ → Option ℕ → Option ℕ
with_digit None digit = None
with_digit (Some n) digit = option_map (λ d. n * 16 + d) digit

-- the number of four hexadecimal digits
unfoldable pub four_digits : ℕ → ℕ → ℕ → ℕ → Option ℕ
four_digits a b c d = with_digit (with_digit (with_digit (digit_value a) (digit_value b)) (digit_value c)) (digit_value d)

-- flags: 0x, and four hexadecimal digits
unfoldable pub flags_of : List ℕ → Option ℕ
flags_of (z ∷ x ∷ a ∷ b ∷ c ∷ d ∷ []) = if (z == 0x30) && (x == 0x78) then four_digits a b c d else None
flags_of _ = None
