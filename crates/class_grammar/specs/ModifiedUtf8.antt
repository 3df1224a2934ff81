-- Modified UTF-8: each unit of UTF-16 by itself, in the shortest form, but the unit 0 in two bytes.
use Rattle.std.specs.Prelude.{◌≡◌, ℕ, ◌+◌, ◌-◌, ◌*◌, ◌/◌, ◌%◌, ◌<◌, ◌^◌, Bool, ◌&&◌, ◌||◌, List, [], ◌∷◌, Option, Some, None, ◌==◌, nat_lt, nat_le, if◌then◌else◌}
use Rattle.std.specs.List.{flat_map, AllByRecursion}

-- the bytes of a unit
unfoldable pub unit_bytes : ℕ → List ℕ
unit_bytes u =
    if nat_le 1 u && nat_lt u 0x80 then u ∷ []
    else if nat_lt u 0x800 then (0xc0 + u / 64) ∷ (0x80 + u % 64) ∷ []
    else (0xe0 + u / 4096) ∷ (0x80 + u / 64 % 64) ∷ (0x80 + u % 64) ∷ []

-- the bytes of a text
abbrev pub modified_utf8 : List ℕ → List ℕ
modified_utf8 units = flat_map unit_bytes units

-- the bytes are those of the text
pub record IsModifiedUtf8 (bytes units : List ℕ) : Type 0 where
  pub spelled : bytes ≡ modified_utf8 units
  pub are_units : AllByRecursion (λ u. u < 2 ^ 16) units

-- ---- reading

-- a byte behind the first one of a unit
unfoldable pub is_continuation : ℕ → Bool
is_continuation b = nat_le 0x80 b && nat_lt b 0xc0

-- the first byte of so many
unfoldable pub begins_one : ℕ → Bool
begins_one b = nat_le 1 b && nat_lt b 0x80

unfoldable pub begins_two : ℕ → Bool
begins_two b = nat_le 0xc0 b && nat_lt b 0xe0

unfoldable pub begins_three : ℕ → Bool
begins_three b = nat_le 0xe0 b && nat_lt b 0xf0

-- the unit of two bytes, and of three
unfoldable pub unit_of_two : ℕ → ℕ → ℕ
unit_of_two b c = (b - 0xc0) * 64 + (c - 0x80)

unfoldable pub unit_of_three : ℕ → ℕ → ℕ → ℕ
unit_of_three b c d = (b - 0xe0) * 4096 + (c - 0x80) * 64 + (d - 0x80)

-- whether two bytes, and three, are the shortest form of a unit
unfoldable pub is_two : ℕ → ℕ → Bool
is_two b c =
    begins_two b && is_continuation c && (nat_le 0x80 (unit_of_two b c) || (unit_of_two b c == 0))

unfoldable pub is_three : ℕ → ℕ → ℕ → Bool
is_three b c d =
    begins_three b && is_continuation c && is_continuation d && nat_le 0x800 (unit_of_three b c d)

-- the text with a unit in front, where it is one
unfoldable pub with_unit : ℕ → Option (List ℕ) → Option (List ℕ)
with_unit u None = None
with_unit u (Some units) = Some (u ∷ units)

-- the text of the bytes, if they are one
unfoldable pub text_of_bytes : List ℕ → Option (List ℕ)
text_of_bytes [] = Some []
text_of_bytes (b ∷ []) = if begins_one b then Some (b ∷ []) else None
text_of_bytes (b ∷ c ∷ []) =
    if begins_one b then with_unit b (text_of_bytes (c ∷ []))
    else if is_two b c then Some (unit_of_two b c ∷ []) else None
text_of_bytes (b ∷ c ∷ d ∷ bytes) =
    if begins_one b then with_unit b (text_of_bytes (c ∷ d ∷ bytes))
    else if is_two b c then with_unit (unit_of_two b c) (text_of_bytes (d ∷ bytes))
    else if is_three b c d then with_unit (unit_of_three b c d) (text_of_bytes bytes) else None

-- what a computed case opens
unfoldable pub opened_utf8 : Unit {0}
unfolding unit_bytes is_continuation begins_one begins_two begins_three unit_of_two unit_of_three
    is_two is_three with_unit text_of_bytes
opened_utf8 = tt
