-- The bytes of extents, and what is read and written there.
use Rattle.std.specs.Prelude.{◌≡◌, ◌≤◌, ℕ, ◌+◌, ◌*◌, ◌-◌, ℤ, pos, List, [], ◌∷◌, length, map, Option, IsSomeAnd, ◌⊎◌, ◌==◌, if◌then◌else◌, get_or, Vec}
use Rattle.std.specs.declared.alloc.Global.{Global}
use Rattle.std.specs.Int.{w32, cast_signed}
use Rattle.std.specs.Option.{option_map, option_flatten, unwrap_or}
use Rattle.jx_base.specs.Basics.{numbered}
use Rattle.table_extents.specs.ExtentChanges.{written}
use Rattle.table_threads.specs.Changes.{changed_at}

-- the bytes of each extent by its number, from 1; none where it was forgotten
abbrev pub Extents : Type 0
Extents = List (Option (List ℕ))

-- the bytes that vectors have
abbrev pub extents_of : List (Option (Vec ℕ Global)) → Extents
extents_of extents = map (option_map (λ bytes. bytes.items)) extents

-- the bytes of an extent
abbrev pub bytes_of : Extents → ℕ → Option (List ℕ)
bytes_of extents x = option_flatten (numbered extents x)

-- so many bytes from there lie within the extent
abbrev pub LieWithin : Extents → ℕ → ℕ → ℕ → Type 0
LieWithin extents x at count = IsSomeAnd (bytes_of extents x) (λ bytes. at + count ≤ length bytes)

-- a number takes 1, 2 or 4 bytes
abbrev pub IsWidth : ℕ → Type 0
IsWidth n = (n ≡ 1) ⊎ ((n ≡ 2) ⊎ (n ≡ 4))

-- the number that bytes are, the lowest first
unfoldable pub number_of : List ℕ → ℕ
number_of [] = 0
number_of (b ∷ bytes) = b + 256 * number_of bytes

-- the same with a sign, where they are four
unfoldable pub number_read : List ℕ → ℤ
number_read bytes = if length bytes == 4 then cast_signed w32 (number_of bytes) else pos (number_of bytes)

-- the extents with so many bytes of one of them written, from that place on
abbrev pub with_written : Extents → ℕ → ℕ → ℕ → (ℕ → ℕ) → Extents
with_written extents x at count f = changed_at (x - 1) (option_map (written 0 at count f)) extents

-- byte k of those from there on
abbrev pub byte_from : Extents → ℕ → ℕ → ℕ → ℕ
byte_from extents x at k = unwrap_or (option_map (λ bytes. get_or bytes (at + k) 0) (bytes_of extents x)) 0
