-- The bytes of extents.
use Rattle.std.specs.Prelude.{ℕ, zero, suc, ◌+◌, ◌-◌, ◌*◌, Bool, true, false, ◌&&◌, List, [], ◌∷◌, Option, Some, None, ◌==◌, nat_lt, nat_le, if◌then◌else◌}
use Rattle.jx_base.specs.declared.act.Act.{Act}
use Rattle.jx_base.specs.declared.act.Act.TheVariants as act
use Rattle.jx_base.specs.Basics.{numbered, not_below_zero, low_byte}
use Rattle.jx_base.specs.Histories.{Past, is_done}
use Rattle.jx_model.specs.MemoryObjects.{Part, objects_of}

-- whether byte i of extent x is one of so many bytes of the object from there
unfoldable pub covers : Part → ℕ → ℕ → ℕ → ℕ → Bool
covers o at count x i = (o.extent == x) && nat_le (o.from + at) i && nat_lt i (o.from + at + count)

-- which of so many bytes of the object from there is byte i of extent x
unfoldable pub offset_in : Option Part → ℕ → ℕ → ℕ → ℕ → Option ℕ
offset_in None at count x i = None
offset_in (Some o) at count x i = if covers o at count x i then Some (i - (o.from + at)) else None

-- the byte at that place of the object
unfoldable pub object_byte : Option Part → (ℕ → ℕ → ℕ) → ℕ → ℕ
object_byte None bytes at = 0
object_byte (Some o) bytes at = bytes o.extent (o.from + at)

-- byte i of extent x after a done act, from the bytes before it
unfoldable pub byte_after : List Part → Act → (ℕ → ℕ → ℕ) → ℕ → ℕ → ℕ
byte_after objects (act.Set m at width v) before x i =
    elim (offset_in (numbered objects m.0) (not_below_zero at) width x i) [ Some k ↦ low_byte v k | None ↦ before x i ]
byte_after objects (act.Fill m at count b) before x i =
    elim (offset_in (numbered objects m.0) (not_below_zero at) (not_below_zero count) x i) [ Some k ↦ b | None ↦ before x i ]
byte_after objects (act.Copy m at target target_at count) before x i =
    elim (offset_in (numbered objects target.0) (not_below_zero target_at) (not_below_zero count) x i) [
      | Some k ↦ object_byte (numbered objects m.0) before (not_below_zero at + k)
      | None ↦ before x i
    ]
byte_after objects _ before x i = before x i

-- byte i of extent x: what the last done set, fill or copy that covers it put there, or else 0
unfoldable pub byte_at : Past → ℕ → ℕ → ℕ
byte_at [] x i = 0
byte_at (e ∷ past) x i = elim (is_done e.reply) [ true ↦ byte_after (objects_of past) e.act (byte_at past) x i | false ↦ byte_at past x i ]

-- so many bytes from there as a number, the lowest first
unfoldable pub number_at : Past → ℕ → ℕ → ℕ → ℕ
number_at past x i zero = 0
number_at past x i (suc k) = byte_at past x i + 256 * number_at past x (i + 1) k

-- what a computed case opens
unfoldable pub opened_bytes : Unit {0}
unfolding covers offset_in object_byte byte_after byte_at number_at
opened_bytes = tt
