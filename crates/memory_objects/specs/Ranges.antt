-- Ranges of bytes within a part.
use Rattle.std.specs.Prelude.{ℕ, ◌-◌, ℤ, pos, negsuc, if◌then◌else◌, Option, Some, None}
use Rattle.jx_model.specs.Replies.{is_positive_up_to, is_within}
use Rattle.memory_objects.specs.declared.ranges.Span.{Span}

-- the number, where it isn't below 0
abbrev pub natural : ℤ → Option ℕ
natural (pos n) = Some n
natural (negsuc n) = None

-- the range of two numbers that aren't below 0
abbrev pub span_of : ℤ → ℤ → Option Span
span_of (pos at) (pos count) = Some (record { at = at; count = count })
span_of _ _ = None

-- so many bytes from there, where they lie within that size
abbrev pub span_in : ℤ → ℤ → ℕ → Option Span
span_in at count size = if is_within at count size then span_of at count else None

-- the bytes on the first side of a cut there, where each side has one at least
abbrev pub side_in : ℤ → ℕ → Option ℕ
side_in at size = if is_positive_up_to (size - 1) at then natural at else None
