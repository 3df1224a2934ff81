-- Extents by their numbers, from 1: where they lie, and the bytes of those that are kept.
use Rattle.std.specs.Prelude.{◌≡◌, ℕ, ◌+◌, ◌-◌, ◌<◌, ◌≤◌, ℤ, List, [], length, take, drop, replicate, get_or, Option, Some, None, IsSome, IsSomeAnd}
use Rattle.std.specs.Option.{option_and_then, unwrap_or}
use Rattle.jx_base.specs.Basics.{numbered}
use Rattle.jx_model.specs.Granules.{Run, extent_granules}
use Rattle.jx_model.specs.Tables.{ExtentRecord}
use Rattle.region_bytes.specs.Extents.{number_read}
use Rattle.table_steps.specs.Steps.{written_extent}
use Rattle.table_threads.specs.Changes.{changed_at}

-- how many granules there are, and the extents
pub record ExtentsState : Type 0 where
  pub granules : ℕ
  pub items : List ExtentRecord

-- the bytes of an extent, where they are kept
abbrev pub bytes_in : List ExtentRecord → ℕ → Option (List ℕ)
bytes_in extents e = option_and_then (λ item. item.bytes) (numbered extents e)

-- so many bytes from there lie within the extent
abbrev pub LieWithin : List ExtentRecord → ℕ → ℕ → ℕ → Type 0
LieWithin extents e at count = IsSomeAnd (bytes_in extents e) (λ bytes. at + count ≤ length bytes)

-- byte k of those from there on
abbrev pub byte_in : List ExtentRecord → ℕ → ℕ → ℕ → ℕ
byte_in extents e at k = get_or (unwrap_or (bytes_in extents e) []) (at + k) 0

-- the number of so many bytes there, the lowest first; one of four has a sign
abbrev pub number_in : List ExtentRecord → ℕ → ℕ → ℕ → ℤ
number_in extents e at width = number_read (take width (drop at (unwrap_or (bytes_in extents e) [])))

-- no granule is one of both runs
abbrev pub AreDisjoint : Run → Run → Type 0
AreDisjoint a b = (g : ℕ) → a.0 ≤ g → g < a.0 + a.1 → b.0 ≤ g → g < b.0 + b.1 → ⊥

-- no granule of the run is one of an extent with bytes
abbrev pub IsClear : List ExtentRecord → Run → Type 0
IsClear extents run =
    (e : ℕ) (item : ExtentRecord) → numbered extents e ≡ Some item → IsSome item.bytes → AreDisjoint item.run run

-- an extent of zeros
abbrev pub zeros : ℕ → ℕ → ExtentRecord
zeros at size = record { run = (at, extent_granules size); bytes = Some (replicate size 0) }

-- the extents with so many bytes of one of them written, from that place on
abbrev pub with_written : List ExtentRecord → ℕ → ℕ → ℕ → (ℕ → ℕ) → List ExtentRecord
with_written extents e at count f = changed_at (e - 1) (written_extent at count f) extents

-- an extent whose bytes are kept no more
abbrev pub without_bytes : ExtentRecord → ExtentRecord
without_bytes item = record item { bytes = None }
