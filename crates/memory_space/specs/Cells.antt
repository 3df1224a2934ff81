-- How the bytes of extents are kept in one row of cells.
use Rattle.std.specs.Prelude.{◌≡◌, ◌≢◌, ℕ, ◌+◌, ◌*◌, ◌≤◌, true, List, length, map, take, drop, Some, None, if◌then◌else◌, slice_get, vec_capacity}
use Rattle.jx_model.specs.Granules.{Run, extent_granules}
use Rattle.jx_model.specs.Tables.{ExtentRecord}
use Rattle.memory_space.specs.declared.extents.Extents.TheInside.{Inside}
use Rattle.memory_space.specs.declared.rows.ExtentRow.{ExtentRow}
use Rattle.memory_space.specs.ExtentLists.{AreDisjoint, ExtentsState}

-- the granules of an extent
abbrev pub run_of : ExtentRow → Run
run_of row = (row.at, extent_granules row.size)

-- the cells of an extent
abbrev pub cells_of : List ℕ → ExtentRow → List ℕ
cells_of cells row = take row.size (drop (64 * row.at) cells)

-- an extent
abbrev pub record_of : List ℕ → ExtentRow → ExtentRecord
record_of cells row =
    record { run = run_of row; bytes = if row.live then Some (cells_of cells row) else None }

-- all extents
abbrev pub records_of : List ℕ → List ExtentRow → List ExtentRecord
records_of cells rows = map (record_of cells) rows

-- what it is seen as
abbrev pub extents_state : Inside → ExtentsState
extents_state x =
    record { granules = x.granules; items = records_of x.cells.items x.rows.items }

-- an extent has a byte at least, and its bytes are among so many cells
pub record IsRow (cells : ℕ) (row : ExtentRow) : Type 0 where
  pub some : 1 ≤ row.size
  pub within : 64 * row.at + row.size ≤ cells

-- two places at which extents with bytes stand have no granule in common
abbrev pub LieApart : List ExtentRow → Type 0
LieApart rows =
    (i j : ℕ) (a b : ExtentRow) → slice_get rows i ≡ Some a → slice_get rows j ≡ Some b →
    i ≢ j → a.live ≡ true → b.live ≡ true → AreDisjoint (run_of a) (run_of b)

-- each granule has its cells, room is reserved for all extents, and they lie apart
pub record IsExtents (x : Inside) : Type 0 where
  pub cells : length x.cells.items ≡ 64 * x.granules
  pub few : length x.rows.items ≤ 65536
  pub room : 65536 ≤ vec_capacity x.rows
  pub rows : (i : ℕ) (row : ExtentRow) → slice_get x.rows.items i ≡ Some row → IsRow (length x.cells.items) row
  pub apart : LieApart x.rows.items
