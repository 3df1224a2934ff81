-- What the rows of a table of memory objects say, and what holds of them.
use Rattle.std.specs.Prelude.{◌≡◌, ◌≢◌, ◌+◌, ◌<◌, ◌^◌, ℕ, true, List, Some, map, Result, Ok, Err}
use Rattle.jx_base.specs.declared.act.Refusal.{Refusal}
use Rattle.jx_base.specs.Basics.{numbered}
use Rattle.jx_model.specs.MemoryObjects.{Part}
use Rattle.jx_model.specs.Tables.{ObjectRecord}
use Rattle.memory_objects.specs.declared.rows.PartRow.{PartRow}
use Rattle.memory_objects.specs.declared.rows.HoldRow.{HoldRow}
use Rattle.memory_objects.specs.ObjectLists.{valid_in}

-- a part as the definitions know it
abbrev pub part_of : PartRow → Part
part_of row = record { parent = row.parent; extent = row.extent; from = row.from; size = row.size }

-- who holds and carries an object, as the definitions know it
abbrev pub record_of : HoldRow → ObjectRecord
record_of row = record { valid = row.valid; holders = row.holders.flags; riding = row.riding }

-- the parts that rows are
abbrev pub parts_of : List PartRow → List Part
parts_of rows = map part_of rows

-- the records that rows are
abbrev pub records_of : List HoldRow → List ObjectRecord
records_of rows = map record_of rows

-- an object is derived from none or from an earlier one, which is valid as long as it is, and its
-- bytes have numbers of 32 bits
pub record IsNode (records : List ObjectRecord) (m : ℕ) (o : Part) : Type 0 where
  pub falls : o.parent < m
  pub upward : o.parent ≢ 0 → valid_in records m ≡ true → valid_in records o.parent ≡ true
  pub small : o.from + o.size < 2 ^ 32

-- each object is such a one
abbrev pub IsTree : List Part → List ObjectRecord → Type 0
IsTree parts records = (m : ℕ) (o : Part) → numbered parts m ≡ Some o → IsNode records m o

-- the part that there is, or the refusal
abbrev pub held_row : Result PartRow Refusal → Result Part Refusal
held_row (Err r) = Err r
held_row (Ok row) = Ok (part_of row)
