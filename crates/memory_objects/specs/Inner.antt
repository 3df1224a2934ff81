-- How a table of memory objects keeps its lists.
use Rattle.std.specs.Prelude.{◌≡◌, ◌≤◌, length, vec_capacity}
use Rattle.memory_objects.specs.declared.objects.Objects.TheInside.{Inside}
use Rattle.memory_objects.specs.ObjectLists.{ObjectsState}
use Rattle.memory_objects.specs.Rows.{parts_of, records_of, IsTree}

-- what it is seen as
abbrev pub objects_state : Inside → ObjectsState
objects_state x =
    record {
      parts = parts_of x.parts.items;
      records = records_of x.records.items;
      extents = x.extents.items;
    }

-- room is reserved for all objects, and the objects are a tree
pub record IsObjects (x : Inside) : Type 0 where
  pub count : length x.records.items ≡ length x.parts.items
  pub few : length x.parts.items ≤ 65536
  pub extents : length x.extents.items ≤ length x.parts.items
  pub part_room : 65536 ≤ vec_capacity x.parts
  pub record_room : 65536 ≤ vec_capacity x.records
  pub extent_room : 65536 ≤ vec_capacity x.extents
  pub tree : IsTree (parts_of x.parts.items) (records_of x.records.items)
