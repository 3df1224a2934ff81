-- How objects, extents and granules go together.
use Rattle.std.specs.Prelude.{◌≡◌, ℕ, ◌+◌, ◌<◌, ◌≤◌, ◌^◌, Bool, true, List, length, map, Option, Some, IsSome, is_some}
use Rattle.std.specs.Option.{option_and_then, option_map}
use Rattle.jx_base.specs.Basics.{contains_number, numbered}
use Rattle.extent_pool.specs.Taken.{AreTaken}
use Rattle.jx_model.specs.Granules.{Run}
use Rattle.jx_model.specs.MemoryObjects.{Part}
use Rattle.jx_model.specs.Tables.{ExtentRecord, ObjectRecord}
use Rattle.table_steps.specs.Steps.{is_record_used}
use Rattle.memory_objects.specs.ObjectLists.{ObjectsState}
use Rattle.memory_space.specs.declared.space.Space.TheInside.{Inside}
use Rattle.memory_space.specs.SpaceLists.{SpaceState}

-- the granules of an extent, and how many bytes are kept of it
pub record Shape : Type 0 where
  pub run : Run
  pub size : Option ℕ

abbrev pub shape_of : ExtentRecord → Shape
shape_of item = record { run = item.run; size = option_map length item.bytes }

abbrev pub shapes_of : List ExtentRecord → List Shape
shapes_of extents = map shape_of extents

-- how many bytes are kept of an extent, where some are
abbrev pub size_in : List Shape → ℕ → Option ℕ
size_in shapes e = option_and_then (λ s. s.size) (numbered shapes e)

-- a part lies in an extent, within its bytes where they are kept
pub record LiesIn (shapes : List Shape) (o : Part) : Type 0 where
  pub first : 1 ≤ o.extent
  pub last : o.extent ≤ length shapes
  pub small : o.size < 2 ^ 31
  pub within : (n : ℕ) → size_in shapes o.extent ≡ Some n → o.from + o.size ≤ n

-- the extents that are told of once are those with bytes, each part lies in an extent, extents in
-- use have bytes, and the granules of those with bytes are taken
pub record IsBacked (y : ObjectsState) (shapes : List Shape) (flags : List Bool) : Type 0 where
  pub count : length y.records ≡ length y.parts
  pub made : length shapes ≤ length y.parts
  pub listed : (e : ℕ) → contains_number y.extents e ≡ is_some (size_in shapes e)
  pub parts : (m : ℕ) (o : Part) → numbered y.parts m ≡ Some o → LiesIn shapes o
  pub used : (m : ℕ) (o : Part) (r : ObjectRecord) → numbered y.parts m ≡ Some o → numbered y.records m ≡ Some r → is_record_used r ≡ true → IsSome (size_in shapes o.extent)
  pub taken : (e : ℕ) (s : Shape) → numbered shapes e ≡ Some s → IsSome s.size → AreTaken flags s.run.0 s.run.1

-- what memory is seen as
abbrev pub space_state : Inside → SpaceState
space_state x =
    record {
      parts = x.objects.parts;
      objects = x.objects.records;
      extents = x.extents.items;
      taken = x.pool;
    }

-- the extents lie among the pool's granules, and all goes together
pub record IsSpace (x : Inside) : Type 0 where
  pub granules : x.extents.granules ≡ length x.pool
  pub backed : IsBacked x.objects (shapes_of x.extents.items) x.pool
