-- What a heap is seen as, and what a new object or another value in a cell makes of it.
use Rattle.std.specs.Prelude.{ℕ, ◌+◌, ◌-◌, Bool, List, [], ◌∷◌, ◌++◌, replicate, Some, None, nat_le, slice_get, slice_set}
use Rattle.jx_base.specs.declared.ids.ClassId.{ClassId}
use Rattle.jx_base.specs.declared.value.Value.{Value}
use Rattle.jx_base.specs.declared.value.Value.TheVariants as value
use Rattle.program_model.specs.Parcels.{HeapObject}

-- the objects in the order in which they were made, and the cells that are left
pub record HeapState : Type 0 where
  pub objects : List HeapObject
  pub left : ℕ

-- whether an object of n cells has room: it takes two more
abbrev pub has_room : HeapState → ℕ → Bool
has_room heap n = nat_le (n + 2) heap.left

-- the heap with one more object, of n null cells
abbrev pub with_object : HeapState → ClassId → ℕ → HeapState
with_object heap c n =
    record {
      objects = heap.objects ++ record { class = c; cells = replicate n value.Null } ∷ [];
      left = heap.left - (n + 2);
    }

-- an object with another value in a cell
abbrev pub object_with : HeapObject → ℕ → Value → HeapObject
object_with o i v = record { class = o.class; cells = slice_set o.cells i v }

-- the objects with another value in a cell of one of them
unfoldable pub with_cell : List HeapObject → ℕ → ℕ → Value → List HeapObject
with_cell objects r i v = elim (slice_get objects r) [ None ↦ objects | Some o ↦ slice_set objects r (object_with o i v) ]
