-- How objects lie in the run of cells.
use Rattle.std.specs.Prelude.{◌≡◌, ℕ, ◌+◌, ◌*◌, ◌^◌, ◌<◌, ◌≤◌, List, [], ◌∷◌, length, map, take, drop, vec_capacity}
use Rattle.jx_base.specs.declared.value.Value.{Value}
use Rattle.program_model.specs.Parcels.{HeapObject}
use Rattle.domain_heap.specs.declared.heap.Place.{Place}
use Rattle.domain_heap.specs.declared.heap.Heap.TheInside.{Inside}
use Rattle.domain_heap.specs.Heaps.{HeapState}

-- the object of a place
abbrev pub object_of : List Value → Place → HeapObject
object_of cells p = record { class = p.class; cells = take p.count (drop p.at cells) }

-- the places follow one another without gaps, up to there
abbrev pub LaidOut : ℕ → List Place → ℕ → Type 0
LaidOut from [] total = from ≡ total
LaidOut from (p ∷ places) total = (p.at ≡ from) × LaidOut (from + p.count) places total

-- what a heap is seen as
abbrev pub heap_state : Inside → HeapState
heap_state h = record { objects = map (object_of h.cells.items) h.places.items; left = h.left }

-- the places make up the run, and what is left is reserved for cells and for places
pub record IsHeap (h : Inside) : Type 0 where
  pub laid : LaidOut 0 h.places.items (length h.cells.items)
  pub small : length h.cells.items + 2 * length h.places.items + h.left < 2 ^ 32
  pub cells_fit : length h.cells.items + h.left ≤ vec_capacity h.cells
  pub places_fit : 2 * length h.places.items + h.left ≤ 2 * vec_capacity h.places + 1
