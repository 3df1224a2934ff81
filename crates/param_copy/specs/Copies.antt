-- What can be packed and unpacked.
use Rattle.std.specs.Prelude.{ℕ, ◌+◌, ◌-◌, ◌^◌, ◌<◌, ◌++◌, map, Bool, ◌&&◌, List, length, sum_by, nat_le}
use Rattle.std.specs.List.{All}
use Rattle.jx_base.specs.declared.value.Value.{Value}
use Rattle.jx_base.specs.declared.value.Value.TheVariants as value
use Rattle.program_model.specs.Limits.{node_limit, parcel_limit}
use Rattle.jx_base.specs.declared.value.Word.{Word}
use Rattle.jx_base.specs.declared.value.Word.TheVariants as word
use Rattle.jx_base.specs.declared.value.Node.{Node}
use Rattle.jx_base.specs.declared.value.Parcel.{Parcel}
use Rattle.program_model.specs.ParcelParts.{node_size}
use Rattle.program_model.specs.Parcels.{HeapObject, cells_at, unpacked_object}
use Rattle.domain_heap.specs.Heaps.{HeapState}

-- a value refers to one of the first n objects, if to any
abbrev pub IsPlaced : ℕ → Value → Type 0
IsPlaced n (value.Ref r) = r < n
IsPlaced n _ = Unit {0}

-- each object refers to objects that there are
abbrev pub AreClosed : List HeapObject → Type 0
AreClosed objects = All (λ o. All (IsPlaced (length objects)) o.cells) objects

-- the words of a node for an object
abbrev pub object_size : List HeapObject → ℕ → ℕ
object_size objects r = 2 + length (cells_at objects r)

-- the words of a parcel with so many roots and these objects
abbrev pub walk_words : List HeapObject → ℕ → List ℕ → ℕ
walk_words objects roots walk = roots + sum_by (object_size objects) walk

-- whether a parcel with so many roots and these objects is within its limits
abbrev pub is_small_walk : List HeapObject → ℕ → List ℕ → Bool
is_small_walk objects roots walk = nat_le (length walk) node_limit && nat_le (walk_words objects roots walk) parcel_limit

-- ---- the way back

-- a word's node is one of the first n, if there is one
abbrev pub IsNodePlaced : ℕ → Word → Type 0
IsNodePlaced n (word.Node k) = k < n
IsNodePlaced n _ = Unit {0}

-- the words of a parcel are of its own nodes
pub record ArePlaced (p : Parcel) : Type 0 where
  pub roots : All (IsNodePlaced (length p.nodes)) p.roots
  pub nodes : All (λ n. All (IsNodePlaced (length p.nodes)) n.cells) p.nodes

-- behind so many objects the word's node has a place
abbrev pub HasPlace : ℕ → Word → Type 0
HasPlace first (word.Node k) = first + k < 2 ^ 32
HasPlace first _ = Unit {0}

-- the heap with an object for each of the nodes
abbrev pub with_nodes : HeapState → ℕ → List Node → HeapState
with_nodes heap first nodes =
    record {
      objects = heap.objects ++ map (unpacked_object first) nodes;
      left = heap.left - sum_by node_size nodes;
    }
