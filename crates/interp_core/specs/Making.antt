-- What a new object holds, and what making it answers.
use Rattle.std.specs.Prelude.{◌≡◌, ℕ, ◌+◌, ◌-◌, pos, List, [], ◌∷◌, ◌++◌, length, map, replicate, Option, Some, None}
use Rattle.domain_heap.specs.Heaps.{HeapState}
use Rattle.jx_base.specs.declared.ids.ClassId.{ClassId}
use Rattle.jx_base.specs.declared.value.Value.{Value}
use Rattle.jx_base.specs.declared.value.Value.TheVariants as value
use Rattle.machine_model.specs.State.{Store, default_of}
use Rattle.interp_core.specs.declared.making.Contents.{Contents}
use Rattle.interp_core.specs.declared.making.Contents.TheVariants as contents

-- the cells of a new object
abbrev pub contents_cells : Contents → List Value
contents_cells (contents.Same n v) = replicate n v
contents_cells (contents.Values values) = values.now
contents_cells (contents.Units units) = map (λ u. value.Int (pos u)) units.now
contents_cells (contents.Defaults fields) = map (λ f. default_of f.descriptor) fields.now

-- the heap with one more object
abbrev pub heap_with : HeapState → ClassId → List Value → HeapState
heap_with heap c cells =
    record {
      objects = heap.objects ++ record { class = c; cells = cells } ∷ [];
      left = heap.left - (length cells + 2);
    }

-- the place of what was made, in the store that has it; where nothing was made the store is as it was
abbrev pub Makes : Option ℕ → Store → Store → Option (Store × ℕ) → Type 0
Makes None old new made = (made ≡ None) × (new ≡ old)
Makes (Some r) old new made = made ≡ Some (new, r)
