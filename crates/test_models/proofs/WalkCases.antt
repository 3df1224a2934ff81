-- The parcel of values that share objects, in a cycle, and of an exported one.
use Rattle.std.specs.Prelude.{◌≡◌, refl, ℕ, pos, List, [], ◌∷◌, Some}
use Rattle.jx_base.specs.declared.ids.ClassId.{ClassId}
use Rattle.jx_base.specs.declared.states.Exported.{Exported}
use Rattle.jx_base.specs.declared.value.Value.TheVariants as value
use Rattle.jx_base.specs.declared.value.Word.TheVariants as word
use Rattle.opened_models.specs.Opened.{opened_model}
use Rattle.program_model.specs.Parcels.{HeapObject, packed, walk_of, unpacked_objects}

-- a class
abbrev class : ℕ → ClassId
class c = record { 0 = c }

-- object 0 has 2 and 1, object 1 has 3 and itself, object 2 has 1, object 3 nothing, object 4 has 3
abbrev objects : List HeapObject
objects =
    record { class = class 30; cells = value.Ref 2 ∷ value.Ref 1 ∷ [] }
    ∷ record { class = class 31; cells = value.Ref 3 ∷ value.Ref 1 ∷ [] }
    ∷ record { class = class 32; cells = value.Ref 1 ∷ [] }
    ∷ record { class = class 33; cells = [] }
    ∷ record { class = class 34; cells = value.Ref 3 ∷ [] }
    ∷ []

-- object 4 is exported twice, object 3 not
abbrev exports : List Exported
exports =
    record { object = 4; service = record { 0 = 7 }; iface = class 40 }
    ∷ record { object = 4; service = record { 0 = 5 }; iface = class 41 }
    ∷ []

-- breadth first: 0, then 2 and 1, then 3
breadth_first : walk_of objects exports (0 ∷ []) ≡ 0 ∷ 2 ∷ 1 ∷ 3 ∷ []
unfolding opened_model
breadth_first = refl

-- each object once, the cycle kept, and the exported one as the portal of its least service
shared : packed objects exports (value.Ref 0 ∷ value.Ref 4 ∷ value.Ref 1 ∷ value.Int (pos 6) ∷ [])
    ≡ Some (
    record {
      roots = word.Node 0 ∷ word.Portal (record { 0 = 5 }) (class 41) ∷ word.Node 1 ∷ word.Int (pos 6) ∷ [];
      nodes =
          record { class = class 30; cells = word.Node 2 ∷ word.Node 1 ∷ [] }
          ∷ record { class = class 31; cells = word.Node 3 ∷ word.Node 1 ∷ [] }
          ∷ record { class = class 32; cells = word.Node 1 ∷ [] }
          ∷ record { class = class 33; cells = [] }
          ∷ [];
    }
    )
unfolding opened_model
shared = refl

-- in another heap the nodes come behind the objects that are there
unpacked_behind_nine : unpacked_objects 9 (record { roots = []; nodes = record { class = class 31; cells = word.Node 0 ∷ word.Null ∷ [] } ∷ [] })
    ≡ record { class = class 31; cells = value.Ref 9 ∷ value.Null ∷ [] } ∷ []
unfolding opened_model
unpacked_behind_nine = refl
