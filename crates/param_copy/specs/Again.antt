-- Parcels that are packed again.
use Rattle.std.specs.Prelude.{◌≡◌, ◌<◌, List, ◌++◌, length, map, Some}
use Rattle.std.specs.List.{All}
use Rattle.jx_base.specs.declared.states.Exported.{Exported}
use Rattle.jx_base.specs.declared.value.Value.{Value}
use Rattle.jx_base.specs.declared.value.Parcel.{Parcel}
use Rattle.program_model.specs.Parcels.{HeapObject, packed, unpacked_objects, value_of}
use Rattle.param_copy.specs.Copies.{IsPlaced, AreClosed}

-- What was packed and unpacked into another heap gives the same parcel there, with exports of objects from before.
abbrev pub PacksAgain : Type 0
PacksAgain =
    (sent : List HeapObject) (sent_exports : List Exported) (roots : List Value) (p : Parcel) (objects : List HeapObject) (exports : List Exported) →
    AreClosed sent → All (IsPlaced (length sent)) roots → packed sent sent_exports roots ≡ Some p →
    All (λ x. x.object < length objects) exports →
    packed (objects ++ unpacked_objects (length objects) p) exports (map (value_of (length objects)) p.roots) ≡ Some p
