use Rattle.std.proofs.Common.{◌≡◌, sym, ap, ◌∙◌, ◌++◌, Some, length, map}
use Rattle.program_model.specs.Parcels.{parcel_of, is_small_parcel, unpacked_objects, value_of}
use Rattle.param_copy.proofs.WalkSteps.{walk_placed}
use Rattle.param_copy.proofs.WordSteps.{packed_small}
use Rattle.param_copy.proofs.Repacked.{parcel_again, packed_is}
use Rattle.param_copy.proofs.again.packs_again.Goals as goal

pub returns : goal.returns
returns c = λ sent sent_exports roots p objects exports closed placed sent_is before.
    let was = packed_is sent sent_exports roots p sent_is in
    let again = parcel_again sent sent_exports roots objects exports (walk_placed sent sent_exports roots closed placed) before in
    let n = length objects in
    let same : parcel_of (objects ++ unpacked_objects n p) exports (map (value_of n) p.roots) ≡ parcel_of sent sent_exports roots =
    ap (λ x. parcel_of (objects ++ unpacked_objects n x) exports (map (value_of n) x.roots)) (sym was.0) ∙ again in
    packed_small (objects ++ unpacked_objects n p) exports (map (value_of n) p.roots) (ap is_small_parcel same ∙ was.1) ∙ ap Some (same ∙ was.0)
