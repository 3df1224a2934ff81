use Rattle.std.proofs.Common.{◌∙◌, ap}
use Rattle.memory_objects.specs.ObjectLists.{CanRide, IsKept}
use Rattle.memory_space.specs.SpaceLists.{objects_in, with_objects}
use Rattle.parcel_carriage.specs.declared.changes.Change.TheVariants as change
use Rattle.parcel_carriage.proofs.ObjectSteps.{parcel_changed, stands_all}
use Rattle.parcel_carriage.proofs.carriage.ride.Goals as goal

pub change_each-requires : goal.change_each-requires
change_each-requires c m q =
    let kept = stands_all (IsKept (objects_in c.args.space.now)) c.args.parcel.now m c.requires.kept q in
    (kept, stands_all (CanRide (objects_in c.args.space.now)) c.args.parcel.now m c.requires.few q)

pub returns : goal.returns
returns c = c.change_each.ensures ∙ ap (with_objects c.args.space.now) (parcel_changed change.Ride (objects_in c.args.space.now) c.args.parcel.now)
