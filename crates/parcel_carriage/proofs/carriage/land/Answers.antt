use Rattle.std.proofs.Common.{◌∙◌, ap}
use Rattle.memory_objects.specs.ObjectLists.{IsRiding}
use Rattle.memory_space.specs.SpaceLists.{objects_in, with_objects}
use Rattle.parcel_carriage.specs.declared.changes.Change.TheVariants as change
use Rattle.parcel_carriage.proofs.ObjectSteps.{parcel_changed, stands_all}
use Rattle.parcel_carriage.proofs.carriage.land.Goals as goal

pub change_each-requires : goal.change_each-requires
change_each-requires c m q = stands_all (IsRiding (objects_in c.args.space.now)) c.args.parcel.now m c.requires q

pub returns : goal.returns
returns c = c.change_each.ensures ∙ ap (with_objects c.args.space.now) (parcel_changed change.Land (objects_in c.args.space.now) c.args.parcel.now)
