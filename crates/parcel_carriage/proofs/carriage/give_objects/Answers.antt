use Rattle.std.proofs.Common.{◌∙◌, ap}
use Rattle.memory_objects.specs.ObjectLists.{IsKept}
use Rattle.memory_space.specs.SpaceLists.{objects_in, with_objects}
use Rattle.parcel_carriage.specs.declared.changes.Change.TheVariants as change
use Rattle.parcel_carriage.proofs.ObjectSteps.{parcel_changed, stands_all}
use Rattle.parcel_carriage.proofs.carriage.give_objects.Goals as goal

pub change_each-requires : goal.change_each-requires
change_each-requires c m q =
    (c.requires.domain, stands_all (IsKept (objects_in c.args.space.now)) c.args.parcel.now m c.requires.kept q)

pub returns : goal.returns
returns c =
    c.change_each.ensures ∙ ap (with_objects c.args.space.now) (parcel_changed (change.Give c.args.domain) (objects_in c.args.space.now) c.args.parcel.now)
