use Rattle.std.proofs.Common.{◌∙◌, ap, subst, sym}
use Rattle.std.specs.List.{AllByRecursion}
use Rattle.jx_base.proofs.BasicLaws.{ap2}
use Rattle.memory_objects.specs.ObjectLists.{IsRiding}
use Rattle.memory_space.specs.SpaceLists.{SpaceState, objects_in, with_objects}
use Rattle.nucleus_calls.proofs.Carrying.{riding_given}
use Rattle.nucleus_tables.specs.declared.tables.Tables.{Tables}
use Rattle.parcel_carriage.specs.Carriage.{without_riders}
use Rattle.portal_table.specs.ServiceLists.{ServicesState}
use Rattle.program_model.specs.ParcelParts.{parcel_objects}
use Rattle.nucleus_calls.proofs.receiving.receive.Goals as goal

pub land-requires : goal.land-requires
land-requires c =
    let p = c.args.parcel.now in
    subst (λ (z : SpaceState). AllByRecursion (IsRiding (objects_in z)) (parcel_objects p)) (sym c.give_objects.ensures)
    (riding_given c.args.domain.0 p (objects_in c.args.tables.now.space) (parcel_objects p) c.requires.parcel.riding)

pub returns : goal.returns
returns c =
    let old : Tables = c.args.tables.now in
    ap2 (λ (services : ServicesState) (space : SpaceState). let y : Tables = record old { services = services; space = space } in y)
    c.give_portals.ensures
    (c.land.ensures ∙ ap (λ (z : SpaceState). with_objects z (without_riders c.args.parcel.now (objects_in z))) c.give_objects.ensures)
