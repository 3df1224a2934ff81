use Rattle.std.proofs.Common.{◌∙◌, ap, List}
use Rattle.jx_model.specs.Tables.{ObjectRecord}
use Rattle.nucleus_calls.proofs.Asked.{parcel_is}
use Rattle.parcel_carriage.specs.Carriage.{holds_parcel}
use Rattle.nucleus_calls.proofs.asking.holds_parcel.Goals as goal

pub returns : goal.returns
returns c =
    c.holds_all.ensures
    ∙ ap (λ (records : List ObjectRecord). holds_parcel c.args.tables.now.services records c.args.domain.0 c.args.parcel.now) c.objects.ensures.records
    ∙ parcel_is c.args.system.now c.args.tables.now c.requires c.args.domain.0 c.args.parcel.now
