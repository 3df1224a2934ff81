use Rattle.std.proofs.Common.{ap, true, Bool, List}
use Rattle.jx_model.specs.Tables.{ObjectRecord}
use Rattle.memory_objects.proofs.rows.HoldRow.held_by.Goals as goal

pub returns : goal.returns
returns c = ap (λ (flags : List Bool). let r : ObjectRecord = record { valid = true; holders = flags; riding = 0 } in r) c.only.ensures
