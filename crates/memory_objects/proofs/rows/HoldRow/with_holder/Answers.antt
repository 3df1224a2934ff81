use Rattle.std.proofs.Common.{ap, Bool, List}
use Rattle.jx_model.specs.Tables.{ObjectRecord}
use Rattle.memory_objects.proofs.rows.HoldRow.with_holder.Goals as goal

pub returns : goal.returns
returns c = ap (λ (flags : List Bool). let r : ObjectRecord = record { valid = c.args.self.valid; holders = flags; riding = c.args.self.riding } in r) c.with.ensures
