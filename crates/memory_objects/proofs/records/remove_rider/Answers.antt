use Rattle.std.proofs.Common.{◌-◌, ◌≤◌}
use Rattle.jx_model.specs.Tables.{ObjectRecord}
use Rattle.memory_objects.specs.ObjectLists.{with_riding}
use Rattle.memory_objects.proofs.RowLists.{row_at, row_changed, row_read}
use Rattle.memory_objects.proofs.records.remove_rider.Goals as goal

pub overflow_sub-row : goal.overflow_sub-row
overflow_sub-row c = (row_at (λ (r : ObjectRecord). 1 ≤ r.riding) c.args.records.now c.args.object c.requires).first

pub slice_copy_out-row : goal.slice_copy_out-row
slice_copy_out-row c = (row_at (λ (r : ObjectRecord). 1 ≤ r.riding) c.args.records.now c.args.object c.requires).below

pub overflow_sub-row-2 : goal.overflow_sub-row-2
overflow_sub-row-2 c = row_read (λ (r : ObjectRecord). 1 ≤ r.riding) c.args.records.now c.args.object c.requires

pub overflow_sub-object : goal.overflow_sub-object
overflow_sub-object c = (row_at (λ (r : ObjectRecord). 1 ≤ r.riding) c.args.records.now c.args.object c.requires).first

pub returns : goal.returns
returns c =
    let place = row_at (λ (r : ObjectRecord). 1 ≤ r.riding) c.args.records.now c.args.object c.requires in
    row_changed (with_riding (λ n. n - 1)) c.args.records.now (c.args.object - 1) c.with_riding.result place.below c.with_riding.ensures
