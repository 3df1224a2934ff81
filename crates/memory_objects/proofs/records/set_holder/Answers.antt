use Rattle.std.proofs.Common.{◌-◌}
use Rattle.jx_base.specs.Basics.{numbered}
use Rattle.memory_objects.specs.ObjectLists.{with_holder}
use Rattle.memory_objects.specs.Rows.{records_of}
use Rattle.memory_objects.proofs.RowLists.{row_at, row_changed, some_and}
use Rattle.memory_objects.proofs.records.set_holder.Goals as goal

pub overflow_sub-row : goal.overflow_sub-row
overflow_sub-row c = (row_at (λ _. Unit {0}) c.args.records.now c.args.object (some_and (numbered (records_of c.args.records.now) c.args.object) c.requires.object)).first

pub slice_copy_out-row : goal.slice_copy_out-row
slice_copy_out-row c = (row_at (λ _. Unit {0}) c.args.records.now c.args.object (some_and (numbered (records_of c.args.records.now) c.args.object) c.requires.object)).below

pub overflow_sub-object : goal.overflow_sub-object
overflow_sub-object c = (row_at (λ _. Unit {0}) c.args.records.now c.args.object (some_and (numbered (records_of c.args.records.now) c.args.object) c.requires.object)).first

pub returns : goal.returns
returns c =
    let place = row_at (λ _. Unit {0}) c.args.records.now c.args.object (some_and (numbered (records_of c.args.records.now) c.args.object) c.requires.object) in
    row_changed (with_holder c.args.domain c.args.held) c.args.records.now (c.args.object - 1) c.with_holder.result place.below c.with_holder.ensures
