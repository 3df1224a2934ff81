use Rattle.std.proofs.Common.{◌≡◌, false}
use Rattle.memory_objects.specs.ObjectLists.{with_holder}
use Rattle.memory_objects.specs.Rows.{records_of}
use Rattle.memory_objects.proofs.RowLists.{changed_up_to}
use Rattle.memory_objects.proofs.records.drop_all.Given as goal

abbrev pub invariant-loop-place : goal.invariant-loop-place
invariant-loop-place l =
    records_of l.records ≡ changed_up_to l.place (with_holder l.domain false) (records_of l.fn.records)
