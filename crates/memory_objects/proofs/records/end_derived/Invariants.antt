use Rattle.std.proofs.Common.{◌≡◌}
use Rattle.table_threads.specs.Changes.{each_record}
use Rattle.memory_objects.specs.Rows.{parts_of, records_of}
use Rattle.memory_objects.proofs.Tree.{ended_to}
use Rattle.memory_objects.proofs.records.end_derived.Given as goal

abbrev pub invariant-loop-place : goal.invariant-loop-place
invariant-loop-place l =
    records_of l.records ≡ each_record (ended_to l.place (parts_of l.parts) l.object) (records_of l.fn.records)
