-- The records of memory objects, by the calls that carry them.
use Rattle.std.specs.Prelude.{List}
use Rattle.jx_model.specs.Tables.{CallRecord, ObjectRecord}
use Rattle.table_objects.specs.ObjectChanges.{carries, count_of}
use Rattle.table_threads.specs.Changes.{each_record}

-- the records of the objects, each counted by how many of these calls carry it
abbrev pub counted : List CallRecord → List ObjectRecord → List ObjectRecord
counted calls objects = each_record (λ m r. record r { riding = count_of (carries m) calls }) objects
