-- What an entry makes of the records of services and memory objects.
use Rattle.std.specs.Prelude.{ℕ, Bool, true, not, ◌&&◌, List, Option, filter, length}
use Rattle.jx_base.specs.declared.ids.ClassId.{ClassId}
use Rattle.jx_base.specs.declared.act.Entry.{Entry}
use Rattle.jx_base.specs.declared.program.System.{System}
use Rattle.jx_base.specs.Basics.{contains_number}
use Rattle.jx_model.specs.Tables.{ServiceRecord, ObjectRecord, CallRecord}
use Rattle.table_objects.specs.HolderChanges.{only_flag, holders_after}
use Rattle.jx_model.specs.MemoryObjects.{Part, ends_one_of, lineage_of}

-- the record of a service that domain d just exported
abbrev pub new_service_record : System → ℕ → Option ClassId → ServiceRecord
new_service_record s d iface = record { owner = d; interface = iface; holders = only_flag s d }

-- the record of an object that domain d just made
abbrev pub new_object_record : System → ℕ → ObjectRecord
new_object_record s d = record { valid = true; holders = only_flag s d; riding = 0 }

-- whether a call's record carries the object
abbrev pub carries : ℕ → CallRecord → Bool
carries m item = contains_number item.carried m

-- how many items pass
abbrev pub count_of : {A : Type 0} → (A → Bool) → List A → ℕ
count_of p xs = length (filter p xs)

-- an old object's record after an entry, from its record, the parts and the new records of the calls
abbrev pub object_record_after : Entry → List Part → List CallRecord → ℕ → ObjectRecord → ObjectRecord
object_record_after e parts calls m item =
    record {
      valid = item.valid && not (ends_one_of (lineage_of parts m) e);
      holders = holders_after e m item.holders;
      riding = count_of (carries m) calls;
    }
