-- What a parcel's portals and memory objects say of the tables of services and of memory objects.
use Rattle.std.specs.Prelude.{ℕ, ◌+◌, ◌-◌, Bool, true, ◌&&◌, List, if◌then◌else◌}
use Rattle.std.specs.List.{list_all}
use Rattle.domain_flags.specs.FlagLists.{with_flag}
use Rattle.jx_base.specs.declared.value.Parcel.{Parcel}
use Rattle.jx_base.specs.Basics.{contains_number}
use Rattle.jx_model.specs.Tables.{ObjectRecord, ServiceRecord}
use Rattle.memory_objects.specs.ObjectLists as Objects
use Rattle.portal_table.specs.ServiceLists as Services
use Rattle.program_model.specs.ParcelParts.{parcel_objects, parcel_portals}
use Rattle.table_threads.specs.Changes.{each_record}

-- whether the domain holds all portals and memory objects of the parcel
abbrev pub holds_parcel : Services.ServicesState → List ObjectRecord → ℕ → Parcel → Bool
holds_parcel services records d p =
    list_all (Services.holds_in services d) (parcel_portals p) && list_all (Objects.holds_in records d) (parcel_objects p)

-- the records of objects, those with one of the numbers changed
abbrev pub each_of : List ℕ → (ObjectRecord → ObjectRecord) → List ObjectRecord → List ObjectRecord
each_of objects f records = each_record (λ m r. if contains_number objects m then f r else r) records

-- the objects after one call more carries each of the parcel's
abbrev pub with_riders : Parcel → Objects.ObjectsState → Objects.ObjectsState
with_riders p x = record x { records = each_of (parcel_objects p) (Objects.with_riding (λ n. n + 1)) x.records }

-- the same after one call less does
abbrev pub without_riders : Parcel → Objects.ObjectsState → Objects.ObjectsState
without_riders p x = record x { records = each_of (parcel_objects p) (Objects.with_riding (λ n. n - 1)) x.records }

-- the objects after the domain got each of the parcel's
abbrev pub with_given : ℕ → Parcel → Objects.ObjectsState → Objects.ObjectsState
with_given d p x = record x { records = each_of (parcel_objects p) (Objects.with_holder d true) x.records }

-- a service to which the domain has a portal
abbrev pub held_by : ℕ → ServiceRecord → ServiceRecord
held_by d s = record s { holders = with_flag d true s.holders }

-- the services after the domain got each portal of the parcel
abbrev pub with_portals : ℕ → Parcel → Services.ServicesState → Services.ServicesState
with_portals d p x =
    record x {
      services = each_record (λ k s. if contains_number (parcel_portals p) k then held_by d s else s) x.services;
    }
