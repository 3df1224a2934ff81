-- What the words of a parcel say of the tables.
use Rattle.std.specs.Prelude.{ℕ, Bool, ◌||◌, ◌&&◌, List, if◌then◌else◌}
use Rattle.std.specs.List.{list_all, list_any}
use Rattle.jx_base.specs.declared.value.Node.{Node}
use Rattle.jx_base.specs.declared.value.Word.{Word}
use Rattle.jx_base.specs.Basics.{contains_number}
use Rattle.jx_model.specs.Tables.{ObjectRecord}
use Rattle.memory_objects.specs.ObjectLists as Objects
use Rattle.parcel_carriage.specs.Carriage.{held_by}
use Rattle.portal_table.specs.ServiceLists as Services
use Rattle.program_model.specs.ParcelParts.{word_object, word_portal}
use Rattle.table_threads.specs.Changes.{each_record}

-- whether the domain holds the portal or the memory object that the word may be
abbrev pub holds_word : Services.ServicesState → List ObjectRecord → ℕ → Word → Bool
holds_word services records d w =
    list_all (Services.holds_in services d) (word_portal w) && list_all (Objects.holds_in records d) (word_object w)

-- whether a portal to the service is among the words
abbrev pub has_portal : List Word → ℕ → Bool
has_portal words k = list_any (λ w. contains_number (word_portal w) k) words

-- whether one stands in those roots or nodes
abbrev pub portal_in : List Word → List Node → ℕ → Bool
portal_in roots nodes k = has_portal roots k || list_any (λ n. has_portal n.cells k) nodes

-- the services after the domain got a portal to each of those
abbrev pub with_held : ℕ → (ℕ → Bool) → Services.ServicesState → Services.ServicesState
with_held d those x =
    record x { services = each_record (λ k s. if those k then held_by d s else s) x.services }
