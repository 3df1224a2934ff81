-- What becomes of the memory objects of words, each changed once.
use Rattle.std.specs.Prelude.{ℕ, ◌+◌, ◌-◌, Bool, true, not, ◌||◌, ◌&&◌, List, Option, Some, None, if◌then◌else◌}
use Rattle.std.specs.List.{list_any}
use Rattle.domain_flags.specs.FlagLists.{IsDomain}
use Rattle.jx_base.specs.declared.value.Node.{Node}
use Rattle.jx_base.specs.declared.value.Word.{Word}
use Rattle.jx_base.specs.declared.value.Word.TheVariants as word
use Rattle.jx_base.specs.Basics.{contains_number}
use Rattle.jx_model.specs.Tables.{ObjectRecord}
use Rattle.memory_objects.specs.ObjectLists.{CanRide, IsKept, IsRiding, ObjectsState, with_holder, with_riding}
use Rattle.parcel_carriage.specs.declared.changes.Change.{Change}
use Rattle.parcel_carriage.specs.declared.changes.Change.TheVariants as change
use Rattle.program_model.specs.ParcelParts.{word_object}
use Rattle.table_threads.specs.Changes.{each_record}

-- ---- where an object stands

-- whether the word is that object
abbrev pub is_object : ℕ → Word → Bool
is_object m w = contains_number (word_object w) m

-- whether the object is among the words
abbrev pub is_among : List Word → ℕ → Bool
is_among words m = list_any (is_object m) words

-- whether it stands in those roots or nodes
abbrev pub stands_in : List Word → List Node → ℕ → Bool
stands_in roots nodes m = is_among roots m || list_any (λ n. is_among n.cells m) nodes

-- whether it stands there or among the words
abbrev pub is_met : List Word → List Node → List Word → ℕ → Bool
is_met roots nodes words m = stands_in roots nodes m || is_among words m

-- the object that the word is, unless it was met
abbrev pub unmet : (ℕ → Bool) → Word → Option ℕ
unmet met (word.Mem m) = if met m.0 then None else Some m.0
unmet met _ = None

-- whether the object is among the words, and not in those roots and nodes
abbrev pub is_new : List Word → List Node → List Word → ℕ → Bool
is_new roots nodes words m = is_among words m && not (stands_in roots nodes m)

-- ---- changes

-- the record of an object after the change
abbrev pub changed_by : Change → ObjectRecord → ObjectRecord
changed_by (change.Give d) r = with_holder d.0 true r
changed_by change.Ride r = with_riding (λ n. n + 1) r
changed_by change.Land r = with_riding (λ n. n - 1) r

-- what the change asks of an object
abbrev pub Allows : Change → ObjectsState → ℕ → Type 0
Allows (change.Give d) x m = IsDomain d.0 × IsKept x m
Allows change.Ride x m = IsKept x m × CanRide x m
Allows change.Land x m = IsRiding x m

-- the objects after the change of those
abbrev pub with_those : Change → (ℕ → Bool) → ObjectsState → ObjectsState
with_those c those x =
    record x { records = each_record (λ m r. if those m then changed_by c r else r) x.records }
