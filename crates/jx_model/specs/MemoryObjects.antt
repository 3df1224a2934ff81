-- Memory objects: parts of extents, derived from one another.
use Rattle.std.specs.Prelude.{ℕ, zero, suc, ◌+◌, ◌-◌, Bool, true, false, ◌&&◌, not, List, [], ◌∷◌, ◌++◌, length, Option, Some, None, nat_le, if◌then◌else◌, IsTrue}
use Rattle.jx_base.specs.declared.act.Act.{Act}
use Rattle.jx_base.specs.declared.act.Act.TheVariants as act
use Rattle.jx_base.specs.declared.act.Reply.{Reply}
use Rattle.jx_base.specs.declared.act.Reply.TheVariants as reply
use Rattle.jx_base.specs.declared.act.Entry.{Entry}
use Rattle.jx_base.specs.Basics.{passes, contains_number, numbered, not_below_zero}
use Rattle.jx_base.specs.Histories.{Past, is_done, nth_entry, count_where}
use Rattle.std.specs.Option.{option_map}

-- ---- extents

-- whether an alloc was answered with an object
unfoldable pub makes_extent : Act → Reply → Bool
makes_extent (act.Alloc n) (reply.Made m g) = true
makes_extent _ _ = false

-- whether the entry made an extent
unfoldable pub is_allocation : Entry → Bool
is_allocation e = makes_extent e.act e.reply

-- how many extents were made
abbrev pub extents_made : Past → ℕ
extents_made past = count_where is_allocation past

-- the entry that made the extent
unfoldable pub allocation_of : Past → ℕ → Option Entry
allocation_of past x = nth_entry is_allocation past x

-- the bytes that an alloc asks for
unfoldable pub allocated_bytes : Act → ℕ
allocated_bytes (act.Alloc n) = not_below_zero n
allocated_bytes _ = 0

-- ---- objects

-- a memory object: the object that it was derived from, or 0, and its part of an extent, in bytes
pub record Part : Type 0 where
  pub parent : ℕ
  pub extent : ℕ
  pub from : ℕ
  pub size : ℕ

-- so many bytes of a part from there, below that parent
unfoldable pub part_within : ℕ → Part → ℕ → ℕ → Part
part_within parent o at count = record { parent = parent; extent = o.extent; from = o.from + at; size = count }

-- both sides of a part, below the same parent
unfoldable pub sides_at : ℕ → Part → List Part
sides_at at o = part_within o.parent o 0 at ∷ part_within o.parent o at (o.size - at) ∷ []

-- what f gives of the part that is there
unfoldable pub made_of : Option Part → (Part → List Part) → List Part
made_of None f = []
made_of (Some o) f = f o

-- the objects that an entry makes, from the objects before it and the number of a new extent
unfoldable pub new_parts : List Part → ℕ → Act → Reply → List Part
new_parts olds x (act.Alloc n) (reply.Made m g) = record { parent = 0; extent = x; from = 0; size = not_below_zero n } ∷ []
new_parts olds x (act.Sub m at count) (reply.Object new) =
    made_of (numbered olds m.0) (λ o. part_within m.0 o (not_below_zero at) (not_below_zero count) ∷ [])
new_parts olds x (act.Split m at) (reply.Pair a b) = made_of (numbered olds m.0) (sides_at (not_below_zero at))
new_parts olds x (act.Revoke m) (reply.Object new) = made_of (numbered olds m.0) (λ o. o ∷ [])
new_parts olds x _ _ = []

-- all memory objects, object 1 first
unfoldable pub objects_of : Past → List Part
objects_of [] = []
objects_of (e ∷ past) = let olds : List Part = objects_of past in olds ++ new_parts olds (extents_made past + 1) e.act e.reply

-- how many memory objects were made
unfoldable pub objects_made : Past → ℕ
objects_made past = length (objects_of past)

-- the part that the object is
unfoldable pub object_part : Past → ℕ → Option Part
object_part past m = numbered (objects_of past) m

-- the object that it was derived from, or 0
unfoldable pub object_parent : Past → ℕ → Option ℕ
object_parent past m = option_map (λ o. o.parent) (object_part past m)

-- ---- which are valid

-- the object, its parent and so on, as far as so many steps lead
unfoldable pub lineage_within : List Part → ℕ → ℕ → List ℕ
lineage_within objects zero m = []
lineage_within objects (suc k) m = elim (numbered objects m) [ None ↦ [] | Some o ↦ m ∷ lineage_within objects k o.parent ]

-- the object, its parent and so on: numbers fall, so m steps lead to the end
unfoldable pub lineage_of : List Part → ℕ → List ℕ
lineage_of objects m = lineage_within objects m m

-- the object that a revoke or split ends
unfoldable pub ended_object : Act → Option ℕ
ended_object (act.Revoke m) = Some m.0
ended_object (act.Split m at) = Some m.0
ended_object _ = None

-- whether the entry is a done revoke or split of one of these
unfoldable pub ends_one_of : List ℕ → Entry → Bool
ends_one_of line e = is_done e.reply && passes (contains_number line) (ended_object e.act)

-- whether no done revoke or split of the object or of an ancestor came after it was made
unfoldable pub is_valid : Past → ℕ → Bool
is_valid [] m = false
is_valid (e ∷ past) m =
    if nat_le m (objects_made past)
    then is_valid past m && not (ends_one_of (lineage_of (objects_of past) m) e)
    else nat_le m (objects_made (e ∷ past))

-- no done revoke or split of the object or of an ancestor came after it was made
abbrev pub IsValidObject : Past → ℕ → Type 0
IsValidObject past m = IsTrue (is_valid past m)

-- what a computed case opens
unfoldable pub opened_memory_objects : Unit {0}
unfolding makes_extent is_allocation allocation_of allocated_bytes part_within sides_at made_of new_parts objects_of objects_made object_part object_parent lineage_within lineage_of ended_object ends_one_of is_valid
opened_memory_objects = tt
