-- What a table of memory objects is seen as: plain lists, the object of number n at place n - 1.
use Rattle.std.specs.Prelude.{◌≡◌, ◌≢◌, ℕ, ◌+◌, ◌-◌, ◌<◌, ◌≤◌, ◌^◌, ℤ, Bool, true, false, not, ◌&&◌, ◌||◌, ◌==◌, nat_lt, if◌then◌else◌, List, [], ◌∷◌, ◌++◌, length, filter, replicate, Option, Some, None, IsSomeAnd, Result, Ok, Err}
use Rattle.std.specs.List.{list_any, find}
use Rattle.domain_flags.specs.FlagLists.{only_flag, with_flag}
use Rattle.jx_base.specs.declared.act.Reply.{Reply}
use Rattle.jx_base.specs.declared.act.Reply.TheVariants as reply
use Rattle.jx_base.specs.declared.act.Refusal.{Refusal}
use Rattle.jx_base.specs.declared.act.Refusal.TheVariants as refusal
use Rattle.jx_base.specs.declared.ids.ObjectId.{ObjectId}
use Rattle.jx_base.specs.Basics.{numbered, passes, contains_number, not_below_zero}
use Rattle.jx_model.specs.MemoryObjects.{Part, lineage_of}
use Rattle.jx_model.specs.Replies.{◌refuses◌else◌, is_within, is_positive_up_to}
use Rattle.jx_model.specs.Tables.{ObjectRecord}
use Rattle.table_reads.specs.TableReads.{flag_at}
use Rattle.table_steps.specs.Steps.{in_use_by}
use Rattle.table_threads.specs.Changes.{is_set, each_record, changed_at}

-- the parts that the objects are, who holds and carries them, and the extents that were not yet
-- given out as unused
pub record ObjectsState : Type 0 where
  pub parts : List Part
  pub records : List ObjectRecord
  pub extents : List ℕ

-- ---- what is asked of a number

-- whether the domain holds the object
abbrev pub holds_in : List ObjectRecord → ℕ → ℕ → Bool
holds_in records d m = passes (λ r. flag_at r.holders d) (numbered records m)

-- whether the object is valid
abbrev pub valid_in : List ObjectRecord → ℕ → Bool
valid_in records m = passes (λ r. r.valid) (numbered records m)

-- whether a domain holds the object or a call carries it
abbrev pub is_kept : ObjectRecord → Bool
is_kept r = list_any is_set r.holders || nat_lt 0 r.riding

-- the object was made, and a domain holds it or a call carries it
abbrev pub IsKept : ObjectsState → ℕ → Type 0
IsKept x m = IsSomeAnd (numbered x.records m) (λ r. is_kept r ≡ true)

-- the object was made, and one call more can be counted that carries it
abbrev pub CanRide : ObjectsState → ℕ → Type 0
CanRide x m = IsSomeAnd (numbered x.records m) (λ r. r.riding < 4294967295)

-- the object was made, and a call carries it
abbrev pub IsRiding : ObjectsState → ℕ → Type 0
IsRiding x m = IsSomeAnd (numbered x.records m) (λ r. 1 ≤ r.riding)

-- a part of a made and valid object or of none, with bytes that have numbers of 32 bits
pub record CanJoin (x : ObjectsState) (o : Part) : Type 0 where
  pub made : o.parent ≤ length x.parts
  pub valid : o.parent ≢ 0 → valid_in x.records o.parent ≡ true
  pub small : o.from + o.size < 2 ^ 32

-- ---- answers

-- the part that is there, or else that refusal
abbrev pub part_or : Option Part → Refusal → Result Part Refusal
part_or None r = Err r
part_or (Some o) r = Ok o

-- the part of an object that the domain holds and that is valid
abbrev pub held_part : ObjectsState → ℕ → ℕ → Result Part Refusal
held_part x d m =
    if not (holds_in x.records d m) then Err refusal.NotHeld
    else if not (valid_in x.records m) then Err refusal.Revoked
    else part_or (numbered x.parts m) refusal.Revoked

-- what f gives of the part, or else its refusal
abbrev pub and_given : {A : Type 0} → Result Part Refusal → (Part → Result A Refusal) → Result A Refusal
and_given (Err r) f = Err r
and_given (Ok o) f = f o

-- the reply that f gives of the part, or else its refusal
abbrev pub replied : Result Part Refusal → (Part → Reply) → Reply
replied (Err r) f = reply.Refused r
replied (Ok o) f = f o

-- the extent and its first byte, where so many bytes from there lie within the part
abbrev pub place_within : ℤ → ℤ → Part → Result (ℕ × ℕ) Refusal
place_within at count o =
    if is_within at count o.size then Ok (o.extent, o.from + not_below_zero at) else Err refusal.Range

-- the bytes of the part
abbrev pub part_size : Part → Result ℕ Refusal
part_size o = Ok o.size

-- whether so many objects more pass the limit
abbrev pub lacks_in : ObjectsState → ℕ → Bool
lacks_in x k = nat_lt 65536 (length x.parts + k)

-- the k-th object from now on
abbrev pub next_object : ObjectsState → ℕ → ObjectId
next_object x k = record { 0 = length x.parts + k }

-- one object more
abbrev pub one_more : ObjectsState → Reply
one_more x = lacks_in x 1 refuses refusal.TooMany else reply.Object (next_object x 1)

-- a sub of the part, of one byte at least
abbrev pub derived_in : ObjectsState → ℤ → ℤ → Part → Reply
derived_in x at count o =
    not (is_within at count o.size && is_positive_up_to o.size count) refuses refusal.Range else one_more x

-- a split of the part, with one byte at least on each side
abbrev pub divided_in : ObjectsState → ℤ → Part → Reply
divided_in x at o =
    not (is_positive_up_to (o.size - 1) at) refuses refusal.Range else
    lacks_in x 2 refuses refusal.TooMany else reply.Pair (next_object x 1) (next_object x 2)

-- a release by the domain
abbrev pub released_in : ObjectsState → ℕ → ℕ → Reply
released_in x d m = not (holds_in x.records d m) refuses refusal.NotHeld else reply.Done

-- the first extent of which no valid object is held or carried
abbrev pub first_unused : ObjectsState → Option ℕ
first_unused x = find (λ e. not (in_use_by x.parts x.records e)) x.extents

-- ---- changes

-- the part that has a new extent of its own
abbrev pub whole_of : ℕ → ℕ → Part
whole_of extent size = record { parent = 0; extent = extent; from = 0; size = size }

-- a valid object that the domain alone holds
abbrev pub new_record : ℕ → ObjectRecord
new_record d = record { valid = true; holders = only_flag d; riding = 0 }

-- objects more, which the domain alone holds
abbrev pub with_parts : ObjectsState → ℕ → List Part → ObjectsState
with_parts x d parts =
    record x {
      parts = x.parts ++ parts;
      records = x.records ++ replicate (length parts) (new_record d);
    }

-- a first object of a new extent more
abbrev pub with_root : ObjectsState → ℕ → ℕ → ℕ → ObjectsState
with_root x d extent size =
    record (with_parts x d (whole_of extent size ∷ [])) { extents = x.extents ++ extent ∷ [] }

-- the records, of which m and what is derived from it are valid no more
abbrev pub revoked_in : List Part → ℕ → List ObjectRecord → List ObjectRecord
revoked_in parts m records =
    each_record (λ j r. record r { valid = r.valid && not (contains_number (lineage_of parts j) m) }) records

-- objects more in place of object m, which ends where there are some
abbrev pub with_parts_for : ObjectsState → ℕ → ℕ → List Part → ObjectsState
with_parts_for x d m [] = x
with_parts_for x d m (o ∷ os) =
    with_parts (record x { records = revoked_in x.parts m x.records }) d (o ∷ os)

-- an object that the domain holds or not
abbrev pub with_holder : ℕ → Bool → ObjectRecord → ObjectRecord
with_holder d held r = record r { holders = with_flag d held r.holders }

-- an object that so many calls carry
abbrev pub with_riding : (ℕ → ℕ) → ObjectRecord → ObjectRecord
with_riding f r = record r { riding = f r.riding }

-- one object's record changed
abbrev pub with_record : ObjectsState → ℕ → (ObjectRecord → ObjectRecord) → ObjectsState
with_record x m f = record x { records = changed_at (m - 1) f x.records }

-- an object that the domain held, and holds no more
abbrev pub without_holder : ObjectsState → ℕ → ℕ → ObjectsState
without_holder x d m = if holds_in x.records d m then with_record x m (with_holder d false) else x

-- the extents without that one, where there is one
abbrev pub without_extent : Option ℕ → List ℕ → List ℕ
without_extent None extents = extents
without_extent (Some e) extents = filter (λ x. not (e == x)) extents
