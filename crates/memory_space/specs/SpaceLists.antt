-- What memory is seen as: the objects, the extents, and for each granule whether it is taken.
use Rattle.std.specs.Prelude.{ℕ, ◌+◌, ◌-◌, ℤ, pos, Bool, false, not, ◌&&◌, List, [], ◌∷◌, ◌++◌, length, take, drop, replicate, Option, is_some, Result, Ok, Err, if◌then◌else◌}
use Rattle.std.specs.Option.{unwrap_or}
use Rattle.jx_base.specs.declared.act.Refusal.{Refusal}
use Rattle.jx_base.specs.declared.act.Refusal.TheVariants as refusal
use Rattle.jx_base.specs.declared.act.Reply.{Reply}
use Rattle.jx_base.specs.declared.act.Reply.TheVariants as reply
use Rattle.jx_base.specs.declared.program.System.{System}
use Rattle.jx_base.specs.Basics.{not_below_zero, numbered, passes}
use Rattle.extent_pool.specs.Taken.{is_taken}
use Rattle.jx_model.specs.Granules.{extent_granules, least_free}
use Rattle.jx_model.specs.MemoryObjects.{Part}
use Rattle.jx_model.specs.Replies.{◌refuses◌else◌, given_or, is_positive_up_to, is_within, number_reply}
use Rattle.jx_model.specs.Tables.{ExtentRecord, ObjectRecord}
use Rattle.program_model.specs.Limits.{allocation_limit, granule_limit}
use Rattle.region_bytes.specs.Extents.{number_of}
use Rattle.table_steps.specs.Steps.{freed_from, kept_extents, with_run, without_runs}
use Rattle.memory_objects.specs.ObjectLists.{ObjectsState, and_given, held_part, holds_in, lacks_in, new_record, next_object, place_within, valid_in, whole_of, without_holder}
use Rattle.memory_space.specs.ExtentLists.{byte_in, bytes_in, with_written, zeros}

pub record SpaceState : Type 0 where
  pub parts : List Part
  pub objects : List ObjectRecord
  pub extents : List ExtentRecord
  pub taken : List Bool

-- the objects by themselves
abbrev pub objects_in : SpaceState → ObjectsState
objects_in x = record { parts = x.parts; records = x.objects; extents = [] }

-- the part of an object that the domain holds and that is valid
abbrev pub held_in : SpaceState → ℕ → ℕ → Result Part Refusal
held_in x d m = held_part (objects_in x) d m

-- the extent and its first byte, where so many bytes from there lie within such a part
abbrev pub place_in : SpaceState → ℕ → ℕ → ℤ → ℤ → Result (ℕ × ℕ) Refusal
place_in x d m at count = and_given (held_in x d m) (place_within at count)

-- ---- replies

-- the number of so many bytes of the part
abbrev pub read_in : List ExtentRecord → ℤ → ℕ → Part → Reply
read_in extents at width o =
    not (is_within at (pos width) o.size) refuses refusal.Range else
    number_reply width
    (number_of (take width (drop (o.from + not_below_zero at) (unwrap_or (bytes_in extents o.extent) []))))

-- whether so many bytes from there lie within the object
abbrev pub is_within_part : SpaceState → ℕ → ℤ → ℤ → Bool
is_within_part x m at count = passes (λ o. is_within at count o.size) (numbered x.parts m)

-- a copy by d
abbrev pub copied_in : SpaceState → ℕ → ℕ → ℤ → ℕ → ℤ → ℤ → Reply
copied_in x d m at k k_at count =
    not (holds_in x.objects d m && holds_in x.objects d k) refuses refusal.NotHeld else
    not (valid_in x.objects m && valid_in x.objects k) refuses refusal.Revoked else
    not (is_within_part x m at count && is_within_part x k k_at count) refuses refusal.Range else
    reply.Done

-- the least place at which so many granules are free
abbrev pub room_in : SpaceState → ℕ → Option ℕ
room_in x n = least_free (is_taken x.taken) n (length x.taken + 1 - n) 0

-- an allocation of n bytes
abbrev pub allocated_in : SpaceState → ℤ → Reply
allocated_in x n =
    not (is_positive_up_to allocation_limit n) refuses refusal.Range else
    lacks_in (objects_in x) 1 refuses refusal.TooMany else
    given_or (room_in x (extent_granules (not_below_zero n))) refusal.NoRoom
    (λ at. reply.Made (next_object (objects_in x) 1) at)

-- ---- changes

-- nothing made, and all granules free
abbrev pub first_space : System → SpaceState
first_space s =
    record { parts = []; objects = []; extents = []; taken = replicate (granule_limit s) false }

-- with other objects
abbrev pub with_objects : SpaceState → ObjectsState → SpaceState
with_objects x y = record x { parts = y.parts; objects = y.records }

-- with so many bytes written at the place, where there is one
abbrev pub written_at : SpaceState → Result (ℕ × ℕ) Refusal → ℕ → (ℕ → ℕ) → SpaceState
written_at x (Err r) count f = x
written_at x (Ok p) count f = record x { extents = with_written x.extents p.0 p.1 count f }

-- with bytes copied from one place to another, where there are both
abbrev pub copied_to : SpaceState → Result (ℕ × ℕ) Refusal → Result (ℕ × ℕ) Refusal → ℕ → SpaceState
copied_to x (Err r) to count = x
copied_to x (Ok p) to count = written_at x to count (byte_in x.extents p.0 p.1)

-- with a new extent of zeros and the object that it is, by the reply
abbrev pub with_alloc : SpaceState → ℕ → ℕ → Reply → SpaceState
with_alloc x d size (reply.Made m at) =
    record {
      parts = x.parts ++ whole_of (length x.extents + 1) size ∷ [];
      objects = x.objects ++ new_record d ∷ [];
      extents = x.extents ++ zeros at size ∷ [];
      taken = with_run (at, extent_granules size) x.taken;
    }
with_alloc x d size _ = x

-- whether bytes are kept of the extent
abbrev pub has_bytes : ExtentRecord → Bool
has_bytes item = is_some item.bytes

-- without the bytes and the granules of extents that are in use no more
abbrev pub swept : SpaceState → SpaceState
swept x =
    record x {
      extents = kept_extents x.parts x.objects x.extents;
      taken = without_runs (freed_from x.parts x.objects 1 x.extents) x.taken;
    }

-- after a release, where the domain held the object
abbrev pub with_release : SpaceState → ℕ → ℕ → SpaceState
with_release x d m =
    if holds_in x.objects d m then swept (with_objects x (without_holder (objects_in x) d m)) else x
