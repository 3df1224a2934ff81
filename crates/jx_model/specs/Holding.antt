-- Which domains hold a memory object, which calls carry it, and which extents are in use.
use Rattle.std.specs.Prelude.{ℕ, ◌+◌, Bool, true, false, ◌&&◌, not, List, [], ◌∷◌, length, Option, Some, None, ◌==◌, nat_lt, nat_le, if◌then◌else◌, filter, IsTrue}
use Rattle.std.specs.List.{list_any}
use Rattle.jx_base.specs.declared.act.Act.{Act}
use Rattle.jx_base.specs.declared.act.Act.TheVariants as act
use Rattle.jx_base.specs.declared.act.Reply.{Reply}
use Rattle.jx_base.specs.declared.act.Reply.TheVariants as reply
use Rattle.jx_base.specs.declared.act.Entry.{Entry}
use Rattle.jx_base.specs.declared.value.Parcel.{Parcel}
use Rattle.jx_base.specs.Basics.{passes, up_to, contains_number}
use Rattle.program_model.specs.ParcelParts.{parcel_objects}
use Rattle.jx_base.specs.Histories.{Past, is_done, is_own}
use Rattle.jx_model.specs.Domains.{is_made, is_live, domains_made}
use Rattle.jx_model.specs.Portals.{received_parcel}
use Rattle.jx_model.specs.Calls.{Asked, Answer, calls_made, is_queued, asked_of, answer_of, has_live_caller, is_resumed}
use Rattle.jx_model.specs.MemoryObjects.{objects_made, object_part, is_valid}

-- ---- domains that hold it

-- the objects of a parcel that is there
unfoldable pub objects_in : Option Parcel → List ℕ
objects_in None = []
objects_in (Some p) = parcel_objects p

-- the objects that an entry makes or hands over
unfoldable pub received_objects : Act → Reply → List ℕ
received_objects (act.Alloc n) (reply.Made m g) = m.0 ∷ []
received_objects (act.Sub k at n) (reply.Object m) = m.0 ∷ []
received_objects (act.Split k at) (reply.Pair a b) = a.0 ∷ b.0 ∷ []
received_objects (act.Revoke k) (reply.Object m) = m.0 ∷ []
received_objects a r = objects_in (received_parcel a r)

-- whether the act drops the object
unfoldable pub is_drop_of : ℕ → Act → Bool
is_drop_of m (act.Release k) = k.0 == m
is_drop_of m _ = false

-- whether d keeps m after the entry, from whether it did before
unfoldable pub keeps_after : ℕ → ℕ → Entry → Bool → Bool
keeps_after d m e before =
    if is_own d e && contains_number (received_objects e.act e.reply) m then true
    else if is_own d e && is_done e.reply && is_drop_of m e.act then false else before

-- whether the newest own entry of d that gives or drops m, since both were made, gives it
unfoldable pub keeps_object : Past → ℕ → ℕ → Bool
keeps_object [] d m = false
keeps_object (e ∷ past) d m =
    is_made (e ∷ past) d && nat_le m (objects_made (e ∷ past)) && keeps_after d m e (keeps_object past d m)

-- whether a live domain holds the object
unfoldable pub holds_object : Past → ℕ → ℕ → Bool
holds_object past d m = is_live past d && keeps_object past d m

-- d is live and holds m
abbrev pub HoldsObject : Past → ℕ → ℕ → Type 0
HoldsObject past d m = IsTrue (holds_object past d m)

-- the domains that hold the object
unfoldable pub holders : Past → ℕ → List ℕ
holders past m = filter (λ d. holds_object past d m) (up_to (domains_made past))

-- ---- calls that carry it

-- the objects that an answer carries
unfoldable pub answer_objects : Option Answer → List ℕ
answer_objects (Some (Answer.Value p)) = parcel_objects p
answer_objects (Some (Answer.Thrown p)) = parcel_objects p
answer_objects _ = []

-- the objects that a call's parcel carries
unfoldable pub asked_objects : Option Asked → List ℕ
asked_objects None = []
asked_objects (Some a) = parcel_objects a.parcel

-- what a call carries: its parcel while it is queued, or else its answer while the caller has yet to get it
unfoldable pub carried_by : Bool → Bool → Option Asked → Option Answer → List ℕ
carried_by queued awaited asked answer =
    if queued then asked_objects asked else if awaited then answer_objects answer else []

-- the objects that the call carries now
unfoldable pub carried : Past → ℕ → List ℕ
carried past c =
    carried_by (is_queued past c) (has_live_caller past c && not (is_resumed past c)) (asked_of past c) (answer_of past c)

-- the calls that carry the object
unfoldable pub riders : Past → ℕ → List ℕ
riders past m = filter (λ c. contains_number (carried past c) m) (up_to (calls_made past))

-- how many calls carry the object
unfoldable pub riding_count : Past → ℕ → ℕ
riding_count past m = length (riders past m)

-- how many domains hold the object and calls carry it
unfoldable pub hold_count : Past → ℕ → ℕ
hold_count past m = length (holders past m) + riding_count past m

-- ---- extents in use

-- whether the object is a part of extent x
unfoldable pub is_of_extent : Past → ℕ → ℕ → Bool
is_of_extent past x m = passes (λ o. o.extent == x) (object_part past m)

-- whether a valid object on the extent is held or carried
unfoldable pub is_extent_in_use : Past → ℕ → Bool
is_extent_in_use past x =
    list_any (λ m. is_of_extent past x m && is_valid past m && nat_lt 0 (hold_count past m)) (up_to (objects_made past))

-- a valid object on the extent is held or carried
abbrev pub IsInUse : Past → ℕ → Type 0
IsInUse past x = IsTrue (is_extent_in_use past x)

-- what a computed case opens
unfoldable pub opened_holding : Unit {0}
unfolding objects_in received_objects is_drop_of keeps_after keeps_object holds_object holders answer_objects asked_objects carried_by carried riders riding_count hold_count is_of_extent is_extent_in_use
opened_holding = tt
