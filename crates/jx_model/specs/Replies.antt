-- The reply to an act: the first refusal that holds, or else what the act gives.
use Rattle.std.specs.Prelude.{ℕ, ◌+◌, ◌-◌, ℤ, pos, negsuc, Bool, false, ◌&&◌, not, List, Option, Some, None, is_some, ◌==◌, nat_lt, nat_le, if◌then◌else◌}
use Rattle.std.specs.List.{list_all}
use Rattle.std.specs.Int.{cast_signed, w32}
use Rattle.jx_base.specs.declared.act.Act.{Act}
use Rattle.jx_base.specs.declared.act.Act.TheVariants as act
use Rattle.jx_base.specs.declared.act.Reply.{Reply}
use Rattle.jx_base.specs.declared.act.Reply.TheVariants as reply
use Rattle.jx_base.specs.declared.act.Refusal.{Refusal}
use Rattle.jx_base.specs.declared.act.Refusal.TheVariants as refusal
use Rattle.jx_base.specs.declared.ids.ClassId.{ClassId}
use Rattle.jx_base.specs.declared.ids.MethodId.{MethodId}
use Rattle.jx_base.specs.declared.ids.ObjectId.{ObjectId}
use Rattle.jx_base.specs.declared.ids.ServiceId.{ServiceId}
use Rattle.jx_base.specs.declared.value.Parcel.{Parcel}
use Rattle.jx_base.specs.declared.program.System.{System}
use Rattle.jx_base.specs.Basics.{passes, is_number, not_below_zero}
use Rattle.program_model.specs.Limits.{domain_limit, service_limit, object_limit, allocation_limit}
use Rattle.program_model.specs.ParcelParts.{parcel_portals, parcel_objects}
use Rattle.jx_base.specs.Histories.{Past}
use Rattle.jx_model.specs.Domains.{domains_made, is_made, is_live, template_named, template_of, creator_of}
use Rattle.jx_model.specs.Portals.{services_made, owner_of, interface_of, has_live_owner, holds_portal, bound_service}
use Rattle.jx_model.specs.Calls.{Asked, Answer, calls_made, asked_of, caller_of, has_live_caller, answer_of}
use Rattle.jx_model.specs.MemoryObjects.{Part, object_part, objects_made, is_valid}
use Rattle.jx_model.specs.Holding.{holds_object}
use Rattle.jx_model.specs.Granules.{first_fit, heap_granules, extent_granules}
use Rattle.jx_model.specs.Bytes.{number_at}
use Rattle.program_model.specs.Lookup.{has_method}
use Rattle.program_model.specs.Parcels.{fits_domain}
use Rattle.std.specs.Option.{option_and_then}

-- ---- refusals

-- a refusal where the test passes, or else the rest
infixr 12 ◌refuses◌else◌
unfoldable pub ◌refuses◌else◌ : Bool → Refusal → Reply → Reply
b refuses r else rest = if b then reply.Refused r else rest

-- what f gives of the value that is there, or else a refusal
unfoldable pub given_or : {A : Type 0} → Option A → Refusal → (A → Reply) → Reply
given_or None r f = reply.Refused r
given_or (Some x) r f = f x

-- whether the number is from 1 to that limit
unfoldable pub is_positive_up_to : ℕ → ℤ → Bool
is_positive_up_to limit (pos n) = nat_le 1 n && nat_le n limit
is_positive_up_to limit (negsuc n) = false

-- whether so many bytes from there lie within that size
unfoldable pub is_within : ℤ → ℤ → ℕ → Bool
is_within (pos at) (pos count) size = nat_le (at + count) size
is_within _ _ size = false

-- whether so many bytes from there lie within the object
unfoldable pub is_within_object : Past → ℕ → ℤ → ℤ → Bool
is_within_object past m at count = passes (λ o. is_within at count o.size) (object_part past m)

-- ---- domains

-- a new domain of the template
unfoldable pub new_domain : System → Past → ℕ → Reply
new_domain s past t =
    nat_le (domain_limit s) (domains_made past) refuses refusal.TooMany else
    given_or (first_fit s past (heap_granules s t)) refusal.NoRoom (λ g. reply.Domain (record { 0 = domains_made past + 1 }) g)

-- a spawn of that name
unfoldable pub spawned : System → Past → List ℕ → Reply
spawned s past name = given_or (template_named s name) refusal.Unknown (new_domain s past)

-- a kill of domain k by d
unfoldable pub killed : Past → ℕ → ℕ → Reply
killed past d k =
    not (is_made past k) refuses refusal.Unknown else
    not (is_number (creator_of past k) d) refuses refusal.NotYours else
    not (is_live past k) refuses refusal.NotLive else reply.Done

-- ---- services and calls

-- a new service of that interface
unfoldable pub new_service : System → Past → ClassId → Reply
new_service s past iface =
    nat_le (service_limit s) (services_made past) refuses refusal.TooMany else
    reply.Service (record { 0 = services_made past + 1 }) iface

-- a bind of the name to the service by d
unfoldable pub bound : Past → ℕ → List ℕ → ℕ → Reply
bound past d name k =
    not (holds_portal past d k) refuses refusal.NotHeld else is_some (bound_service past name) refuses refusal.Taken else reply.Done

-- the portal of a service
unfoldable pub portal_reply : ℕ → Option ClassId → Reply
portal_reply k None = reply.NoName
portal_reply k (Some c) = reply.Service (record { 0 = k }) c

-- a lookup of the name
unfoldable pub looked_up : Past → Option ℕ → Reply
looked_up past None = reply.NoName
looked_up past (Some k) = portal_reply k (interface_of past k)

-- whether the domain holds all portals and memory objects of the parcel
unfoldable pub holds_all : Past → ℕ → Parcel → Bool
holds_all past d p = list_all (holds_portal past d) (parcel_portals p) && list_all (holds_object past d) (parcel_objects p)

-- whether that domain can have the parcel
unfoldable pub fits_domain_of : System → Past → Option ℕ → Parcel → Bool
fits_domain_of s past d p = passes (λ t. fits_domain s t p) (option_and_then (template_of s past) d)

-- whether the service's interface or one above it has the method
unfoldable pub has_service_method : System → Past → ℕ → ℕ → Bool
has_service_method s past k m = passes (λ c. has_method s c.0 m) (interface_of past k)

-- a call by d
unfoldable pub called : System → Past → ℕ → ServiceId → MethodId → Parcel → Reply
called s past d k m p =
    not (holds_portal past d k.0 && holds_all past d p) refuses refusal.NotHeld else
    not (has_live_owner past k.0) refuses refusal.Gone else
    not (has_service_method s past k.0 m.0) refuses refusal.NoMethod else
    not (fits_domain_of s past (owner_of past k.0) p) refuses refusal.Unfit else
    reply.Queued (record { 0 = calls_made past + 1 })

-- what the taker of a call gets
unfoldable pub job_of : Option Asked → Reply
job_of None = reply.Done
job_of (Some a) = reply.Job a.service a.method a.parcel

-- a return or throw of call c by d
unfoldable pub sent_back : System → Past → ℕ → ℕ → Parcel → Reply
sent_back s past d c p =
    not (has_live_caller past c) refuses refusal.Discarded else
    not (holds_all past d p) refuses refusal.NotHeld else
    not (fits_domain_of s past (caller_of past c) p) refuses refusal.Unfit else reply.Done

-- what the caller gets of an answer: nothing of a discarded one
unfoldable pub answer_reply : Answer → Option Reply
answer_reply (Answer.Value p) = Some (reply.Value p)
answer_reply (Answer.Thrown p) = Some (reply.Thrown p)
answer_reply Answer.CopyFailed = Some reply.CopyFailed
answer_reply Answer.Ended = Some reply.Ended
answer_reply Answer.Discarded = None

-- the reply that is there, or else Done
unfoldable pub or_done : Option Reply → Reply
or_done None = reply.Done
or_done (Some r) = r

-- ---- memory objects

-- what f gives of the object, where d holds it and it is valid
unfoldable pub with_object : Past → ℕ → ObjectId → (Part → Reply) → Reply
with_object past d m f =
    not (holds_object past d m.0) refuses refusal.NotHeld else
    not (is_valid past m.0) refuses refusal.Revoked else given_or (object_part past m.0) refusal.Revoked f

-- Done, where so many bytes from there lie within the object
unfoldable pub done_within : ℤ → ℤ → Part → Reply
done_within at count o = not (is_within at count o.size) refuses refusal.Range else reply.Done

-- a number of so many bytes; one of four is signed
unfoldable pub number_reply : ℕ → ℕ → Reply
number_reply width n = if width == 4 then reply.Number (cast_signed w32 n) else reply.Number (pos n)

-- a read of the object
unfoldable pub number_in : Past → ℤ → ℕ → Part → Reply
number_in past at width o =
    not (is_within at (pos width) o.size) refuses refusal.Range else
    number_reply width (number_at past o.extent (o.from + not_below_zero at) width)

-- a copy by d
unfoldable pub copied : Past → ℕ → ObjectId → ℤ → ObjectId → ℤ → ℤ → Reply
copied past d m at k k_at count =
    not (holds_object past d m.0 && holds_object past d k.0) refuses refusal.NotHeld else
    not (is_valid past m.0 && is_valid past k.0) refuses refusal.Revoked else
    not (is_within_object past m.0 at count && is_within_object past k.0 k_at count) refuses refusal.Range else reply.Done

-- the k-th object from now on
unfoldable pub new_object : Past → ℕ → ObjectId
new_object past k = record { 0 = objects_made past + k }

-- whether k objects more pass the limit
unfoldable pub lacks_objects : System → Past → ℕ → Bool
lacks_objects s past k = nat_lt (object_limit s) (objects_made past + k)

-- an allocation of n bytes
unfoldable pub allocated : System → Past → ℤ → Reply
allocated s past n =
    not (is_positive_up_to allocation_limit n) refuses refusal.Range else
    lacks_objects s past 1 refuses refusal.TooMany else
    given_or (first_fit s past (extent_granules (not_below_zero n))) refusal.NoRoom (λ g. reply.Made (new_object past 1) g)

-- one object more
unfoldable pub one_object : System → Past → Reply
one_object s past = lacks_objects s past 1 refuses refusal.TooMany else reply.Object (new_object past 1)

-- a sub of the object, of one byte at least
unfoldable pub derived : System → Past → ℤ → ℤ → Part → Reply
derived s past at count o =
    not (is_within at count o.size && is_positive_up_to o.size count) refuses refusal.Range else one_object s past

-- a split of the object, with one byte at least on each side
unfoldable pub divided : System → Past → ℤ → Part → Reply
divided s past at o =
    not (is_positive_up_to (o.size - 1) at) refuses refusal.Range else
    lacks_objects s past 2 refuses refusal.TooMany else reply.Pair (new_object past 1) (new_object past 2)

-- ---- all acts

-- the reply to an act of domain d
unfoldable pub reply_to : System → Past → ℕ → Act → Reply
reply_to s past d (act.Create t) = new_domain s past t
reply_to s past d (act.Export iface k) = new_service s past iface
reply_to s past d (act.Bind name service) = bound past d name service.0
reply_to s past d (act.Lookup name) = looked_up past (bound_service past name)
reply_to s past d (act.Call service method parcel) = called s past d service method parcel
reply_to s past d (act.Take c) = job_of (asked_of past c.0)
reply_to s past d (act.Return c parcel) = sent_back s past d c.0 parcel
reply_to s past d (act.Throw c parcel) = sent_back s past d c.0 parcel
reply_to s past d (act.Resume c) = or_done (option_and_then answer_reply (answer_of past c.0))
reply_to s past d (act.Alloc n) = allocated s past n
reply_to s past d (act.Size m) = with_object past d m (λ o. reply.Number (pos o.size))
reply_to s past d (act.Get m at width) = with_object past d m (number_in past at width)
reply_to s past d (act.Set m at width v) = with_object past d m (done_within at (pos width))
reply_to s past d (act.Fill m at count b) = with_object past d m (done_within at count)
reply_to s past d (act.Copy m at k k_at count) = copied past d m at k k_at count
reply_to s past d (act.Sub m at count) = with_object past d m (derived s past at count)
reply_to s past d (act.Split m at) = with_object past d m (divided s past at)
reply_to s past d (act.Revoke m) = with_object past d m (λ o. one_object s past)
reply_to s past d (act.Release m) = not (holds_object past d m.0) refuses refusal.NotHeld else reply.Done
reply_to s past d (act.Spawn name) = spawned s past name
reply_to s past d (act.Kill k) = killed past d (not_below_zero k)
reply_to s past d _ = reply.Done

-- what a computed case opens
unfoldable pub opened_replies : Unit {0}
unfolding ◌refuses◌else◌ given_or is_positive_up_to is_within is_within_object new_domain spawned killed new_service bound portal_reply looked_up holds_all fits_domain_of has_service_method called job_of sent_back answer_reply or_done with_object done_within number_reply number_in copied new_object lacks_objects allocated one_object derived divided reply_to
opened_replies = tt
