-- Services, who holds a portal to one, and the names that services are bound to.
use Rattle.std.specs.Prelude.{ℕ, Bool, false, ◌&&◌, ◌||◌, List, [], ◌∷◌, Option, Some, None, is_some, nat_lt, nat_le, if◌then◌else◌, IsTrue}
use Rattle.std.specs.Str.{bytes_eq}
use Rattle.jx_base.specs.declared.act.Act.{Act}
use Rattle.jx_base.specs.declared.act.Act.TheVariants as act
use Rattle.jx_base.specs.declared.act.Reply.{Reply}
use Rattle.jx_base.specs.declared.act.Reply.TheVariants as reply
use Rattle.jx_base.specs.declared.act.Entry.{Entry}
use Rattle.jx_base.specs.declared.ids.ClassId.{ClassId}
use Rattle.jx_base.specs.declared.value.Parcel.{Parcel}
use Rattle.jx_base.specs.Basics.{passes, contains_number, is_number}
use Rattle.program_model.specs.ParcelParts.{parcel_portals}
use Rattle.jx_base.specs.Histories.{Past, is_done, is_own, nth_entry, count_where}
use Rattle.jx_model.specs.Domains.{is_made, is_live}
use Rattle.std.specs.Option.{option_and_then, option_map}

-- ---- services

-- the interface of an export that was answered with a service
unfoldable pub exported_interface : Act → Reply → Option ClassId
exported_interface (act.Export iface k) (reply.Service s c) = Some iface
exported_interface _ _ = None

-- whether the entry made a service
unfoldable pub is_export : Entry → Bool
is_export e = is_some (exported_interface e.act e.reply)

-- how many services were made
abbrev pub services_made : Past → ℕ
services_made past = count_where is_export past

-- whether service s was made
unfoldable pub is_exported : Past → ℕ → Bool
is_exported past s = nat_lt 0 s && nat_le s (services_made past)

-- the entry that made the service
unfoldable pub export_of : Past → ℕ → Option Entry
export_of past s = nth_entry is_export past s

-- the domain that exported the service
unfoldable pub owner_of : Past → ℕ → Option ℕ
owner_of past s = option_map (λ e. e.domain.0) (export_of past s)

-- the interface that the service was exported with
unfoldable pub interface_of : Past → ℕ → Option ClassId
interface_of past s = option_and_then (λ e. exported_interface e.act e.reply) (export_of past s)

-- whether the owner of the service is live
unfoldable pub has_live_owner : Past → ℕ → Bool
has_live_owner past s = passes (is_live past) (owner_of past s)

-- ---- portals

-- the parcel that a take or resume hands over
unfoldable pub received_parcel : Act → Reply → Option Parcel
received_parcel (act.Take c) (reply.Job s m p) = Some p
received_parcel (act.Resume c) (reply.Value p) = Some p
received_parcel (act.Resume c) (reply.Thrown p) = Some p
received_parcel _ _ = None

-- the service whose portal an export or lookup hands over
unfoldable pub received_service : Act → Reply → Option ℕ
received_service (act.Export iface k) (reply.Service s c) = Some s.0
received_service (act.Lookup name) (reply.Service s c) = Some s.0
received_service _ _ = None

-- whether the entry hands over a portal to service s
unfoldable pub gives_portal : ℕ → Entry → Bool
gives_portal s e =
    is_number (received_service e.act e.reply) s || passes (λ p. contains_number (parcel_portals p) s) (received_parcel e.act e.reply)

-- whether an own entry of d, since both were made, gave it a portal to s
unfoldable pub keeps_portal : Past → ℕ → ℕ → Bool
keeps_portal [] d s = false
keeps_portal (e ∷ past) d s =
    is_made (e ∷ past) d && is_exported (e ∷ past) s && ((is_own d e && gives_portal s e) || keeps_portal past d s)

-- whether a live domain holds a portal to the service
unfoldable pub holds_portal : Past → ℕ → ℕ → Bool
holds_portal past d s = is_live past d && keeps_portal past d s

-- d is live and holds a portal to s
abbrev pub HoldsPortal : Past → ℕ → ℕ → Type 0
HoldsPortal past d s = IsTrue (holds_portal past d s)

-- ---- names

-- the service that a done bind of the name names
unfoldable pub bound_by_act : List ℕ → Act → Reply → Option ℕ
bound_by_act name (act.Bind n s) r = if is_done r && bytes_eq n name then Some s.0 else None
bound_by_act name _ r = None

-- the service of the last done bind of the name
unfoldable pub last_bound : Past → List ℕ → Option ℕ
last_bound [] name = None
last_bound (e ∷ past) name = elim (bound_by_act name e.act e.reply) [ Some s ↦ Some s | None ↦ last_bound past name ]

-- the service that the name is bound to: that of the last bind, while its owner is live
unfoldable pub bound_service : Past → List ℕ → Option ℕ
bound_service past name = option_and_then (λ s. if has_live_owner past s then Some s else None) (last_bound past name)

-- what a computed case opens
unfoldable pub opened_portals : Unit {0}
unfolding exported_interface is_export is_exported export_of owner_of interface_of has_live_owner received_parcel received_service gives_portal keeps_portal holds_portal bound_by_act last_bound bound_service
opened_portals = tt
