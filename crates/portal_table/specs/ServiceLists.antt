-- What a table of services is seen as: plain lists, the service of number n at place n - 1.
use Rattle.std.specs.Prelude.{◌≤◌, ◌+◌, ◌-◌, ◌∷◌, ℕ, Bool, true, false, not, List, length, map, Option, Some, None, is_some, nat_le, if◌then◌else◌}
use Rattle.std.specs.Option.{option_and_then, option_map}
use Rattle.domain_flags.specs.FlagLists.{only_flag, with_flag}
use Rattle.jx_base.specs.declared.act.Refusal.TheVariants as refusal
use Rattle.jx_base.specs.declared.act.Reply.{Reply}
use Rattle.jx_base.specs.declared.act.Reply.TheVariants as reply
use Rattle.jx_base.specs.declared.ids.ClassId.{ClassId}
use Rattle.jx_base.specs.Basics.{numbered, passes}
use Rattle.jx_model.specs.Replies.{portal_reply, ◌refuses◌else◌}
use Rattle.jx_model.specs.Tables.{ServiceRecord, named_service}
use Rattle.table_reads.specs.TableReads.{flag_at}
use Rattle.table_threads.specs.Changes.{changed_at}

-- the services, for each number of a domain whether it has ended, the names that were bound with their services, the newest first, and how many words they may cost
pub record ServicesState : Type 0 where
  pub services : List ServiceRecord
  pub ended : List Bool
  pub binds : List (List ℕ × ℕ)
  pub words : ℕ

-- a service, to which its owner alone holds a portal
abbrev pub new_service : ℕ → ClassId → ServiceRecord
new_service d interface = record { owner = d; interface = Some interface; holders = only_flag d }

-- the service was made
abbrev pub IsService : ServicesState → ℕ → Type 0
IsService x k = (1 ≤ k) × (k ≤ length x.services)

-- whether the domain holds a portal to the service
abbrev pub holds_in : ServicesState → ℕ → ℕ → Bool
holds_in x d k = passes (λ s. flag_at s.holders d) (numbered x.services k)

-- the domain that exported the service, and its interface
abbrev pub owner_of : ServicesState → ℕ → Option (ℕ × ClassId)
owner_of x k = option_and_then (λ s. option_map (λ c. (s.owner, c)) s.interface) (numbered x.services k)

-- whether the service was made, and its owner has not ended
abbrev pub has_live_owner : ServicesState → ℕ → Bool
has_live_owner x k = passes (λ s. not (flag_at x.ended s.owner)) (numbered x.services k)

-- the service, where its owner has not ended
abbrev pub live_service : ServicesState → ℕ → Option ℕ
live_service x k = if has_live_owner x k then Some k else None

-- the service that the name is bound to: that of the newest bind, while its owner has not ended
abbrev pub service_bound : ServicesState → List ℕ → Option ℕ
service_bound x name = option_and_then (live_service x) (named_service x.binds name)

-- ---- replies

-- 256 services at most
abbrev pub export_reply : ServicesState → ClassId → Reply
export_reply x interface =
    nat_le 256 (length x.services) refuses refusal.TooMany else reply.Service (record { 0 = length x.services + 1 }) interface

abbrev pub bind_reply : ServicesState → ℕ → List ℕ → ℕ → Reply
bind_reply x d name k =
    not (holds_in x d k) refuses refusal.NotHeld else is_some (service_bound x name) refuses refusal.Taken else reply.Done

-- the portal of the service that is there
abbrev pub portal_of : ServicesState → Option ℕ → Reply
portal_of x None = reply.NoName
portal_of x (Some k) = portal_reply k (option_and_then (λ s. s.interface) (numbered x.services k))

abbrev pub lookup_reply : ServicesState → List ℕ → Reply
lookup_reply x name = portal_of x (service_bound x name)

-- ---- changes

-- a portal more
abbrev pub with_holder : ServicesState → ℕ → ℕ → ServicesState
with_holder x d k = record x { services = changed_at (k - 1) (λ s. record s { holders = with_flag d true s.holders }) x.services }

-- the name is bound where the bind is done
abbrev pub after_bind : ServicesState → ℕ → List ℕ → ℕ → ServicesState
after_bind x d name k = if not (holds_in x d k) then x else if is_some (service_bound x name) then x else record x { binds = (name, k) ∷ x.binds }

-- the domain has the portal where there is one
abbrev pub after_portal : ServicesState → ℕ → Option ℕ → ServicesState
after_portal x d None = x
after_portal x d (Some k) = with_holder x d k

abbrev pub after_lookup : ServicesState → ℕ → List ℕ → ServicesState
after_lookup x d name = after_portal x d (service_bound x name)

-- a service to which a domain has a portal no more
abbrev pub without_holder : ℕ → ServiceRecord → ServiceRecord
without_holder d s = record s { holders = with_flag d false s.holders }

-- the domain has ended, and holds no portals
abbrev pub without_domain : ServicesState → ℕ → ServicesState
without_domain x d =
    record x {
      services = map (without_holder d) x.services;
      ended = with_flag d true x.ended;
    }
