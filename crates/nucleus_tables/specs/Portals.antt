-- Replies to acts on services and names, and what an export does to the tables.
use Rattle.std.specs.Prelude.{ℕ, [], ◌∷◌, ◌++◌}
use Rattle.jx_base.specs.declared.act.Reply.{Reply}
use Rattle.jx_base.specs.declared.act.Reply.TheVariants as reply
use Rattle.jx_base.specs.declared.ids.ClassId.{ClassId}
use Rattle.domain_table.specs.DomainLists as Lists
use Rattle.portal_table.specs.ServiceLists.{ServicesState, new_service}
use Rattle.nucleus_tables.specs.declared.tables.Tables.{Tables}

-- a reply that carries no parcel
abbrev pub HasNoParcel : Reply → Type 0
HasNoParcel (reply.Job k m p) = ⊥
HasNoParcel (reply.Value p) = ⊥
HasNoParcel (reply.Thrown p) = ⊥
HasNoParcel _ = Unit {0}

-- a reply to a take or a resume
abbrev pub IsReceivedReply : Reply → Type 0
IsReceivedReply (reply.Job k m p) = Unit {0}
IsReceivedReply (reply.Value p) = Unit {0}
IsReceivedReply (reply.Thrown p) = Unit {0}
IsReceivedReply reply.CopyFailed = Unit {0}
IsReceivedReply reply.Ended = Unit {0}
IsReceivedReply reply.Done = Unit {0}
IsReceivedReply _ = ⊥

-- the tables with those services
abbrev pub with_services : Tables → ServicesState → Tables
with_services x services = record x { services = services }

-- where the reply is a service, that was made, and so many threads are idle for it
abbrev pub with_service : Tables → ℕ → ClassId → ℕ → Reply → Tables
with_service x d iface count (reply.Service k c) =
    record x {
      services = record x.services { services = x.services.services ++ new_service d iface ∷ [] };
      domains = Lists.with_idle x.domains d k count;
    }
with_service x d iface count _ = x
