-- How the services are kept.
use Rattle.std.specs.Prelude.{◌≡◌, ◌≤◌, Some, length, map, vec_capacity}
use Rattle.std.specs.Option.{option_and_then}
use Rattle.jx_base.specs.Basics.{numbered}
use Rattle.jx_model.specs.Tables.{ServiceRecord}
use Rattle.portal_table.specs.ServiceLists.{ServicesState}
use Rattle.portal_table.specs.declared.services.Portal.{Portal}
use Rattle.portal_table.specs.declared.services.Service.{Service}
use Rattle.portal_table.specs.declared.services.Services.TheInside.{Inside}

-- a service as the definitions know it
abbrev pub record_of : Service → ServiceRecord
record_of s = record { owner = s.owner.0; interface = Some s.interface; holders = s.holders.flags }

-- what the services are seen as
abbrev pub services_state : Inside → ServicesState
services_state x =
    record {
      services = map record_of x.services.items;
      ended = x.ended.flags;
      binds = x.names.binds;
      words = x.names.words;
    }

-- the service was made, with that interface
abbrev pub IsPortal : ServicesState → Portal → Type 0
IsPortal x p = option_and_then (λ s. s.interface) (numbered x.services p.service.0) ≡ Some p.interface

-- room is reserved for all services
pub record IsServices (x : Inside) : Type 0 where
  pub few : length x.services.items ≤ 256
  pub room : 256 ≤ vec_capacity x.services
