use Rattle.std.proofs.Common.{◌≡◌, ◌++◌, length, map, take, drop}
use Rattle.portal_table.specs.ServiceLists.{without_holder}
use Rattle.portal_table.specs.ServicesInside.{record_of}
use Rattle.portal_table.proofs.services.Services.end_domain.Given as goal

-- the first services are those without the domain, and the others are as before
abbrev pub invariant-loop-place : goal.invariant-loop-place
invariant-loop-place l =
    (map record_of l.self-inside.services.items
    ≡ map (without_holder l.domain.0) (take l.place (map record_of l.initial.self-inside.services.items)) ++ drop l.place (map record_of l.initial.self-inside.services.items))
    × (l.self-inside.ended ≡ l.initial.self-inside.ended)
    × (l.self-inside.names ≡ l.initial.self-inside.names)
    × (length l.self-inside.services.items ≡ length l.initial.self-inside.services.items)
