use Rattle.std.proofs.Common.{◌≡◌, ◌≤◌, map}
use Rattle.nucleus_domains.proofs.OwnedServices.{lost_below}
use Rattle.nucleus_domains.proofs.ends.end_calls.Given as goal

-- the calls to services before this one are answered
abbrev pub invariant-loop-number : goal.invariant-loop-number
invariant-loop-number l =
    (1 ≤ l.number) × (l.number ≤ 257)
    × (l.tables ≡ record l.initial.tables {
      calls = record l.initial.tables.calls {
        calls = map (lost_below l.initial.tables.services.services l.domain.0 l.number) l.initial.tables.calls.calls;
      };
    })
