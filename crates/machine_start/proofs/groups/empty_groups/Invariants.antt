use Rattle.std.proofs.Common.{◌≡◌, [], map, replicate}
use Rattle.machine_start.proofs.groups.empty_groups.Given as goal

abbrev pub invariant-loop : goal.invariant-loop
invariant-loop l = map (λ g. g.items) l.groups.items ≡ replicate l.counter []
