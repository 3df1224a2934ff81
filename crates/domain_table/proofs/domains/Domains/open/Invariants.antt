use Rattle.std.proofs.Common.{◌≡◌, [], replicate}
use Rattle.domain_table.proofs.domains.Domains.open.Given as goal

abbrev pub invariant-loop : goal.invariant-loop
invariant-loop l = l.threads.items ≡ replicate l.counter (record { records = []; room = 2049 })
