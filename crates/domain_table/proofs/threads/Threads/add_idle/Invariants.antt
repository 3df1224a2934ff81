use Rattle.std.proofs.Common.{◌≡◌, ◌≤◌, ◌++◌, ◌+◌, length, map, replicate, vec_capacity}
use Rattle.domain_table.specs.DomainLists.{record_of}
use Rattle.table_threads.specs.ThreadChanges.{idle_record}
use Rattle.domain_table.proofs.threads.Threads.add_idle.Given as goal

abbrev pub invariant-loop : goal.invariant-loop
invariant-loop l =
    (map record_of l.self-inside.rows.items ≡ map record_of l.initial.self-inside.rows.items ++ map idle_record (replicate l.counter l.service))
    × ((length l.self-inside.rows.items ≡ length l.initial.self-inside.rows.items + l.counter)
    × ((l.self-inside.room ≡ l.initial.self-inside.room) × (vec_capacity l.initial.self-inside.rows ≤ vec_capacity l.self-inside.rows)))
