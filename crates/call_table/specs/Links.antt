-- How links change.
use Rattle.std.specs.Prelude.{ℕ, List, Option, Some, None}
use Rattle.call_table.specs.declared.links.Link.{Link}
use Rattle.table_threads.specs.Changes.{changed_at}

-- another number follows that one, where it is one
abbrev pub with_next : Option ℕ → Option ℕ → List Link → List Link
with_next None next links = links
with_next (Some i) next links = changed_at i (λ l. record l { next = next }) links

-- another number stands before that one, where it is one
abbrev pub with_prev : Option ℕ → Option ℕ → List Link → List Link
with_prev None prev links = links
with_prev (Some i) prev links = changed_at i (λ l. record l { prev = prev }) links
