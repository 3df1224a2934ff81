use Rattle.std.proofs.Common.{◌∙◌, ap, List}
use Rattle.std.specs.List.{position}
use Rattle.domain_table.specs.DomainLists.{ThreadsState, has_yielded, record_of}
use Rattle.domain_table.specs.declared.rows.ThreadRow.{ThreadRow}
use Rattle.domain_table.proofs.Rooms.{position_map}
use Rattle.domain_table.proofs.threads.Threads.yielded.Goals as goal

pub returns : goal.returns
returns c =
    let rows = c.self.inside.rows.items in
    c.first_yielded.ensures
    ∙ ap (λ (rs : List ThreadRow). position (λ r. has_yielded (record_of r)) rs) c.as_slice.ensures.value
    ∙ position_map record_of has_yielded rows
    ∙ ap (λ (x : ThreadsState). position has_yielded x.records) c.self.view_is
