use Rattle.std.proofs.Common.{◌∙◌, ap, List}
use Rattle.std.specs.List.{position}
use Rattle.domain_table.specs.DomainLists.{ThreadsState, record_of, waits_for}
use Rattle.domain_table.specs.declared.rows.ThreadRow.{ThreadRow}
use Rattle.domain_table.proofs.Rooms.{position_map}
use Rattle.domain_table.proofs.threads.Threads.waiting.Goals as goal

pub returns : goal.returns
returns c =
    let rows = c.self.inside.rows.items in
    c.first_waiting.ensures
    ∙ ap (λ (rs : List ThreadRow). position (λ r. waits_for c.args.call.0 (record_of r)) rs) c.as_slice.ensures.value
    ∙ position_map record_of (waits_for c.args.call.0) rows
    ∙ ap (λ (x : ThreadsState). position (waits_for c.args.call.0) x.records) c.self.view_is
