use Rattle.std.proofs.Common.{◌≡◌, ◌<◌, ◌∙◌, ap, refl, set, List, map, length, slice_get, Some, arith}
use Rattle.std.proofs.lemmas.List.{map-set, length-map}
use Rattle.std.proofs.lemmas.Option.{slice_get-map, slice_get_read}
use Rattle.std.specs.Option.{option_map}
use Rattle.jx_model.specs.Tables.{ThreadRecord}
use Rattle.domain_table.specs.declared.rows.ThreadRow.{ThreadRow}
use Rattle.domain_table.specs.DomainLists.{ThreadsState, record_of, with_state}
use Rattle.table_threads.specs.Changes.{changed_at}
use Rattle.table_threads.proofs.Records.{set_changed}
use Rattle.domain_table.proofs.threads.Threads.set_state.Goals as goal

pub returns : goal.returns
returns c =
    let rows : List ThreadRow = c.self.inside.rows.items in
    let t = c.args.thread in
    let row : ThreadRow = c.index-row.result.now in
    let count : length (map record_of rows) ≡ length c.args.self.now.records = ap (λ (x : ThreadsState). length x.records) c.self.view_is in
    let within : t < length rows = omega (arith, count, length-map rows record_of) in
    let there : slice_get rows t ≡ Some row = slice_get_read rows (length rows) t row refl within c.index-row.ensures in
    let records : map record_of (set rows t c.with_state.result) ≡ changed_at t (with_state c.args.state) (map record_of rows) =
    map-set record_of rows t c.with_state.result
    ∙ ap (λ (r : ThreadRecord). set (map record_of rows) t r) c.with_state.ensures
    ∙ set_changed t (with_state c.args.state) (map record_of rows) (record_of row) (slice_get-map record_of rows t ∙ ap (option_map record_of) there)
    in
    ap (λ (rs : List ThreadRecord). record { records = rs; room = c.self.inside.room }) records
    ∙ ap (λ (x : ThreadsState). record x { records = changed_at t (with_state c.args.state) x.records }) c.self.view_is
