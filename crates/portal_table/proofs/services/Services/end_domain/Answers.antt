use Rattle.std.proofs.Common.{false, ◌≡◌, ◌∙◌, ◌++◌, ◌<◌, ap, refl, length, List, Some, slice_get, arith, map, suc, ◌+◌, ℕ}
use Rattle.std.specs.Prelude.{drop, take}
use Rattle.std.proofs.lemmas.List.{length-set}
use Rattle.std.proofs.lemmas.Option.{slice_get_read}
use Rattle.jx_model.specs.Tables.{ServiceRecord}
use Rattle.table_threads.specs.Changes.{changed_at}
use Rattle.portal_table.specs.ServiceLists.{without_holder}
use Rattle.portal_table.specs.ServicesInside.{record_of}
use Rattle.portal_table.specs.declared.services.Service.{Service}
use Rattle.portal_table.proofs.ServiceReads.{held_row, swept}
use Rattle.portal_table.proofs.services.Services.end_domain.Goals as goal

pub loop-place-preserved : goal.loop-place-preserved
loop-place-preserved c =
    let rows : List Service = c.loop-place.self-inside.services.items in
    let old : List ServiceRecord = map record_of c.self.inside.services.items in
    let i : ℕ = c.loop-place.place in
    let d : ℕ = c.args.domain.0 in
    let within : i < length rows = omega (arith, c.loop-place-test.true, c.loop-place.auto.place-end, c.len-place-end.ensures, c.loop-place.invariant.3, c.self.inside.services.ok.0) in
    let read : slice_get rows i ≡ Some c.index.result.now = slice_get_read rows (length rows) i c.index.result.now refl within c.index.ensures in
    let kept : slice_get rows i ≡ Some c.index_mut.result.now = slice_get_read rows (length rows) i c.index_mut.result.now refl within c.index_mut.ensures.value in
    let next : suc i ≡ i + 1 = omega arith in (
      held_row rows i d false c.index.result.now c.index_mut.result.now c.with.result read kept c.with.ensures
          ∙ ap (changed_at i (without_holder d)) c.loop-place.invariant.0
          ∙ swept (without_holder d) old i
          ∙ ap (λ (k : ℕ). map (without_holder d) (take k old) ++ drop k old) next,
      c.loop-place.invariant.1,
      c.loop-place.invariant.2,
      length-set rows i _ ∙ c.loop-place.invariant.3,
    )
