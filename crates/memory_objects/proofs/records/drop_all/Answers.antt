use Rattle.std.proofs.Common.{◌≡◌, ◌∙◌, ◌+◌, ◌<◌, ◌≤◌, refl, ap, suc, ℕ, List, false, length, arith}
use Rattle.std.proofs.lemmas.List.{length-map}
use Rattle.jx_model.specs.Tables.{ObjectRecord}
use Rattle.memory_objects.specs.ObjectLists.{with_holder}
use Rattle.memory_objects.specs.Rows.{record_of, records_of}
use Rattle.memory_objects.proofs.RowLists.{changed_all, changed_more, changed_up_to, row_changed}
use Rattle.table_threads.specs.Changes.{changed_at}
use Rattle.memory_objects.proofs.records.drop_all.Goals as goal

pub loop-place-init : goal.loop-place-init
loop-place-init c = refl

pub loop-place-preserved : goal.loop-place-preserved
loop-place-preserved c =
    let f : ObjectRecord → ObjectRecord = with_holder c.args.domain false in
    let k = c.loop-place.place in
    let rows = c.loop-place.records in
    let olds : List ObjectRecord = records_of c.args.records.now in
    let below : k < length rows = omega (arith, c.loop-place-test.true, c.loop-place.auto.records) in
    let more : suc k ≡ k + 1 = omega arith in
    row_changed f rows k c.with_holder.result below c.with_holder.ensures
    ∙ ap (changed_at k f) c.loop-place.invariant
    ∙ changed_more k f olds
    ∙ ap (λ (n : ℕ). changed_up_to n f olds) more

pub returns : goal.returns
returns c =
    let rows = c.args.records.now in
    let past : length (records_of rows) ≤ c.loop-place.place = omega (arith, c.loop-place-test.false, length-map rows record_of) in
    c.loop-place.invariant ∙ changed_all c.loop-place.place (with_holder c.args.domain false) (records_of rows) past
