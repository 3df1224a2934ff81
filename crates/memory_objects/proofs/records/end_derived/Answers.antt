use Rattle.std.proofs.Common.{◌≡◌, ◌∙◌, ◌+◌, ◌<◌, ◌≤◌, sym, ap, set, List, Some, get_or, length, slice_get, arith}
use Rattle.std.specs.Option.{option_map}
use Rattle.std.proofs.lemmas.List.{length-map, map-set}
use Rattle.std.proofs.lemmas.Option.{slice_get-get_or, slice_get-map}
use Rattle.jx_model.specs.MemoryObjects.{Part}
use Rattle.jx_model.specs.Tables.{ObjectRecord}
use Rattle.memory_objects.specs.declared.rows.HoldRow.{HoldRow}
use Rattle.memory_objects.specs.declared.rows.PartRow.{PartRow}
use Rattle.memory_objects.specs.Rows.{part_of, parts_of, record_of, records_of}
use Rattle.memory_objects.proofs.RowLists.{no_row}
use Rattle.memory_objects.proofs.Tree.{ended_all, ended_none, ended_set, ended_to, next_record}
use Rattle.memory_objects.proofs.UsedExtents.{no_part}
use Rattle.memory_objects.proofs.records.end_derived.Goals as goal

pub loop-place-init : goal.loop-place-init
loop-place-init c = sym (ended_none (parts_of c.args.parts.now) c.args.object (records_of c.args.records.now))

pub loop-place-preserved : goal.loop-place-preserved
loop-place-preserved c =
    let k = c.loop-place.place in
    let m = c.args.object in
    let part_rows = c.args.parts.now in
    let rows = c.loop-place.records in
    let parts : List Part = parts_of part_rows in
    let olds : List ObjectRecord = records_of c.args.records.now in
    let part : PartRow = get_or part_rows k no_part in
    let row : HoldRow = get_or rows k no_row in
    let old : HoldRow = get_or c.args.records.now k no_row in
    let in_parts : k < length part_rows = omega (arith, c.loop-place-test.true, c.requires.count) in
    let in_rows : k < length rows = omega (arith, c.loop-place-test.true, c.loop-place.auto.records) in
    let part_there : slice_get parts k ≡ Some (part_of part) = slice_get-map part_of part_rows k ∙ ap (option_map part_of) (slice_get-get_or part_rows k no_part in_parts) in
    let row_there : slice_get (records_of rows) k ≡ Some (record_of row) = slice_get-map record_of rows k ∙ ap (option_map record_of) (slice_get-get_or rows k no_row in_rows) in
    let old_there : slice_get olds k ≡ Some (record_of old) = slice_get-map record_of c.args.records.now k ∙ ap (option_map record_of) (slice_get-get_or c.args.records.now k no_row c.loop-place-test.true) in
    map-set record_of rows k c.valid_if.result
    ∙ ap (set (records_of rows) k) (c.valid_if.ensures ∙ next_record k m parts olds (records_of rows) (part_of part) (record_of old) (record_of row) c.can_stay-stays.result c.requires.tree part_there old_there c.loop-place.invariant row_there c.can_stay-stays.ensures)
    ∙ ap (λ (rs : List ObjectRecord). set rs k (ended_to (k + 1) parts m (1 + k) (record_of old))) c.loop-place.invariant
    ∙ ended_set k m parts olds (record_of old) old_there

pub returns : goal.returns
returns c =
    let rows = c.args.records.now in
    let past : length (records_of rows) ≤ c.loop-place.place = omega (arith, c.loop-place-test.false, length-map rows record_of) in
    c.loop-place.invariant ∙ ended_all c.loop-place.place c.args.object (parts_of c.args.parts.now) (records_of rows) past
