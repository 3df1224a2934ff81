use Rattle.std.proofs.Common.{◌∙◌, arith}
use Rattle.jx_model.specs.Tables.{ObjectRecord}
use Rattle.table_reads.specs.TableReads.{flag_at}
use Rattle.memory_objects.proofs.RowLists.{test_past, test_there}
use Rattle.memory_objects.proofs.records.is_held.Goals as goal

pub returns-in-Some-get-clause-held : goal.returns-in-Some-get-clause-held
returns-in-Some-get-clause-held c =
    let x = c.in-Some.ensures in
    let read = c.in-Some-get.ensures.lookup in
    c.is_held_by.ensures.held ∙ test_there (λ (r : ObjectRecord). flag_at r.holders c.args.domain) c.args.records.now c.args.object c.in-Some.place c.in-Some-get.row.now x.0 x.1 read.3.0 read.1

pub returns-in-None-get-clause-held : goal.returns-in-None-get-clause-held
returns-in-None-get-clause-held c =
    let x = c.in-Some.ensures in
    let past = c.in-None-get.ensures.lookup.3 in
    test_past (λ (r : ObjectRecord). flag_at r.holders c.args.domain) c.args.records.now c.args.object (λ _. omega (arith, x.1, past))

pub returns-in-None-clause-held : goal.returns-in-None-clause-held
returns-in-None-clause-held c = let zero = c.in-None.ensures in test_past (λ (r : ObjectRecord). flag_at r.holders c.args.domain) c.args.records.now c.args.object (λ one. absurd (zero one))
