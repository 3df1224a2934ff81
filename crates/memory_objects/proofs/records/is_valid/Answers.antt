use Rattle.std.proofs.Common.{arith}
use Rattle.jx_model.specs.Tables.{ObjectRecord}
use Rattle.memory_objects.proofs.RowLists.{test_past, test_there}
use Rattle.memory_objects.proofs.records.is_valid.Goals as goal

pub returns-in-Some-get : goal.returns-in-Some-get
returns-in-Some-get c =
    let x = c.in-Some.ensures in
    let read = c.in-Some-get.ensures.lookup in
    test_there (λ (r : ObjectRecord). r.valid) c.args.records.now c.args.object c.in-Some.place c.in-Some-get.row.now x.0 x.1 read.3.0 read.1

pub returns-in-None-get : goal.returns-in-None-get
returns-in-None-get c =
    let x = c.in-Some.ensures in
    let past = c.in-None-get.ensures.lookup.3 in
    test_past (λ (r : ObjectRecord). r.valid) c.args.records.now c.args.object (λ _. omega (arith, x.1, past))

pub returns-in-None : goal.returns-in-None
returns-in-None c = let zero = c.in-None.ensures in test_past (λ (r : ObjectRecord). r.valid) c.args.records.now c.args.object (λ one. absurd (zero one))
