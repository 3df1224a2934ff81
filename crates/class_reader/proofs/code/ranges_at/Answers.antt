use Rattle.std.proofs.Common.{[], ◌∷◌, arith}
use Rattle.class_grammar.specs.Members.{range_part}
use Rattle.class_grammar.proofs.Repeats.{goes_on, is_done}
use Rattle.class_reader.proofs.code.ranges_at.Goals as goal

pub loop-preserved : goal.loop-preserved
loop-preserved c =
    let e = c.in_ok-push.ensures.items in
    (rw e (goes_on (range_part c.args.size c.args.cut c.args.constants.now) c.loop.ranges.items c.args.count c.loop.counter c.loop.rest.now (c.in_ok-range.range ∷ []) c.in_ok-range.after.now _ c.loop-test.true c.in_ok-range.ensures.read c.loop.invariant.0), omega (arith, c.in_ok-range.ensures.shorter))

pub returns-clause-read : goal.returns-clause-read
returns-clause-read c =
    rw c.from_vec.ensures (is_done (range_part c.args.size c.args.cut c.args.constants.now) c.loop.ranges.items c.args.count c.loop.counter c.loop.rest.now _ c.loop-test.false c.loop.invariant.0)
