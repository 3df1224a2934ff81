use Rattle.std.proofs.Common.{[], arith}
use Rattle.class_grammar.specs.Members.{skipped_attribute}
use Rattle.class_grammar.proofs.Repeats.{goes_on}
use Rattle.class_reader.proofs.names.skip_so_many.Goals as goal

pub loop-preserved : goal.loop-preserved
loop-preserved c =
    (goes_on (skipped_attribute c.args.size c.args.cut c.args.constants.now) [] c.args.count c.loop.counter c.loop.rest.now [] c.in_ok-rest.rest.now _ c.loop-test.true c.in_ok-rest.ensures.read c.loop.invariant.0, omega (arith, c.in_ok-rest.ensures.shorter))
