use Rattle.std.proofs.Common.{length, ap, arith}
use Rattle.class_grammar.specs.Constants.{constant_length}
use Rattle.class_reader.proofs.constants.utf8_at.Goals as goal

pub returns-in-Some-clause-long : goal.returns-in-Some-clause-long
unfolding constant_length
returns-in-Some-clause-long c =
    let h = rw c.in-Some.is at c.in_ok-text.ensures.spells in
    omega (arith, ap length h.spelled, c.in_ok-bytes.ensures.front, c.in_ok-bytes.ensures.rest, c.in_ok-n.ensures.rest)
