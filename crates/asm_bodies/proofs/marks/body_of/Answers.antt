use Rattle.std.proofs.Common.{◌∙◌, sym}
use Rattle.asm_bodies.proofs.LineByLine.{ends_here, one_more, all_read}
use Rattle.asm_bodies.proofs.marks.body_of.Goals as goal

pub returns-then-ends-clause-body : goal.returns-then-ends-clause-body
returns-then-ends-clause-body c =
    ends_here c.args.lines.now c.loop-i.i c.index-lines-i.result c.loop-i-test.true c.index-lines-i.is (sym c.ends.ensures ∙ c.if-ends.true) c.loop-i.invariant

pub loop-i-preserved : goal.loop-i-preserved
loop-i-preserved c =
    one_more c.args.lines.now c.loop-i.i c.index-lines-i.result c.loop-i-test.true c.index-lines-i.is (sym c.ends.ensures ∙ c.if-ends.false) c.loop-i.invariant

pub returns-clause-body : goal.returns-clause-body
returns-clause-body c = all_read c.args.lines.now c.loop-i.i c.loop-i-test.false c.loop-i.invariant
