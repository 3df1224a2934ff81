use Rattle.std.proofs.Common.{sym, ◌∙◌}
use Rattle.asm_words.proofs.WordEnds.{begins, goes_on, ends_at, is_one}
use Rattle.asm_words.proofs.words.word_end.Goals as goal

pub loop-i-init : goal.loop-i-init
loop-i-init c = begins c.args.line.now

pub loop-i-preserved : goal.loop-i-preserved
loop-i-preserved c =
    goes_on c.loop-i.position c.in-Some.next c.args.line.now c.loop-i.i _ c.loop-i-test.true (sym c.in-Some.is ∙ c.position_behind.ensures) c.loop-i.invariant

pub returns-in-None-clause-splits : goal.returns-in-None-clause-splits
returns-in-None-clause-splits c =
    ends_at c.loop-i.position c.args.line.now c.loop-i.i _ c.loop-i-test.true (sym c.in-None.is ∙ c.position_behind.ensures) c.loop-i.invariant

pub returns-clause-splits : goal.returns-clause-splits
returns-clause-splits c = is_one c.loop-i.position c.args.line.now c.loop-i.i _ c.loop-i-test.false c.loop-i.invariant
