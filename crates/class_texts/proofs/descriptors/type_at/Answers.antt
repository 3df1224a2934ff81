use Rattle.std.proofs.Common.{◌∙◌}
use Rattle.class_texts.proofs.Shapes.{type_next, type_some, type_ends, tail}
use Rattle.class_texts.proofs.descriptors.type_at.Goals as goal

pub loop-i-preserved : goal.loop-i-preserved
loop-i-preserved c = type_next c.args.text.now c.loop-i.i _ c.loop-i-test.true c.if-unit-ne-BRACKET.false c.loop-i.invariant

pub returns-then-unit-ne-BRACKET : goal.returns-then-unit-ne-BRACKET
returns-then-unit-ne-BRACKET c =
    c.base_at.ensures ∙ rw tail (type_some c.args.text.now c.loop-i.i _ c.loop-i-test.true c.if-unit-ne-BRACKET.true c.loop-i.invariant)

pub returns : goal.returns
returns c = type_ends c.args.text.now c.loop-i.i _ c.loop-i-test.false c.loop-i.invariant
