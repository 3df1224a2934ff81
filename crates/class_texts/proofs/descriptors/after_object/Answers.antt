use Rattle.class_texts.proofs.Shapes.{object_next, object_none, object_some, object_ends, tail}
use Rattle.class_texts.proofs.descriptors.after_object.Goals as goal

pub loop-i-preserved : goal.loop-i-preserved
loop-i-preserved c = object_next c.args.text.now c.loop-i.i _ c.loop-i-test.true c.if-unit-eq-SEMICOLON.false c.loop-i.invariant

pub returns-then-i-eq0 : goal.returns-then-i-eq0
returns-then-i-eq0 c n = object_none n c.args.text.now c.loop-i.i _ c.loop-i-test.true c.if-unit-eq-SEMICOLON.true c.if-i-eq0.true c.loop-i.invariant

pub returns-else-i-eq0 : goal.returns-else-i-eq0
returns-else-i-eq0 c n =
    rw tail (object_some n c.args.text.now c.loop-i.i _ c.loop-i-test.true c.if-unit-eq-SEMICOLON.true c.if-i-eq0.false c.loop-i.invariant)

pub returns : goal.returns
returns c n = object_ends n c.args.text.now c.loop-i.i _ c.loop-i-test.false c.loop-i.invariant
