use Rattle.std.proofs.Common.{◌≡◌, ◌-◌, length, arith}
use Rattle.class_grammar.specs.Descriptors.{types_at}
use Rattle.class_texts.proofs.Shapes.{types_next, types_fail, types_close, types_end, with_no}
use Rattle.class_texts.proofs.descriptors.types_at.Goals as goal

pub loop-init : goal.loop-init
loop-init c =
    let k : length c.args.text.now - 0 ≡ length c.args.text.now = omega arith in
    record { read = rw k (with_no (types_at (length c.args.text.now) c.args.text.now)); fits = omega arith }

pub loop-preserved : goal.loop-preserved
loop-preserved c = rw c.joined-tally.ensures (record {
  read = types_next (length c.args.text.now) c.loop.counter c.loop.tally c.in-Some-type_at.one c.loop.rest.now c.in-Some-type_at.after.now _ c.loop-test.true c.in-None.ensures c.in-Some-type_at.ensures c.loop.invariant.read;
  fits = omega arith;
})

pub returns-in-Some : goal.returns-in-Some
returns-in-Some c = types_close (length c.args.text.now - c.loop.counter) c.loop.tally c.loop.rest.now c.in-Some.after.now _ c.loop.invariant.fits c.in-Some.ensures c.loop.invariant.read

pub returns-in-None-type_at : goal.returns-in-None-type_at
returns-in-None-type_at c = types_fail (length c.args.text.now) c.loop.counter c.loop.tally c.loop.rest.now _ c.loop-test.true c.in-None.ensures c.in-None-type_at.ensures c.loop.invariant.read

pub returns-in-Some-after_closing : goal.returns-in-Some-after_closing
returns-in-Some-after_closing c = types_close (length c.args.text.now - c.loop.counter) c.loop.tally c.loop.rest.now c.in-Some-after_closing.after.now _ c.loop.invariant.fits c.in-Some-after_closing.ensures c.loop.invariant.read

pub returns-in-None-after_closing : goal.returns-in-None-after_closing
returns-in-None-after_closing c = types_end (length c.args.text.now) c.loop.counter c.loop.tally c.loop.rest.now _ c.loop-test.false c.in-None-after_closing.ensures c.loop.invariant.read
