use Rattle.std.proofs.Common.{arith}
use Rattle.class_texts.proofs.TextLaws.{units_fit, written}
use Rattle.class_texts.proofs.utf8.utf8_write.Goals as goal

pub returns : goal.returns
returns c = record {
  spelled = written c.loop-unit.bytes.items c.args.text.now c.loop-unit.unit-index c.loop-unit-test.false c.loop-unit.invariant;
  are_units = units_fit c.args.text.now (λ i. omega (arith, c.type_inv.text i));
}
