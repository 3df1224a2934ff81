use Rattle.std.proofs.Common.{refl, arith}
use Rattle.std.proofs.lemmas.Bool.Decides.{nat_tests}
use Rattle.asm_words.specs.Numbers.{is_digit}
use Rattle.asm_words.proofs.Magnitudes.{begins, goes_on, digits_go_on, are_none, fails, ends}
use Rattle.asm_words.proofs.numbers.magnitude.Goals as goal

pub returns-then-is_empty : goal.returns-then-is_empty
returns-then-is_empty c = are_none c.args.digits.now (cc)

pub loop-unit-init : goal.loop-unit-init
loop-unit-init c = record { are_digits = refl; value = begins }

pub returns-then-not-is_digit : goal.returns-then-not-is_digit
returns-then-not-is_digit c = fails c.args.digits.now c.loop-unit.unit-index c.loop-unit-test.true (cc)

pub overflow_sub-unit : goal.overflow_sub-unit
unfolding is_digit
overflow_sub-unit c = grind (arith, nat_tests, c.is_digit.ensures, c.if-not-is_digit.false)

pub loop-unit-preserved : goal.loop-unit-preserved
loop-unit-preserved c = record {
  are_digits = digits_go_on c.args.digits.now c.loop-unit.unit-index c.loop-unit-test.true (cc) c.loop-unit.invariant.are_digits;
  value = rw (c.saturating_add-total.ensures, c.saturating_mul.ensures, c.from.ensures) (goes_on c.args.digits.now c.loop-unit.unit-index c.loop-unit.total c.loop-unit-test.true c.loop-unit.invariant.value);
}

pub returns : goal.returns
returns c = ends c.args.digits.now c.loop-unit.unit-index c.loop-unit.total (cc) c.loop-unit-test.false c.loop-unit.invariant.are_digits c.loop-unit.invariant.value
