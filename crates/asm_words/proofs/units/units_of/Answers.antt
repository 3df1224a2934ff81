use Rattle.asm_words.proofs.Utf16.{none_of, all_of, is_utf8_behind, goes_on, is_done}
use Rattle.asm_words.proofs.units.units_of.Goals as goal

pub returns-in_default : goal.returns-in_default
returns-in_default c = none_of c.args.line.now c.in_default.ensures.cases.0

pub loop-unit-preserved : goal.loop-unit-preserved
loop-unit-preserved c = record {
  is_utf8 = is_utf8_behind c.in-Some.unit _ _ _ _ c.loop-unit.invariant.is_utf8 c.in-Some.ensures.steps;
  units = rw c.in_ok-push.ensures.items (goes_on c.loop-unit.units.items c.in-Some.unit _ _ _ _ _ c.loop-unit.invariant.is_utf8 c.in-Some.ensures.steps c.loop-unit.invariant.units);
}

pub returns : goal.returns
returns c = all_of c.args.line.now c.loop-unit.units.items c.in-Ok.ensures.cases.1 (is_done _ _ _ _ c.in-None.ensures.steps.0 c.in-None.ensures.steps.1 c.loop-unit.invariant.units)
