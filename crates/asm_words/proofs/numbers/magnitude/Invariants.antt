use Rattle.std.proofs.Common.{◌≡◌, ◌-◌, ◌^◌, min, take, true}
use Rattle.std.specs.List.{list_all}
use Rattle.asm_words.specs.Numbers.{is_digit, value_of}
use Rattle.asm_words.proofs.numbers.magnitude.Given as goal

abbrev pub invariant-loop-unit : goal.invariant-loop-unit
invariant-loop-unit l = record {
  are_digits : list_all is_digit (take l.unit-index l.digits) ≡ true;
  value : l.total ≡ min (value_of (take l.unit-index l.digits)) (2 ^ 64 - 1);
}
