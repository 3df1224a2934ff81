use Rattle.std.proofs.Common.{◌≡◌, ◌-◌, length, drop}
use Rattle.class_grammar.specs.CodeGrammar.{keys_rise}
use Rattle.code_reader.proofs.switches.rises.Given as goal

abbrev pub invariant-loop-i : goal.invariant-loop-i
invariant-loop-i l = keys_rise (drop l.i l.pairs) ≡ keys_rise l.pairs

abbrev pub decreases-loop-i : goal.decreases-loop-i
decreases-loop-i l = length l.initial.pairs - l.i
