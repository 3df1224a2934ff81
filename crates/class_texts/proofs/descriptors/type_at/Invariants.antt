use Rattle.std.proofs.Common.{◌≡◌, drop}
use Rattle.class_grammar.specs.Descriptors.{type_at}
use Rattle.class_texts.proofs.descriptors.type_at.Given as goal

abbrev pub invariant-loop-i : goal.invariant-loop-i
invariant-loop-i l = type_at l.i (drop l.i l.text) ≡ type_at 0 l.text
