use Rattle.std.proofs.Common.{◌≡◌, ◌+◌, drop, length}
use Rattle.class_grammar.specs.ModifiedUtf8.{modified_utf8}
use Rattle.class_texts.proofs.utf8.utf8_length.Given as goal

abbrev pub invariant-loop-unit : goal.invariant-loop-unit
invariant-loop-unit l = l.total + length (modified_utf8 (drop l.unit-index l.text)) ≡ length (modified_utf8 l.text)
