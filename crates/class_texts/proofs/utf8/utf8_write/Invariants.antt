use Rattle.std.proofs.Common.{◌≡◌, ◌++◌, drop}
use Rattle.class_grammar.specs.ModifiedUtf8.{modified_utf8}
use Rattle.class_texts.proofs.utf8.utf8_write.Given as goal

abbrev pub invariant-loop-unit : goal.invariant-loop-unit
invariant-loop-unit l = l.bytes.items ++ modified_utf8 (drop l.unit-index l.text) ≡ modified_utf8 l.text
