use Rattle.std.proofs.Common.{◌≡◌, ◌++◌, length}
use Rattle.std.specs.Prelude.{option_map}
use Rattle.class_grammar.specs.ModifiedUtf8.{text_of_bytes}
use Rattle.class_texts.proofs.utf8.text_in.Given as goal

abbrev pub invariant-loop-rest : goal.invariant-loop-rest
invariant-loop-rest l = option_map (λ units. l.units.items ++ units) (text_of_bytes l.rest) ≡ text_of_bytes l.bytes

abbrev pub decreases-loop-rest : goal.decreases-loop-rest
decreases-loop-rest l = length l.rest
