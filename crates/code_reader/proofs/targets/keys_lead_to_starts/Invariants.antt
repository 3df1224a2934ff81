use Rattle.std.proofs.Common.{◌≡◌, length}
use Rattle.std.specs.List.{list_all}
use Rattle.class_grammar.specs.CodeGrammar.{key_targets}
use Rattle.code_reader.specs.CodeReading.{is_marked}
use Rattle.code_reader.proofs.targets.keys_lead_to_starts.Given as goal

abbrev pub invariant-loop-rest : goal.invariant-loop-rest
invariant-loop-rest l = list_all (is_marked l.starts) (key_targets l.rest) ≡ list_all (is_marked l.starts) (key_targets l.pairs)

abbrev pub decreases-loop-rest : goal.decreases-loop-rest
decreases-loop-rest l = length l.rest
