use Rattle.std.proofs.Common.{length}
use Rattle.class_grammar.specs.CodeGrammar.{instructions_reading}
use Rattle.code_reader.proofs.CodeSteps.{IsLeft}
use Rattle.code_reader.proofs.instructions.instructions.Given as goal

abbrev pub invariant-loop-rest : goal.invariant-loop-rest
invariant-loop-rest l = IsLeft (length l.code) l.instrs.items l.rest (instructions_reading (length l.code) (length l.code) l.code)

abbrev pub decreases-loop-rest : goal.decreases-loop-rest
decreases-loop-rest l = length l.rest
