use Rattle.std.proofs.Common.{◌≡◌, ℕ, length, take, get_or, false}
use Rattle.std.specs.Prelude.{pos}
use Rattle.class_grammar.specs.CodeGrammar.{starts_at}
use Rattle.code_reader.proofs.targets.starts_of.Given as goal

abbrev pub invariant-loop-instr : goal.invariant-loop-instr
invariant-loop-instr l = (length l.starts.items ≡ l.size) × ((n : ℕ) → get_or l.starts.items n false ≡ starts_at (take l.instr-index l.instrs) (pos n))
