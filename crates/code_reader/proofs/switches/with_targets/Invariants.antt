use Rattle.std.proofs.Common.{◌≡◌, ◌-◌, ◌≤◌, length}
use Rattle.std.specs.Int.{w32}
use Rattle.class_grammar.specs.Parts.{repeated}
use Rattle.class_grammar.specs.CodeGrammar.{target_operand}
use Rattle.class_grammar.specs.Parts.{with_front}
use Rattle.code_reader.proofs.switches.with_targets.Given as goal

abbrev pub invariant-loop : goal.invariant-loop
invariant-loop l = (with_front l.operands.items ((repeated (l.count - l.counter) (target_operand w32 l.pc)).reads l.rest) ≡ with_front l.initial.operands.items ((repeated l.count (target_operand w32 l.pc)).reads l.bytes)) × (length l.rest ≤ length l.bytes)
