use Rattle.std.proofs.Common.{◌≡◌, ◌-◌, ◌≤◌, length}
use Rattle.class_grammar.specs.Parts.{repeated}
use Rattle.class_grammar.specs.CodeGrammar.{key_operands}
use Rattle.class_grammar.specs.Parts.{with_front}
use Rattle.code_reader.proofs.switches.with_keys.Given as goal

abbrev pub invariant-loop : goal.invariant-loop
invariant-loop l = (with_front l.operands.items ((repeated (l.count - l.counter) (key_operands l.pc)).reads l.rest) ≡ with_front l.initial.operands.items ((repeated l.count (key_operands l.pc)).reads l.bytes)) × (length l.rest ≤ length l.bytes)
