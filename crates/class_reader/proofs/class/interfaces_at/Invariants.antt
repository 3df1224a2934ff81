use Rattle.std.proofs.Common.{◌≡◌, ◌-◌, ◌≤◌, length}
use Rattle.class_grammar.specs.Parts.{repeated, with_front}
use Rattle.class_grammar.specs.ClassGrammar.{interface_part}
use Rattle.class_reader.proofs.class.interfaces_at.Given as goal

abbrev pub invariant-loop : goal.invariant-loop
invariant-loop l =
    let item = interface_part l.size l.constants in
    (with_front l.interfaces.items ((repeated (l.count - l.counter) item).reads l.rest) ≡ (repeated l.count item).reads l.bytes) × (length l.rest ≤ length l.bytes)
