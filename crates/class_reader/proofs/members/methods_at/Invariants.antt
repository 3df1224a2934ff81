use Rattle.std.proofs.Common.{◌≡◌, ◌-◌, ◌≤◌, length}
use Rattle.class_grammar.specs.Parts.{repeated, with_front}
use Rattle.class_grammar.specs.Members.{method_part}
use Rattle.class_reader.proofs.members.methods_at.Given as goal

abbrev pub invariant-loop : goal.invariant-loop
invariant-loop l =
    let item = method_part l.size l.constants l.interface in
    (with_front l.methods.items ((repeated (l.count - l.counter) item).reads l.rest) ≡ (repeated l.count item).reads l.bytes) × (length l.rest ≤ length l.bytes)
