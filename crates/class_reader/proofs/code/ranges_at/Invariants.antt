use Rattle.std.proofs.Common.{◌≡◌, ◌-◌, ◌≤◌, length}
use Rattle.class_grammar.specs.Parts.{repeated, with_front}
use Rattle.class_grammar.specs.Members.{range_part}
use Rattle.class_reader.proofs.code.ranges_at.Given as goal

abbrev pub invariant-loop : goal.invariant-loop
invariant-loop l =
    let item = range_part l.size l.cut l.constants in
    (with_front l.ranges.items ((repeated (l.count - l.counter) item).reads l.rest) ≡ (repeated l.count item).reads l.bytes) × (length l.rest ≤ length l.bytes)
