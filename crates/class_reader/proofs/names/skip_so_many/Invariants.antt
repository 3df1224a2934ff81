use Rattle.std.proofs.Common.{◌≡◌, ◌-◌, ◌≤◌, [], length}
use Rattle.class_grammar.specs.Parts.{repeated, with_front}
use Rattle.class_grammar.specs.Members.{skipped_attribute}
use Rattle.class_reader.proofs.names.skip_so_many.Given as goal

abbrev pub invariant-loop : goal.invariant-loop
invariant-loop l =
    let item = skipped_attribute l.size l.cut l.constants in
    (with_front [] ((repeated (l.count - l.counter) item).reads l.rest) ≡ (repeated l.count item).reads l.bytes) × (length l.rest ≤ length l.bytes)
