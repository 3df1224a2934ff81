use Rattle.std.proofs.Common.{◌≡◌, ◌-◌, ◌≤◌, length}
use Rattle.std.specs.Prelude.{None}
use Rattle.class_grammar.specs.Members.{method_attributes}
use Rattle.class_reader.proofs.members.attributes_at.Given as goal

abbrev pub invariant-loop : goal.invariant-loop
invariant-loop l =
    ((method_attributes l.size l.constants l.may_have (l.count - l.counter) l.code).reads l.rest ≡ (method_attributes l.size l.constants l.may_have l.count None).reads l.bytes)
    × (length l.rest ≤ length l.bytes)
