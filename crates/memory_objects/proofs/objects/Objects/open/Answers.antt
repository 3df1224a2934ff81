use Rattle.std.proofs.Common.{ℕ, ◌≡◌, [], ap, List, length, arith}
use Rattle.memory_objects.specs.declared.rows.HoldRow.{HoldRow}
use Rattle.memory_objects.specs.declared.rows.PartRow.{PartRow}
use Rattle.memory_objects.specs.Rows.{parts_of, records_of}
use Rattle.memory_objects.proofs.Nodes.{tree_empty}
use Rattle.memory_objects.proofs.objects.Objects.open.Goals as goal

pub invariant_of-result : goal.invariant_of-result
invariant_of-result c =
    let parts : c.in_ok-with_capacity.field-0.items ≡ [] = c.in_ok-with_capacity.ensures.items in
    let records : c.in_ok-with_capacity-2.field-0.items ≡ [] = c.in_ok-with_capacity-2.ensures.items in
    let extents : c.in_ok-with_capacity-3.field-0.items ≡ [] = c.in_ok-with_capacity-3.ensures.items in
    let no_parts = ap (λ (xs : List PartRow). length xs) parts in
    let no_records = ap (λ (xs : List HoldRow). length xs) records in
    let no_extents = ap (λ (xs : List ℕ). length xs) extents in
    record {
      count = omega (arith, no_parts, no_records);
      few = omega (arith, no_parts);
      extents = omega (arith, no_extents);
      part_room = omega (arith, c.in_ok-with_capacity.ensures.exact);
      record_room = omega (arith, c.in_ok-with_capacity-2.ensures.exact);
      extent_room = omega (arith, c.in_ok-with_capacity-3.ensures.exact);
      tree = tree_empty (parts_of c.in_ok-with_capacity.field-0.items) (records_of c.in_ok-with_capacity-2.field-0.items) (ap parts_of parts);
    }
