use Rattle.std.proofs.Common.{◌≡◌, drop}
use Rattle.std.specs.Prelude.{flat_map}
use Rattle.asm_bodies.specs.Needs.{operand_contents, with_all_needed}
use Rattle.asm_checks.proofs.needs.add_operands.Given as goal

abbrev pub invariant-loop-operand : goal.invariant-loop-operand
invariant-loop-operand l =
    with_all_needed l.pool (flat_map operand_contents (drop l.operand-index l.operands)) ≡ with_all_needed l.initial.pool (flat_map operand_contents l.operands)
