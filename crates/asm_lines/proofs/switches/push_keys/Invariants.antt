use Rattle.std.proofs.Common.{◌≡◌, length, None}
use Rattle.asm_lines.specs.Readings.{texts}
use Rattle.asm_lines.proofs.Targets.{with_keys}
use Rattle.asm_lines.proofs.switches.push_keys.Given as goal

abbrev pub invariant-loop-rest : goal.invariant-loop-rest
invariant-loop-rest l = with_keys l.operands.items l.before (texts l.rest) ≡ with_keys l.initial.operands.items None (texts l.pairs)

abbrev pub decreases-loop-rest : goal.decreases-loop-rest
decreases-loop-rest l = length l.rest
