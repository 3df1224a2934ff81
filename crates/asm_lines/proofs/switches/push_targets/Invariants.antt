use Rattle.std.proofs.Common.{◌≡◌, drop}
use Rattle.asm_lines.specs.Readings.{texts}
use Rattle.asm_lines.proofs.Targets.{with_targets}
use Rattle.asm_lines.proofs.switches.push_targets.Given as goal

abbrev pub invariant-loop-label : goal.invariant-loop-label
invariant-loop-label l = with_targets l.operands.items (texts (drop l.label-index l.labels)) ≡ with_targets l.initial.operands.items (texts l.labels)
