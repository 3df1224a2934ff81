use Rattle.std.proofs.Common.{◌≡◌, map, take}
use Rattle.asm_lines.specs.Lines.{meaning}
use Rattle.asm_lines.proofs.parse.meanings.Given as goal

abbrev pub invariant-loop-line : goal.invariant-loop-line
invariant-loop-line l = l.meant.items ≡ map meaning (map (λ line. line.now) (take l.line-index l.line-items))
