use Rattle.asm_bytes.specs.Files.{catch_bytes}
use Rattle.asm_bytes.proofs.Appended.{Put}
use Rattle.asm_bytes.proofs.catches.push_catches.Given as goal

abbrev pub invariant-loop-line : goal.invariant-loop-line
invariant-loop-line l = Put (catch_bytes l.pool l.marks) l.body l.line-index l.bytes.items l.initial.bytes.items
