use Rattle.asm_bytes.specs.Files.{heading_bytes}
use Rattle.asm_bytes.proofs.Appended.{Put}
use Rattle.asm_bytes.proofs.file.push_headings.Given as goal

abbrev pub invariant-loop-line : goal.invariant-loop-line
invariant-loop-line l = Put (heading_bytes l.pool) l.lines l.line-index l.bytes.items l.initial.bytes.items
