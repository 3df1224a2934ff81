use Rattle.std.proofs.Common.{◌≡◌, ℕ, ◌<◌, false}
use Rattle.std.specs.Str.{bytes_eq}
use Rattle.class_grammar.specs.Opcodes.{opcode_at}
use Rattle.asm_lines.proofs.instructions.opcode_named.Given as goal

abbrev pub invariant-loop-number : goal.invariant-loop-number
invariant-loop-number l = (k : ℕ) → k < l.number → bytes_eq l.word (opcode_at k).mnemonic ≡ false
