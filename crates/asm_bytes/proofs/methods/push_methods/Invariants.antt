use Rattle.asm_bytes.proofs.MethodsOn.{Put}
use Rattle.asm_bytes.proofs.methods.push_methods.Given as goal

abbrev pub invariant-loop-i : goal.invariant-loop-i
invariant-loop-i l = Put l.pool l.lines l.i l.bytes.items l.initial.bytes.items
