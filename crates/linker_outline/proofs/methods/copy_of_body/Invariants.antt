use Rattle.std.proofs.Common.{◌≡◌, take}
use Rattle.linker_outline.proofs.methods.copy_of_body.Given as goal

abbrev pub invariant-loop-instr : goal.invariant-loop-instr
invariant-loop-instr l = l.copies.items ≡ take l.instr-index l.instrs
