use Rattle.std.proofs.Common.{take, arith}
use Rattle.std.proofs.lemmas.List.{length-take-le}
use Rattle.class_asm.proofs.Within.{far_at}
use Rattle.class_asm.proofs.assembler.far_or.Goals as goal

pub asm_fault-requires : goal.asm_fault-requires
asm_fault-requires c =
    let lines = take c.args.before c.args.lines.now in
    omega (arith, c.requires.within, c.requires.few, length-take-le c.args.before c.args.lines.now c.requires.within, far_at lines _ c.in-Some.far c.in_ok-far.ensures c.in-Some.is)
