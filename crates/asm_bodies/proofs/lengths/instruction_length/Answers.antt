use Rattle.asm_bodies.proofs.LineByLine.{length_at_end}
use Rattle.asm_bodies.proofs.lengths.instruction_length.Goals as goal

pub returns : goal.returns
returns c =
    length_at_end c.args.pc c.args.instruction.now _ c.loop-operand.operand-index _ c.as_slice-operand-items.ensures c.loop-operand-test.false c.loop-operand.invariant
