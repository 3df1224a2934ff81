use Rattle.asm_bytes.specs.Files.{operand_bytes}
use Rattle.asm_bytes.proofs.Appended.{one_put, all_put}
use Rattle.asm_bytes.proofs.code.push_operands.Goals as goal

pub loop-operand-preserved : goal.loop-operand-preserved
loop-operand-preserved c =
    one_put (operand_bytes c.args.pool.now c.args.marks.now c.args.pc) c.args.operands.now c.loop-operand.operand-index c.operand-item.result
    c.loop-operand.bytes.items _ c.args.bytes.now.items c.loop-operand-test.true c.operand-item.is c.in_ok-push_operand.ensures c.loop-operand.invariant

pub returns : goal.returns
returns c =
    all_put (operand_bytes c.args.pool.now c.args.marks.now c.args.pc) c.args.operands.now c.loop-operand.operand-index c.loop-operand.bytes.items c.args.bytes.now.items
    c.loop-operand-test.false c.loop-operand.invariant
