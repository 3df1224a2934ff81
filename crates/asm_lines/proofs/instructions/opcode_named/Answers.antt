use Rattle.std.proofs.Common.{arith}
use Rattle.asm_lines.proofs.Mnemonics.{is_nothing, is_found, is_not_found}
use Rattle.asm_lines.proofs.instructions.opcode_named.Goals as goal

pub returns-then-is_empty : goal.returns-then-is_empty
returns-then-is_empty c = is_nothing _ (cc)

pub returns-then-is_text : goal.returns-then-is_text
returns-then-is_text c = is_found c.args.word.now c.loop-number.number (cc) (omega arith) c.loop-number.invariant (cc)

pub returns : goal.returns
returns c = is_not_found c.args.word.now (cc) (λ k h. c.loop-number.invariant k (omega arith))
