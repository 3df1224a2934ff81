use Rattle.std.proofs.Common.{rules}
use Rattle.std.proofs.lemmas.Iterator.{YieldsList-from_slice}
use Rattle.std.proofs.lemmas.Iterator.Search.{any_from_yields_List}
use Rattle.asm_bodies.specs.Bodies.{is_far_operand}
use Rattle.asm_bodies.proofs.distances.has_far_operand.Goals as goal

pub returns : goal.returns
returns c =
    any_from_yields_List (is_far_operand c.args.marks.now c.args.pc) _ _ _ c.any.ensures.ran (YieldsList-from_slice c.args.operands.now cc) (λ x b q k. search rules)
