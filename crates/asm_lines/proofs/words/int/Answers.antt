use Rattle.std.proofs.Common.{arith}
use Rattle.std.proofs.lemmas.Int.{ints}
use Rattle.asm_lines.specs.Operands.{int_of}
use Rattle.asm_lines.proofs.Ranges.{bounds, is_within}
use Rattle.asm_lines.proofs.words.int.Goals as goal

pub overflow_cast-result : goal.overflow_cast-result
overflow_cast-result c = let b = bounds _ _ _ _ c.in-Some.ensures in omega (arith, ints)

pub returns-in-Some : goal.returns-in-Some
unfolding int_of
returns-in-Some c =
    let b = bounds _ _ _ _ c.in-Some.ensures in
    is_within _ _ _ _ _ _ _ c.in-Some.ensures (omega (arith, ints)) (omega (arith, ints)) (omega (arith, ints))
