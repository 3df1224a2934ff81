use Rattle.std.proofs.Common.{arith}
use Rattle.std.proofs.lemmas.Int.{ints}
use Rattle.asm_words.proofs.Magnitudes.{is_bounded, is_positive}
use Rattle.asm_words.proofs.numbers.positive.Goals as goal

pub returns : goal.returns
returns c =
    let b = is_bounded _ _ c.in_ok-magnitude.ensures in is_positive _ c.in_ok-magnitude.field-0 _ c.in_ok-magnitude.ensures (omega (arith, ints))
