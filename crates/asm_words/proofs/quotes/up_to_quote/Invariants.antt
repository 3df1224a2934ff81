use Rattle.std.proofs.Common.{◌≡◌, ◌++◌, length}
use Rattle.std.specs.Prelude.{option_map}
use Rattle.asm_words.specs.Quotes.{up_to_quote}
use Rattle.asm_words.proofs.quotes.up_to_quote.Given as goal

abbrev pub invariant-loop-rest : goal.invariant-loop-rest
invariant-loop-rest l = option_map (λ units. l.units.items ++ units) (up_to_quote l.rest) ≡ up_to_quote l.quoted

abbrev pub decreases-loop-rest : goal.decreases-loop-rest
decreases-loop-rest l = length l.rest
