use Rattle.std.proofs.Common.{◌≡◌, ◌≤◌, ◌++◌, map, length}
use Rattle.asm_words.specs.Words.{words_of}
use Rattle.asm_words.proofs.words.words_of.Given as goal

abbrev pub invariant-loop-end : goal.invariant-loop-end
invariant-loop-end l = record {
  within : length l.rest ≤ length l.line;
  so_far : map (λ word. word.now) l.words.items ++ words_of l.rest ≡ words_of l.line;
}

abbrev pub decreases-loop-end : goal.decreases-loop-end
decreases-loop-end l = length l.rest
