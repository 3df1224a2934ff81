use Rattle.std.proofs.Common.{◌≡◌, take, drop}
use Rattle.asm_words.specs.Words.{words_from, words_of}
use Rattle.asm_words.proofs.WordEnds.{continued}
use Rattle.asm_words.proofs.words.word_end.Given as goal

abbrev pub invariant-loop-i : goal.invariant-loop-i
invariant-loop-i l = words_of l.line ≡ continued (take l.i l.line) (words_from l.position (drop l.i l.line))
