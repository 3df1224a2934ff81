use Rattle.std.proofs.Common.{arith}
use Rattle.std.proofs.lemmas.List.{map_push, take_rest, length-drop}
use Rattle.asm_words.proofs.WordEnds.{pushed}
use Rattle.asm_words.proofs.words.words_of.Goals as goal

pub loop-end-preserved : goal.loop-end-preserved
loop-end-preserved c = record {
  within = simp (take_rest, length-drop) (omega arith);
  so_far = rw (c.in_ok-push.ensures.items, map_push, take_rest) (pushed _ _ _ _ _ c.in-Some.ensures.splits c.loop-end.invariant.so_far);
}
