use Rattle.std.proofs.Common.{arith}
use Rattle.std.proofs.lemmas.List.{map_push, take_rest, length-drop}
use Rattle.asm_words.proofs.Lines.{goes_on, has_last, is_done}
use Rattle.asm_words.proofs.words.lines_of.Goals as goal
use Rattle.asm_words.proofs.words.lines_of.Goals.{then-not-is_empty+in_ok-push-2, else-not-is_empty}

pub loop-end-preserved : goal.loop-end-preserved
loop-end-preserved c = record {
  within = simp (take_rest, length-drop) (omega arith);
  so_far = rw (c.in_ok-push.ensures.items, map_push, take_rest) (goes_on _ c.loop-end.rest.now c.in-Some.end _ c.in-Some.ensures.first c.loop-end.invariant.so_far);
}

pub returns : goal.returns
returns c = elim c.if-not-is_empty.branch [
  | then-not-is_empty+in_ok-push-2 w ↦
      rw (w.lines-is, w.in_ok-push-2.ensures.items, map_push) (has_last _ c.loop-end.rest.now _ c.in_default.ensures.first (cc) c.loop-end.invariant.so_far)
  | else-not-is_empty w ↦ rw (w.lines-is) (is_done _ c.loop-end.rest.now _ (cc) c.loop-end.invariant.so_far)
]
