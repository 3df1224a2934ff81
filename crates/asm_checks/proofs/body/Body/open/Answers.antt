use Rattle.std.proofs.Common.{◌∙◌, ap, refl}
use Rattle.asm_bodies.specs.Bodies.{has_label, pc_behind}
use Rattle.asm_bodies.specs.Lines.{count_of}
use Rattle.asm_checks.proofs.body.Body.open.Goals as goal

pub returns : goal.returns
unfolding has_label pc_behind count_of
returns c = record {
  pc = refl;
  catches = refl;
  seen = λ name. rw c.new.ensures.empty refl;
  whole = λ name. c.in_ok-whole.ensures name ∙ ap (has_label name) c.body_of.ensures.body;
}
