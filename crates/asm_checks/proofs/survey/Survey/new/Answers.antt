use Rattle.std.proofs.Common.{refl}
use Rattle.asm_bodies.specs.Bodies.{open_body}
use Rattle.asm_bodies.specs.Lines.{count_of}
use Rattle.asm_checks.specs.Faults.{last_said}
use Rattle.asm_checks.proofs.survey.Survey.new.Goals as goal

pub returns : goal.returns
unfolding open_body count_of last_said
returns c after = record { last = refl; interfaces = refl; fields = refl; members = refl; body = refl }
