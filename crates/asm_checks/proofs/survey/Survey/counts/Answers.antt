use Rattle.std.proofs.Common.{refl}
use Rattle.asm_checks.specs.Faults.{counts_after}
use Rattle.asm_checks.proofs.survey.Survey.counts.Goals as goal

pub returns : goal.returns
unfolding counts_after
returns c past after f = rw (c.pc.ensures past after f, c.catches.ensures past after f, f.interfaces, f.fields, f.members) refl
