use Rattle.std.proofs.Common.{◌∙◌, refl, sym}
use Rattle.asm_checks.specs.Faults.{kind_at}
use Rattle.asm_checks.proofs.survey.Survey.fault_at.Goals as goal

pub returns-in-Some : goal.returns-in-Some
unfolding kind_at
returns-in-Some c past after f pool = rw (sym c.own_fault.ensures ∙ c.in-Some.is) refl
