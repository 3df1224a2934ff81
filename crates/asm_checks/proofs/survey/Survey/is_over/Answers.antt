use Rattle.std.proofs.Common.{refl}
use Rattle.asm_checks.specs.Faults.{is_over}
use Rattle.asm_checks.proofs.survey.Survey.is_over.Goals as goal

pub returns : goal.returns
unfolding is_over
returns c past after f pool =
    rw (c.fits.ensures, c.in_ok-is_too_much.ensures, c.counts.ensures past after f, pool) refl
