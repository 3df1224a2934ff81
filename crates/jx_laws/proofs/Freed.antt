-- Granules in use lie apart; an extent goes out of use only where it is unheld, and then for ever.
use Rattle.std.proofs.Common.{subst, ◌∷◌}
use Rattle.jx_base.specs.declared.program.System.{System}
use Rattle.jx_base.specs.Histories.{Past}
use Rattle.jx_model.specs.Legal.{IsAdmittedPast}
use Rattle.jx_laws.specs.Laws.{FreedHolds}
use Rattle.jx_model.proofs.Growing.{moment, before_admitted, start_admitted}
use Rattle.jx_laws.proofs.InUse.{unheld, stays_out}
use Rattle.jx_laws.proofs.Runs.{runs_apart}

-- granules in use lie apart; an extent goes out of use only where it is unheld, and then for ever
pub freed_holds : (s : System) (whole : Past) → IsAdmittedPast s whole → FreedHolds s whole
freed_holds s whole h =
    record {
      apart = λ past later q. runs_apart s past (start_admitted s later past (subst (λ (p : Past). IsAdmittedPast s p) q h));
      unheld = λ e past x m q. unheld (e ∷ past) x q;
      final = λ e past x m l u q. stays_out s past e x (moment s whole e past h m, before_admitted s whole e past h m) u q;
    }
