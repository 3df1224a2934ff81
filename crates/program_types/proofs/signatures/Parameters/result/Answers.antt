use Rattle.std.proofs.Common.{sym, ap, ◌∙◌, [], false}
use Rattle.program_model.specs.Types.{signature_from}
use Rattle.program_types.proofs.SignatureSteps.{same_result}
use Rattle.program_types.proofs.signatures.Parameters.result.Goals as goal

pub loop-behind-preserved : goal.loop-behind-preserved
loop-behind-preserved c =
    sym (same_result c.in-Parameter.field-0.now (signature_from [] false c.in-Parameter.behind.now))
    ∙ ap (λ x. x.result) (sym c.in-Parameter.ensures.signature) ∙ c.loop-behind.invariant
