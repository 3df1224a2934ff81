use Rattle.std.proofs.Common.{arith, ap, ◌∙◌, ◌≡◌, ◌+◌, [], false, length}
use Rattle.program_model.specs.Types.{signature_from}
use Rattle.program_types.proofs.SignatureSteps.{one_parameter}
use Rattle.program_types.proofs.signatures.Parameters.count.Goals as goal

pub loop-behind-preserved : goal.loop-behind-preserved
loop-behind-preserved c =
    let one : length (signature_from [] false c.loop-behind.rest.now).parameters ≡ 1 + length (signature_from [] false c.in-Parameter.behind.now).parameters =
    ap (λ x. length x.parameters) c.in-Parameter.ensures.signature ∙ one_parameter c.in-Parameter.field-0.now (signature_from [] false c.in-Parameter.behind.now) in
    (omega (arith, one, c.loop-behind.invariant.0), omega (arith, c.in-Parameter.ensures.shorter, c.loop-behind.invariant.1))
