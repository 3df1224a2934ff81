use Rattle.std.proofs.Common.{◌≡◌, [], false}
use Rattle.program_model.specs.Types.{signature_from}
use Rattle.program_types.proofs.SignatureSteps.{from_unit}
use Rattle.program_types.proofs.signatures.front_of.Given as goal

abbrev pub invariant-loop-place : goal.invariant-loop-place
invariant-loop-place l = signature_from [] false l.units ≡ from_unit l.units l.in_name l.place
