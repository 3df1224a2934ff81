use Rattle.std.proofs.Common.{◌≡◌, [], false, length}
use Rattle.program_model.specs.Types.{signature_from}
use Rattle.program_types.proofs.signatures.Parameters.result.Given as goal

abbrev pub invariant-loop-behind : goal.invariant-loop-behind
invariant-loop-behind l = (signature_from [] false l.rest).result ≡ l.self.result

abbrev pub decreases-loop-behind : goal.decreases-loop-behind
decreases-loop-behind l = length l.rest
