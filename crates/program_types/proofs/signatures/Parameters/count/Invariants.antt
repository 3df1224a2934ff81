use Rattle.std.proofs.Common.{◌≡◌, ◌+◌, ◌<◌, ◌^◌, [], false, length}
use Rattle.program_model.specs.Types.{signature_from}
use Rattle.program_types.proofs.signatures.Parameters.count.Given as goal

abbrev pub invariant-loop-behind : goal.invariant-loop-behind
invariant-loop-behind l = (l.count + length (signature_from [] false l.rest).parameters ≡ length l.self.parameters) × (l.count + length l.rest < 2 ^ 63)

abbrev pub decreases-loop-behind : goal.decreases-loop-behind
decreases-loop-behind l = length l.rest
