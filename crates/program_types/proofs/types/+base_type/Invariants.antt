use Rattle.std.proofs.Common.{length}
use Rattle.program_types.proofs.types.+base_type.Given as goal

abbrev pub decreases-base_type : goal.decreases-base_type
decreases-base_type l = length l.kind.now
