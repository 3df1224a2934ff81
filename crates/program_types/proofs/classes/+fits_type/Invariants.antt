use Rattle.std.proofs.Common.{length}
use Rattle.program_types.proofs.classes.+fits_type.Given as goal

abbrev pub decreases-fits_type : goal.decreases-fits_type
decreases-fits_type l = length l.kind.now
