use Rattle.program_types.proofs.VainWalks.{none_noted}
use Rattle.program_types.proofs.classes.is_below.Goals as goal

pub reaches-requires : goal.reaches-requires
reaches-requires c = none_noted c.args.system.now c.args.above 512
