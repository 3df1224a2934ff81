use Rattle.interp_obj.proofs.Mine.{either_rows}
use Rattle.interp_obj.proofs.laws.each_row_is_one_steps.Goals as goal

pub returns : goal.returns
returns c = either_rows c.args.row c.requires
