use Rattle.jx_top.proofs.CommandWords.{no_system}
use Rattle.jx_top.proofs.commands.system_behind.Goals as goal

pub returns-in_err-file : goal.returns-in_err-file
returns-in_err-file c = rw c.from_residual.ensures (no_system c.args.verb.now _ c.in_err-file.ensures)
