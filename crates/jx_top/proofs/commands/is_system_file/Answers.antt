use Rattle.jx_top.proofs.CommandWords.{no_class_file}
use Rattle.jx_top.proofs.commands.is_system_file.Goals as goal

pub returns-in-None : goal.returns-in-None
returns-in-None c = no_class_file c.args.file.now _ c.in-None.ensures c.ends_with.ensures.cases
