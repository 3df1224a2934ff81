use Rattle.std.proofs.Common.{◌∙◌, sym}
use Rattle.machine_start.proofs.Members.{declared_some, declared_none}
use Rattle.machine_start.proofs.groups.is_declared_at.Goals as goal

pub returns-in-Some : goal.returns-in-Some
returns-in-Some c = declared_some c.args.system.now c.args.class c.args.method c.in-Some.declaring (sym c.class_of_method.ensures ∙ c.in-Some.is)

pub returns-in-None : goal.returns-in-None
returns-in-None c = declared_none c.args.system.now c.args.class c.args.method (sym c.class_of_method.ensures ∙ c.in-None.is)
