use Rattle.std.proofs.Common.{◌∙◌, Some, None, sym}
use Rattle.interp_core.specs.Cores.{core_state}
use Rattle.machine_replies.proofs.Exporting.{exported_at}
use Rattle.machine_replies.proofs.exports.exported_by.Goals as goal

pub returns-in-Some : goal.returns-in-Some
returns-in-Some c = c.object_of_value.ensures ∙ sym (exported_at (core_state c.args.core.now) (Some c.in-Some.value) (sym c.peek.ensures ∙ c.in-Some.is))

pub returns-in-None : goal.returns-in-None
returns-in-None c = sym (exported_at (core_state c.args.core.now) None (sym c.peek.ensures ∙ c.in-None.is))
