use Rattle.std.proofs.Common.{◌∙◌, sym}
use Rattle.nucleus_tables.proofs.PermittedCalls.{no_resumer, resumer_is, waiter_is}
use Rattle.nucleus_tables.specs.Inner.{past_in}
use Rattle.nucleus_tables.proofs.tables.Tables.resuming.Goals as goal

pub returns-then-is_resumable : goal.returns-then-is_resumable
returns-then-is_resumable c =
    resumer_is (past_in c.args.self.now) c.args.domain.0 c.args.call.0 _ (sym c.is_resumable.ensures ∙ c.if-is_resumable.true)
    (c.waiting.ensures ∙ waiter_is c.args.system.now c.args.self.now c.requires.tables c.args.domain.0 c.args.call.0 c.requires.live)

pub returns-else-is_resumable : goal.returns-else-is_resumable
returns-else-is_resumable c = no_resumer (past_in c.args.self.now) c.args.domain.0 c.args.call.0 (sym c.is_resumable.ensures ∙ c.if-is_resumable.false)
