use Rattle.std.proofs.Common.{◌∙◌, sym}
use Rattle.nucleus_calls.proofs.Asked.{caller_lives, no_caller}
use Rattle.nucleus_calls.proofs.asking.has_live_caller.Goals as goal

pub returns-in-Some : goal.returns-in-Some
returns-in-Some c =
    c.lives.ensures ∙ caller_lives c.args.system.now c.args.tables.now c.requires c.args.call.0 c.in-Some.call (sym c.call.ensures ∙ c.in-Some.is)

pub returns-in-None : goal.returns-in-None
returns-in-None c = no_caller c.args.system.now c.args.tables.now c.requires c.args.call.0 (sym c.call.ensures ∙ c.in-None.is)
