use Rattle.std.proofs.Common.{◌∙◌, ◌&&◌, sym, ap, Bool}
use Rattle.jx_base.proofs.BasicLaws.{ap2}
use Rattle.jx_model.specs.Replies.{holds_all}
use Rattle.nucleus_tables.specs.Inner.{past_in}
use Rattle.nucleus_calls.proofs.ServiceReplies.{holds_is}
use Rattle.nucleus_calls.proofs.asking.holds_asked.Goals as goal

pub returns-then-holds : goal.returns-then-holds
returns-then-holds c =
    ap2 (λ (a b : Bool). a && b) (sym c.if-holds.true ∙ c.holds.ensures ∙ holds_is c.args.system.now c.args.tables.now c.requires c.args.domain.0 c.args.service.0) c.holds_parcel.ensures

pub returns-else-holds : goal.returns-else-holds
returns-else-holds c =
    c.if-holds.false
    ∙ ap (λ (b : Bool). b && holds_all (past_in c.args.tables.now) c.args.domain.0 c.args.parcel.now)
    (sym c.if-holds.false ∙ c.holds.ensures ∙ holds_is c.args.system.now c.args.tables.now c.requires c.args.domain.0 c.args.service.0)
