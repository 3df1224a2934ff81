use Rattle.std.proofs.Common.{◌≡◌, ◌∙◌, sym, ap, refl}
use Rattle.jx_base.specs.Basics.{passes}
use Rattle.jx_model.specs.Permits.{is_serving}
use Rattle.jx_model.specs.Threads.{thread_state}
use Rattle.table_threads.proofs.Actors.{live_made}
use Rattle.nucleus_tables.proofs.DomainReads.{state_is}
use Rattle.nucleus_tables.specs.Inner.{past_in}
use Rattle.nucleus_tables.proofs.tables.Tables.permit_answer.Goals as goal

pub returns-then-serves-clause-may : goal.returns-then-serves-clause-may
returns-then-serves-clause-may c =
    let past = past_in c.args.self.now in
    let d = c.args.domain.0 in
    let state : c.thread.result ≡ thread_state past d c.args.thread.0 = c.thread.ensures ∙ state_is c.args.system.now c.args.self.now c.requires.tables d (live_made past d c.requires.live) c.args.thread.0 in
    ap (passes (is_serving c.args.call.0)) (sym state) ∙ sym c.serves.ensures ∙ c.if-serves.true

pub returns-else-serves-clause-wrong : goal.returns-else-serves-clause-wrong
returns-else-serves-clause-wrong c =
    let past = past_in c.args.self.now in
    let d = c.args.domain.0 in
    let state : c.thread.result ≡ thread_state past d c.args.thread.0 = c.thread.ensures ∙ state_is c.args.system.now c.args.self.now c.requires.tables d (live_made past d c.requires.live) c.args.thread.0 in
    (refl, ap (passes (is_serving c.args.call.0)) (sym state) ∙ sym c.serves.ensures ∙ c.if-serves.false)
