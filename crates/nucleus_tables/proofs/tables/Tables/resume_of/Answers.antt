use Rattle.std.proofs.Common.{◌∙◌, sym, ap}
use Rattle.std.specs.Option.{option_and_then}
use Rattle.jx_model.specs.Permits.{resume_at, resume_in}
use Rattle.nucleus_tables.specs.Inner.{past_in}
use Rattle.nucleus_tables.proofs.DomainReads.{state_is}
use Rattle.table_threads.proofs.Actors.{live_made}
use Rattle.nucleus_tables.proofs.tables.Tables.resume_of.Goals as goal

pub returns-in_err-state : goal.returns-in_err-state
unfolding resume_at
returns-in_err-state c =
    let x = c.args.self.now in
    c.from_residual.ensures
    ∙ ap (option_and_then (resume_in (past_in x)))
    (sym c.in_err-state.was ∙ c.thread.ensures ∙ state_is c.args.system.now x c.requires.tables c.args.domain.0 (live_made (past_in x) c.args.domain.0 c.requires.live) c.args.thread.0)

pub returns : goal.returns
unfolding resume_at
returns c =
    let x = c.args.self.now in
    c.resume_in.ensures
    ∙ ap (option_and_then (resume_in (past_in x)))
    (sym c.in_ok-state.was ∙ c.thread.ensures ∙ state_is c.args.system.now x c.requires.tables c.args.domain.0 (live_made (past_in x) c.args.domain.0 c.requires.live) c.args.thread.0)
