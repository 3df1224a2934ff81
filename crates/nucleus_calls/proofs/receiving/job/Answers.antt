use Rattle.std.proofs.Common.{◌≡◌, IfOk, ap, is_some, sym, subst, Option}
use Rattle.std.proofs.lemmas.Option.{slice_get_within}
use Rattle.jx_model.specs.Calls.{Asked}
use Rattle.jx_model.specs.Replies.{job_of}
use Rattle.nucleus_calls.proofs.ReceivedParcels.{asked_in, places_at, queued_in, queued_there}
use Rattle.nucleus_tables.specs.Inner.{past_in}
use Rattle.nucleus_calls.proofs.receiving.job.Goals as goal

pub of-place-requires : goal.of-place-requires
of-place-requires c = ap is_some (places_at c.args.system.now c.args.tables.now c.requires.tables c.args.call.0 c.requires.made.0 c.requires.made.1)

pub at-requires : goal.at-requires
at-requires c =
    slice_get_within c.args.tables.now.journal.entries c.of-place.result.queued
    (queued_there (past_in c.args.tables.now) c.args.call.0 c.requires.made.0 c.requires.made.1).entry
    (queued_in c.args.system.now c.args.tables.now c.requires.tables c.args.call.0 c.requires.made.0 c.requires.made.1 c.of-place.result c.of-place.ensures)

pub returns : goal.returns
returns c =
    subst (λ (o : Option Asked). IfOk c.job_in.result (λ reply. reply ≡ job_of o))
    (sym (asked_in c.args.system.now c.args.tables.now c.requires.tables c.args.call.0 c.requires.made.0 c.requires.made.1 c.of-place.result c.at.result.now c.of-place.ensures c.at.ensures))
    c.job_in.ensures
