use Rattle.std.proofs.Common.{refl}
use Rattle.jx_model.specs.Permits.{is_ending}
use Rattle.run_alone.proofs.Permitting.{quiet_may}
use Rattle.run_alone.proofs.Picking.{picks_quiet}
use Rattle.run_alone.specs.Workers.{past_in}
use Rattle.run_alone.proofs.worker.Worker.rest.Goals as goal

pub end_run-requires-clause-last : goal.end_run-requires-clause-last
unfolding is_ending
end_run-requires-clause-last c =
    let s = c.args.system.now in let past = past_in c.args.self.now in
    record { ends = refl; may = quiet_may s past c.requires.turn; picked = picks_quiet s past c.requires.turn }
