use Rattle.std.proofs.Common.{refl}
use Rattle.jx_model.specs.Permits.{is_ending}
use Rattle.run_alone.proofs.Permitting.{halt_may}
use Rattle.run_alone.proofs.Picking.{picks_halt}
use Rattle.run_alone.specs.Workers.{past_in}
use Rattle.run_alone.proofs.worker.Worker.halt.Goals as goal

pub end_run-requires-clause-last : goal.end_run-requires-clause-last
unfolding is_ending
end_run-requires-clause-last c =
    let s = c.args.system.now in let past = past_in c.args.self.now in
    record { ends = refl; may = halt_may s past c.requires.full; picked = picks_halt s past c.requires.full }
