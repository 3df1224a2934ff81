use Rattle.std.proofs.Common.{ap, sym, subst, []}
use Rattle.jx_base.specs.Histories.{Past}
use Rattle.jx_model.specs.Permits.{is_over}
use Rattle.jx_model.specs.SingleWorker.{PicksEach}
use Rattle.supported_acts.specs.SupportedActs.{AreSupported}
use Rattle.run_alone.proofs.Actors.{none_at_first}
use Rattle.run_alone.specs.Workers.{AreActorsOf}
use Rattle.run_alone.proofs.worker.Worker.open.Goals as goal

pub returns : goal.returns
unfolding is_over
returns c =
    let s = c.args.system.now in let start = c.in_ok-open.ensures.start in
    record {
      worker = record {
        system = c.requires.machines;
        nucleus = c.in_ok-open.ensures.nucleus;
        picked = subst (PicksEach s) (sym start) tt;
        supported = subst AreSupported (sym start) tt;
        actors = subst (AreActorsOf s c.in_ok-open.field-0.kept.past) (sym c.new.ensures.items) (subst (λ (past : Past). AreActorsOf s past []) (sym start) (none_at_first s));
      };
      going = ap is_over start;
    }
