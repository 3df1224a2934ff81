-- The history of a run that is over.
use Rattle.std.proofs.Common.{◌≡◌, sym, subst, reverse}
use Rattle.std.specs.List.{AllByRecursion}
use Rattle.std.proofs.lemmas.List.{reverse-reverse}
use Rattle.jx_base.specs.declared.act.Entry.{Entry}
use Rattle.jx_base.specs.declared.act.History.{History}
use Rattle.jx_base.specs.declared.program.System.{System}
use Rattle.jx_base.specs.Histories.{past_of}
use Rattle.jx_model.specs.Legal.{HasEnded, IsLegalPast}
use Rattle.jx_model.specs.SingleWorker.{IsSingleWorkerHistory, PicksEach}
use Rattle.supported_acts.specs.SupportedActs.{IsSupported}
use Rattle.machine_laws.proofs.Lists.{all_reverse}
use Rattle.supported_acts.specs.SupportedActs.{AreSupported, HasSupportedActs}
use Rattle.run_alone.proofs.Entered.{is_legal}
use Rattle.run_alone.specs.Workers.{IsDone, past_in}
use Rattle.run_alone.specs.declared.worker.Worker.{Worker}

module _ (s : System) (w : Worker) (h : History) (d : IsDone s w) (q : past_of h ≡ past_in w) where
  -- it is that of one worker
  pub is_single : IsSingleWorkerHistory s h
  is_single = record {
    complete = record { legal = subst (IsLegalPast s) (sym q) (is_legal s w d.worker); ended = subst HasEnded (sym q) d.ended };
    picked = subst (PicksEach s) (sym q) d.worker.picked;
  }

  -- each of its acts has code
  pub has_supported : HasSupportedActs h
  unfolding past_of
  has_supported =
      subst (AllByRecursion (λ (e : Entry). IsSupported e.act)) (reverse-reverse h.entries)
      (all_reverse (λ (e : Entry). IsSupported e.act) (reverse h.entries) (subst AreSupported (sym q) d.worker.supported))
