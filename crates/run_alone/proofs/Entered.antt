-- What an entry makes of the worker, and that a permitted act is entered.
use Rattle.std.proofs.Common.{◌≡◌, refl, sym, ◌∙◌, ap, subst, ℕ, ◌<◌, Bool, true, false, ◌∷◌, Some, ◌⊎◌, inl, inr, if◌then◌else◌}
use Rattle.jx_base.specs.declared.act.Act.{Act}
use Rattle.jx_base.specs.declared.act.Entry.{Entry}
use Rattle.jx_base.specs.declared.act.Reply.{Reply}
use Rattle.jx_base.specs.declared.ids.DomainId.{DomainId}
use Rattle.jx_base.specs.declared.ids.ThreadId.{ThreadId}
use Rattle.jx_base.specs.declared.program.System.{System}
use Rattle.jx_base.specs.Histories.{Past}
use Rattle.jx_model.specs.Domains.{is_birth, makes_domain}
use Rattle.jx_model.specs.Journal.{is_full, words_of}
use Rattle.jx_model.specs.Legal.{HasEnded, IsLegalPast}
use Rattle.jx_model.specs.Permits.{acting_thread, is_ending, is_halt, is_over, zero_may, zero_may_now}
use Rattle.jx_model.specs.SingleWorker.{Pick, PicksEach, pick}
use Rattle.supported_acts.specs.SupportedActs.{IsSupported}
use Rattle.jx_model.specs.WhyNot.{CanBeAsked}
use Rattle.nucleus_tables.specs.NucleusStates.{IsNucleusOf, NucleusState}
use Rattle.nucleus_tables.specs.Stepping.{IsEntered, IsStepped, TakesMemory}
use Rattle.nucleus_tables.specs.declared.step.Step.{Step}
use Rattle.nucleus_tables.specs.declared.step.Step.TheVariants as step
use Rattle.supported_acts.specs.SupportedActs.{AreSupported}
use Rattle.table_threads.specs.CallChanges.{entry}
use Rattle.run_alone.proofs.Actors.{all_follow}
use Rattle.run_alone.proofs.Stepped.{goes_on, never_refused, words_fit, words_grow}
use Rattle.run_alone.specs.Workers.{AreActorsOf, HasGoneOn, IsDone, IsGoing, IsWorkerOf, past_in}
use Rattle.run_alone.specs.declared.worker.Worker.{Worker}

-- ---- the worker after an entry

module _ (s : System) (w v : Worker) (h : IsGoing s w) (e : Entry) (x : IsEntered s w.nucleus v.nucleus e)
    (p : pick s (past_in w) ≡ record { domain = e.domain.0; act = e.act }) (u : IsSupported e.act) (actors : AreActorsOf s (e ∷ past_in w) v.actors.items) where
  still_worker : IsWorkerOf s v
  still_worker = record {
    system = h.worker.system;
    nucleus = x.nucleus;
    picked = subst (PicksEach s) (sym x.past) (record { domain = ap (λ (k : Pick). k.domain) (sym p); act = ap (λ (k : Pick). k.act) (sym p) }, h.worker.picked);
    supported = subst AreSupported (sym x.past) (u, h.worker.supported);
    actors = subst (λ (past : Past). AreActorsOf s past v.actors.items) (sym x.past) actors;
  }

  -- it goes on, where the journal had room and the act doesn't end the run
  pub has_gone_on : is_full s (past_in w) ≡ false → is_ending e.act ≡ false → HasGoneOn s w v
  has_gone_on f z = record {
    going = record { worker = still_worker; going = ap is_over x.past ∙ goes_on e (past_in w) h.going z };
    room = words_fit s (past_in w) f;
    more = subst (λ (past : Past). words_of (past_in w) < words_of past) (sym x.past) (words_grow e (past_in w));
  }

  -- it is done, where the act ends the run
  pub is_done : is_ending e.act ≡ true → IsDone s v
  is_done z = record { worker = still_worker; ended = subst HasEnded (sym x.past) z }

-- the worker's past is legal
pub is_legal : (s : System) (w : Worker) → IsWorkerOf s w → IsLegalPast s (past_in w)
is_legal s w h = record { admitted = h.nucleus.stands.admitted; follows = all_follow s (past_in w) w.actors.items h.actors }

-- ---- a permitted act is entered

-- an act that makes no domain isn't answered with one
no_birth : (d t : ℕ) (a : Act) (r : Reply) → makes_domain a r ≡ false → is_birth (entry d t a r) ≡ true → ⊥
unfolding is_birth
no_birth d t a r n b = cc

-- where the act takes no memory there is enough
pub has_memory : (s : System) (old new : NucleusState) (d : ℕ) (a : Act) (answer : Step) → (TakesMemory a → ⊥) → IsStepped s old new d a answer → answer ≡ step.OutOfMemory → ⊥
has_memory s old new d a answer w h e = w (subst (IsStepped s old new d a) e h).1

-- with memory one of the two answers comes
pub is_entered : (s : System) (old new : NucleusState) (d k : ℕ) (a : Act) (answer : Step) → IsNucleusOf s old → CanBeAsked s old.kept.past d a → acting_thread s old.kept.past d a ≡ Some k → (answer ≡ step.OutOfMemory → ⊥) →
    ((t : ThreadId) (r : Reply) → answer ≡ step.Replied t r → ⊥) → ((t : ThreadId) (r : Reply) (j : DomainId) → answer ≡ step.Born t r j → ⊥) → IsStepped s old new d a answer → ⊥
is_entered s old new d k a (step.Replied t r) z q p w n b h = n t r refl
is_entered s old new d k a (step.Born t r j) z q p w n b h = b t r j refl
is_entered s old new d k a (step.Over x) z q p w n b h = never_refused s old.kept.past d k a (step.Over x) z.stands.admitted q p w h.1
is_entered s old new d k a (step.Full x) z q p w n b h = never_refused s old.kept.past d k a (step.Full x) z.stands.admitted q p w h.1
is_entered s old new d k a (step.NotNow x) z q p w n b h = never_refused s old.kept.past d k a (step.NotNow x) z.stands.admitted q p w h.1
is_entered s old new d k a (step.Busy x) z q p w n b h = h.1
is_entered s old new d k a step.OutOfMemory z q p w n b h = w refl

-- and of an act that makes no domain, the first
pub is_replied : (s : System) (old new : NucleusState) (d k : ℕ) (a : Act) (answer : Step) → IsNucleusOf s old → CanBeAsked s old.kept.past d a → acting_thread s old.kept.past d a ≡ Some k → (answer ≡ step.OutOfMemory → ⊥) →
    ((r : Reply) → makes_domain a r ≡ false) → ((t : ThreadId) (r : Reply) → answer ≡ step.Replied t r → ⊥) → IsStepped s old new d a answer → ⊥
is_replied s old new d k a answer z q p w m n h =
    is_entered s old new d k a answer z q p w n (λ t r j e. no_birth d t.0 a r (m r) (subst (IsStepped s old new d a) e h).2) h

-- Domain Zero may be asked for what it may do
pub zero_asked : (s : System) (past : Past) (a : Act) → is_over past ≡ false → zero_may_now s past a ≡ true → CanBeAsked s past 0 a
unfolding zero_may_now
zero_asked s past a o h = record { going = o; actor = inl refl; room = by (is_full s past) refl h }
  where
    by : (f : Bool) → is_full s past ≡ f → (if f then is_halt a else zero_may s past a) ≡ true → (is_full s past ≡ false) ⊎ (is_halt a ≡ true)
    by true q h = inr h
    by false q h = inl q
