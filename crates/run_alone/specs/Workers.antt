-- What the worker of a run holds, and what each of its acts makes of that.
use Rattle.std.specs.Prelude.{◌≡◌, ◌<◌, ◌≤◌, ◌+◌, ℕ, Bool, true, false, List, length, Option, Some, None, slice_get}
use Rattle.jx_base.specs.declared.act.Act.{Act}
use Rattle.jx_base.specs.declared.program.System.{System}
use Rattle.jx_base.specs.Histories.{Past, own_entries}
use Rattle.program_model.specs.Limits.{journal_limit}
use Rattle.jx_model.specs.Domains.{domains_made, template_of}
use Rattle.jx_model.specs.Journal.{is_full, words_of}
use Rattle.jx_model.specs.Legal.{HasEnded}
use Rattle.jx_model.specs.Permits.{is_over, next_boot}
use Rattle.jx_model.specs.SingleWorker.{PicksEach, act_of_turn, next_domain}
use Rattle.jx_model.specs.WellMade.{IsWellMade}
use Rattle.machine_replies.specs.Leaving.{CanRun}
use Rattle.domain_machine.specs.Machines.{IsNextOf, StandsFor}
use Rattle.domain_machine.specs.declared.next.Next.{Next}
use Rattle.nucleus_tables.specs.NucleusStates.{IsNucleusOf}
use Rattle.supported_acts.specs.SupportedActs.{AreSupported}
use Rattle.run_alone.specs.declared.actor.Actor.{Actor}
use Rattle.run_alone.specs.declared.worker.Worker.{Worker}

-- ---- what it holds

-- the entries that it made, the newest first
abbrev pub past_in : Worker → Past
past_in w = w.nucleus.kept.past

-- the actor is domain d: it has its template, and its machine stands for the domain's own entries
pub record IsActorOf (s : System) (past : Past) (d : ℕ) (x : Actor) : Type 0 where
  pub template : template_of s past d ≡ Some x.template
  pub machine : StandsFor s x.template (own_entries past d) x.machine

-- the actors are the domains that were made, domain d at place d - 1
pub record AreActorsOf (s : System) (past : Past) (xs : List Actor) : Type 0 where
  pub count : length xs ≡ domains_made past
  pub each : (k : ℕ) (x : Actor) → slice_get xs k ≡ Some x → IsActorOf s past (k + 1) x

-- the worker's nucleus is one of the system, its entries are those that one worker picks, all of acts with code, and its actors are the domains
pub record IsWorkerOf (s : System) (w : Worker) : Type 0 where
  pub system : CanRun s
  pub nucleus : IsNucleusOf s w.nucleus
  pub picked : PicksEach s (past_in w)
  pub supported : AreSupported (past_in w)
  pub actors : AreActorsOf s (past_in w) w.actors.items

-- so it is, and the run isn't over
pub record IsGoing (s : System) (w : Worker) : Type 0 where
  pub worker : IsWorkerOf s w
  pub going : is_over (past_in w) ≡ false

-- so it is, and the last entry ended the run
pub record IsDone (s : System) (w : Worker) : Type 0 where
  pub worker : IsWorkerOf s w
  pub ended : HasEnded (past_in w)

-- ---- whose turn it is

-- the journal has room, and the start is done
pub record HasRoom (s : System) (past : Past) : Type 0 where
  pub room : is_full s past ≡ false
  pub booted : next_boot s past ≡ None

-- it is the turn of domain d, or there is none
pub record IsTurnOf (s : System) (past : Past) (d : Option ℕ) : Type 0 where
  pub free : HasRoom s past
  pub turn : next_domain past ≡ d

-- it is the turn of domain d, and the act is that of its turn
pub record IsTurn (s : System) (past : Past) (d : ℕ) (a : Act) : Type 0 where
  pub domain : IsTurnOf s past (Some d)
  pub act : act_of_turn s past d ≡ Some a
  pub well_made : IsWellMade s past a

-- ---- what its calls do

-- the worker made no entry, and what the domain's code does next is that
pub record SaysNext (s : System) (old new : Worker) (d : ℕ) (n : Next) : Type 0 where
  pub going : IsGoing s new
  pub same : new.nucleus ≡ old.nucleus
  pub next : (t : ℕ) → template_of s (past_in old) d ≡ Some t → IsNextOf s t (own_entries (past_in old) d) n

-- the worker made no entry, and the act is that of the domain's turn
pub record FindsAct (s : System) (old new : Worker) (d : ℕ) (a : Act) : Type 0 where
  pub going : IsGoing s new
  pub same : new.nucleus ≡ old.nucleus
  pub act : act_of_turn s (past_in old) d ≡ Some a
  pub well_made : IsWellMade s (past_in old) a

-- the worker made an entry more, before which the journal had room, and the run isn't over
pub record HasGoneOn (s : System) (old new : Worker) : Type 0 where
  pub going : IsGoing s new
  pub room : words_of (past_in old) ≤ journal_limit s
  pub more : words_of (past_in old) < words_of (past_in new)

-- it made an entry more, and the run isn't over, or it is
abbrev pub HasActed : System → Worker → Worker → Bool → Type 0
HasActed s old new true = HasGoneOn s old new
HasActed s old new false = IsDone s new

-- ---- the run

-- how far the run is, while it goes on and when it is over
abbrev pub HasCome : System → Worker → Bool → Type 0
HasCome s w true = IsGoing s w
HasCome s w false = IsDone s w
