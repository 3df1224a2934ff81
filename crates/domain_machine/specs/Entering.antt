-- What an entry asks of a machine, and what it leaves.
use Rattle.std.specs.Prelude.{◌≡◌, ℕ, Bool, true, false, Option, Some, None, IsSomeAnd, map, reverse}
use Rattle.jx_base.specs.declared.act.Act.{Act}
use Rattle.jx_base.specs.declared.act.Act.TheVariants as act
use Rattle.jx_base.specs.declared.act.Entry.{Entry}
use Rattle.jx_base.specs.declared.ids.CallId.{CallId}
use Rattle.jx_base.specs.declared.program.System.{System}
use Rattle.jx_base.specs.Histories.{Past}
use Rattle.interp_core.specs.Cores.{store_of}
use Rattle.interp_core.specs.declared.cores.Core.{Core as OneCore}
use Rattle.jx_model.specs.Legal.{IsAdmittedPast}
use Rattle.machine_laws.specs.Depths.{HaveStacksWithin}
use Rattle.machine_laws.specs.Handed.{IsExportedIn, IsReplyIn}
use Rattle.machine_laws.specs.Values.{IsStateIn}
use Rattle.machine_model.specs.MachineThreads.{thread_at, with_store, with_thread}
use Rattle.machine_model.specs.State.{Bad, Core, Going, State, Store, Thread}
use Rattle.machine_replies.specs.declared.stage.Stage.{Stage as OneStage}
use Rattle.machine_replies.specs.declared.stage.Stage.TheVariants as stage
use Rattle.thread_laws.specs.Acting.{IsOfThread}
use Rattle.domain_machine.specs.declared.held.Held.{Held}
use Rattle.domain_machine.specs.declared.threads.Thread.{Thread as OneThread}
use Rattle.domain_machine.specs.Taking.{IsJob}
use Rattle.domain_machine.specs.Works.{thread_of}

-- what a machine holds, as a state
abbrev pub held_state : Held → State
held_state held = record { fuel = held.fuel; store = store_of held.core; threads = map thread_of held.threads.items; running = held.running }

-- ---- one thread

-- the frames of a thread, and the store of a core
abbrev pub own_core : OneCore → OneThread → Core
own_core core x = record { frames = reverse x.frames.items; store = store_of core }

-- the thread has come to the stage, and it says whether that is bad code; without a stage all is as it was
abbrev pub IsSetTo : OneThread → Option OneStage → OneThread → Bool → Type 0
IsSetTo old None new bad = (new ≡ old) × (bad ≡ false)
IsSetTo old (Some stage.Bad) new bad = bad ≡ true
IsSetTo old (Some g) new bad = (new ≡ record old { stage = g }) × (bad ≡ false)

-- the state has the store and thread t
pub record HasThread (kept : Store) (x : Thread) (st : State) (t : ℕ) : Type 0 where
  pub there : thread_at st t ≡ Some x
  pub store : st.store ≡ kept

-- thread t of the new state met bad code; the same thread runs as in the old one
pub record HasBad (t : ℕ) (old new : State) : Type 0 where
  pub running : new.running ≡ old.running
  pub bad : IsSomeAnd (thread_at new t) (λ x. x.stage ≡ Bad)

-- the state is the one in which the thread is so, with that store; where it met bad code all else is open
abbrev pub SettlesAs : State → ℕ → Store → Thread → Bool → State → Type 0
SettlesAs st t left y true after = HasBad t st after
SettlesAs st t left y false after = after ≡ with_thread (with_store st left) t y

-- it is so in every state that has the thread
abbrev pub Settles : Store → Thread → Store → Thread → (State → ℕ → Thread → State) → Bool → Type 0
Settles store x left y after bad = (st : State) (t : ℕ) → HasThread store x st t → SettlesAs st t left y bad (after st t x)

-- ---- a machine

-- the machine holds the state, but where thread t met bad code, which runs in it
abbrev pub Leads : ℕ → State → Held → Bool → Type 0
Leads t after new false = held_state new ≡ after
Leads t after new true = (after.running ≡ Some t) × IsSomeAnd (thread_at after t) (λ x. x.stage ≡ Bad)

-- whether the act ends the code of its thread
unfoldable pub ends_code : Act → Bool
ends_code (act.Return c p) = true
ends_code (act.Throw c p) = true
ends_code (act.EndThread c) = true
ends_code (act.Exit code) = true
ends_code (act.End why) = true
ends_code _ = false

-- the state can take the entry: the entry is of its thread, which goes on unless its code ends, and the state and the reply are of one admitted past
pub record CanTake (s : System) (st : State) (e : Entry) : Type 0 where
  pub of : IsOfThread st e
  pub past : Past
  pub admitted : IsAdmittedPast s past
  pub values : IsStateIn s past st
  pub within : HaveStacksWithin s st
  pub reply : IsReplyIn s past e.reply
  pub exported : IsExportedIn past e.act e.reply
  pub job : (c : CallId) → e.act ≡ act.Take c → IsJob e.reply
  pub going : ends_code e.act ≡ false → of.thread.stage ≡ Going
