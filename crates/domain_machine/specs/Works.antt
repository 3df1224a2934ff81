-- What a running thread works on, and how far it comes.
use Rattle.std.specs.Prelude.{◌≡◌, ◌<◌, ℕ, List, [], Option, Some, None, IsSome, reverse}
use Rattle.jx_base.specs.declared.act.Act.{Act}
use Rattle.jx_base.specs.declared.act.Act.TheVariants as act
use Rattle.jx_base.specs.declared.act.Reason.TheVariants as reason
use Rattle.jx_base.specs.declared.program.System.{System}
use Rattle.jx_base.specs.declared.value.Value.{Value}
use Rattle.jx_base.specs.Histories.{Past}
use Rattle.program_model.specs.Lookup.{template_at}
use Rattle.interp_core.specs.declared.cores.Core.{Core as OneCore}
use Rattle.machine_laws.specs.Standing.{Stands}
use Rattle.machine_model.specs.MachineThreads.{after_finish, thread_at, with_thread}
use Rattle.machine_model.specs.Running.{Ask, after_steps, step}
use Rattle.machine_model.specs.State.{Core, Stage, Store, Thread, State, Going, Threw}
use Rattle.machine_replies.specs.Leaving.{HasCome, HasCoreOf, stage_of}
use Rattle.machine_replies.specs.declared.stage.Stage.{Stage as OneStage}
use Rattle.domain_machine.specs.declared.threads.Thread.{Thread as OneThread}
use Rattle.domain_machine.specs.declared.running.Stop.{Stop}
use Rattle.domain_machine.specs.declared.running.Stop.TheVariants as stop
use Rattle.domain_machine.specs.Machines.{IsLife}

-- a thread as the machine's definition has it
abbrev pub thread_of : OneThread → Thread
thread_of x = record { call = x.call; frames = reverse x.frames.items; stage = stage_of x.stage; waiting = reverse x.waiting.items }

-- ---- the frames of a running thread

-- thread k is x, and runs; it goes on with the core's frames, and the state has its store and that fuel
pub record IsGoingOn (core : Core) (n : ℕ) (st : State) (k : ℕ) (x : Thread) : Type 0 where
  pub running : st.running ≡ Some k
  pub there : thread_at st k ≡ Some x
  pub store : st.store ≡ core.store
  pub frames : x.frames ≡ core.frames
  pub stage : x.stage ≡ Going
  pub fuel : st.fuel ≡ n

-- the state in which thread x has come to the stage, with the core's frames and store, and that fuel
abbrev pub come_to : State → ℕ → Thread → Core → ℕ → Stage → State
come_to st k x core fuel g = with_thread (record st { fuel = fuel; store = core.store }) k (record x { frames = core.frames; stage = g })

-- the state is some instructions later
abbrev pub Reaches : System → ℕ → State → State → Type 0
Reaches s k st new = (n : ℕ) × (new ≡ after_steps s k n st)

-- after some instructions the thread's next step asks for the act
abbrev pub WillAsk : System → ℕ → State → Act → Type 0
WillAsk s k st a = (new : State) × (Reaches s k st new × (step s new k ≡ Ask a))

-- the state but for its thread k, with the core's store and that fuel
pub record IsLike (st : State) (k : ℕ) (core : Core) (fuel : ℕ) (new : State) : Type 0 where
  pub thread : Thread
  pub is : new ≡ with_thread (record st { fuel = fuel; store = core.store }) k thread

-- its last frame returned that, and what follows is the next method that waits, or the end
pub record HasReturned (s : System) (st : State) (k : ℕ) (x : Thread) (core : Core) (fuel : ℕ) (v : Option Value) : Type 0 where
  pub before : State
  pub like : IsLike st k core fuel before
  pub reaches : Reaches s k st (after_finish s before k x v)
  pub frames : core.frames ≡ []

-- where the frames of a thread stop
abbrev pub StopsAs : System → State → ℕ → Thread → Core → ℕ → Stop → Type 0
StopsAs s st k x core fuel (stop.Asks a) = Reaches s k st (come_to st k x core fuel Going) × (step s (come_to st k x core fuel Going) k ≡ Ask a)
StopsAs s st k x core fuel (stop.Returned v) = HasReturned s st k x core fuel v
StopsAs s st k x core fuel (stop.Threw r) = Reaches s k st (come_to st k x core fuel (Threw r)) × (core.frames ≡ [])
StopsAs s st k x core fuel stop.Bad = WillAsk s k st (act.End reason.BadCode)

-- it is so in every state that has the frames
abbrev pub Stops : System → Core → ℕ → Core → ℕ → Stop → Type 0
Stops s old fuel new left answer = (st : State) (k : ℕ) (x : Thread) → IsGoingOn old fuel st k x → StopsAs s st k x new left answer

-- fuel was spent where the thread has no frames left
abbrev pub HasSpent : Stop → ℕ → ℕ → Type 0
HasSpent (stop.Returned v) old new = new < old
HasSpent (stop.Threw r) old new = new < old
HasSpent _ old new = Unit {0}

-- some domain of an admitted history has the core at that fuel
pub record IsLiving (s : System) (core : Core) (fuel : ℕ) : Type 0 where
  pub template : ℕ
  pub own : Past
  pub past : Past
  pub domain : ℕ
  pub state : State
  pub number : ℕ
  pub thread : Thread
  pub known : IsSome (template_at s template)
  pub life : IsLife s own past domain
  pub stands : Stands s template own state
  pub at : IsGoingOn core fuel state number thread

-- ---- a running thread

-- thread k runs, and the state has the store and that fuel
pub record IsAtWork (held : Store) (n : ℕ) (x : Thread) (st : State) (k : ℕ) : Type 0 where
  pub running : st.running ≡ Some k
  pub there : thread_at st k ≡ Some x
  pub store : st.store ≡ held
  pub fuel : st.fuel ≡ n

-- the state in which thread k is so, with that store and fuel
abbrev pub at_work : State → ℕ → Store → ℕ → Thread → State
at_work st k store fuel x = with_thread (record st { fuel = fuel; store = store }) k x

-- a thread whose frames are the core's
abbrev pub working : OneCore → OneThread → Thread
working core x = record (thread_of x) { frames = reverse core.frames.items }

-- the thread has come to the stage, with these methods waiting, in every state where its last frame returned the value
abbrev pub Finishes : System → Core → List ℕ → Option Value → Core → List ℕ → OneStage → Type 0
Finishes s old waiting v new left answer =
    (st : State) (k : ℕ) (x : Thread) → HasCoreOf old st x → x.waiting ≡ waiting → HasCome st k (record x { waiting = left }) new answer (after_finish s st k x v)

-- some domain of an admitted history has the thread at work
pub record CanWork (s : System) (store : Store) (fuel : ℕ) (x : Thread) : Type 0 where
  pub template : ℕ
  pub own : Past
  pub past : Past
  pub domain : ℕ
  pub state : State
  pub number : ℕ
  pub known : IsSome (template_at s template)
  pub life : IsLife s own past domain
  pub stands : Stands s template own state
  pub at : IsAtWork store fuel x state number

-- after some instructions the thread asks for the act, with what is left; without an act it will meet bad code
abbrev pub RunsTo : System → Store → ℕ → Thread → Store → ℕ → Thread → Option Act → Type 0
RunsTo s old fuel x new left y (Some a) =
    (st : State) (k : ℕ) → IsAtWork old fuel x st k → Reaches s k st (at_work st k new left y) × (step s (at_work st k new left y) k ≡ Ask a)
RunsTo s old fuel x new left y None = (st : State) (k : ℕ) → IsAtWork old fuel x st k → WillAsk s k st (act.End reason.BadCode)
