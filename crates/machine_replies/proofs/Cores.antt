-- The core of a domain is one that a step of an instruction takes.
use Rattle.std.proofs.Common.{◌≤◌, ◌∷◌, [], List, None, length, All}
use Rattle.std.specs.List.{AllByRecursion}
use Rattle.std.proofs.lemmas.List.Elements.{All-cons, All-nil}
use Rattle.jx_base.specs.Histories.{Past}
use Rattle.jx_base.specs.declared.frame.Frame.{Frame}
use Rattle.jx_base.specs.declared.program.System.{System}
use Rattle.interp_core.specs.Cores.{IsRunnable}
use Rattle.machine_laws.proofs.Cores.{core_in, each_of, instruction_in}
use Rattle.machine_laws.specs.Depths.{IsWithin}
use Rattle.machine_laws.specs.Values.{IsFrameIn, IsObjectIn, IsStateIn, cell_limit}
use Rattle.machine_model.specs.Conditions.{IsCoreOf, IsFrameOf}
use Rattle.machine_model.specs.MachineThreads.{core_of}
use Rattle.machine_model.specs.State.{Core, Going, State, Store, Thread}
use Rattle.machine_steps.specs.Stepping.{AreInstrsOf}
use Rattle.machine_replies.specs.Leaving.{CanRun, HasPast, IsCoreIn}

-- the frames are those of their methods
pub frames_in : (s : System) (past : Past) (store : Store) (fs : List Frame) → AllByRecursion (IsFrameIn s past store) fs → AllByRecursion (IsWithin s) fs → All (IsFrameOf s) fs
frames_in s past store [] i w = All-nil (IsFrameOf s)
frames_in s past store (f ∷ fs) i w =
    All-cons (IsFrameOf s) f fs (record { method = i.0.method; locals = i.0.count; depth = w.0; room = i.0.room }) (frames_in s past store fs i.1 w.1)

-- so are those of a core that has a past
pub frames_past : (s : System) (core : Core) → HasPast s core → All (IsFrameOf s) core.frames
frames_past s core h = frames_in s h.0 core.store core.frames h.1.frames h.1.within

module _ (s : System) (past : Past) (core : Core) (z : CanRun s) (h : IsCoreIn s past core) where
  -- a domain that has nothing but the core
  state : State
  state = record { fuel = 0; store = core.store; threads = []; running = None }

  thread : Thread
  thread = record { call = None; frames = core.frames; stage = Going; waiting = [] }

  values : IsStateIn s past state
  unfolding state
  values = record { store = h.store; threads = tt }

  core_is_of : IsCoreOf s core
  unfolding core_of state thread
  core_is_of = core_in s past z.sound h.admitted state values thread h.frames h.within

  pub runnable : IsRunnable s core
  runnable = record {
    core = core_is_of;
    small = each_of (IsObjectIn s past core.store) (λ o. length o.cells ≤ cell_limit) (λ o j. j.small) core.store.objects h.store.objects;
    codes = z.codes;
    numbers = z.numbers;
  }

  pub instructions_in : AreInstrsOf s core
  unfolding core_of state thread
  instructions_in f callers r e q = instruction_in s past z.sound h.admitted state values thread f callers r h.frames e q
