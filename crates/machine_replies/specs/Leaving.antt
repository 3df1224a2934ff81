-- What an entry leaves of its thread, in every state that has the thread.
use Rattle.std.specs.Prelude.{◌≡◌, ◌<◌, ◌≤◌, ◌^◌, ℕ, List, [], ◌∷◌, ◌++◌, Option, Some, None, slice_get}
use Rattle.std.specs.List.{AllByRecursion}
use Rattle.std.specs.Option.{option_and_then, option_map, unwrap_or}
use Rattle.jx_base.specs.declared.act.Reply.{Reply}
use Rattle.jx_base.specs.declared.frame.Frame.{Frame}
use Rattle.jx_base.specs.declared.ids.ClassId.{ClassId}
use Rattle.jx_base.specs.declared.ids.ServiceId.{ServiceId}
use Rattle.jx_base.specs.declared.program.System.{System}
use Rattle.jx_base.specs.declared.program.Template.{Template}
use Rattle.jx_base.specs.Histories.{Past}
use Rattle.program_model.specs.Lookup.{class_count, template_at}
use Rattle.machine_model.specs.AfterEntry.{object_of_value}
use Rattle.machine_model.specs.MachineThreads.{with_store, with_thread}
use Rattle.machine_model.specs.State.{Core, Stage, Store, Thread, State, Going, Returned, Threw, Bad}
use Rattle.jx_model.specs.Legal.{IsAdmittedPast}
use Rattle.machine_laws.specs.Depths.{IsWithin}
use Rattle.machine_laws.specs.Handed.{IsReplyIn}
use Rattle.machine_laws.specs.Sound.{IsSound}
use Rattle.machine_laws.specs.Values.{IsFrameIn, IsStoreIn}
use Rattle.interp_core.specs.Cores.{HasShortCodes}
use Rattle.machine_steps.specs.Stepping.{AreListed}
use Rattle.machine_replies.specs.declared.stage.Stage.{Stage as OneStage}
use Rattle.machine_replies.specs.declared.stage.Stage.TheVariants as stage

-- ---- what is asked

-- domains of the system can be run: it is sound, a method's instructions are those that its code reads, and code and classes have the numbers that frames and objects hold, and heaps have room for the first objects
pub record CanRun (s : System) : Type 0 where
  pub sound : IsSound s
  pub listed : AreListed s
  pub codes : HasShortCodes s
  pub numbers : class_count s < 2 ^ 32
  pub heaps : (t : ℕ) (x : Template) → template_at s t ≡ Some x → 5 ≤ x.heap

-- the core is one of a domain, in a system with that past
pub record IsCoreIn (s : System) (past : Past) (core : Core) : Type 0 where
  pub admitted : IsAdmittedPast s past
  pub store : IsStoreIn s past core.store
  pub frames : AllByRecursion (IsFrameIn s past core.store) core.frames
  pub within : AllByRecursion (IsWithin s) core.frames

-- the core is one of a domain
abbrev pub HasPast : System → Core → Type 0
HasPast s core = (past : Past) × IsCoreIn s past core

-- the core is one of a domain, which the reply can be given
abbrev pub IsRepliedTo : System → Core → Reply → Type 0
IsRepliedTo s core r = (past : Past) × (IsCoreIn s past core × IsReplyIn s past r)

-- ---- what is left

-- a stage as the machine's definition has it
abbrev pub stage_of : OneStage → Stage
stage_of stage.Going = Going
stage_of (stage.Returned v) = Returned v
stage_of (stage.Threw r) = Threw r
stage_of stage.Bad = Bad

-- the state with the core's store, in which thread t has its frames and has come to that stage
abbrev pub left_as : State → ℕ → Thread → Core → Stage → State
left_as st t x new g = with_thread (with_store st new.store) t (record x { frames = new.frames; stage = g })

-- the state is the one in which the thread has come to the stage, with the core that is left; after bad code the core is open
abbrev pub HasCome : State → ℕ → Thread → Core → OneStage → State → Type 0
HasCome st t x new stage.Bad after = (other : Core) × (after ≡ left_as st t x other Bad)
HasCome st t x new stage.Going after = after ≡ left_as st t x new Going
HasCome st t x new (stage.Returned v) after = (after ≡ left_as st t x new (Returned v)) × (new.frames ≡ [])
HasCome st t x new (stage.Threw r) after = (after ≡ left_as st t x new (Threw r)) × (new.frames ≡ [])

-- so it is where there is a stage; without one the thread is as it was
abbrev pub LeavesAs : State → ℕ → Thread → Core → Option OneStage → State → Type 0
LeavesAs st t x new None after = (after ≡ with_store st new.store) × (new.frames ≡ x.frames)
LeavesAs st t x new (Some g) after = HasCome st t x new g after

-- the state has the core's store and the thread its frames
pub record HasCoreOf (core : Core) (st : State) (x : Thread) : Type 0 where
  pub store : st.store ≡ core.store
  pub frames : x.frames ≡ core.frames

-- it is so in every state that has the core
abbrev pub Leaves : Core → Core → Option OneStage → (State → ℕ → Thread → State) → Type 0
Leaves old new answer after = (st : State) (t : ℕ) (x : Thread) → HasCoreOf old st x → LeavesAs st t x new answer (after st t x)

-- the thread comes to the stage in every state that has the core
abbrev pub Comes : Core → Core → OneStage → (State → ℕ → Thread → State) → Type 0
Comes old new answer after = (st : State) (t : ℕ) (x : Thread) → HasCoreOf old st x → HasCome st t x new answer (after st t x)

-- the thread goes on, or is as it was
abbrev pub GoesOn : Option OneStage → Type 0
GoesOn (Some stage.Going) = Unit {0}
GoesOn None = Unit {0}
GoesOn _ = ⊥

-- ---- exports

-- the object that the running frame exports: the first of the three arguments on its stack
abbrev pub exported_by : List Frame → ℕ
exported_by frames = unwrap_or (option_and_then (λ f. option_map object_of_value (slice_get f.stack.values 2)) (slice_get frames 0)) 0

-- the store with an export more
abbrev pub with_exported : Store → ℕ → ServiceId → ClassId → Store
with_exported store r service iface = record store { exports = store.exports ++ record { object = r; service = service; iface = iface } ∷ [] }
