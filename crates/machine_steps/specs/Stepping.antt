-- What a step of a thread with frames comes to, in every state that has the thread.
use Rattle.std.specs.Prelude.{◌≡◌, ◌≢◌, ℕ, true, List, [], ◌∷◌, Option, Some, None, IsSomeAnd, Contains}
use Rattle.std.specs.Option.{option_map, unwrap_or}
use Rattle.jx_base.specs.declared.class_file.Code.{Code}
use Rattle.jx_base.specs.declared.class_file.Instr.{Instr}
use Rattle.jx_base.specs.declared.program.Method.{Method}
use Rattle.jx_base.specs.declared.act.Act.TheVariants as act
use Rattle.jx_base.specs.declared.act.Reason.TheVariants as reason
use Rattle.jx_base.specs.declared.frame.Frame.{Frame}
use Rattle.jx_base.specs.declared.program.System.{System}
use Rattle.program_model.specs.Instructions.{Reading, instruction_at}
use Rattle.program_model.specs.Lookup.{method_at}
use Rattle.machine_model.specs.Conditions.{IsInstrOf}
use Rattle.machine_model.specs.NumericRows.{numeric_row}
use Rattle.machine_model.specs.ObjectRows.{object_row}
use Rattle.machine_model.specs.MachineThreads.{thread_at, with_thread, with_store, with_less_fuel, with_stage, after_finish}
use Rattle.machine_model.specs.Running.{StepOutcome, Step, Ask, framed_step, after_object}
use Rattle.machine_model.specs.State.{Store, Core, Thread, State, Going, Threw, Bad, class_of_frame, class_of_object, code_bytes, frames_at_handler, is_overfull, new_exception, pc_behind, stack_limit}
use Rattle.interp_num.specs.Steps.{Gives}
use Rattle.interp_num.specs.declared.step.NumStep.{NumStep}
use Rattle.interp_num.specs.declared.step.NumStep.TheVariants as num
use Rattle.interp_frames.specs.Throwing.{IsCaught}
use Rattle.machine_steps.specs.declared.stepping.Stepped.{Stepped}
use Rattle.machine_steps.specs.declared.stepping.Stepped.TheVariants as stepped

-- what is read at the running frame's pc is the instruction that the system has there
abbrev pub AreInstrsOf : System → Core → Type 0
AreInstrsOf s core = (f : Frame) (callers : List Frame) (r : Reading) → core.frames ≡ f ∷ callers → instruction_at (code_bytes s f) f.pc ≡ Some r → IsInstrOf s core f callers r.instr

-- each instruction that the system has of a method is read from the method's code at its pc
abbrev pub AreListed : System → Type 0
AreListed s = (m : ℕ) (x : Method) (c : Code) (i : Instr) → method_at s m ≡ Some x → x.code ≡ Some c → Contains x.instrs i → option_map (λ r. r.instr) (instruction_at c.code i.pc) ≡ Some i

-- the instruction is one of these, with that pc
abbrev pub IsOfPc : List Instr → ℕ → Instr → Type 0
IsOfPc instrs pc i = Contains instrs i × (i.pc ≡ pc)

-- the instruction is read at the running frame's pc
pub record IsAt (s : System) (core : Core) (i : Instr) : Type 0 where
  pub frame : Frame
  pub callers : List Frame
  pub reading : Reading
  pub running : core.frames ≡ frame ∷ callers
  pub read : instruction_at (code_bytes s frame) frame.pc ≡ Some reading
  pub instr : reading.instr ≡ i

-- the instruction is the one at the running frame's pc, where none is read there is none
abbrev pub Finds : System → Core → Option Instr → Type 0
Finds s core None = (f : Frame) (callers : List Frame) → core.frames ≡ f ∷ callers → instruction_at (code_bytes s f) f.pc ≡ None
Finds s core (Some i) = IsAt s core i

-- thread t of the state goes on with the core's frames and store, and there is fuel
pub record HasCore (core : Core) (st : State) (t : ℕ) (x : Thread) : Type 0 where
  pub there : thread_at st t ≡ Some x
  pub store : st.store ≡ core.store
  pub frames : x.frames ≡ core.frames
  pub stage : x.stage ≡ Going
  pub fuel : st.fuel ≢ 0

-- the state with that store, one unit of fuel later
abbrev pub spent : State → Core → State
spent st new = with_store (with_less_fuel st) new.store

-- the state has a thread t that met bad code
abbrev pub HasBadThread : ℕ → StepOutcome → Type 0
HasBadThread t o = (st : State) × ((o ≡ Step st) × IsSomeAnd (thread_at st t) (λ x. x.stage ≡ Bad))

-- the outcome of the step is what the answer says, with the core that is left
abbrev pub ComesOut : System → State → ℕ → Thread → Core → Core → Stepped → StepOutcome → Type 0
ComesOut s st t x old new stepped.Going o = o ≡ Step (with_thread (spent st new) t (record x { frames = new.frames }))
ComesOut s st t x old new stepped.Overfull o = HasBadThread t o
ComesOut s st t x old new (stepped.Returned v) o = (o ≡ Step (after_finish s (spent st new) t x v)) × (new.frames ≡ [])
ComesOut s st t x old new (stepped.Threw r) o = (o ≡ Step (with_stage (spent st new) t x (Threw r))) × (new.frames ≡ [])
ComesOut s st t x old new (stepped.Asks a) o = (o ≡ Ask a) × (new ≡ old)
ComesOut s st t x old new stepped.BadCode o = o ≡ Ask (act.End reason.BadCode)

-- it is so in every state that has the core
abbrev pub SteppedAs : System → Core → Core → Stepped → Type 0
SteppedAs s old new answer = (st : State) (t : ℕ) (x : Thread) → HasCore old st t x → ComesOut s st t x old new answer (framed_step s st t x x.frames)

-- ---- what a row comes to

-- the place where a frame is after a step on numbers
abbrev pub place_after : System → Frame → NumStep → ℕ
place_after s f num.Next = pc_behind s f
place_after s f (num.Jump to) = to
place_after s f _ = f.pc

-- the running frame has done a step on numbers, and all else is as it was
pub record HasRun (s : System) (i : Instr) (old new : Core) (answer : NumStep) : Type 0 where
  pub frame : Frame
  pub callers : List Frame
  pub left : Frame
  pub was : old.frames ≡ frame ∷ callers
  pub frames : new.frames ≡ left ∷ callers
  pub row : Gives answer frame left (numeric_row s (class_of_frame s frame) (stack_limit s frame) i frame.locals frame.stack.values)
  pub method : left.method ≡ frame.method
  pub place : left.pc ≡ place_after s frame answer
  pub room : left.stack.room ≡ frame.stack.room
  pub store : new.store ≡ old.store

-- the frames from the one on that catches the object
abbrev pub catching : System → Store → ℕ → List Frame → List Frame
catching s store r frames = frames_at_handler s (unwrap_or (class_of_object store r) 0) r frames

-- the answer and the frames that are left are those of a throw of the object
abbrev pub Throws : System → Core → ℕ → Core → Stepped → Type 0
Throws s old r new stepped.Going = IsCaught s new.frames (catching s old.store r old.frames)
Throws s old r new stepped.Overfull = is_overfull s (catching s old.store r old.frames) ≡ true
Throws s old r new (stepped.Threw x) = (x ≡ r) × ((catching s old.store r old.frames ≡ []) × (new.frames ≡ []))
Throws s old r new _ = ⊥

-- the same of a new exception of the class
pub record Raises (s : System) (old : Core) (c : ℕ) (new : Core) (answer : Stepped) : Type 0 where
  pub object : ℕ
  pub made : new_exception s old.store c ≡ (new.store, object)
  pub thrown : Throws s (record old { store = new.store }) object new answer

-- the answer and the core that is left are those of an object row, in every state that has the core
abbrev pub ComesFrom : System → Instr → Core → Core → Stepped → Type 0
ComesFrom s i old new answer = (st : State) (t : ℕ) (x : Thread) → HasCore old st t x → ComesOut s st t x old new answer (after_object s st t x (object_row s old i))
