-- The calls that the threads of a domain serve: a step of a thread leaves them as they are.
use Rattle.std.proofs.Common.{◌≡◌, refl, sym, ◌∙◌, ap, ℕ, zero, suc, Bool, true, false, List, [], ◌∷◌, map, Option, Some, None, ◌==◌, slice_get}
use Rattle.std.specs.Prelude.{slice_set}
use Rattle.std.specs.Option.{unwrap_or}
use Rattle.jx_base.specs.declared.act.Act.TheVariants as act
use Rattle.jx_base.specs.declared.act.Reason.TheVariants as reason
use Rattle.jx_base.specs.declared.frame.Frame.{Frame}
use Rattle.jx_base.specs.declared.ids.CallId.{CallId}
use Rattle.jx_base.specs.declared.program.System.{System}
use Rattle.jx_base.specs.declared.value.Value.{Value}
use Rattle.program_model.specs.BuiltIn.{stack_overflow_error}
use Rattle.program_model.specs.Instructions.{Reading, instruction_at}
use Rattle.machine_model.specs.MachineThreads.{after_begin, after_finish, after_raise, after_throw, core_of, start_arguments, thread_at, with_frames, with_less_fuel, with_stage, with_store, with_thread}
use Rattle.machine_model.specs.NumericRows.{NumericOutcome, numeric_row}
use Rattle.machine_model.specs.NumericRows.{NumericOutcome as numeric}
use Rattle.machine_model.specs.ObjectRows.{ObjectOutcome, object_row}
use Rattle.machine_model.specs.ObjectRows.{ObjectOutcome as object}
use Rattle.machine_model.specs.Running.{Ask, Step, StepOutcome, after_numeric, after_object, after_steps, ends_by_bad_code, framed_step, row, stage_step, state_at_act, step}
use Rattle.machine_model.specs.State.{Bad, Going, Returned, Stage, State, Thread, Threw, class_of_frame, class_of_object, code_bytes, frame_of, frames_at_handler, is_overflow, new_exception, stack_limit}
use Rattle.machine_laws.proofs.Lists.{map_set, set_to_image}

-- the call that a thread serves
abbrev pub call_of : Thread → Option CallId
call_of x = x.call

-- the calls of a state's threads, that of thread 0 first
abbrev pub calls_of : State → List (Option CallId)
calls_of st = map call_of st.threads

-- the new state has the calls of the old one, but for thread t, which serves that one
abbrev pub Puts : ℕ → Option CallId → State → State → Type 0
Puts t c old new = calls_of new ≡ slice_set (calls_of old) t c

-- a thread that serves what it served leaves the calls as they are
pub stays : (old new : State) (t : ℕ) (x : Thread) → slice_get old.threads t ≡ Some x → Puts t x.call old new → calls_of new ≡ calls_of old
stays old new t x e h = h ∙ set_to_image call_of old.threads t x e

module _ (s : System) where
  -- a step that gives a state puts that call there
  abbrev PutsByStep : ℕ → Option CallId → State → StepOutcome → Type 0
  PutsByStep t c old (Step new) = Puts t c old new
  PutsByStep t c old (Ask a) = Unit {0}

  -- ---- parts of a state

  pub thread_puts : (st : State) (t : ℕ) (x : Thread) → Puts t x.call st (with_thread st t x)
  unfolding with_thread
  thread_puts st t x = map_set call_of st.threads t x

  pub frames_puts : (st : State) (t : ℕ) (x : Thread) (fs : List Frame) → Puts t x.call st (with_frames s st t x fs)
  unfolding with_frames
  frames_puts st t x fs = thread_puts st t _

  pub stage_puts : (st : State) (t : ℕ) (x : Thread) (g : Stage) → Puts t x.call st (with_stage st t x g)
  unfolding with_stage
  stage_puts st t x g = thread_puts st t _

  -- ---- throwing and methods

  pub throw_puts : (st : State) (t : ℕ) (x : Thread) (r : ℕ) → Puts t x.call st (after_throw s st t x r)
  unfolding after_throw
  throw_puts st t x r = by (frames_at_handler s (unwrap_or (class_of_object st.store r) 0) r x.frames) refl
    where
      by : (fs : List Frame) → frames_at_handler s (unwrap_or (class_of_object st.store r) 0) r x.frames ≡ fs → Puts t x.call st (after_throw s st t x r)
      by [] e = rw e (stage_puts st t x (Threw r))
      by (f ∷ fs) e = rw e (frames_puts st t x (f ∷ fs))

  pub raise_puts : (st : State) (t : ℕ) (x : Thread) (c : ℕ) → Puts t x.call st (after_raise s st t x c)
  unfolding after_raise with_store
  raise_puts st t x c = throw_puts (with_store st (new_exception s st.store c).0) t x (new_exception s st.store c).1

  pub begin_puts : (st : State) (t : ℕ) (x : Thread) (m : ℕ) (args : List Value) → Puts t x.call st (after_begin s st t x m args)
  unfolding after_begin
  begin_puts st t x m args = by (is_overflow s m []) (frame_of s m args)
    where
      by : (b : Bool) (o : Option Frame) → Puts t x.call st (elim b as (λ _. State) [
        | true ↦ after_raise s st t (record x { frames = [] }) stack_overflow_error
        | false ↦ elim o as (λ _. State) [ None ↦ with_stage st t x Bad | Some f ↦ with_frames s st t x (f ∷ []) ]
      ])
      by true o = raise_puts st t (record x { frames = [] }) stack_overflow_error
      by false None = stage_puts st t x Bad
      by false (Some f) = frames_puts st t x (f ∷ [])

  pub finish_puts : (st : State) (t : ℕ) (x : Thread) (v : Option Value) → Puts t x.call st (after_finish s st t x v)
  unfolding after_finish
  finish_puts st t x v = by x.waiting refl
    where
      by : (ms : List ℕ) → x.waiting ≡ ms → Puts t x.call st (after_finish s st t x v)
      by [] e = rw e (stage_puts st t _ (Returned v))
      by (m ∷ ms) e = rw e (begin_puts st t _ m (start_arguments s m))

  -- ---- one step

  numeric_puts : (st : State) (t : ℕ) (x : Thread) (f : Frame) (fs : List Frame) (next : ℕ) (o : NumericOutcome) → PutsByStep t x.call st (after_numeric s st t x f fs next o)
  unfolding after_numeric ends_by_bad_code with_less_fuel
  numeric_puts st t x f fs next (numeric.Next l k) = thread_puts (with_less_fuel st) t _
  numeric_puts st t x f fs next (numeric.Jump to l k) = thread_puts (with_less_fuel st) t _
  numeric_puts st t x f fs next (numeric.Raise c) = raise_puts (with_less_fuel st) t x c
  numeric_puts st t x f fs next numeric.BadCode = tt
  numeric_puts st t x f fs next numeric.NotMine = tt

  object_puts : (st : State) (t : ℕ) (x : Thread) (o : ObjectOutcome) → PutsByStep t x.call st (after_object s st t x o)
  unfolding after_object ends_by_bad_code with_less_fuel with_store
  object_puts st t x (object.Next core) = thread_puts (with_store (with_less_fuel st) core.store) t _
  object_puts st t x (object.Raise c) = raise_puts (with_less_fuel st) t x c
  object_puts st t x (object.Raised r core) = throw_puts (with_store (with_less_fuel st) core.store) t x r
  object_puts st t x (object.Ask a) = tt
  object_puts st t x (object.Finish v core) = finish_puts (with_store (with_less_fuel st) core.store) t x v
  object_puts st t x object.BadCode = tt
  object_puts st t x object.NotMine = tt

  row_puts : (st : State) (t : ℕ) (x : Thread) (f : Frame) (fs : List Frame) (i : Reading) → PutsByStep t x.call st (row s st t x f fs i)
  unfolding row
  row_puts st t x f fs i = by (numeric_row s (class_of_frame s f) (stack_limit s f) i.instr f.locals f.stack.values) refl
    where
      by : (o : NumericOutcome) → numeric_row s (class_of_frame s f) (stack_limit s f) i.instr f.locals f.stack.values ≡ o → PutsByStep t x.call st (row s st t x f fs i)
      by numeric.NotMine w = rw w (object_puts st t x (object_row s (core_of st x) i.instr))
      by (numeric.Next l y) w = rw w (numeric_puts st t x f fs i.next (numeric.Next l y))
      by (numeric.Jump p l y) w = rw w (numeric_puts st t x f fs i.next (numeric.Jump p l y))
      by (numeric.Raise c) w = rw w (numeric_puts st t x f fs i.next (numeric.Raise c))
      by numeric.BadCode w = rw w (numeric_puts st t x f fs i.next numeric.BadCode)

  framed_puts : (st : State) (t : ℕ) (x : Thread) (fs : List Frame) → PutsByStep t x.call st (framed_step s st t x fs)
  unfolding framed_step ends_by_bad_code
  framed_puts st t x [] = tt
  framed_puts st t x (f ∷ fs) = by (instruction_at (code_bytes s f) f.pc)
    where
      fueled : (i : Reading) (b : Bool) → PutsByStep t x.call st (elim b as (λ _. StepOutcome) [ true ↦ Ask (act.End reason.Fuel) | false ↦ row s st t x f fs i ])
      fueled i true = tt
      fueled i false = row_puts st t x f fs i

      by : (o : Option Reading) → PutsByStep t x.call st (elim o as (λ _. StepOutcome) [
        | None ↦ Ask (act.End reason.BadCode)
        | Some i ↦ elim (st.fuel == 0) as (λ _. StepOutcome) [ true ↦ Ask (act.End reason.Fuel) | false ↦ row s st t x f fs i ]
      ])
      by None = tt
      by (Some i) = fueled i (st.fuel == 0)

  staged_puts : (st : State) (t : ℕ) (x : Thread) (g : Stage) → PutsByStep t x.call st (stage_step s st t x g)
  unfolding stage_step
  staged_puts st t x Going = framed_puts st t x x.frames
  staged_puts st t x (Returned v) = tt
  staged_puts st t x (Threw r) = tt
  staged_puts st t x Bad = tt

  -- a step leaves the calls as they are
  pub step_calls : (st new : State) (t : ℕ) → step s st t ≡ Step new → calls_of new ≡ calls_of st
  unfolding step thread_at ends_by_bad_code
  step_calls st new t e = by (slice_get st.threads t) refl e
    where
      stepped : (x : Thread) (o : StepOutcome) → slice_get st.threads t ≡ Some x → o ≡ Step new → PutsByStep t x.call st o → calls_of new ≡ calls_of st
      stepped x (Step y) q e h = let w : y ≡ new = cc in stays st new t x q (ap calls_of (sym w) ∙ h)
      stepped x (Ask a) q e h = cc

      by : (o : Option Thread) → slice_get st.threads t ≡ o → elim o as (λ _. StepOutcome) [ None ↦ Ask (act.End reason.BadCode) | Some x ↦ stage_step s st t x x.stage ] ≡ Step new → calls_of new ≡ calls_of st
      by None q e = cc
      by (Some x) q e = stepped x (stage_step s st t x x.stage) q e (staged_puts st t x x.stage)

  -- so do several
  pub steps_calls : (t n : ℕ) (st : State) → calls_of (after_steps s t n st) ≡ calls_of st
  unfolding after_steps
  steps_calls t zero st = refl
  steps_calls t (suc n) st = by (step s st t) refl (λ new. steps_calls t n new)
    where
      by : (o : StepOutcome) → step s st t ≡ o → ((new : State) → calls_of (after_steps s t n new) ≡ calls_of new) → calls_of (elim o as (λ _. State) [ Step new ↦ after_steps s t n new | Ask a ↦ st ]) ≡ calls_of st
      by (Step new) e again = again new ∙ step_calls st new t e
      by (Ask a) e again = refl

  -- the calls at the next act are the same
  pub at_act_calls : (st : State) → calls_of (state_at_act s st) ≡ calls_of st
  unfolding state_at_act
  at_act_calls st = by st.running
    where
      by : (o : Option ℕ) → calls_of (elim o as (λ _. State) [ None ↦ st | Some t ↦ after_steps s t st.fuel st ]) ≡ calls_of st
      by None = refl
      by (Some t) = steps_calls t st.fuel st
