-- Each step of a domain keeps the stacks of its threads within their limits.
use Rattle.std.proofs.Common.{◌≡◌, refl, subst, ℕ, zero, suc, Bool, true, false, List, [], ◌∷◌, drop, Option, Some, None, ◌==◌, slice_get}
use Rattle.std.specs.Prelude.{if◌then◌else◌}
use Rattle.std.specs.List.{AllByRecursion}
use Rattle.std.specs.Option.{unwrap_or}
use Rattle.jx_base.specs.declared.act.Act.TheVariants as act
use Rattle.jx_base.specs.declared.act.Reason.TheVariants as reason
use Rattle.jx_base.specs.declared.frame.Frame.{Frame}
use Rattle.jx_base.specs.declared.program.System.{System}
use Rattle.jx_base.specs.declared.program.Template.{Template}
use Rattle.jx_base.specs.declared.value.Value.{Value}
use Rattle.jx_base.specs.declared.value.Value.TheVariants as value
use Rattle.machine_model.specs.MachineThreads.{thread_at, with_thread, with_store, with_less_fuel, idle_thread, with_frames, with_stage, core_of, after_throw, after_raise, after_begin, after_finish, start_arguments}
use Rattle.machine_model.specs.NumericRows.{NumericOutcome, numeric_row}
use Rattle.machine_model.specs.NumericRows.{NumericOutcome as numeric}
use Rattle.machine_model.specs.ObjectRows.{ObjectOutcome, object_row}
use Rattle.machine_model.specs.ObjectRows.{ObjectOutcome as object}
use Rattle.machine_model.specs.Running.{StepOutcome, Step, Ask, step, stage_step, framed_step, row, ends_by_bad_code, after_numeric, after_object, after_steps, state_at_act}
use Rattle.machine_model.specs.Start.{start_of}
use Rattle.machine_model.specs.State.{Store, Stage, Going, Returned, Threw, Bad, Thread, State, class_of_object, new_exception, frame_of, is_overflow, is_overfull, handler_in, frames_at_handler, code_bytes, class_of_frame, stack_limit, with_values}
use Rattle.program_model.specs.BuiltIn.{stack_overflow_error}
use Rattle.program_model.specs.Instructions.{Reading, instruction_at}
use Rattle.machine_laws.specs.Depths.{IsWithin, HasStacksWithin, HaveStacksWithin}
use Rattle.machine_laws.specs.Standing.{advanced}
use Rattle.machine_laws.proofs.Lists.{all_drop, all_get, all_set}
use Rattle.machine_laws.proofs.NumericDepths.{LeavesWithin, numeric_within}
use Rattle.machine_laws.proofs.ObjectDepths.{LeavesFramesWithin, first_within, object_within}

module _ (s : System) where
  -- the stacks of these frames are within their limits
  abbrev pub Fs : List Frame → Type 0
  Fs fs = AllByRecursion (IsWithin s) fs

  -- so they are in a state that a step gives
  abbrev pub StepsWithin : StepOutcome → Type 0
  StepsWithin (Step new) = HaveStacksWithin s new
  StepsWithin (Ask a) = Unit {0}

  -- ---- parts of a state

  pub thread_within : (st : State) (t : ℕ) (x : Thread) → HaveStacksWithin s st → HasStacksWithin s x → HaveStacksWithin s (with_thread st t x)
  unfolding with_thread
  thread_within st t x h i = all_set (HasStacksWithin s) st.threads t x i h

  pub store_within : (st : State) (store : Store) → HaveStacksWithin s st → HaveStacksWithin s (with_store st store)
  unfolding with_store
  store_within st store h = h

  pub fuel_within : (st : State) → HaveStacksWithin s st → HaveStacksWithin s (with_less_fuel st)
  unfolding with_less_fuel
  fuel_within st h = h

  pub frames_within : (st : State) (t : ℕ) (x : Thread) (f : Frame) (fs : List Frame) → HaveStacksWithin s st → Fs fs → HaveStacksWithin s (with_frames s st t x (f ∷ fs))
  unfolding with_frames
  frames_within st t x f fs h i = thread_within st t _ h (record { below = i; going = by (is_overfull s (f ∷ fs)) refl })
    where
      by : (b : Bool) → is_overfull s (f ∷ fs) ≡ b → (if b then Bad else Going) ≡ Going → Fs (f ∷ fs)
      by true e q = cc
      by false e q = (first_within s f fs e, i)

  pub stage_within : (st : State) (t : ℕ) (x : Thread) (g : Stage) → HaveStacksWithin s st → HaveStacksWithin s (with_stage st t x g)
  unfolding with_stage
  stage_within st t x g h = thread_within st t _ h (record { below = tt; going = λ e. tt })

  -- ---- throwing and methods

  pub handler_within : (c r : ℕ) (fs : List Frame) → Fs (drop 1 fs) → Fs (drop 1 (frames_at_handler s c r fs))
  unfolding frames_at_handler
  handler_within c r [] i = tt
  handler_within c r (f ∷ fs) i = by (handler_in s c f) (handler_within c r fs (all_drop (IsWithin s) 1 fs i))
    where
      by : (h : Option ℕ) → Fs (drop 1 (frames_at_handler s c r fs)) → Fs (drop 1 (elim h as (λ _. List Frame) [ Some p ↦ record (with_values (value.Ref r ∷ []) f) { pc = p } ∷ fs | None ↦ frames_at_handler s c r fs ]))
      by None again = again
      by (Some p) again = i

  pub throw_within : (st : State) (t : ℕ) (x : Thread) (r : ℕ) → HaveStacksWithin s st → Fs (drop 1 x.frames) → HaveStacksWithin s (after_throw s st t x r)
  unfolding after_throw
  throw_within st t x r h i = by (frames_at_handler s (unwrap_or (class_of_object st.store r) 0) r x.frames) refl
    where
      k : Fs (drop 1 (frames_at_handler s (unwrap_or (class_of_object st.store r) 0) r x.frames))
      k = handler_within (unwrap_or (class_of_object st.store r) 0) r x.frames i

      by : (fs : List Frame) → frames_at_handler s (unwrap_or (class_of_object st.store r) 0) r x.frames ≡ fs → HaveStacksWithin s (after_throw s st t x r)
      by [] e = rw e (stage_within st t x (Threw r) h)
      by (f ∷ fs) e = rw e (frames_within st t x f fs h (subst (λ (xs : List Frame). Fs (drop 1 xs)) e k))

  pub raise_within : (st : State) (t : ℕ) (x : Thread) (c : ℕ) → HaveStacksWithin s st → Fs (drop 1 x.frames) → HaveStacksWithin s (after_raise s st t x c)
  unfolding after_raise
  raise_within st t x c h i =
      throw_within (with_store st (new_exception s st.store c).0) t x (new_exception s st.store c).1 (store_within st (new_exception s st.store c).0 h) i

  pub begin_within : (st : State) (t : ℕ) (x : Thread) (m : ℕ) (args : List Value) → HaveStacksWithin s st → HaveStacksWithin s (after_begin s st t x m args)
  unfolding after_begin
  begin_within st t x m args h = by (is_overflow s m []) (frame_of s m args)
    where
      by : (b : Bool) (o : Option Frame) → HaveStacksWithin s (elim b as (λ _. State) [
        | true ↦ after_raise s st t (record x { frames = [] }) stack_overflow_error
        | false ↦ elim o as (λ _. State) [ None ↦ with_stage st t x Bad | Some f ↦ with_frames s st t x (f ∷ []) ]
      ])
      by true o = raise_within st t (record x { frames = [] }) stack_overflow_error h tt
      by false None = stage_within st t x Bad h
      by false (Some f) = frames_within st t x f [] h tt

  pub finish_within : (st : State) (t : ℕ) (x : Thread) (v : Option Value) → HaveStacksWithin s st → HaveStacksWithin s (after_finish s st t x v)
  unfolding after_finish
  finish_within st t x v h = by x.waiting refl
    where
      by : (ms : List ℕ) → x.waiting ≡ ms → HaveStacksWithin s (after_finish s st t x v)
      by [] e = rw e (stage_within st t _ (Returned v) h)
      by (m ∷ ms) e = rw e (begin_within st t _ m (start_arguments s m) h)

  -- ---- one step

  pub numeric_step : (st : State) (t : ℕ) (x : Thread) (f : Frame) (fs : List Frame) (next : ℕ) (o : NumericOutcome) → HaveStacksWithin s st → Fs fs → Fs (drop 1 x.frames) → LeavesWithin (stack_limit s f) o → StepsWithin (after_numeric s st t x f fs next o)
  unfolding after_numeric ends_by_bad_code with_values stack_limit
  numeric_step st t x f fs next (numeric.Next l k) h i j d = thread_within (with_less_fuel st) t _ (fuel_within st h) (record { below = i; going = λ e. (d, i) })
  numeric_step st t x f fs next (numeric.Jump to l k) h i j d = thread_within (with_less_fuel st) t _ (fuel_within st h) (record { below = i; going = λ e. (d, i) })
  numeric_step st t x f fs next (numeric.Raise c) h i j d = raise_within (with_less_fuel st) t x c (fuel_within st h) j
  numeric_step st t x f fs next numeric.BadCode h i j d = tt
  numeric_step st t x f fs next numeric.NotMine h i j d = tt

  -- a state with less fuel and another store
  abbrev spent : State → Store → State
  spent st store = with_store (with_less_fuel st) store

  pub spent_within : (st : State) (store : Store) → HaveStacksWithin s st → HaveStacksWithin s (spent st store)
  spent_within st store h = store_within (with_less_fuel st) store (fuel_within st h)

  pub object_step : (st : State) (t : ℕ) (x : Thread) (o : ObjectOutcome) → HaveStacksWithin s st → Fs (drop 1 x.frames) → LeavesFramesWithin s o → StepsWithin (after_object s st t x o)
  unfolding after_object ends_by_bad_code
  object_step st t x (object.Next core) h j d = thread_within (spent st core.store) t _ (spent_within st core.store h) (record { below = all_drop (IsWithin s) 1 core.frames d; going = λ e. d })
  object_step st t x (object.Raise c) h j d = raise_within (with_less_fuel st) t x c (fuel_within st h) j
  object_step st t x (object.Raised r core) h j d = throw_within (spent st core.store) t x r (spent_within st core.store h) j
  object_step st t x (object.Ask a) h j d = tt
  object_step st t x (object.Finish v core) h j d = finish_within (spent st core.store) t x v (spent_within st core.store h)
  object_step st t x object.BadCode h j d = tt
  object_step st t x object.NotMine h j d = tt

  pub row_step : (st : State) (t : ℕ) (x : Thread) (f : Frame) (fs : List Frame) (i : Reading) → HaveStacksWithin s st → Fs x.frames → x.frames ≡ f ∷ fs → StepsWithin (row s st t x f fs i)
  unfolding row core_of
  row_step st t x f fs i h k e = by (numeric_row s (class_of_frame s f) (stack_limit s f) i.instr f.locals f.stack.values) refl
      (numeric_within (stack_limit s f) s (class_of_frame s f) i.instr f.locals f.stack.values all.0)
    where
      all : Fs (f ∷ fs)
      all = subst Fs e k

      below : Fs (drop 1 x.frames)
      below = all_drop (IsWithin s) 1 x.frames k

      by : (o : NumericOutcome) → numeric_row s (class_of_frame s f) (stack_limit s f) i.instr f.locals f.stack.values ≡ o → LeavesWithin (stack_limit s f) o → StepsWithin (row s st t x f fs i)
      by numeric.NotMine w d = rw w (object_step st t x (object_row s (core_of st x) i.instr) h below (object_within s (core_of st x) i.instr k))
      by (numeric.Next l y) w d = rw w (numeric_step st t x f fs i.next (numeric.Next l y) h all.1 below d)
      by (numeric.Jump p l y) w d = rw w (numeric_step st t x f fs i.next (numeric.Jump p l y) h all.1 below d)
      by (numeric.Raise c) w d = rw w (numeric_step st t x f fs i.next (numeric.Raise c) h all.1 below d)
      by numeric.BadCode w d = rw w (numeric_step st t x f fs i.next numeric.BadCode h all.1 below d)

  pub frames_step : (st : State) (t : ℕ) (x : Thread) (fs : List Frame) → HaveStacksWithin s st → Fs x.frames → x.frames ≡ fs → StepsWithin (framed_step s st t x fs)
  unfolding framed_step ends_by_bad_code
  frames_step st t x [] h k e = tt
  frames_step st t x (f ∷ fs) h k e = by (instruction_at (code_bytes s f) f.pc)
    where
      fueled : (i : Reading) (b : Bool) → StepsWithin (elim b as (λ _. StepOutcome) [ true ↦ Ask (act.End reason.Fuel) | false ↦ row s st t x f fs i ])
      fueled i true = tt
      fueled i false = row_step st t x f fs i h k e

      by : (o : Option Reading) → StepsWithin (elim o as (λ _. StepOutcome) [
        | None ↦ Ask (act.End reason.BadCode)
        | Some i ↦ elim (st.fuel == 0) as (λ _. StepOutcome) [ true ↦ Ask (act.End reason.Fuel) | false ↦ row s st t x f fs i ]
      ])
      by None = tt
      by (Some i) = fueled i (st.fuel == 0)

  pub staged_step : (st : State) (t : ℕ) (x : Thread) (g : Stage) → HaveStacksWithin s st → HasStacksWithin s x → x.stage ≡ g → StepsWithin (stage_step s st t x g)
  unfolding stage_step
  staged_step st t x Going h k e = frames_step st t x x.frames h (k.going e) refl
  staged_step st t x (Returned v) h k e = tt
  staged_step st t x (Threw r) h k e = tt
  staged_step st t x Bad h k e = tt

  -- a step keeps them within their limits
  pub step_within : (st : State) (t : ℕ) → HaveStacksWithin s st → StepsWithin (step s st t)
  unfolding step thread_at ends_by_bad_code
  step_within st t h = by (slice_get st.threads t) refl
    where
      by : (o : Option Thread) → slice_get st.threads t ≡ o → StepsWithin (elim o as (λ _. StepOutcome) [ None ↦ Ask (act.End reason.BadCode) | Some x ↦ stage_step s st t x x.stage ])
      by None e = tt
      by (Some x) e = staged_step st t x x.stage h (all_get (HasStacksWithin s) st.threads t x e h) refl

  pub steps_within : (t n : ℕ) (st : State) → HaveStacksWithin s st → HaveStacksWithin s (after_steps s t n st)
  unfolding after_steps
  steps_within t zero st h = h
  steps_within t (suc n) st h = by (step s st t) (step_within st t h) (λ new k. steps_within t n new k)
    where
      by : (o : StepOutcome) → StepsWithin o → ((new : State) → HaveStacksWithin s new → HaveStacksWithin s (after_steps s t n new)) → HaveStacksWithin s (elim o as (λ _. State) [ Step new ↦ after_steps s t n new | Ask a ↦ st ])
      by (Step new) k again = again new k
      by (Ask a) k again = h

  -- on the way to the next act
  pub advanced_within : (n : ℕ) (st : State) → HaveStacksWithin s st → HaveStacksWithin s (advanced s n st)
  unfolding advanced
  advanced_within n st h = by st.running
    where
      by : (o : Option ℕ) → HaveStacksWithin s (elim o as (λ _. State) [ None ↦ st | Some t ↦ after_steps s t n st ])
      by None = h
      by (Some t) = steps_within t n st h

  -- and at the next act
  pub at_act_within : (st : State) → HaveStacksWithin s st → HaveStacksWithin s (state_at_act s st)
  unfolding state_at_act
  at_act_within st h = by st.running
    where
      by : (o : Option ℕ) → HaveStacksWithin s (elim o as (λ _. State) [ None ↦ st | Some t ↦ after_steps s t st.fuel st ])
      by None = h
      by (Some t) = steps_within t st.fuel st h

  -- so they are at the start
  pub start_within : (t : Template) → HaveStacksWithin s (start_of s t)
  unfolding start_of idle_thread
  start_within t = finish_within _ 0 _ None (record { below = tt; going = λ e. tt }, tt)
