-- A step of a domain's running thread keeps which one runs, how many there are, and all others.
use Rattle.std.proofs.Common.{◌≡◌, ◌≢◌, refl, sym, ◌∙◌, ap, ℕ, zero, suc, Bool, true, false, List, [], ◌∷◌, length, Option, Some, None, ◌==◌, slice_get, slice_set}
use Rattle.jx_base.specs.declared.act.Act.TheVariants as act
use Rattle.jx_base.specs.declared.act.Reason.TheVariants as reason
use Rattle.jx_base.specs.declared.frame.Frame.{Frame}
use Rattle.jx_base.specs.declared.program.System.{System}
use Rattle.jx_base.specs.declared.value.Value.{Value}
use Rattle.machine_model.specs.MachineThreads.{thread_at, with_thread, with_store, with_less_fuel, with_frames, with_stage, core_of, after_throw, after_raise, after_begin, after_finish, start_arguments}
use Rattle.machine_model.specs.NumericRows.{NumericOutcome, numeric_row}
use Rattle.machine_model.specs.NumericRows.{NumericOutcome as numeric}
use Rattle.machine_model.specs.ObjectRows.{ObjectOutcome, object_row}
use Rattle.machine_model.specs.ObjectRows.{ObjectOutcome as object}
use Rattle.machine_model.specs.Running.{StepOutcome, Step, Ask, step, stage_step, framed_step, row, ends_by_bad_code, after_numeric, after_object, after_steps}
use Rattle.machine_model.specs.State.{Store, Stage, Going, Returned, Threw, Bad, Thread, State, class_of_object, new_exception, frame_of, is_overflow, frames_at_handler, code_bytes, class_of_frame, stack_limit}
use Rattle.program_model.specs.BuiltIn.{stack_overflow_error}
use Rattle.program_model.specs.Instructions.{Reading, instruction_at}
use Rattle.machine_laws.specs.Standing.{advanced}
use Rattle.machine_laws.proofs.Lists.{length_set}
use Rattle.std.specs.Option.{unwrap_or}

-- ---- lists

-- an item that is set
pub get_set : {X : Type 0} (xs : List X) (i : ℕ) (v x y : X) → slice_get xs i ≡ Some x → slice_get (slice_set xs i v) i ≡ Some y → y ≡ v
get_set [] i v x y h k = cc
get_set (z ∷ xs) zero v x y h k = cc
get_set (z ∷ xs) (suc i) v x y h k = get_set xs i v x y h k

-- the other items
pub get_others : {X : Type 0} (xs : List X) (i : ℕ) (v : X) (k : ℕ) → k ≢ i → slice_get (slice_set xs i v) k ≡ slice_get xs k
get_others [] i v k h = refl
get_others (z ∷ xs) zero v zero h = absurd (h refl)
get_others (z ∷ xs) zero v (suc k) h = refl
get_others (z ∷ xs) (suc i) v zero h = refl
get_others (z ∷ xs) (suc i) v (suc k) h = get_others xs i v k (λ q. h (ap suc q))

-- ---- what only thread t changes

-- the same thread runs, there are as many, and those other than t are the same
pub record ChangesOnly (t : ℕ) (old new : State) : Type 0 where
  pub running : new.running ≡ old.running
  pub count : length new.threads ≡ length old.threads
  pub others : (k : ℕ) → k ≢ t → thread_at new k ≡ thread_at old k

pub changes_none : (t : ℕ) (st : State) → ChangesOnly t st st
changes_none t st = record { running = refl; count = refl; others = λ k h. refl }

module _ (s : System) (old : State) (t : ℕ) where
  -- the state has of the old one all but thread t
  abbrev pub Q : State → Type 0
  Q st = ChangesOnly t old st

  -- so has the state that a step gives
  abbrev pub StepsOnly : StepOutcome → Type 0
  StepsOnly (Step new) = Q new
  StepsOnly (Ask a) = Unit {0}

  -- ---- parts of a state

  pub thread_only : (st : State) (x : Thread) → Q st → Q (with_thread st t x)
  unfolding with_thread thread_at
  thread_only st x h = record { running = h.running; count = length_set st.threads t x ∙ h.count; others = λ k q. get_others st.threads t x k q ∙ h.others k q }

  pub store_only : (st : State) (store : Store) → Q st → Q (with_store st store)
  unfolding with_store thread_at
  store_only st store h = record { running = h.running; count = h.count; others = h.others }

  pub fuel_only : (st : State) → Q st → Q (with_less_fuel st)
  unfolding with_less_fuel thread_at
  fuel_only st h = record { running = h.running; count = h.count; others = h.others }

  pub frames_only : (st : State) (x : Thread) (fs : List Frame) → Q st → Q (with_frames s st t x fs)
  unfolding with_frames
  frames_only st x fs h = thread_only st _ h

  pub stage_only : (st : State) (x : Thread) (g : Stage) → Q st → Q (with_stage st t x g)
  unfolding with_stage
  stage_only st x g h = thread_only st _ h

  -- ---- throwing and methods

  pub throw_only : (st : State) (x : Thread) (r : ℕ) → Q st → Q (after_throw s st t x r)
  unfolding after_throw
  throw_only st x r h = by (frames_at_handler s (unwrap_or (class_of_object st.store r) 0) r x.frames) refl
    where
      by : (fs : List Frame) → frames_at_handler s (unwrap_or (class_of_object st.store r) 0) r x.frames ≡ fs → Q (after_throw s st t x r)
      by [] e = rw e (stage_only st x (Threw r) h)
      by (f ∷ fs) e = rw e (frames_only st x (f ∷ fs) h)

  pub raise_only : (st : State) (x : Thread) (c : ℕ) → Q st → Q (after_raise s st t x c)
  unfolding after_raise
  raise_only st x c h = throw_only (with_store st (new_exception s st.store c).0) x (new_exception s st.store c).1 (store_only st (new_exception s st.store c).0 h)

  pub begin_only : (st : State) (x : Thread) (m : ℕ) (args : List Value) → Q st → Q (after_begin s st t x m args)
  unfolding after_begin
  begin_only st x m args h = by (is_overflow s m []) (frame_of s m args)
    where
      by : (b : Bool) (o : Option Frame) → Q (elim b as (λ _. State) [
        | true ↦ after_raise s st t (record x { frames = [] }) stack_overflow_error
        | false ↦ elim o as (λ _. State) [ None ↦ with_stage st t x Bad | Some f ↦ with_frames s st t x (f ∷ []) ]
      ])
      by true o = raise_only st (record x { frames = [] }) stack_overflow_error h
      by false None = stage_only st x Bad h
      by false (Some f) = frames_only st x (f ∷ []) h

  pub finish_only : (st : State) (x : Thread) (v : Option Value) → Q st → Q (after_finish s st t x v)
  unfolding after_finish
  finish_only st x v h = by x.waiting refl
    where
      by : (ms : List ℕ) → x.waiting ≡ ms → Q (after_finish s st t x v)
      by [] e = rw e (stage_only st _ (Returned v) h)
      by (m ∷ ms) e = rw e (begin_only st _ m (start_arguments s m) h)

  -- ---- one step

  pub numeric_only : (st : State) (x : Thread) (f : Frame) (fs : List Frame) (next : ℕ) (o : NumericOutcome) → Q st → StepsOnly (after_numeric s st t x f fs next o)
  unfolding after_numeric ends_by_bad_code
  numeric_only st x f fs next (numeric.Next l k) h = thread_only (with_less_fuel st) _ (fuel_only st h)
  numeric_only st x f fs next (numeric.Jump to l k) h = thread_only (with_less_fuel st) _ (fuel_only st h)
  numeric_only st x f fs next (numeric.Raise c) h = raise_only (with_less_fuel st) x c (fuel_only st h)
  numeric_only st x f fs next numeric.BadCode h = tt
  numeric_only st x f fs next numeric.NotMine h = tt

  -- a state with less fuel and another store
  abbrev spent : State → Store → State
  spent st store = with_store (with_less_fuel st) store

  spent_only : (st : State) (store : Store) → Q st → Q (spent st store)
  spent_only st store h = store_only (with_less_fuel st) store (fuel_only st h)

  pub object_only : (st : State) (x : Thread) (o : ObjectOutcome) → Q st → StepsOnly (after_object s st t x o)
  unfolding after_object ends_by_bad_code
  object_only st x (object.Next core) h = thread_only (spent st core.store) _ (spent_only st core.store h)
  object_only st x (object.Raise c) h = raise_only (with_less_fuel st) x c (fuel_only st h)
  object_only st x (object.Raised r core) h = throw_only (spent st core.store) x r (spent_only st core.store h)
  object_only st x (object.Ask a) h = tt
  object_only st x (object.Finish v core) h = finish_only (spent st core.store) x v (spent_only st core.store h)
  object_only st x object.BadCode h = tt
  object_only st x object.NotMine h = tt

  pub row_only : (st : State) (x : Thread) (f : Frame) (fs : List Frame) (i : Reading) → Q st → StepsOnly (row s st t x f fs i)
  unfolding row
  row_only st x f fs i h = by (numeric_row s (class_of_frame s f) (stack_limit s f) i.instr f.locals f.stack.values) refl
    where
      by : (o : NumericOutcome) → numeric_row s (class_of_frame s f) (stack_limit s f) i.instr f.locals f.stack.values ≡ o → StepsOnly (row s st t x f fs i)
      by numeric.NotMine w = rw w (object_only st x (object_row s (core_of st x) i.instr) h)
      by (numeric.Next l y) w = rw w (numeric_only st x f fs i.next (numeric.Next l y) h)
      by (numeric.Jump p l y) w = rw w (numeric_only st x f fs i.next (numeric.Jump p l y) h)
      by (numeric.Raise c) w = rw w (numeric_only st x f fs i.next (numeric.Raise c) h)
      by numeric.BadCode w = rw w (numeric_only st x f fs i.next numeric.BadCode h)

  pub framed_only : (st : State) (x : Thread) (fs : List Frame) → Q st → StepsOnly (framed_step s st t x fs)
  unfolding framed_step ends_by_bad_code
  framed_only st x [] h = tt
  framed_only st x (f ∷ fs) h = by (instruction_at (code_bytes s f) f.pc)
    where
      fueled : (i : Reading) (b : Bool) → StepsOnly (elim b as (λ _. StepOutcome) [ true ↦ Ask (act.End reason.Fuel) | false ↦ row s st t x f fs i ])
      fueled i true = tt
      fueled i false = row_only st x f fs i h

      by : (o : Option Reading) → StepsOnly (elim o as (λ _. StepOutcome) [
        | None ↦ Ask (act.End reason.BadCode)
        | Some i ↦ elim (st.fuel == 0) as (λ _. StepOutcome) [ true ↦ Ask (act.End reason.Fuel) | false ↦ row s st t x f fs i ]
      ])
      by None = tt
      by (Some i) = fueled i (st.fuel == 0)

  pub staged_only : (st : State) (x : Thread) (g : Stage) → Q st → StepsOnly (stage_step s st t x g)
  unfolding stage_step
  staged_only st x Going h = framed_only st x x.frames h
  staged_only st x (Returned v) h = tt
  staged_only st x (Threw r) h = tt
  staged_only st x Bad h = tt

  pub step_only : (st : State) → Q st → StepsOnly (step s st t)
  unfolding step ends_by_bad_code
  step_only st h = by (thread_at st t)
    where
      by : (o : Option Thread) → StepsOnly (elim o as (λ _. StepOutcome) [ None ↦ Ask (act.End reason.BadCode) | Some x ↦ stage_step s st t x x.stage ])
      by None = tt
      by (Some x) = staged_only st x x.stage h

  pub steps_only : (n : ℕ) (st : State) → Q st → Q (after_steps s t n st)
  unfolding after_steps
  steps_only zero st h = h
  steps_only (suc n) st h = by (step s st t) (step_only st h) (λ new k. steps_only n new k)
    where
      by : (o : StepOutcome) → StepsOnly o → ((new : State) → Q new → Q (after_steps s t n new)) → Q (elim o as (λ _. State) [ Step new ↦ after_steps s t n new | Ask a ↦ st ])
      by (Step new) k again = again new k
      by (Ask a) k again = h

-- ---- on the way to the next act

-- the same thread runs, there are as many, and those that don't run are the same
pub record ChangesRunning (old new : State) : Type 0 where
  pub running : new.running ≡ old.running
  pub count : length new.threads ≡ length old.threads
  pub others : (k : ℕ) → old.running ≢ Some k → thread_at new k ≡ thread_at old k

pub advanced_only : (s : System) (n : ℕ) (st : State) → ChangesRunning st (advanced s n st)
unfolding advanced
advanced_only s n st = by st.running refl
  where
    by : (o : Option ℕ) → st.running ≡ o → ChangesRunning st (elim o as (λ _. State) [ None ↦ st | Some t ↦ after_steps s t n st ])
    by None q = record { running = refl; count = refl; others = λ k h. refl }
    by (Some t) q =
        let x = steps_only s st t n st (changes_none t st) in
        record { running = x.running; count = x.count; others = λ k h. x.others k (λ z. h (q ∙ ap (λ (n : ℕ). let o : Option ℕ = Some n in o) (sym z))) }
