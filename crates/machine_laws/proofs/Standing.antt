-- A state that stands for a domain on the way to its next act.
use Rattle.std.proofs.Common.{◌≡◌, refl, sym, ◌∙◌, ap, subst, ℕ, suc, zero, ◌+◌, ◌≤◌, Bool, true, false, List, [], ◌∷◌, Option, Some, None, arith, ◌==◌, ◌⊎◌, inl, inr}
use Rattle.std.specs.Prelude.{⊤}
use Rattle.std.proofs.lemmas.Bool.Decides.{nat_tests}
use Rattle.jx_base.specs.declared.act.Act.{Act}
use Rattle.jx_base.specs.declared.act.Act.TheVariants as act
use Rattle.jx_base.specs.declared.act.Reason.TheVariants as reason
use Rattle.jx_base.specs.declared.act.Entry.{Entry}
use Rattle.jx_base.specs.declared.frame.Frame.{Frame}
use Rattle.jx_base.specs.declared.program.System.{System}
use Rattle.jx_base.specs.declared.value.Value.{Value}
use Rattle.jx_base.specs.Histories.{Past}
use Rattle.program_model.specs.Instructions.{Reading, instruction_at}
use Rattle.machine_model.specs.NumericRows.{NumericOutcome, numeric_row}
use Rattle.machine_model.specs.NumericRows.{NumericOutcome as numeric}
use Rattle.machine_model.specs.State.{Stage, Going, Thread, State, class_of_object, new_exception, frame_of, is_overflow, frames_at_handler, code_bytes, class_of_frame, stack_limit}
use Rattle.machine_model.specs.ObjectRows.{ObjectOutcome, object_row}
use Rattle.machine_model.specs.ObjectRows.{ObjectOutcome as object}
use Rattle.machine_model.specs.MachineThreads.{thread_at, with_thread, with_store, with_less_fuel, with_frames, with_stage, core_of, after_throw, after_raise, after_begin, after_finish}
use Rattle.machine_model.specs.Running.{StepOutcome, Step, Ask, step, stage_step, framed_step, row, ends_by_bad_code, after_numeric, after_object, after_steps, state_at_act}
use Rattle.machine_model.specs.AfterEntry.{after_entry}
use Rattle.machine_model.specs.Machine.{Does, Idle, domain_state, act_in, next_act}
use Rattle.machine_laws.specs.Standing.{advanced, Stands, Asks, StepsTo, StandingHolds}
use Rattle.std.specs.Option.{unwrap_or}

-- ---- a step keeps the running thread and takes one of the fuel

-- the same thread runs, with the same fuel
pub record Keeps (old new : State) : Type 0 where
  pub running : new.running ≡ old.running
  pub fuel : new.fuel ≡ old.fuel

-- the same thread runs, with one less of the fuel
abbrev pub StepKeeps : State → StepOutcome → Type 0
StepKeeps st (Step new) = Keeps (with_less_fuel st) new
StepKeeps st (Ask a) = ⊤

pub throw_keeps : (s : System) (st : State) (t : ℕ) (x : Thread) (r : ℕ) → Keeps st (after_throw s st t x r)
unfolding after_throw with_stage with_frames with_thread
throw_keeps s st t x r = by (frames_at_handler s (unwrap_or (class_of_object st.store r) 0) r x.frames) refl
  where
    by : (fs : List Frame) → frames_at_handler s (unwrap_or (class_of_object st.store r) 0) r x.frames ≡ fs → Keeps st (after_throw s st t x r)
    by [] e = rw e (record { running = refl; fuel = refl })
    by (f ∷ fs) e = rw e (record { running = refl; fuel = refl })

pub raise_keeps : (s : System) (st : State) (t : ℕ) (x : Thread) (c : ℕ) → Keeps st (after_raise s st t x c)
unfolding after_raise with_store
raise_keeps s st t x c =
    let e = new_exception s st.store c in
    let k = throw_keeps s (with_store st e.0) t x e.1 in
    record { running = k.running; fuel = k.fuel }

pub begin_keeps : (s : System) (st : State) (t : ℕ) (x : Thread) (m : ℕ) (args : List Value) → Keeps st (after_begin s st t x m args)
unfolding after_begin with_stage with_frames with_thread
begin_keeps s st t x m args = by (is_overflow s m []) (frame_of s m args) refl refl
  where
    by : (b : Bool) (o : Option Frame) → is_overflow s m [] ≡ b → frame_of s m args ≡ o → Keeps st (after_begin s st t x m args)
    by true o e q = rw (e, after_begin) (raise_keeps s st t _ _)
    by false None e q = rw (e, q, after_begin) (record { running = refl; fuel = refl })
    by false (Some f) e q = rw (e, q, after_begin) (record { running = refl; fuel = refl })

pub finish_keeps : (s : System) (st : State) (t : ℕ) (x : Thread) (v : Option Value) → Keeps st (after_finish s st t x v)
unfolding after_finish with_stage with_thread
finish_keeps s st t x v = by x.waiting refl
  where
    by : (ms : List ℕ) → x.waiting ≡ ms → Keeps st (after_finish s st t x v)
    by [] e = rw e (record { running = refl; fuel = refl })
    by (m ∷ ms) e = rw e (begin_keeps s st t _ m _)

pub numeric_keeps : (s : System) (st : State) (t : ℕ) (x : Thread) (f : Frame) (fs : List Frame) (next : ℕ) (o : NumericOutcome) → StepKeeps st (after_numeric s st t x f fs next o)
unfolding after_numeric with_thread ends_by_bad_code
numeric_keeps s st t x f fs next (numeric.Next locals stack) = record { running = refl; fuel = refl }
numeric_keeps s st t x f fs next (numeric.Jump to locals stack) = record { running = refl; fuel = refl }
numeric_keeps s st t x f fs next (numeric.Raise c) = raise_keeps s (with_less_fuel st) t x c
numeric_keeps s st t x f fs next _ = tt

pub object_keeps : (s : System) (st : State) (t : ℕ) (x : Thread) (o : ObjectOutcome) → StepKeeps st (after_object s st t x o)
unfolding after_object with_thread with_store ends_by_bad_code
object_keeps s st t x (object.Next core) = record { running = refl; fuel = refl }
object_keeps s st t x (object.Raise c) = raise_keeps s (with_less_fuel st) t x c
object_keeps s st t x (object.Raised r core) =
    let k = throw_keeps s (with_store (with_less_fuel st) core.store) t x r in record { running = k.running; fuel = k.fuel }
object_keeps s st t x (object.Ask a) = tt
object_keeps s st t x (object.Finish v core) =
    let k = finish_keeps s (with_store (with_less_fuel st) core.store) t x v in record { running = k.running; fuel = k.fuel }
object_keeps s st t x _ = tt

pub row_keeps : (s : System) (st : State) (t : ℕ) (x : Thread) (f : Frame) (fs : List Frame) (i : Reading) → StepKeeps st (row s st t x f fs i)
unfolding row
row_keeps s st t x f fs i = by (numeric_row s (class_of_frame s f) (stack_limit s f) i.instr f.locals f.stack.values) refl
  where
    by : (o : NumericOutcome) → numeric_row s (class_of_frame s f) (stack_limit s f) i.instr f.locals f.stack.values ≡ o → StepKeeps st (row s st t x f fs i)
    by numeric.NotMine e = rw e (object_keeps s st t x (object_row s (core_of st x) i.instr))
    by (numeric.Next l k) e = rw e (numeric_keeps s st t x f fs i.next (numeric.Next l k))
    by (numeric.Jump p l k) e = rw e (numeric_keeps s st t x f fs i.next (numeric.Jump p l k))
    by (numeric.Raise c) e = rw e (numeric_keeps s st t x f fs i.next (numeric.Raise c))
    by numeric.BadCode e = rw e (numeric_keeps s st t x f fs i.next numeric.BadCode)

-- a step takes one of the fuel, and there is no step without fuel
abbrev pub StepSpends : State → StepOutcome → Type 0
StepSpends st (Step new) = (new.running ≡ st.running) × (suc new.fuel ≡ st.fuel)
StepSpends st (Ask a) = ⊤

pub spent : (st : State) (o : StepOutcome) → (st.fuel == 0) ≡ false → StepKeeps st o → StepSpends st o
unfolding with_less_fuel
spent st (Step new) h k = (k.running, grind (arith, nat_tests, h, k.fuel))
spent st (Ask a) h k = tt

pub framed_spends : (s : System) (st : State) (t : ℕ) (x : Thread) (fs : List Frame) → StepSpends st (framed_step s st t x fs)
unfolding framed_step ends_by_bad_code
framed_spends s st t x [] = tt
framed_spends s st t x (f ∷ fs) = by (instruction_at (code_bytes s f) f.pc) refl
  where
    here : (i : Reading) (b : Bool) → (st.fuel == 0) ≡ b → StepSpends st (elim b as (λ _. StepOutcome) [ true ↦ Ask (act.End reason.Fuel) | false ↦ row s st t x f fs i ])
    here i true q = tt
    here i false q = spent st (row s st t x f fs i) q (row_keeps s st t x f fs i)

    by : (o : Option Reading) → instruction_at (code_bytes s f) f.pc ≡ o → StepSpends st (framed_step s st t x (f ∷ fs))
    by None e = rw (e, framed_step) tt
    by (Some i) e = rw (e, framed_step) (here i (st.fuel == 0) refl)

pub stage_spends : (s : System) (st : State) (t : ℕ) (x : Thread) (g : Stage) → StepSpends st (stage_step s st t x g)
unfolding stage_step
stage_spends s st t x Going = framed_spends s st t x x.frames
stage_spends s st t x _ = tt

-- each step keeps the running thread, and takes one of the fuel
pub step_spends : (s : System) (st : State) (t : ℕ) → StepSpends st (step s st t)
unfolding step ends_by_bad_code
step_spends s st t = by (thread_at st t)
  where
    by : (o : Option Thread) → StepSpends st (elim o as (λ _. StepOutcome) [ None ↦ ends_by_bad_code | Some x ↦ stage_step s st t x x.stage ])
    by None = tt
    by (Some x) = stage_spends s st t x x.stage

-- ---- so many steps

-- a step is a state or an act
pub step_cases : (o : StepOutcome) → ((new : State) × (o ≡ Step new)) ⊎ ((a : Act) × (o ≡ Ask a))
step_cases (Step new) = inl (new, refl)
step_cases (Ask a) = inr (a, refl)

pub steps_on : (s : System) (t n : ℕ) (st new : State) → step s st t ≡ Step new → after_steps s t (suc n) st ≡ after_steps s t n new
unfolding after_steps
steps_on s t n st new e = rw (e, after_steps) refl

pub steps_stop : (s : System) (t n : ℕ) (st : State) (a : Act) → step s st t ≡ Ask a → after_steps s t n st ≡ st
unfolding after_steps
steps_stop s t zero st a e = refl
steps_stop s t (suc n) st a e = rw (e, after_steps) refl

pub no_steps : (s : System) (t : ℕ) (st : State) → after_steps s t 0 st ≡ st
unfolding after_steps
no_steps s t st = refl

-- steps keep the running thread
pub steps_running : (s : System) (t n : ℕ) (st : State) → (after_steps s t n st).running ≡ st.running
steps_running s t zero st = ap (λ (x : State). x.running) (no_steps s t st)
steps_running s t (suc n) st = elim (step_cases (step s st t)) [
  | inl x ↦ let k = subst (StepSpends st) x.1 (step_spends s st t) in ap (λ (x : State). x.running) (steps_on s t n st x.0 x.1) ∙ steps_running s t n x.0 ∙ k.0
  | inr x ↦ ap (λ (x : State). x.running) (steps_stop s t (suc n) st x.0 x.1)
]

-- one step more
pub steps_more : (s : System) (t n : ℕ) (st new : State) → step s (after_steps s t n st) t ≡ Step new → after_steps s t (suc n) st ≡ new
steps_more s t zero st new e = let q : step s st t ≡ Step new = subst (λ (x : State). step s x t ≡ Step new) (no_steps s t st) e in steps_on s t 0 st new q ∙ no_steps s t new
steps_more s t (suc n) st new e = elim (step_cases (step s st t)) [
  | inl x ↦ steps_on s t (suc n) st x.0 x.1 ∙ steps_more s t n x.0 new (subst (λ (y : State). step s y t ≡ Step new) (steps_on s t n st x.0 x.1) e)
  | inr x ↦
      let q : step s st t ≡ Step new = subst (λ (y : State). step s y t ≡ Step new) (steps_stop s t (suc n) st x.0 x.1) e in
      let z : Ask x.0 ≡ Step new = sym x.1 ∙ q in cc
]

-- steps end where an act is asked for
pub steps_end : (s : System) (t n m : ℕ) (st : State) (a : Act) → step s (after_steps s t n st) t ≡ Ask a → n ≤ m → after_steps s t m st ≡ after_steps s t n st
steps_end s t zero m st a e h = steps_stop s t m st a (subst (λ (x : State). step s x t ≡ Ask a) (no_steps s t st) e) ∙ sym (no_steps s t st)
steps_end s t (suc n) zero st a e h = absurd (omega (arith, h))
steps_end s t (suc n) (suc m) st a e h = elim (step_cases (step s st t)) [
  | inl x ↦
      steps_on s t m st x.0 x.1 ∙ steps_end s t n m x.0 a (subst (λ (y : State). step s y t ≡ Ask a) (steps_on s t n st x.0 x.1) e) (omega (arith, h))
      ∙ sym (steps_on s t n st x.0 x.1)
  | inr x ↦ steps_stop s t (suc m) st x.0 x.1 ∙ sym (steps_stop s t (suc n) st x.0 x.1)
]

-- steps after steps
pub steps_add : (s : System) (t n m p : ℕ) (st : State) → p ≡ n + m → after_steps s t m (after_steps s t n st) ≡ after_steps s t p st
steps_add s t zero m p st h = ap (after_steps s t m) (no_steps s t st) ∙ ap (λ (k : ℕ). after_steps s t k st) (omega (arith, h))
steps_add s t (suc n) m zero st h = absurd (omega (arith, h))
steps_add s t (suc n) m (suc p) st h = elim (step_cases (step s st t)) [
  | inl x ↦ ap (after_steps s t m) (steps_on s t n st x.0 x.1) ∙ steps_add s t n m p x.0 (omega (arith, h)) ∙ sym (steps_on s t p st x.0 x.1)
  | inr x ↦ ap (after_steps s t m) (steps_stop s t (suc n) st x.0 x.1) ∙ steps_stop s t m st x.0 x.1 ∙ sym (steps_stop s t (suc p) st x.0 x.1)
]

-- there is no step without fuel
pub spent_asks : (s : System) (t : ℕ) (st : State) → st.fuel ≡ 0 → (a : Act) × (step s st t ≡ Ask a)
spent_asks s t st h = by (step_cases (step s st t))
  where
    by : ((new : State) × (step s st t ≡ Step new)) ⊎ ((b : Act) × (step s st t ≡ Ask b)) → (a : Act) × (step s st t ≡ Ask a)
    by (inl x) = let k = subst (StepSpends st) x.1 (step_spends s st t) in absurd (omega (arith, h, k.1))
    by (inr x) = x

-- the fuel is enough for the next act
pub fuel_asks : (s : System) (t n : ℕ) (st : State) → st.fuel ≡ n → (a : Act) × (step s (after_steps s t n st) t ≡ Ask a)
fuel_asks s t zero st h = let x = spent_asks s t st h in (x.0, ap (λ (y : State). step s y t) (no_steps s t st) ∙ x.1)
fuel_asks s t (suc n) st h = elim (step_cases (step s st t)) [
  | inl x ↦
      let k = subst (StepSpends st) x.1 (step_spends s st t) in
      let y = fuel_asks s t n x.0 (omega (arith, h, k.1)) in (y.0, ap (λ (z : State). step s z t) (steps_on s t n st x.0 x.1) ∙ y.1)
  | inr x ↦ (x.0, ap (λ (z : State). step s z t) (steps_stop s t (suc n) st x.0 x.1) ∙ x.1)
]

-- ---- states that stand

pub advanced_at : (s : System) (n t : ℕ) (st : State) → st.running ≡ Some t → advanced s n st ≡ after_steps s t n st
unfolding advanced
advanced_at s n t st h = ap (λ (o : Option ℕ). elim o as (λ _. State) [ None ↦ st | Some k ↦ after_steps s k n st ]) h

pub advanced_idle : (s : System) (n : ℕ) (st : State) → st.running ≡ None → advanced s n st ≡ st
unfolding advanced
advanced_idle s n st h = ap (λ (o : Option ℕ). elim o as (λ _. State) [ None ↦ st | Some k ↦ after_steps s k n st ]) h

-- the running thread, where there is one
pub runs_or_not : (o : Option ℕ) → (o ≡ None) ⊎ ((t : ℕ) × (o ≡ Some t))
runs_or_not None = inl refl
runs_or_not (Some t) = inr (t, refl)

pub advanced_running : (s : System) (n : ℕ) (st : State) → (advanced s n st).running ≡ st.running
advanced_running s n st = by (runs_or_not st.running)
  where
    by : (st.running ≡ None) ⊎ ((t : ℕ) × (st.running ≡ Some t)) → (advanced s n st).running ≡ st.running
    by (inl h) = ap (λ (x : State). x.running) (advanced_idle s n st h)
    by (inr x) = ap (λ (y : State). y.running) (advanced_at s n x.0 st x.1) ∙ steps_running s x.0 n st

pub advanced_by_none : (s : System) (st : State) → advanced s 0 st ≡ st
advanced_by_none s st = by (runs_or_not st.running)
  where
    by : (st.running ≡ None) ⊎ ((t : ℕ) × (st.running ≡ Some t)) → advanced s 0 st ≡ st
    by (inl h) = advanced_idle s 0 st h
    by (inr x) = advanced_at s 0 x.0 st x.1 ∙ no_steps s x.0 st

pub at_act_is : (s : System) (st : State) → state_at_act s st ≡ advanced s st.fuel st
unfolding state_at_act advanced
at_act_is s st = refl

-- where an act is asked for, the domain has come to its act
pub has_come : (s : System) (d : State) (n k : ℕ) (a : Act) → (advanced s n d).running ≡ Some k → step s (advanced s n d) k ≡ Ask a → state_at_act s d ≡ advanced s n d
has_come s d n k a r e =
    at_act_is s d ∙ advanced_at s d.fuel k d q ∙ by (cases n d.fuel) ∙ sym (advanced_at s n k d q)
  where
    cases : (n m : ℕ) → (n ≤ m) ⊎ (m ≤ n)
    cases n m = grind arith

    q : d.running ≡ Some k
    q = sym (advanced_running s n d) ∙ r

    asked : step s (after_steps s k n d) k ≡ Ask a
    asked = subst (λ (x : State). step s x k ≡ Ask a) (advanced_at s n k d q) e

    by : (n ≤ d.fuel) ⊎ (d.fuel ≤ n) → after_steps s k d.fuel d ≡ after_steps s k n d
    by (inl h) = steps_end s k n d.fuel d a asked h
    by (inr h) = let x = fuel_asks s k d.fuel d refl in sym (steps_end s k d.fuel n d x.0 x.1 h)

-- run again, it comes to the same act
pub comes_again : (s : System) (d : State) (n : ℕ) → state_at_act s (advanced s n d) ≡ state_at_act s d
comes_again s d n = by (runs_or_not d.running)
  where
    by : (d.running ≡ None) ⊎ ((t : ℕ) × (d.running ≡ Some t)) → state_at_act s (advanced s n d) ≡ state_at_act s d
    by (inl h) = ap (state_at_act s) (advanced_idle s n d h)
    by (inr x) = sym (has_come s d (n + st.fuel) t y.0 (advanced_running s (n + st.fuel) d ∙ x.1) asked ∙ sym whole)
      where
        t : ℕ
        t = x.0

        st : State
        st = advanced s n d

        runs : st.running ≡ Some t
        runs = advanced_running s n d ∙ x.1

        whole : state_at_act s st ≡ advanced s (n + st.fuel) d
        whole =
            at_act_is s st ∙ advanced_at s st.fuel t st runs ∙ ap (after_steps s t st.fuel) (advanced_at s n t d x.1)
            ∙ steps_add s t n st.fuel (n + st.fuel) d refl ∙ sym (advanced_at s (n + st.fuel) t d x.1)

        y : (a : Act) × (step s (after_steps s t st.fuel st) t ≡ Ask a)
        y = fuel_asks s t st.fuel st refl

        asked : step s (advanced s (n + st.fuel) d) t ≡ Ask y.0
        asked = subst (λ (z : State). step s z t ≡ Ask y.0) (sym (advanced_at s st.fuel t st runs) ∙ sym (at_act_is s st) ∙ whole) y.1

-- ---- the law

pub stands_on : (s : System) (d : State) (n k : ℕ) (new : State) → StepsTo s (advanced s n d) k new → new ≡ advanced s (suc n) d
stands_on s d n k new h =
    sym (steps_more s k n d new (subst (λ (x : State). step s x k ≡ Step new) (advanced_at s n k d q) h.stepped)) ∙ sym (advanced_at s (suc n) k d q)
  where
    q : d.running ≡ Some k
    q = sym (advanced_running s n d) ∙ h.running

pub act_of : (s : System) (t : ℕ) (own : Past) (st : State) (k : ℕ) (a : Act) → state_at_act s (domain_state s t own) ≡ st → Asks s st k a → next_act s t own ≡ Does a
unfolding next_act act_in
act_of s t own st k a e h = ap (act_in s) e ∙ rw (h.running, h.asked, act_in) refl

pub idle_of : (s : System) (t : ℕ) (own : Past) (st : State) → state_at_act s (domain_state s t own) ≡ st → st.running ≡ None → next_act s t own ≡ Idle
unfolding next_act act_in
idle_of s t own st e h = ap (act_in s) e ∙ rw (h, act_in) refl

pub state_after : (s : System) (t : ℕ) (own : Past) (e : Entry) → domain_state s t (e ∷ own) ≡ after_entry s (state_at_act s (domain_state s t own)) e
unfolding domain_state
state_after s t own e = refl

pub come : (s : System) (t : ℕ) (own : Past) (st : State) (k : ℕ) (a : Act) → Stands s t own st → Asks s st k a → state_at_act s (domain_state s t own) ≡ st
come s t own st k a h q =
    let r : (advanced s h.0 (domain_state s t own)).running ≡ Some k = subst (λ (x : State). x.running ≡ Some k) h.1 q.running in
    has_come s (domain_state s t own) h.0 k a r (subst (λ (x : State). step s x k ≡ Ask a) h.1 q.asked) ∙ sym h.1

pub rest : (s : System) (t : ℕ) (own : Past) (st : State) → Stands s t own st → st.running ≡ None → state_at_act s (domain_state s t own) ≡ st
rest s t own st h q =
    let r : (domain_state s t own).running ≡ None = sym (advanced_running s h.0 (domain_state s t own)) ∙ subst (λ (x : State). x.running ≡ None) h.1 q in
    at_act_is s (domain_state s t own) ∙ advanced_idle s (domain_state s t own).fuel (domain_state s t own) r ∙ sym (h.1 ∙ advanced_idle s h.0 (domain_state s t own) r)

-- what a state says that stands for a domain
pub standing : (s : System) (t : ℕ) (own : Past) → StandingHolds s t own
standing s t own = record {
  first = (0, sym (advanced_by_none s (domain_state s t own)));
  on = λ st new k h q. (suc h.0, stands_on s (domain_state s t own) h.0 k new (subst (λ (x : State). StepsTo s x k new) h.1 q));
  act = λ st k a h q. act_of s t own st k a (come s t own st k a h q) q;
  idle = λ st h q. idle_of s t own st (rest s t own st h q) q;
  spent = λ st k h r z. let x = spent_asks s k st z in (x.0, record { running = r; asked = x.1 });
  again = λ st h. ap (state_at_act s) h.1 ∙ comes_again s (domain_state s t own) h.0;
  settled = λ st h. ((domain_state s t own).fuel, ap (state_at_act s) h.1 ∙ comes_again s (domain_state s t own) h.0 ∙ at_act_is s (domain_state s t own));
  entry = λ st k a e h q. (0, ap (λ (x : State). after_entry s x e) (sym (come s t own st k a h q)) ∙ sym (state_after s t own e) ∙ sym (advanced_by_none s (domain_state s t (e ∷ own))));
  rested = λ st e h q. (0, ap (λ (x : State). after_entry s x e) (sym (rest s t own st h q)) ∙ sym (state_after s t own e) ∙ sym (advanced_by_none s (domain_state s t (e ∷ own))));
}
