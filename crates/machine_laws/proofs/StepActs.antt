-- The act that a domain's code performs next is one of code, and answers no call but the one that its thread serves.
use Rattle.std.proofs.Common.{◌≡◌, refl, sym, ◌∙◌, ap, subst, ℕ, Bool, true, false, List, [], ◌∷◌, Option, Some, None, ◌==◌}
use Rattle.std.specs.Option.{option_map}
use Rattle.jx_base.specs.declared.act.Act.{Act}
use Rattle.jx_base.specs.declared.act.Act.TheVariants as act
use Rattle.jx_base.specs.declared.act.Reason.TheVariants as reason
use Rattle.jx_base.specs.declared.frame.Frame.{Frame}
use Rattle.jx_base.specs.declared.ids.CallId.{CallId}
use Rattle.jx_base.specs.declared.program.System.{System}
use Rattle.jx_base.specs.declared.value.Parcel.{Parcel}
use Rattle.jx_base.specs.declared.value.Value.{Value}
use Rattle.jx_base.specs.declared.value.Value.TheVariants as value
use Rattle.jx_base.specs.Histories.{Past}
use Rattle.machine_model.specs.Machine.{Does, Idle, NextAct, act_in, domain_state, next_act}
use Rattle.machine_model.specs.MachineThreads.{core_of, thread_at}
use Rattle.machine_model.specs.NumericRows.{NumericOutcome, numeric_row}
use Rattle.machine_model.specs.NumericRows.{NumericOutcome as numeric}
use Rattle.machine_model.specs.ObjectRows.{ObjectOutcome, object_row}
use Rattle.machine_model.specs.ObjectRows.{ObjectOutcome as object}
use Rattle.machine_model.specs.Running.{Ask, Step, StepOutcome, after_numeric, after_object, answer_act, empty_parcel, ending_act, ends_by_bad_code, framed_step, result_roots, row, stage_step, state_at_act, step}
use Rattle.machine_model.specs.State.{Bad, Going, Returned, Stage, State, Thread, Threw, class_of_frame, class_of_object, code_bytes, stack_limit}
use Rattle.program_model.specs.Instructions.{Reading, instruction_at}
use Rattle.program_model.specs.Parcels.{packed}
use Rattle.machine_laws.proofs.CodeActs.{IsActOfCall, IsCodeAct, calls_act, instructions_act}
use Rattle.machine_laws.proofs.RowActs.{AsksOfCode, object_asks}

-- what it asks for is an act of code, for a thread that serves that call, or none
abbrev pub StepsOfCall : Option CallId → StepOutcome → Type 0
StepsOfCall o (Ask a) = IsActOfCall o a
StepsOfCall o (Step new) = Unit {0}

module _ (s : System) (st : State) (t : ℕ) (x : Thread) where
  numeric_of : (f : Frame) (fs : List Frame) (next : ℕ) (o : NumericOutcome) → StepsOfCall x.call (after_numeric s st t x f fs next o)
  unfolding after_numeric ends_by_bad_code
  numeric_of f fs next (numeric.Next l k) = tt
  numeric_of f fs next (numeric.Jump to l k) = tt
  numeric_of f fs next (numeric.Raise c) = tt
  numeric_of f fs next numeric.BadCode = tt
  numeric_of f fs next numeric.NotMine = tt

  object_of : (o : ObjectOutcome) → AsksOfCode o → StepsOfCall x.call (after_object s st t x o)
  unfolding after_object ends_by_bad_code
  object_of (object.Next core) h = tt
  object_of (object.Raise c) h = tt
  object_of (object.Raised r core) h = tt
  object_of (object.Ask a) h = instructions_act x.call a h
  object_of (object.Finish v core) h = tt
  object_of object.BadCode h = tt
  object_of object.NotMine h = tt

  row_of : (f : Frame) (fs : List Frame) (i : Reading) → StepsOfCall x.call (row s st t x f fs i)
  unfolding row
  row_of f fs i = by (numeric_row s (class_of_frame s f) (stack_limit s f) i.instr f.locals f.stack.values) refl
    where
      by : (o : NumericOutcome) → numeric_row s (class_of_frame s f) (stack_limit s f) i.instr f.locals f.stack.values ≡ o → StepsOfCall x.call (row s st t x f fs i)
      by numeric.NotMine w = rw w (object_of (object_row s (core_of st x) i.instr) (object_asks s (core_of st x) i.instr))
      by (numeric.Next l y) w = rw w (numeric_of f fs i.next (numeric.Next l y))
      by (numeric.Jump p l y) w = rw w (numeric_of f fs i.next (numeric.Jump p l y))
      by (numeric.Raise c) w = rw w (numeric_of f fs i.next (numeric.Raise c))
      by numeric.BadCode w = rw w (numeric_of f fs i.next numeric.BadCode)

  framed_of : (fs : List Frame) → StepsOfCall x.call (framed_step s st t x fs)
  unfolding framed_step ends_by_bad_code
  framed_of [] = tt
  framed_of (f ∷ fs) = by (instruction_at (code_bytes s f) f.pc)
    where
      fueled : (i : Reading) (b : Bool) → StepsOfCall x.call (elim b as (λ _. StepOutcome) [ true ↦ Ask (act.End reason.Fuel) | false ↦ row s st t x f fs i ])
      fueled i true = tt
      fueled i false = row_of f fs i

      by : (o : Option Reading) → StepsOfCall x.call (elim o as (λ _. StepOutcome) [
        | None ↦ Ask (act.End reason.BadCode)
        | Some i ↦ elim (st.fuel == 0) as (λ _. StepOutcome) [ true ↦ Ask (act.End reason.Fuel) | false ↦ row s st t x f fs i ]
      ])
      by None = tt
      by (Some i) = fueled i (st.fuel == 0)

  answer_of : (c : CallId) (f : Parcel → Act) (values : List Value) → x.call ≡ Some c → ((p : Parcel) → IsActOfCall x.call (f p)) → IsActOfCall x.call (answer_act st c f values)
  unfolding answer_act
  answer_of c f values e h = by (packed st.store.objects st.store.exports values)
    where
      by : (o : Option Parcel) → IsActOfCall x.call (elim o as (λ _. Act) [ Some p ↦ f p | None ↦ act.Throw c empty_parcel ])
      by None = e
      by (Some p) = h p

  ending_of : (g : Stage) → IsActOfCall x.call (ending_act st x g)
  unfolding ending_act
  ending_of (Returned v) = by x.call refl
    where
      by : (o : Option CallId) → x.call ≡ o → IsActOfCall x.call (elim o as (λ _. Act) [ None ↦ act.EndThread None | Some c ↦ answer_act st c (λ p. act.Return c p) (result_roots v) ])
      by None e = e
      by (Some c) e = answer_of c (λ p. act.Return c p) _ e (λ p. e)
  ending_of (Threw r) = by x.call refl
    where
      by : (o : Option CallId) → x.call ≡ o → IsActOfCall x.call (elim o as (λ _. Act) [ None ↦ act.EndThread (option_map (λ c. record { 0 = c }) (class_of_object st.store r)) | Some c ↦ answer_act st c (λ p. act.Throw c p) (value.Ref r ∷ []) ])
      by None e = e
      by (Some c) e = answer_of c (λ p. act.Throw c p) _ e (λ p. e)
  ending_of Going = tt
  ending_of Bad = tt

  staged_of : (g : Stage) → StepsOfCall x.call (stage_step s st t x g)
  unfolding stage_step
  staged_of Going = framed_of x.frames
  staged_of (Returned v) = ending_of (Returned v)
  staged_of (Threw r) = ending_of (Threw r)
  staged_of Bad = ending_of Bad

-- a step of a thread asks for an act of code that answers no call but the thread's, and ends the thread only where it serves none
pub step_of_thread : (s : System) (st : State) (t : ℕ) (x : Thread) → thread_at st t ≡ Some x → StepsOfCall x.call (step s st t)
unfolding step ends_by_bad_code
step_of_thread s st t x e = subst (λ (o : Option Thread). StepsOfCall x.call (elim o as (λ _. StepOutcome) [ None ↦ Ask (act.End reason.BadCode) | Some y ↦ stage_step s st t y y.stage ])) (sym e) (staged_of s st t x x.stage)

-- what a domain does next is an act of code, or nothing
abbrev pub DoesOfCode : NextAct → Type 0
DoesOfCode (Does a) = IsCodeAct a
DoesOfCode Idle = Unit {0}

in_state : (s : System) (st : State) → DoesOfCode (act_in s st)
unfolding act_in step ends_by_bad_code
in_state s st = by st.running
  where
    asked : (o : Option CallId) (y : StepOutcome) → StepsOfCall o y → DoesOfCode (elim y as (λ _. NextAct) [ Ask a ↦ Does a | Step new ↦ Does (act.End reason.Fuel) ])
    asked o (Ask a) h = calls_act o a h
    asked o (Step new) h = tt

    stepped : (t : ℕ) (o : Option Thread) → DoesOfCode (elim (elim o as (λ _. StepOutcome) [ None ↦ Ask (act.End reason.BadCode) | Some x ↦ stage_step s st t x x.stage ]) as (λ _. NextAct) [ Ask a ↦ Does a | Step new ↦ Does (act.End reason.Fuel) ])
    stepped t None = tt
    stepped t (Some x) = asked x.call (stage_step s st t x x.stage) (staged_of s st t x x.stage)

    by : (o : Option ℕ) → DoesOfCode (elim o as (λ _. NextAct) [ None ↦ Idle | Some t ↦ elim (step s st t) as (λ _. NextAct) [ Ask a ↦ Does a | Step new ↦ Does (act.End reason.Fuel) ] ])
    by None = tt
    by (Some t) = stepped t (thread_at st t)

pub next_of : (s : System) (t : ℕ) (own : Past) → DoesOfCode (next_act s t own)
unfolding next_act
next_of s t own = in_state s (state_at_act s (domain_state s t own))

-- so it is of what a domain does next in a thread
pub act_of_thread : (s : System) (st : State) (k : ℕ) (x : Thread) (a : Act) → st.running ≡ Some k → thread_at st k ≡ Some x → act_in s st ≡ Does a → IsActOfCall x.call a
unfolding act_in
act_of_thread s st k x a r e q = by (step s st k) (step_of_thread s st k x e) (sym done ∙ q)
  where
    done : act_in s st ≡ elim (step s st k) as (λ _. NextAct) [ Ask b ↦ Does b | Step new ↦ Does (act.End reason.Fuel) ]
    done = ap (λ (o : Option ℕ). elim o as (λ _. NextAct) [ None ↦ Idle | Some t ↦ elim (step s st t) as (λ _. NextAct) [ Ask b ↦ Does b | Step new ↦ Does (act.End reason.Fuel) ] ]) r

    by : (y : StepOutcome) → StepsOfCall x.call y → elim y as (λ _. NextAct) [ Ask b ↦ Does b | Step new ↦ Does (act.End reason.Fuel) ] ≡ Does a → IsActOfCall x.call a
    by (Ask b) h q = let w : b ≡ a = cc in subst (IsActOfCall x.call) w h
    by (Step new) h q = let w : act.End reason.Fuel ≡ a = cc in subst (IsActOfCall x.call) w tt
