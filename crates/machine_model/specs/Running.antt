-- Running a domain's instructions up to its next act.
use Rattle.std.specs.Prelude.{ℕ, zero, suc, true, false, List, [], ◌∷◌, Option, Some, None, ◌==◌}
use Rattle.jx_base.specs.declared.act.Act.{Act}
use Rattle.jx_base.specs.declared.act.Act.TheVariants as act
use Rattle.jx_base.specs.declared.act.Reason.TheVariants as reason
use Rattle.jx_base.specs.declared.ids.CallId.{CallId}
use Rattle.jx_base.specs.declared.program.System.{System}
use Rattle.jx_base.specs.declared.frame.Frame.{Frame}
use Rattle.jx_base.specs.declared.value.Parcel.{Parcel}
use Rattle.jx_base.specs.declared.value.Value.{Value}
use Rattle.jx_base.specs.declared.value.Value.TheVariants as value
use Rattle.program_model.specs.Instructions.{Reading, instruction_at}
use Rattle.program_model.specs.Parcels.{packed}
use Rattle.machine_model.specs.NumericRows.{NumericOutcome, numeric_row}
use Rattle.machine_model.specs.NumericRows.{NumericOutcome as numeric}
use Rattle.machine_model.specs.State.{Stage, Going, Returned, Threw, Thread, State, class_of_object, code_bytes, stack_limit, class_of_frame, with_values}
use Rattle.machine_model.specs.ObjectRows.{ObjectOutcome, object_row}
use Rattle.machine_model.specs.ObjectRows.{ObjectOutcome as object}
use Rattle.machine_model.specs.MachineThreads.{thread_at, with_thread, with_store, with_less_fuel, core_of, after_throw, after_raise, after_finish}
use Rattle.std.specs.Option.{option_map}

-- what one step of the running thread comes to: the state after an instruction, or the act that comes next
pub data StepOutcome : Type 0 where
  Step : State → StepOutcome
  Ask : Act → StepOutcome

-- the domain ends by bad code
unfoldable pub ends_by_bad_code : StepOutcome
ends_by_bad_code = Ask (act.End reason.BadCode)

-- ---- one instruction

-- the state after a numeric row at frame f, which left it at that pc with these locals and that stack
unfoldable pub after_numeric : System → State → ℕ → Thread → Frame → List Frame → ℕ → NumericOutcome → StepOutcome
after_numeric s st t x f frames next (numeric.Next locals stack) =
    Step (with_thread (with_less_fuel st) t (record x { frames = record (with_values stack f) { pc = next; locals = locals } ∷ frames }))
after_numeric s st t x f frames next (numeric.Jump to locals stack) =
    Step (with_thread (with_less_fuel st) t (record x { frames = record (with_values stack f) { pc = to; locals = locals } ∷ frames }))
after_numeric s st t x f frames next (numeric.Raise c) = Step (after_raise s (with_less_fuel st) t x c)
after_numeric s st t x f frames next _ = ends_by_bad_code

-- the state after an object row
unfoldable pub after_object : System → State → ℕ → Thread → ObjectOutcome → StepOutcome
after_object s st t x (object.Next core) = Step (with_thread (with_store (with_less_fuel st) core.store) t (record x { frames = core.frames }))
after_object s st t x (object.Raise c) = Step (after_raise s (with_less_fuel st) t x c)
after_object s st t x (object.Raised r core) = Step (after_throw s (with_store (with_less_fuel st) core.store) t x r)
after_object s st t x (object.Ask a) = Ask a
after_object s st t x (object.Finish v core) = Step (after_finish s (with_store (with_less_fuel st) core.store) t x v)
after_object s st t x _ = ends_by_bad_code

-- what the instruction at frame f comes to
unfoldable pub row : System → State → ℕ → Thread → Frame → List Frame → Reading → StepOutcome
row s st t x f frames i = by (numeric_row s (class_of_frame s f) (stack_limit s f) i.instr f.locals f.stack.values)
  where
    by : NumericOutcome → StepOutcome
    by numeric.NotMine = after_object s st t x (object_row s (core_of st x) i.instr)
    by outcome = after_numeric s st t x f frames i.next outcome

-- what a thread with frames comes to: past the code it is bad code, and without fuel the domain ends
unfoldable pub framed_step : System → State → ℕ → Thread → List Frame → StepOutcome
framed_step s st t x [] = ends_by_bad_code
framed_step s st t x (f ∷ frames) =
    elim (instruction_at (code_bytes s f) f.pc) [
      | None ↦ ends_by_bad_code
      | Some i ↦ elim (st.fuel == 0) [ true ↦ Ask (act.End reason.Fuel) | false ↦ row s st t x f frames i ]
    ]

-- ---- the end of a thread's code

-- the parcel without roots and nodes
unfoldable pub empty_parcel : Parcel
empty_parcel = record { roots = []; nodes = [] }

-- the act with these values packed; what can't be packed is thrown as the empty parcel
unfoldable pub answer_act : State → CallId → (Parcel → Act) → List Value → Act
answer_act st c f values = elim (packed st.store.objects st.store.exports values) [ Some p ↦ f p | None ↦ act.Throw c empty_parcel ]

-- the roots of a result
unfoldable pub result_roots : Option Value → List Value
result_roots None = []
result_roots (Some v) = v ∷ []

-- the act by which a thread's code ends: a service thread answers its call
unfoldable pub ending_act : State → Thread → Stage → Act
ending_act st x (Returned v) = elim x.call [ None ↦ act.EndThread None | Some c ↦ answer_act st c (λ p. act.Return c p) (result_roots v) ]
ending_act st x (Threw r) =
    elim x.call [
      | None ↦ act.EndThread (option_map (λ c. record { 0 = c }) (class_of_object st.store r))
      | Some c ↦ answer_act st c (λ p. act.Throw c p) (value.Ref r ∷ [])
    ]
ending_act st x _ = act.End reason.BadCode

-- what a thread at that stage comes to
unfoldable pub stage_step : System → State → ℕ → Thread → Stage → StepOutcome
stage_step s st t x Going = framed_step s st t x x.frames
stage_step s st t x stage = Ask (ending_act st x stage)

-- ---- up to the next act

-- what thread t comes to
unfoldable pub step : System → State → ℕ → StepOutcome
step s st t = elim (thread_at st t) [ None ↦ ends_by_bad_code | Some x ↦ stage_step s st t x x.stage ]

-- the state after so many instructions of thread t at most, up to its next act
unfoldable pub after_steps : System → ℕ → ℕ → State → State
after_steps s t zero st = st
after_steps s t (suc k) st = elim (step s st t) [ Step new ↦ after_steps s t k new | Ask a ↦ st ]

-- the state at the running thread's next act; its fuel bounds the instructions
unfoldable pub state_at_act : System → State → State
state_at_act s st = elim st.running [ None ↦ st | Some t ↦ after_steps s t st.fuel st ]

-- what a computed case opens
unfoldable pub opened_running : Unit {0}
unfolding ends_by_bad_code after_numeric after_object row framed_step empty_parcel answer_act result_roots ending_act stage_step step after_steps state_at_act
opened_running = tt
