-- Each step of a domain keeps its state one of values, and what it asks for is well made.
use Rattle.std.proofs.Common.{◌≡◌, refl, sym, ◌∙◌, ap, subst, ℕ, zero, suc, Bool, true, false, List, [], ◌∷◌, Option, Some, None, arith, ◌==◌, inl, inr, slice_get}
use Rattle.std.specs.Prelude.{if◌then◌else◌, IfSome}
use Rattle.std.specs.List.{AllByRecursion}
use Rattle.jx_base.specs.declared.act.Act.{Act}
use Rattle.jx_base.specs.declared.act.Act.TheVariants as act
use Rattle.jx_base.specs.declared.act.Reason.TheVariants as reason
use Rattle.jx_base.specs.declared.frame.Frame.{Frame}
use Rattle.jx_base.specs.declared.ids.CallId.{CallId}
use Rattle.jx_base.specs.declared.program.System.{System}
use Rattle.jx_base.specs.declared.value.Parcel.{Parcel}
use Rattle.jx_base.specs.declared.value.Value.{Value}
use Rattle.jx_base.specs.declared.value.Value.TheVariants as value
use Rattle.jx_base.specs.Basics.{passes}
use Rattle.program_model.specs.BuiltIn.{stack_overflow_error, opened_built_in}
use Rattle.jx_base.specs.Histories.{Past}
use Rattle.program_model.specs.Instructions.{Reading, instruction_at}
use Rattle.program_model.specs.Limits.{opened_limits}
use Rattle.program_model.specs.Lookup.{selector_of_method}
use Rattle.machine_model.specs.NumericRows.{NumericOutcome, numeric_row, Locals, Stack}
use Rattle.machine_model.specs.NumericRows.{NumericOutcome as numeric}
use Rattle.machine_model.specs.ObjectRows.{ObjectOutcome, object_row}
use Rattle.machine_model.specs.ObjectRows.{ObjectOutcome as object}
use Rattle.program_model.specs.ParcelParts.{opened_parcel_parts}
use Rattle.program_model.specs.Parcels.{packed}
use Rattle.machine_model.specs.State.{Store, Core, Stage, Going, Returned, Threw, Bad, Thread, State, class_of_object, new_exception, frame_of, is_overflow, is_overfull, handler_in, frames_at_handler, code_bytes, class_of_frame, stack_limit, with_values, pc_behind}
use Rattle.machine_model.specs.MachineThreads.{thread_at, with_thread, with_store, with_less_fuel, with_frames, with_stage, core_of, after_throw, after_raise, after_begin, after_finish, start_arguments, is_initializer_selector}
use Rattle.machine_model.specs.Running.{StepOutcome, Step, Ask, step, stage_step, framed_step, row, ends_by_bad_code, after_numeric, after_object, after_steps, state_at_act, ending_act, answer_act, result_roots, empty_parcel}
use Rattle.machine_model.specs.Machine.{NextAct, Does, Idle, act_in}
use Rattle.jx_model.specs.WellMade.{IsClass, IsWellMade, IsParcelIn}
use Rattle.machine_laws.specs.Values.{IsValueIn, IsValueInSome, IsObject, IsStoreIn, IsFrameIn, IsStageIn, IsThreadIn, IsStateIn, IsPlaced, ServesKnownCall, ServeKnownCalls}
use Rattle.machine_laws.proofs.ServedCalls.{IsStepOfKnown, step_known}
use Rattle.program_model.specs.Ranges.{IsId}
use Rattle.machine_model.specs.Conditions.{local_count}
use Rattle.machine_laws.specs.Sound.{IsSound}
use Rattle.machine_laws.specs.Standing.{advanced}
use Rattle.machine_laws.proofs.Lists.{all_set, all_get}
use Rattle.machine_laws.proofs.NumericValues.{IsNumericIn, numeric_in, built_in_class}
use Rattle.machine_laws.proofs.ObjectValues.{IsRowIn, object_in, frame_in}
use Rattle.machine_laws.proofs.Packing.{packed_in}
use Rattle.machine_laws.proofs.Stores.{IsLater, exception_in, grows_to, frames_grow, threads_grow, object_class_in}
use Rattle.std.specs.Option.{option_map, unwrap_or}

-- the state after a step is one of values, or the act is well made
abbrev pub IsStepIn : System → Past → StepOutcome → Type 0
IsStepIn s past (Step new) = IsStateIn s past new
IsStepIn s past (Ask a) = IsWellMade s past a

-- the place behind the instruction that is there
next_is : (s : System) (f : Frame) (i : Reading) → instruction_at (code_bytes s f) f.pc ≡ Some i → i.next ≡ pc_behind s f
unfolding pc_behind
next_is s f i q = sym (ap (λ (o : Option Reading). elim o as (λ _. ℕ) [ None ↦ f.pc | Some r ↦ r.next ]) q)

module _ (s : System) (past : Past) (z : IsSound s) where
  -- all frames of a store
  abbrev pub Fs : Store → List Frame → Type 0
  Fs store fs = AllByRecursion (IsFrameIn s past store) fs

  pub set_thread : (st : State) (t : ℕ) (x : Thread) → IsStateIn s past st → IsThreadIn s past st.store x → IsStateIn s past (with_thread st t x)
  unfolding with_thread
  set_thread st t x h i = record { store = h.store; threads = all_set (IsThreadIn s past st.store) st.threads t x i h.threads }

  pub set_store : (st : State) (new : Store) → IsStateIn s past st → IsLater s past st.store new → IsStateIn s past (with_store st new)
  unfolding with_store
  set_store st new h l = record { store = l.store; threads = threads_grow s past st.store past new (grows_to past st.store new l.grown) st.threads h.threads }

  pub less_fuel : (st : State) → IsStateIn s past st → IsStateIn s past (with_less_fuel st)
  unfolding with_less_fuel
  less_fuel st h = record { store = h.store; threads = h.threads }

  pub later_frames : (before after : Store) → IsLater s past before after → (fs : List Frame) → Fs before fs → Fs after fs
  later_frames before after l fs i = frames_grow s past before past after (grows_to past before after l.grown) fs i

  pub set_frames : (st : State) (t : ℕ) (x : Thread) (fs : List Frame) → IsStateIn s past st → Fs st.store fs → IsStateIn s past (with_frames s st t x fs)
  unfolding with_frames
  set_frames st t x fs h i = set_thread st t _ h (record { frames = i; stage = by (is_overfull s fs) })
    where
      by : (b : Bool) → IsStageIn past st.store (if b then Bad else Going)
      by true = tt
      by false = tt

  pub set_stage : (st : State) (t : ℕ) (x : Thread) (g : Stage) → IsStateIn s past st → IsStageIn past st.store g → IsStateIn s past (with_stage st t x g)
  unfolding with_stage
  set_stage st t x g h i = set_thread st t _ h (record { frames = tt; stage = i })

  -- ---- throwing

  handler_frames : (store : Store) (c r : ℕ) (fs : List Frame) → IsObject store r → Fs store fs → Fs store (frames_at_handler s c r fs)
  unfolding frames_at_handler with_values local_count stack_limit
  handler_frames store c r [] o i = tt
  handler_frames store c r (f ∷ fs) o i = by (handler_in s c f) refl (handler_frames store c r fs o i.1)
    where
      by : (h : Option ℕ) → handler_in s c f ≡ h → Fs store (frames_at_handler s c r fs) → Fs store (elim h as (λ _. List Frame) [ Some p ↦ record (with_values (value.Ref r ∷ []) f) { pc = p } ∷ fs | None ↦ frames_at_handler s c r fs ])
      by None e again = again
      by (Some p) e again = (record { method = i.0.method; count = i.0.count; room = i.0.room; place = z.handlers f (record (with_values (value.Ref r ∷ []) f) { pc = p }) c p e refl refl; locals = i.0.locals; stack = (o, tt) }, i.1)

  pub throw_in : (st : State) (t : ℕ) (x : Thread) (r : ℕ) → IsStateIn s past st → Fs st.store x.frames → IsObject st.store r → IsStateIn s past (after_throw s st t x r)
  unfolding after_throw
  throw_in st t x r h i o = by (frames_at_handler s (unwrap_or (class_of_object st.store r) 0) r x.frames) refl
    where
      k : Fs st.store (frames_at_handler s (unwrap_or (class_of_object st.store r) 0) r x.frames)
      k = handler_frames st.store (unwrap_or (class_of_object st.store r) 0) r x.frames o i

      by : (fs : List Frame) → frames_at_handler s (unwrap_or (class_of_object st.store r) 0) r x.frames ≡ fs → IsStateIn s past (after_throw s st t x r)
      by [] e = rw e (set_stage st t x (Threw r) h o)
      by (f ∷ fs) e = rw e (set_frames st t x (f ∷ fs) h (subst (Fs st.store) e k))

  pub raise_in : (st : State) (t : ℕ) (x : Thread) (c : ℕ) → IsStateIn s past st → Fs st.store x.frames → IsClass s c → IsStateIn s past (after_raise s st t x c)
  unfolding after_raise with_store
  raise_in st t x c h i k =
      let e = exception_in s past st.store c z h.store k in
      let st2 = with_store st (new_exception s st.store c).0 in
      throw_in st2 t x (new_exception s st.store c).1 (set_store st (new_exception s st.store c).0 h e.later) (later_frames st.store (new_exception s st.store c).0 e.later x.frames i) e.object

  overflow_class : IsClass s stack_overflow_error
  unfolding opened_built_in
  overflow_class = built_in_class s 17 z (omega arith) refl

  -- a core without frames
  abbrev pub bare : Store → Core
  bare store = record { frames = []; store = store }

  pub begin_in : (st : State) (t : ℕ) (x : Thread) (m : ℕ) (args : List Value) → IsStateIn s past st → AllByRecursion (IsValueIn past st.store) args → IsStateIn s past (after_begin s st t x m args)
  unfolding after_begin
  begin_in st t x m args h i = by (is_overflow s m []) (frame_of s m args) refl
    where
      by : (b : Bool) (o : Option Frame) → frame_of s m args ≡ o → IsStateIn s past (elim b as (λ _. State) [
        | true ↦ after_raise s st t (record x { frames = [] }) stack_overflow_error
        | false ↦ elim o as (λ _. State) [ None ↦ with_stage st t x Bad | Some f ↦ with_frames s st t x (f ∷ []) ]
      ])
      by true o e = raise_in st t (record x { frames = [] }) stack_overflow_error h tt overflow_class
      by false None e = set_stage st t x Bad h tt
      by false (Some f) e = set_frames st t x (f ∷ []) h (frame_in s past (bare st.store) z tt h.store m args f i e, tt)

  start_values : (store : Store) (m : ℕ) → IsStoreIn s past store → AllByRecursion (IsValueIn past store) (start_arguments s m)
  unfolding start_arguments
  start_values store m h = by (passes is_initializer_selector (selector_of_method s m))
    where
      by : (b : Bool) → AllByRecursion (IsValueIn past store) (if b then [] else value.Ref 1 ∷ [])
      by true = tt
      by false = (h.second, tt)

  pub finish_in : (st : State) (t : ℕ) (x : Thread) (v : Option Value) → IsStateIn s past st → IsValueInSome past st.store v → IsStateIn s past (after_finish s st t x v)
  unfolding after_finish
  finish_in st t x v h i = by x.waiting refl
    where
      by : (ms : List ℕ) → x.waiting ≡ ms → IsStateIn s past (after_finish s st t x v)
      by [] e = rw e (set_stage st t _ (Returned v) h i)
      by (m ∷ ms) e = rw e (begin_in st t _ m (start_arguments s m) h (start_values st.store m h.store))

  -- ---- one instruction

  -- a frame at another pc, with other locals and another stack
  abbrev moved : Frame → ℕ → Locals → Stack → Frame
  moved f to l k = record (with_values k f) { pc = to; locals = l }

  numeric_step : (st : State) (t : ℕ) (x : Thread) (f : Frame) (fs : List Frame) (next : ℕ) (o : NumericOutcome) → ((l : Locals) (k : Stack) → IsPlaced s (moved f next l k)) → ((to : ℕ) (l : Locals) (k : Stack) → o ≡ numeric.Jump to l k → IsPlaced s (moved f to l k)) → IsFrameIn s past st.store f → IsStateIn s past st → IsThreadIn s past st.store x → Fs st.store fs → IsNumericIn s past st.store (local_count s f) o → IsStepIn s past (after_numeric s st t x f fs next o)
  unfolding after_numeric ends_by_bad_code with_less_fuel with_values local_count stack_limit
  numeric_step st t x f fs next (numeric.Next l k) np jp fi h i j n = set_thread (with_less_fuel st) t _ (less_fuel st h) (record { frames = (record { method = fi.method; place = np l k; count = n.0.1; room = fi.room; locals = n.0.0; stack = n.1 }, j); stage = i.stage })
  numeric_step st t x f fs next (numeric.Jump to l k) np jp fi h i j n = set_thread (with_less_fuel st) t _ (less_fuel st h) (record { frames = (record { method = fi.method; place = jp to l k refl; count = n.0.1; room = fi.room; locals = n.0.0; stack = n.1 }, j); stage = i.stage })
  numeric_step st t x f fs next (numeric.Raise c) np jp fi h i j n = raise_in (with_less_fuel st) t x c (less_fuel st h) i.frames n
  numeric_step st t x f fs next numeric.BadCode np jp fi h i j n = inr refl
  numeric_step st t x f fs next numeric.NotMine np jp fi h i j n = inr refl

  object_step : (st : State) (t : ℕ) (x : Thread) (o : ObjectOutcome) → IsStateIn s past st → IsThreadIn s past st.store x → IsRowIn s past st.store o → IsStepIn s past (after_object s st t x o)
  unfolding after_object ends_by_bad_code with_less_fuel with_store
  object_step st t x (object.Next core) h i k = set_thread (with_store (with_less_fuel st) core.store) t _ (set_store (with_less_fuel st) core.store (less_fuel st h) k.0)
      (record { frames = k.1; stage = stage_on x.stage (threads_grow s past st.store past core.store (grows_to past st.store core.store k.0.grown) (x ∷ []) (i, tt)) })
    where
      stage_on : (g : Stage) → AllByRecursion (IsThreadIn s past core.store) (x ∷ []) → IsStageIn past core.store x.stage
      stage_on g j = j.0.stage
  object_step st t x (object.Raise c) h i k = raise_in (with_less_fuel st) t x c (less_fuel st h) i.frames k
  object_step st t x (object.Raised r core) h i k =
      throw_in (with_store (with_less_fuel st) core.store) t x r (set_store (with_less_fuel st) core.store (less_fuel st h) k.0) (later_frames st.store core.store k.0 x.frames i.frames) k.2
  object_step st t x (object.Ask a) h i k = k
  object_step st t x (object.Finish v core) h i k = finish_in (with_store (with_less_fuel st) core.store) t x v (set_store (with_less_fuel st) core.store (less_fuel st h) k.0) k.2
  object_step st t x object.BadCode h i k = inr refl
  object_step st t x object.NotMine h i k = inr refl

  row_step : (st : State) (t : ℕ) (x : Thread) (f : Frame) (fs : List Frame) (i : Reading) → IsStateIn s past st → IsThreadIn s past st.store x → x.frames ≡ f ∷ fs → instruction_at (code_bytes s f) f.pc ≡ Some i → IsStepIn s past (row s st t x f fs i)
  unfolding row core_of with_values
  row_step st t x f fs i h k e q = by (numeric_row s (class_of_frame s f) (stack_limit s f) i.instr f.locals f.stack.values) refl
      (numeric_in s past st.store (local_count s f) (class_of_frame s f) (stack_limit s f) i.instr f.locals f.stack.values z (z.operands f i q) (all.0.locals, all.0.count) all.0.stack)
    where
      all : Fs st.store (f ∷ fs)
      all = subst (Fs st.store) e k.frames

      behind : (l : Locals) (y : Stack) → IsPlaced s (moved f i.next l y)
      behind l y = z.goes_on f (moved f i.next l y) all.0.place refl (next_is s f i q)

      jumped : (to : ℕ) (l : Locals) (y : Stack) → numeric_row s (class_of_frame s f) (stack_limit s f) i.instr f.locals f.stack.values ≡ numeric.Jump to l y → IsPlaced s (moved f to l y)
      jumped to l y u = z.jumps f (moved f to l y) i to l y all.0.place q u refl refl

      by : (o : NumericOutcome) → numeric_row s (class_of_frame s f) (stack_limit s f) i.instr f.locals f.stack.values ≡ o → IsNumericIn s past st.store (local_count s f) o → IsStepIn s past (row s st t x f fs i)
      by numeric.NotMine w n = rw w (object_step st t x (object_row s (core_of st x) i.instr) h k (object_in s past (core_of st x) z k.frames h.store f fs i e q))
      by (numeric.Next l y) w n = rw w (numeric_step st t x f fs i.next (numeric.Next l y) behind (λ to l y u. jumped to l y (w ∙ u)) all.0 h k all.1 n)
      by (numeric.Jump p l y) w n = rw w (numeric_step st t x f fs i.next (numeric.Jump p l y) behind (λ to l y u. jumped to l y (w ∙ u)) all.0 h k all.1 n)
      by (numeric.Raise c) w n = rw w (numeric_step st t x f fs i.next (numeric.Raise c) behind (λ to l y u. jumped to l y (w ∙ u)) all.0 h k all.1 n)
      by numeric.BadCode w n = rw w (numeric_step st t x f fs i.next numeric.BadCode behind (λ to l y u. jumped to l y (w ∙ u)) all.0 h k all.1 n)

  framed_in : (st : State) (t : ℕ) (x : Thread) (fs : List Frame) → IsStateIn s past st → IsThreadIn s past st.store x → x.frames ≡ fs → IsStepIn s past (framed_step s st t x fs)
  unfolding framed_step ends_by_bad_code
  framed_in st t x [] h k e = inr refl
  framed_in st t x (f ∷ fs) h k e = by (instruction_at (code_bytes s f) f.pc) refl
    where
      fueled : (i : Reading) → instruction_at (code_bytes s f) f.pc ≡ Some i → (b : Bool) → IsStepIn s past (elim b as (λ _. StepOutcome) [ true ↦ Ask (act.End reason.Fuel) | false ↦ row s st t x f fs i ])
      fueled i q true = inl refl
      fueled i q false = row_step st t x f fs i h k e q

      by : (o : Option Reading) → instruction_at (code_bytes s f) f.pc ≡ o →
          IsStepIn s past (elim o as (λ _. StepOutcome) [ None ↦ Ask (act.End reason.BadCode) | Some i ↦ elim (st.fuel == 0) as (λ _. StepOutcome) [ true ↦ Ask (act.End reason.Fuel) | false ↦ row s st t x f fs i ] ])
      by None q = inr refl
      by (Some i) q = fueled i q (st.fuel == 0)

  -- ---- the end of a thread's code

  empty_in : IsParcelIn s past empty_parcel
  unfolding empty_parcel opened_limits opened_parcel_parts
  empty_in = record { few = omega arith; small = omega arith; classes = tt; cells = tt }

  answer_in : (st : State) (c : CallId) (f : Parcel → Act) (vs : List Value) → IsStateIn s past st → AllByRecursion (IsValueIn past st.store) vs → IsId c.0 → ((p : Parcel) → IsParcelIn s past p → IsWellMade s past (f p)) → IsWellMade s past (answer_act st c f vs)
  unfolding answer_act
  answer_in st c f vs h i n w = by (packed st.store.objects st.store.exports vs) refl
    where
      by : (o : Option Parcel) → packed st.store.objects st.store.exports vs ≡ o → IsWellMade s past (elim o as (λ _. Act) [ Some p ↦ f p | None ↦ act.Throw c empty_parcel ])
      by None e = (empty_in, n)
      by (Some p) e = w p (packed_in s past st.store h.store vs p i e)

  root_values_in : (st : State) (v : Option Value) → IsValueInSome past st.store v → AllByRecursion (IsValueIn past st.store) (result_roots v)
  unfolding result_roots
  root_values_in st None i = tt
  root_values_in st (Some v) i = (i, tt)

  thrown_class : (st : State) (r : ℕ) → IsStateIn s past st → IsWellMade s past (act.EndThread (option_map (λ c. record { 0 = c }) (class_of_object st.store r)))
  thrown_class st r h = by (class_of_object st.store r) refl
    where
      by : (o : Option ℕ) → class_of_object st.store r ≡ o → IsWellMade s past (act.EndThread (option_map (λ c. record { 0 = c }) o))
      by None e = tt
      by (Some c) e = object_class_in s past st.store r c h.store e

  ending_in : (st : State) (x : Thread) (g : Stage) → IsStateIn s past st → ServesKnownCall x → IsStageIn past st.store g → IsWellMade s past (ending_act st x g)
  unfolding ending_act
  ending_in st x (Returned v) h known i = by x.call known
    where
      by : (o : Option CallId) → IfSome o (λ c. IsId c.0) → IsWellMade s past (elim o as (λ _. Act) [ None ↦ act.EndThread None | Some c ↦ answer_act st c (λ p. act.Return c p) (result_roots v) ])
      by None n = tt
      by (Some c) n = answer_in st c (λ p. act.Return c p) (result_roots v) h (root_values_in st v i) n (λ p w. (w, n))
  ending_in st x (Threw r) h known i = by x.call known
    where
      by : (o : Option CallId) → IfSome o (λ c. IsId c.0) → IsWellMade s past (elim o as (λ _. Act) [
        | None ↦ act.EndThread (option_map (λ c. record { 0 = c }) (class_of_object st.store r))
        | Some c ↦ answer_act st c (λ p. act.Throw c p) (value.Ref r ∷ [])
      ])
      by None n = thrown_class st r h
      by (Some c) n = answer_in st c (λ p. act.Throw c p) (value.Ref r ∷ []) h (i, tt) n (λ p w. (w, n))
  ending_in st x Going h known i = inr refl
  ending_in st x Bad h known i = inr refl

  stage_in : (st : State) (t : ℕ) (x : Thread) (g : Stage) → IsStateIn s past st → ServesKnownCall x → IsThreadIn s past st.store x → IsStageIn past st.store g → IsStepIn s past (stage_step s st t x g)
  unfolding stage_step
  stage_in st t x Going h known k i = framed_in st t x x.frames h k refl
  stage_in st t x (Returned v) h known k i = ending_in st x (Returned v) h known i
  stage_in st t x (Threw r) h known k i = ending_in st x (Threw r) h known i
  stage_in st t x Bad h known k i = ending_in st x Bad h known i

  -- a step keeps the state one of values, or asks for an act that is well made
  pub step_in : (st : State) (t : ℕ) → IsStateIn s past st → ServeKnownCalls st → IsStepIn s past (step s st t)
  unfolding step thread_at ends_by_bad_code
  step_in st t h known = by (slice_get st.threads t) refl
    where
      by : (o : Option Thread) → slice_get st.threads t ≡ o → IsStepIn s past (elim o as (λ _. StepOutcome) [ None ↦ Ask (act.End reason.BadCode) | Some x ↦ stage_step s st t x x.stage ])
      by None e = inr refl
      by (Some x) e = let k = all_get (IsThreadIn s past st.store) st.threads t x e h.threads in stage_in st t x x.stage h (all_get ServesKnownCall st.threads t x e known) k k.stage

  steps_in : (t n : ℕ) (st : State) → IsStateIn s past st → ServeKnownCalls st → IsStateIn s past (after_steps s t n st)
  unfolding after_steps
  steps_in t zero st h known = h
  steps_in t (suc n) st h known = by (step s st t) (step_in st t h known) (step_known s st t known) (λ new k m. steps_in t n new k m)
    where
      by : (o : StepOutcome) → IsStepIn s past o → IsStepOfKnown s o → ((new : State) → IsStateIn s past new → ServeKnownCalls new → IsStateIn s past (after_steps s t n new)) → IsStateIn s past (elim o as (λ _. State) [ Step new ↦ after_steps s t n new | Ask a ↦ st ])
      by (Step new) k m again = again new k m
      by (Ask a) k m again = h

  -- a state after some steps is one of values
  pub advanced_in : (n : ℕ) (st : State) → IsStateIn s past st → ServeKnownCalls st → IsStateIn s past (advanced s n st)
  unfolding advanced
  advanced_in n st h known = by st.running
    where
      by : (o : Option ℕ) → IsStateIn s past (elim o as (λ _. State) [ None ↦ st | Some t ↦ after_steps s t n st ])
      by None = h
      by (Some t) = steps_in t n st h known

  -- the state at the next act is one of values
  pub at_act_in : (st : State) → IsStateIn s past st → ServeKnownCalls st → IsStateIn s past (state_at_act s st)
  unfolding state_at_act
  at_act_in st h known = by st.running
    where
      by : (o : Option ℕ) → IsStateIn s past (elim o as (λ _. State) [ None ↦ st | Some t ↦ after_steps s t st.fuel st ])
      by None = h
      by (Some t) = steps_in t st.fuel st h known

  -- an act that comes next is well made
  abbrev pub IsNextIn : NextAct → Type 0
  IsNextIn (Does a) = IsWellMade s past a
  IsNextIn Idle = Unit {0}

  pub act_in_in : (st : State) → IsStateIn s past st → ServeKnownCalls st → IsNextIn (act_in s st)
  unfolding act_in
  act_in_in st h known = by st.running
    where
      stepped : (o : StepOutcome) → IsStepIn s past o → IsNextIn (elim o as (λ _. NextAct) [ Ask a ↦ Does a | Step new ↦ Does (act.End reason.Fuel) ])
      stepped (Step new) k = inl refl
      stepped (Ask a) k = k

      by : (o : Option ℕ) → IsNextIn (elim o as (λ _. NextAct) [ None ↦ Idle | Some t ↦ elim (step s st t) as (λ _. NextAct) [ Ask a ↦ Does a | Step new ↦ Does (act.End reason.Fuel) ] ])
      by None = tt
      by (Some t) = stepped (step s st t) (step_in st t h known)
