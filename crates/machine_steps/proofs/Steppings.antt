-- What a step of a frame comes to, in a state that has the core.
use Rattle.std.proofs.Common.{◌≡◌, ◌≢◌, ◌==◌, ◌∙◌, ◌<◌, ℕ, zero, suc, Bool, true, false, List, [], ◌∷◌, length, Option, Some, None, refl, sym, ap, subst, arith}
use Rattle.std.specs.Prelude.{slice_get, slice_set, IsSomeAnd, if◌then◌else◌}
use Rattle.std.specs.Option.{unwrap_or}
use Rattle.std.proofs.lemmas.Option.{slice_get_within}
use Rattle.std.proofs.lemmas.Bool.Decides.{nat_tests}
use Rattle.jx_base.specs.declared.act.Act.TheVariants as act
use Rattle.jx_base.specs.declared.act.Reason.TheVariants as reason
use Rattle.jx_base.specs.declared.class_file.Instr.{Instr}
use Rattle.jx_base.specs.declared.ids.ClassId.{ClassId}
use Rattle.jx_base.specs.declared.frame.Frame.{Frame}
use Rattle.jx_base.specs.declared.program.System.{System}
use Rattle.jx_base.specs.Basics.{passes}
use Rattle.program_model.specs.Instructions.{Reading, instruction_at}
use Rattle.machine_model.specs.MachineThreads.{thread_at, with_thread, with_store, with_less_fuel, with_stage, with_frames, after_finish, after_raise, after_throw, core_of}
use Rattle.machine_model.specs.NumericRows.{NumericOutcome, Locals, Stack, depth_of, numeric_row}
use Rattle.machine_model.specs.NumericRows.{NumericOutcome as numeric}
use Rattle.machine_model.specs.ObjectRows.{ObjectOutcome, object_row}
use Rattle.machine_model.specs.ObjectRows.{ObjectOutcome as object}
use Rattle.machine_model.specs.Running.{StepOutcome, Step, Ask, after_numeric, after_object, ends_by_bad_code, framed_step, row}
use Rattle.machine_model.specs.State.{Store, Core, Stage, Thread, State, Going, Threw, Bad, class_of_frame, class_of_object, code_bytes, frames_at_handler, handler_in, is_handler_for, is_overfull, new_exception, pc_behind, stack_limit, with_values}
use Rattle.interp_num.specs.declared.step.NumStep.{NumStep}
use Rattle.interp_num.specs.declared.step.NumStep.TheVariants as num
use Rattle.jx_base.specs.declared.act.Act.{Act}
use Rattle.jx_base.specs.declared.value.Value.{Value}
use Rattle.machine_steps.proofs.ObjectFrames.{LeavesFrames, object_frames}
use Rattle.machine_steps.specs.declared.stepping.Stepped.{Stepped}
use Rattle.machine_steps.specs.declared.stepping.Stepped.TheVariants as stepped
use Rattle.std.specs.List.{All}
use Rattle.std.proofs.lemmas.List.Elements.{All-cons, All-rest}
use Rattle.machine_model.specs.Conditions.{IsFrameOf, IsInstrOf, local_count}
use Rattle.interp_core.proofs.Leavings.{head_frame}
use Rattle.interp_obj.specs.ObjectSteps.{IsNextInstr}
use Rattle.machine_steps.specs.Stepping.{AreInstrsOf, Finds, ComesFrom, ComesOut, HasBadThread, HasCore, HasRun, IsAt, Raises, SteppedAs, Throws, catching, spent}

get_set : (xs : List Thread) (i : ℕ) (y : Thread) → i < length xs → slice_get (slice_set xs i y) i ≡ Some y
get_set [] i y l = absurd (omega (arith, l))
get_set (x ∷ xs) zero y l = refl
get_set (x ∷ xs) (suc i) y l = get_set xs i y (omega (arith, l))

emptied : (f left : Frame) → left.method ≡ f.method → left.pc ≡ f.pc → left.stack.room ≡ f.stack.room → left.locals ≡ f.locals → left.stack.values ≡ [] → left ≡ with_values [] f
unfolding with_values
emptied f left a b c d e = rw (a, b, c, d, e) refl

module _ (s : System) (st : State) (t : ℕ) (x : Thread) where
  -- where no frame catches the object
  none_out : (S : State) (r : ℕ) → catching s S.store r x.frames ≡ [] → after_throw s S t x r ≡ with_stage S t x (Threw r)
  unfolding after_throw
  none_out S r e = rw e refl

  -- where a frame does
  some_out : (S : State) (r : ℕ) (f : Frame) (fs : List Frame) → catching s S.store r x.frames ≡ f ∷ fs → after_throw s S t x r ≡ with_frames s S t x (f ∷ fs)
  unfolding after_throw
  some_out S r f fs e = rw e refl

  fitting_out : (S : State) (fs : List Frame) → x.stage ≡ Going → is_overfull s fs ≡ false → with_frames s S t x fs ≡ with_thread S t (record x { frames = fs })
  unfolding with_frames
  fitting_out S fs stage e =
      ap (λ (b : Bool). with_thread S t (record x { frames = fs; stage = if b then Bad else Going })) e
      ∙ ap (λ (g : Stage). with_thread S t (record x { frames = fs; stage = g })) (sym stage)

  none_overfull : is_overfull s [] ≡ false
  unfolding is_overfull passes
  none_overfull = refl

  bad_there : (S : State) (y : Thread) → thread_at S t ≡ Some x → thread_at (with_thread S t y) t ≡ Some y
  unfolding thread_at with_thread
  bad_there S y e = get_set S.threads t y (slice_get_within S.threads t x e)

  same_threads : (store : Store) → thread_at (with_store (with_less_fuel st) store) t ≡ thread_at st t
  unfolding thread_at with_store with_less_fuel
  same_threads store = refl

  overfull_out : (S : State) (fs : List Frame) → thread_at S t ≡ Some x → is_overfull s fs ≡ true → HasBadThread t (Step (with_frames s S t x fs))
  unfolding with_frames
  overfull_out S fs there e =
      let y : Thread = record x { frames = fs; stage = if is_overfull s fs then Bad else Going } in
      let bad : y.stage ≡ Bad = ap (λ (b : Bool). if b then Bad else Going) e in
      (with_thread S t y, (refl, subst (λ (o : Option Thread). IsSomeAnd o (λ z. z.stage ≡ Bad)) (sym (bad_there S y there)) bad))

  spent_store : (new : Core) → (spent st new).store ≡ new.store
  unfolding with_store
  spent_store new = refl

  -- a thrown object
  pub thrown_out : (core old new : Core) (r : ℕ) (answer : Stepped) → thread_at st t ≡ Some x → x.stage ≡ Going → new.store ≡ core.store
      → catching s core.store r x.frames ≡ catching s core.store r core.frames → Throws s core r new answer → ComesOut s st t x old new answer (Step (after_throw s (spent st new) t x r))
  thrown_out core old new r answer there stage store same h = by answer (catching s core.store r core.frames) refl h
    where
      S : State
      S = spent st new

      there_too : thread_at S t ≡ Some x
      there_too = same_threads new.store ∙ there

      caught : (fs : List Frame) → catching s core.store r core.frames ≡ fs → catching s S.store r x.frames ≡ fs
      caught fs e = ap (λ (k : Store). catching s k r x.frames) (spent_store new ∙ store) ∙ same ∙ e

      by : (answer : Stepped) (fs : List Frame) → catching s core.store r core.frames ≡ fs → Throws s core r new answer → ComesOut s st t x old new answer (Step (after_throw s S t x r))
      by stepped.Going [] e h = absurd (h.some e)
      by stepped.Going (f ∷ fs) e h =
          ap Step (some_out S r f fs (caught (f ∷ fs) e) ∙ fitting_out S (f ∷ fs) stage (ap (is_overfull s) (sym e) ∙ h.fits)
          ∙ ap (λ (gs : List Frame). with_thread S t (record x { frames = gs })) (sym (h.frames ∙ e)))
      by stepped.Overfull [] e h = let q : false ≡ true = sym none_overfull ∙ ap (is_overfull s) (sym e) ∙ h in cc
      by stepped.Overfull (f ∷ fs) e h =
          subst (λ (o : State). HasBadThread t (Step o)) (sym (some_out S r f fs (caught (f ∷ fs) e))) (overfull_out S (f ∷ fs) there_too (ap (is_overfull s) (sym e) ∙ h))
      by (stepped.Threw y) fs e h = (ap Step (none_out S r (caught [] h.1.0) ∙ ap (λ (k : ℕ). with_stage S t x (Threw k)) (sym h.0)), h.1.1)
      by (stepped.Returned v) fs e h = absurd h
      by (stepped.Asks a) fs e h = absurd h
      by stepped.BadCode fs e h = absurd h

  -- a raised class
  pub raised_out : (core old new : Core) (c : ℕ) (answer : Stepped) → thread_at st t ≡ Some x → x.stage ≡ Going → st.store ≡ core.store
      → ((store : Store) (r : ℕ) → catching s store r x.frames ≡ catching s store r core.frames) → Raises s core c new answer → ComesOut s st t x old new answer (Step (after_raise s (with_less_fuel st) t x c))
  unfolding after_raise with_less_fuel
  raised_out core old new c answer there stage store same h =
      let made : new_exception s st.store c ≡ (new.store, h.object) = ap (λ (k : Store). new_exception s k c) store ∙ h.made in
      let after : after_raise s (with_less_fuel st) t x c ≡ after_throw s (spent st new) t x h.object =
      ap (λ (e : Store × ℕ). after_throw s (with_store (with_less_fuel st) e.0) t x e.1) made in
      subst (λ (o : State). ComesOut s st t x old new answer (Step o)) (sym after)
      (thrown_out (record core { store = new.store }) old new h.object answer there stage refl (same new.store h.object) h.thrown)

  -- the step is the row of the instruction that is read
  pub framed_is : (f : Frame) (callers : List Frame) (r : Reading) → st.fuel ≢ 0 → x.frames ≡ f ∷ callers → instruction_at (code_bytes s f) f.pc ≡ Some r → framed_step s st t x x.frames ≡ row s st t x f callers r
  unfolding framed_step
  framed_is f callers r fuel e i =
      let some : (st.fuel == 0) ≡ false = grind (arith, nat_tests, fuel) in
      ap (framed_step s st t x) e
      ∙ ap (λ (o : Option Reading). elim o as (λ _. StepOutcome) [ None ↦ ends_by_bad_code | Some i ↦ elim (st.fuel == 0) as (λ _. StepOutcome) [ true ↦ Ask (act.End reason.Fuel) | false ↦ row s st t x f callers i ] ]) i
      ∙ ap (λ (b : Bool). elim b as (λ _. StepOutcome) [ true ↦ Ask (act.End reason.Fuel) | false ↦ row s st t x f callers r ]) some

  pub nothing_read : (f : Frame) (callers : List Frame) → x.frames ≡ f ∷ callers → instruction_at (code_bytes s f) f.pc ≡ None → framed_step s st t x x.frames ≡ Ask (act.End reason.BadCode)
  unfolding framed_step ends_by_bad_code
  nothing_read f callers e i =
      ap (framed_step s st t x) e
      ∙ ap (λ (o : Option Reading). elim o as (λ _. StepOutcome) [ None ↦ ends_by_bad_code | Some i ↦ elim (st.fuel == 0) as (λ _. StepOutcome) [ true ↦ Ask (act.End reason.Fuel) | false ↦ row s st t x f callers i ] ]) i

  -- ---- rows on numbers

  no_stack : (c r : ℕ) (f : Frame) (callers : List Frame) → frames_at_handler s c r (with_values [] f ∷ callers) ≡ frames_at_handler s c r (f ∷ callers)
  unfolding frames_at_handler handler_in is_handler_for class_of_frame with_values
  no_stack c r f callers = refl

  moved : (f left : Frame) (next : ℕ) → left.method ≡ f.method → left.pc ≡ next → left.stack.room ≡ f.stack.room → left ≡ record (with_values left.stack.values f) { pc = next; locals = left.locals }
  unfolding with_values
  moved f left next a b c = rw (a, b, c) refl

  behind_is : (f : Frame) (r : Reading) → instruction_at (code_bytes s f) f.pc ≡ Some r → pc_behind s f ≡ r.next
  unfolding pc_behind
  behind_is f r e = ap (λ (o : Option Reading). elim o as (λ _. ℕ) [ None ↦ f.pc | Some r ↦ r.next ]) e

  same_state : (store : Store) → store ≡ st.store → with_store (with_less_fuel st) store ≡ with_less_fuel st
  unfolding with_store with_less_fuel
  same_state store e = rw e refl

  numbers_row : (f : Frame) (callers : List Frame) (r : Reading) (o : NumericOutcome) → o ≢ numeric.NotMine
      → numeric_row s (class_of_frame s f) (stack_limit s f) r.instr f.locals f.stack.values ≡ o → row s st t x f callers r ≡ after_numeric s st t x f callers r.next o
  unfolding row
  numbers_row f callers r numeric.NotMine n e = absurd (n refl)
  numbers_row f callers r (numeric.Next l k) n e = rw e refl
  numbers_row f callers r (numeric.Jump p l k) n e = rw e refl
  numbers_row f callers r (numeric.Raise c) n e = rw e refl
  numbers_row f callers r numeric.BadCode n e = rw e refl

  objects_row : (f : Frame) (callers : List Frame) (r : Reading) → numeric_row s (class_of_frame s f) (stack_limit s f) r.instr f.locals f.stack.values ≡ numeric.NotMine
      → row s st t x f callers r ≡ after_object s st t x (object_row s (core_of st x) r.instr)
  unfolding row
  objects_row f callers r e = rw e refl

  -- ---- rows on objects

  core_is : (core : Core) → HasCore core st t x → core_of st x ≡ core
  unfolding core_of
  core_is core h = rw (h.frames, h.store) refl

  -- the row of the core, whatever its outcome
  outcome_out : (i : Instr) (old new : Core) (answer : Stepped) (o : ObjectOutcome) → object_row s old i ≡ o → ComesOut s st t x old new answer (after_object s st t x o) → ComesOut s st t x old new answer (after_object s st t x (object_row s old i))
  outcome_out i old new answer o e h = subst (λ (p : ObjectOutcome). ComesOut s st t x old new answer (after_object s st t x p)) (sym e) h

  object_next : (new : Core) → after_object s st t x (object.Next new) ≡ Step (with_thread (spent st new) t (record x { frames = new.frames }))
  unfolding after_object
  object_next new = refl

  object_bad : after_object s st t x object.BadCode ≡ Ask (act.End reason.BadCode)
  unfolding after_object ends_by_bad_code
  object_bad = refl

  object_other : after_object s st t x object.NotMine ≡ Ask (act.End reason.BadCode)
  unfolding after_object ends_by_bad_code
  object_other = refl

  object_raise : (c : ℕ) → after_object s st t x (object.Raise c) ≡ Step (after_raise s (with_less_fuel st) t x c)
  unfolding after_object
  object_raise c = refl

  object_raised : (r : ℕ) (new : Core) → after_object s st t x (object.Raised r new) ≡ Step (after_throw s (spent st new) t x r)
  unfolding after_object
  object_raised r new = refl

  object_ask : (a : Act) → after_object s st t x (object.Ask a) ≡ Ask a
  unfolding after_object
  object_ask a = refl

  object_finish : (v : Option Value) (new : Core) → after_object s st t x (object.Finish v new) ≡ Step (after_finish s (spent st new) t x v)
  unfolding after_object
  object_finish v new = refl

module _ (s : System) (i : Instr) (old new : Core) where
  pub next_from : object_row s old i ≡ object.Next new → ComesFrom s i old new stepped.Going
  next_from e st t x h = outcome_out s st t x i old new stepped.Going (object.Next new) e (object_next s st t x new)

  pub bad_from : object_row s old i ≡ object.BadCode → ComesFrom s i old new stepped.BadCode
  bad_from e st t x h = outcome_out s st t x i old new stepped.BadCode object.BadCode e (object_bad s st t x)

  pub other_from : object_row s old i ≡ object.NotMine → ComesFrom s i old new stepped.BadCode
  other_from e st t x h = outcome_out s st t x i old new stepped.BadCode object.NotMine e (object_other s st t x)

  pub ask_from : (a : Act) → object_row s old i ≡ object.Ask a → new ≡ old → ComesFrom s i old new (stepped.Asks a)
  ask_from a e same st t x h = outcome_out s st t x i old new (stepped.Asks a) (object.Ask a) e (object_ask s st t x a, same)

  pub finish_from : (v : Option Value) → object_row s old i ≡ object.Finish v new → ComesFrom s i old new (stepped.Returned v)
  finish_from v e st t x h = outcome_out s st t x i old new (stepped.Returned v) (object.Finish v new) e (object_finish s st t x v new, subst (LeavesFrames s old) e (object_frames s old i))

  pub raise_from : (c : ℕ) (mid : Core) (answer : Stepped) → object_row s old i ≡ object.Raise c → mid ≡ old → Raises s mid c new answer → ComesFrom s i old new answer
  raise_from c mid answer e same r st t x h =
      let raises : Raises s old c new answer = subst (λ (k : Core). Raises s k c new answer) same r in
      outcome_out s st t x i old new answer (object.Raise c) e
      (subst (ComesOut s st t x old new answer) (sym (object_raise s st t x c))
      (raised_out s st t x old old new c answer h.there h.stage h.store (λ store r. ap (catching s store r) h.frames) raises))

  pub raised_from : (r : ℕ) (mid : Core) (answer : Stepped) → object_row s old i ≡ object.Raised r mid → new.store ≡ mid.store → Throws s mid r new answer → ComesFrom s i old new answer
  raised_from r mid answer e store throws st t x h =
      let kept : mid.frames ≡ old.frames = subst (LeavesFrames s old) e (object_frames s old i) in
      let state : after_object s st t x (object.Raised r mid) ≡ Step (after_throw s (spent st new) t x r) =
      object_raised s st t x r mid ∙ ap (λ (k : Store). Step (after_throw s (with_store (with_less_fuel st) k) t x r)) (sym store) in
      outcome_out s st t x i old new answer (object.Raised r mid) e
      (subst (ComesOut s st t x old new answer) (sym state)
      (thrown_out s st t x mid old new r answer h.there h.stage store (ap (catching s mid.store r) (h.frames ∙ sym kept)) throws))

  pub kept_frames : (r : ℕ) (mid : Core) → object_row s old i ≡ object.Raised r mid → mid.frames ≡ old.frames
  kept_frames r mid e = subst (LeavesFrames s old) e (object_frames s old i)

-- the core and the answer by other names
pub joined : (s : System) (i : Instr) (old new other : Core) (answer said : Stepped) → other ≡ new → said ≡ answer → ComesFrom s i old new answer → ComesFrom s i old other said
joined s i old new other answer said e f h = subst (λ (k : Core). ComesFrom s i old k said) (sym e) (subst (ComesFrom s i old new) (sym f) h)

module _ (s : System) (i : Instr) (old mid : Core) (a : IsAt s old i) where
  read_at : (f : Frame) (callers : List Frame) → old.frames ≡ f ∷ callers → instruction_at (code_bytes s f) f.pc ≡ Some a.reading
  read_at f callers e =
      let both : a.frame ∷ a.callers ≡ f ∷ callers = sym a.running ∙ e in
      let q : a.frame ≡ f = cc in
      subst (λ (g : Frame). instruction_at (code_bytes s g) g.pc ≡ Some a.reading) q a.read

  row_at_instr : (f : Frame) (o : NumericOutcome) → numeric_row s (class_of_frame s f) (stack_limit s f) i f.locals f.stack.values ≡ o → numeric_row s (class_of_frame s f) (stack_limit s f) a.reading.instr f.locals f.stack.values ≡ o
  row_at_instr f o e = subst (λ (j : Instr). numeric_row s (class_of_frame s f) (stack_limit s f) j f.locals f.stack.values ≡ o) (sym a.instr) e

  after_next : (st : State) (t : ℕ) (x : Thread) (f : Frame) (callers : List Frame) (next : ℕ) (l : Locals) (k : Stack)
      → after_numeric s st t x f callers next (numeric.Next l k) ≡ Step (with_thread (with_less_fuel st) t (record x { frames = record (with_values k f) { pc = next; locals = l } ∷ callers }))
  unfolding after_numeric
  after_next st t x f callers next l k = refl

  after_jump : (st : State) (t : ℕ) (x : Thread) (f : Frame) (callers : List Frame) (next to : ℕ) (l : Locals) (k : Stack)
      → after_numeric s st t x f callers next (numeric.Jump to l k) ≡ Step (with_thread (with_less_fuel st) t (record x { frames = record (with_values k f) { pc = to; locals = l } ∷ callers }))
  unfolding after_numeric
  after_jump st t x f callers next to l k = refl

  after_bad : (st : State) (t : ℕ) (x : Thread) (f : Frame) (callers : List Frame) (next : ℕ) → after_numeric s st t x f callers next numeric.BadCode ≡ Ask (act.End reason.BadCode)
  unfolding after_numeric ends_by_bad_code
  after_bad st t x f callers next = refl

  after_raised : (st : State) (t : ℕ) (x : Thread) (f : Frame) (callers : List Frame) (next c : ℕ) → after_numeric s st t x f callers next (numeric.Raise c) ≡ Step (after_raise s (with_less_fuel st) t x c)
  unfolding after_numeric
  after_raised st t x f callers next c = refl

  went_on : (st : State) (t : ℕ) (x : Thread) (answer : NumStep) (run : HasRun s i old mid answer) (pc : ℕ) → run.left.pc ≡ pc → HasCore old st t x
      → Step (with_thread (with_less_fuel st) t (record x { frames = record (with_values run.left.stack.values run.frame) { pc = pc; locals = run.left.locals } ∷ run.callers })) ≡ Step (with_thread (spent st mid) t (record x { frames = mid.frames }))
  went_on st t x answer run pc place h =
      ap (λ (fs : List Frame). Step (with_thread (with_less_fuel st) t (record x { frames = fs }))) (ap (λ (g : Frame). g ∷ run.callers) (sym (moved s st t x run.frame run.left pc run.method place run.room)) ∙ sym run.frames)
      ∙ ap (λ (S : State). Step (with_thread S t (record x { frames = mid.frames }))) (sym (same_state s st t x mid.store (run.store ∙ sym h.store)))

  pub next_out : HasRun s i old mid num.Next → SteppedAs s old mid stepped.Going
  next_out run st t x h =
      let read = read_at run.frame run.callers run.was in
      framed_is s st t x run.frame run.callers a.reading h.fuel (h.frames ∙ run.was) read
      ∙ numbers_row s st t x run.frame run.callers a.reading (numeric.Next run.left.locals run.left.stack.values) (λ e. cc) (row_at_instr run.frame _ run.row)
      ∙ after_next st t x run.frame run.callers a.reading.next run.left.locals run.left.stack.values
      ∙ went_on st t x num.Next run a.reading.next (run.place ∙ behind_is s st t x run.frame a.reading read) h

  pub jump_out : (to : ℕ) → HasRun s i old mid (num.Jump to) → SteppedAs s old mid stepped.Going
  jump_out to run st t x h =
      framed_is s st t x run.frame run.callers a.reading h.fuel (h.frames ∙ run.was) (read_at run.frame run.callers run.was)
      ∙ numbers_row s st t x run.frame run.callers a.reading (numeric.Jump to run.left.locals run.left.stack.values) (λ e. cc) (row_at_instr run.frame _ run.row)
      ∙ after_jump st t x run.frame run.callers a.reading.next to run.left.locals run.left.stack.values
      ∙ went_on st t x (num.Jump to) run to run.place h

  pub bad_out : (new : Core) → HasRun s i old mid num.BadCode → SteppedAs s old new stepped.BadCode
  bad_out new run st t x h =
      framed_is s st t x run.frame run.callers a.reading h.fuel (h.frames ∙ run.was) (read_at run.frame run.callers run.was)
      ∙ numbers_row s st t x run.frame run.callers a.reading numeric.BadCode (λ e. cc) (row_at_instr run.frame _ run.row.0)
      ∙ after_bad st t x run.frame run.callers a.reading.next

  pub raise_out : (c : ClassId) (new : Core) (answer : Stepped) → HasRun s i old mid (num.Raise c) → Raises s mid c.0 new answer → SteppedAs s old new answer
  raise_out c new answer run raises st t x h =
      let left = emptied run.frame run.left run.method run.place run.room run.row.1.0 run.row.1.1 in
      let step = framed_is s st t x run.frame run.callers a.reading h.fuel (h.frames ∙ run.was) (read_at run.frame run.callers run.was)
      ∙ numbers_row s st t x run.frame run.callers a.reading (numeric.Raise c.0) (λ e. cc) (row_at_instr run.frame _ run.row.0)
      ∙ after_raised st t x run.frame run.callers a.reading.next c.0 in
      subst (ComesOut s st t x old new answer) (sym step)
      (raised_out s st t x mid old new c.0 answer h.there h.stage (h.store ∙ sym run.store)
      (λ store r. ap (catching s store r) (h.frames ∙ run.was) ∙ sym (no_stack s st t x (unwrap_or (class_of_object store r) 0) r run.frame run.callers)
      ∙ ap (catching s store r) (ap (λ (g : Frame). g ∷ run.callers) (sym left) ∙ sym run.frames)) raises)

  pub same_core : HasRun s i old mid num.NotMine → mid ≡ old
  same_core run =
      let frames : mid.frames ≡ old.frames = run.frames ∙ ap (λ (g : Frame). g ∷ run.callers) run.row.1 ∙ sym run.was in
      ap (λ (fs : List Frame). record mid { frames = fs }) frames ∙ ap (λ (k : Store). record { frames = old.frames; store = k }) run.store

  pub object_out : (new : Core) (answer : Stepped) → HasRun s i old mid num.NotMine → ComesFrom s i mid new answer → SteppedAs s old new answer
  object_out new answer run from st t x h =
      let here : ComesFrom s i old new answer = subst (λ (k : Core). ComesFrom s i k new answer) (same_core run) from in
      let step = framed_is s st t x run.frame run.callers a.reading h.fuel (h.frames ∙ run.was) (read_at run.frame run.callers run.was)
      ∙ objects_row s st t x run.frame run.callers a.reading (row_at_instr run.frame _ run.row.0)
      ∙ ap (λ (k : Core). after_object s st t x (object_row s k a.reading.instr)) (core_is s st t x old h)
      ∙ ap (λ (j : Instr). after_object s st t x (object_row s old j)) a.instr in
      subst (ComesOut s st t x old new answer) (sym step) (here st t x h)

  less_deep : (k : Frame) → IsFrameOf s k → IsFrameOf s (with_values [] k)
  unfolding with_values local_count stack_limit depth_of
  less_deep k h = record { method = h.method; locals = h.locals; depth = omega arith; room = h.room }

  -- where a class is raised the frames are still those of their methods
  pub raised_frames : (c : ClassId) → HasRun s i old mid (num.Raise c) → All (IsFrameOf s) old.frames → All (IsFrameOf s) mid.frames
  raised_frames c run h =
      let left : run.left ≡ with_values [] run.frame = emptied run.frame run.left run.method run.place run.room run.row.1.0 run.row.1.1 in
      let first = subst (IsFrameOf s) (sym left) (less_deep run.frame (head_frame s old.frames run.callers run.frame run.was h)) in
      subst (All (IsFrameOf s)) (sym run.frames) (All-cons (IsFrameOf s) run.left run.callers first (All-rest (IsFrameOf s) run.frame run.callers old.frames run.was h))

  pub next_instr_is : (at : AreInstrsOf s old) → HasRun s i old mid num.NotMine → IsNextInstr s mid i
  next_instr_is at run =
      let here : IsInstrOf s old a.frame a.callers i = subst (IsInstrOf s old a.frame a.callers) a.instr (at a.frame a.callers a.reading a.running a.read) in
      record { frame = a.frame; callers = a.callers; instruction = subst (λ (k : Core). IsInstrOf s k a.frame a.callers i) (sym (same_core run)) here }

no_frames : (s : System) (st : State) (t : ℕ) (x : Thread) → framed_step s st t x [] ≡ Ask (act.End reason.BadCode)
unfolding framed_step ends_by_bad_code
no_frames s st t x = refl

-- where no instruction is read it is bad code
pub unread_out : (s : System) (core new : Core) → Finds s core None → SteppedAs s core new stepped.BadCode
unread_out s core new none st t x h = by core.frames refl
  where
    by : (fs : List Frame) → core.frames ≡ fs → framed_step s st t x x.frames ≡ Ask (act.End reason.BadCode)
    by [] e = ap (framed_step s st t x) (h.frames ∙ e) ∙ no_frames s st t x
    by (f ∷ fs) e = nothing_read s st t x f fs (h.frames ∙ e) (none f fs e)
