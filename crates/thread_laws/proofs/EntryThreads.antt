-- What an entry of a domain makes of the threads of its state.
use Rattle.std.proofs.Common.{◌≡◌, ◌≢◌, refl, sym, ◌∙◌, ap, ℕ, zero, suc, ◌+◌, ◌≤◌, Bool, true, false, List, [], ◌∷◌, ◌++◌, length, drop, replicate, Option, Some, None, arith, ◌⊎◌, inl, inr, slice_get, length-append}
use Rattle.std.specs.Prelude.{if◌then◌else◌}
use Rattle.class_grammar.specs.Flags.{is_abstract}
use Rattle.jx_base.specs.declared.act.Act.{Act}
use Rattle.jx_base.specs.declared.act.Act.TheVariants as act
use Rattle.jx_base.specs.declared.act.Reply.{Reply}
use Rattle.jx_base.specs.declared.act.Reply.TheVariants as reply
use Rattle.jx_base.specs.declared.frame.Frame.{Frame}
use Rattle.jx_base.specs.declared.ids.CallId.{CallId}
use Rattle.jx_base.specs.declared.ids.ClassId.{ClassId}
use Rattle.jx_base.specs.declared.ids.MethodId.{MethodId}
use Rattle.jx_base.specs.declared.ids.ServiceId.{ServiceId}
use Rattle.jx_base.specs.declared.program.Method.{Method}
use Rattle.jx_base.specs.declared.program.System.{System}
use Rattle.jx_base.specs.declared.value.Parcel.{Parcel}
use Rattle.jx_base.specs.declared.value.Value.{Value}
use Rattle.jx_base.specs.declared.value.Value.TheVariants as value
use Rattle.machine_model.specs.AfterEntry.{taken_at, after_result, after_split, exception_of, after_reply, with_nodes, root_values, after_built_in, after_selection, selected_at, after_roots, parameters_of, after_take, expected_types, after_value, thrown_root, after_thrown, after_resume, exported_object, with_export, after_end, with_running_thread, after_act}
use Rattle.machine_model.specs.BuiltInMethods.{BuiltInOutcome, Gives, Performs, Raises, HasNoRoom, Unfit, built_in_outcome}
use Rattle.machine_model.specs.MachineThreads.{thread_at, with_store, with_less_fuel, at_rest, idle_thread, with_thread, with_frames, with_stage, after_throw, after_raise, after_begin}
use Rattle.machine_model.specs.ObjectRows.{all_fit, with_result}
use Rattle.machine_model.specs.State.{Store, Stage, Going, Returned, Threw, Bad, Thread, State, class_of_object, new_object, frame_behind, with_values, stack_limit, is_overfull}
use Rattle.machine_model.specs.Running.{StepOutcome, Ask, step, stage_step, ends_by_bad_code, ending_act, answer_act, empty_parcel, result_roots}
use Rattle.program_model.specs.Parcels.{packed}
use Rattle.program_model.specs.BuiltIn.{copy_exception, ended_exception}
use Rattle.program_model.specs.Lookup.{method_at, is_built_in}
use Rattle.jx_base.specs.Basics.{passes}
use Rattle.jx_model.specs.Threads.{new_threads}
use Rattle.machine_model.specs.NumericRows.{depth_of}
use Rattle.machine_laws.specs.Depths.{IsWithin, HasStacksWithin}
use Rattle.machine_laws.proofs.NumericDepths.{drop_within}
use Rattle.std.specs.List.{AllByRecursion}
use Rattle.std.specs.Option.{option_map}
use Rattle.std.specs.Prelude.{nat_lt}
use Rattle.std.proofs.lemmas.Bool.Decides.{nat_tests}
use Rattle.std.proofs.lemmas.List.{length-replicate}
use Rattle.thread_laws.proofs.KindsOfActs.{pauses, running_after, stops}
use Rattle.thread_laws.proofs.StepThreads.{ChangesOnly, changes_none, get_set, Q, thread_only, store_only, frames_only, stage_only, throw_only, raise_only, begin_only}

module _ (s : System) (old : State) (t : ℕ) where
  -- the state has of the old one all but thread t
  abbrev pub S : State → Type 0
  S st = Q s old t st

  pub result_only : (st : State) (x : Thread) (v : Option Value) → S st → S (after_result s st t x v)
  unfolding after_result
  result_only st x v h = by x.frames refl
    where
      by : (fs : List Frame) → x.frames ≡ fs → S (after_result s st t x v)
      by [] e = rw e h
      by (f ∷ fs) e = rw e (frames_only s old t st _ (frame_behind s (with_result v (drop (taken_at s f) f.stack.values)) f ∷ fs) h)

  pub split_only : (st : State) (x : Thread) (halves : List Value) → S st → S (after_split s st t x halves)
  unfolding after_split
  split_only st x halves h = by (new_object st.store _ halves)
    where
      by : (o : Option (Store × ℕ)) → S (elim o as (λ _. State) [ None ↦ after_throw s st t x 0 | Some y ↦ after_result s (with_store st y.0) t x (Some (value.Ref y.1)) ])
      by None = throw_only s old t st x 0 h
      by (Some y) = result_only (with_store st y.0) x (Some (value.Ref y.1)) (store_only s old t st y.0 h)

  pub reply_only : (st : State) (x : Thread) (r : Reply) → S st → S (after_reply s st t x r)
  unfolding after_reply
  reply_only st x (reply.Service service c) h = result_only st x (Some (value.Portal service c)) h
  reply_only st x reply.NoName h = result_only st x (Some value.Null) h
  reply_only st x (reply.Number n) h = result_only st x (Some (value.Int n)) h
  reply_only st x (reply.Made m g) h = result_only st x (Some (value.Mem m)) h
  reply_only st x (reply.Object m) h = result_only st x (Some (value.Mem m)) h
  reply_only st x (reply.Pair a b) h = split_only st x (value.Mem a ∷ value.Mem b ∷ []) h
  reply_only st x (reply.Domain d g) h = result_only st x _ h
  reply_only st x (reply.Refused r) h = raise_only s old t st x (exception_of r) h
  reply_only st x _ h = result_only st x None h

  -- ---- a call is taken

  pub native_only : (st : State) (x : Thread) (o : BuiltInOutcome) → S st → S (after_built_in s st t x o)
  unfolding after_built_in
  native_only st x (Gives store v) h = stage_only s old t (with_store st store) x (Returned v) (store_only s old t st store h)
  native_only st x (Raises c) h = raise_only s old t st (record x { frames = [] }) c h
  native_only st x HasNoRoom h = stage_only s old t st x (Threw 0) h
  native_only st x (Performs a) h = stage_only s old t st x Bad h
  native_only st x Unfit h = stage_only s old t st x Bad h

  pub selection_only : (st : State) (x : Thread) (m : ℕ) (args : List Value) → S st → S (after_selection s st t x m args)
  unfolding after_selection
  selection_only st x m args h = by (method_at s m)
    where
      here : (k : Method) (a b : Bool) → S (if a then with_stage st t x Bad else if b then after_built_in s st t x (built_in_outcome s st.store k args) else after_begin s st t x m args)
      here k true b = stage_only s old t st x Bad h
      here k false true = native_only st x (built_in_outcome s st.store k args) h
      here k false false = begin_only s old t st x m args h

      by : (o : Option Method) → S (elim o as (λ _. State) [
        | None ↦ with_stage st t x Bad
        | Some k ↦ if is_abstract k.flags then with_stage st t x Bad else if is_built_in k.class.0 then after_built_in s st t x (built_in_outcome s st.store k args) else after_begin s st t x m args
      ])
      by None = stage_only s old t st x Bad h
      by (Some k) = here k (is_abstract k.flags) (is_built_in k.class.0)

  pub roots_only : (st : State) (x : Thread) (service : ServiceId) (method : MethodId) (roots : List Value) → S st → S (after_roots s st t x service method roots)
  unfolding after_roots
  roots_only st x service method roots h = by (selected_at s st.store service method)
    where
      by : (o : Option (ℕ × ℕ)) → S (elim o as (λ _. State) [ None ↦ with_stage st t x Bad | Some y ↦ after_selection s st t x y.0 (value.Ref y.1 ∷ roots) ])
      by None = stage_only s old t st x Bad h
      by (Some y) = selection_only st x y.0 (value.Ref y.1 ∷ roots) h

  pub take_only : (st : State) (x : Thread) (service : ServiceId) (method : MethodId) (p : Parcel) → S st → S (after_take s st t x service method p)
  unfolding after_take
  take_only st x service method p h = by (with_nodes st.store p)
    where
      fitted : (store : Store) (b : Bool) → S (if b then after_roots s (with_store st store) t x service method (root_values st.store p) else after_raise s (with_store st store) t (record x { frames = [] }) copy_exception)
      fitted store true = roots_only (with_store st store) x service method (root_values st.store p) (store_only s old t st store h)
      fitted store false = raise_only s old t (with_store st store) (record x { frames = [] }) copy_exception (store_only s old t st store h)

      by : (o : Option Store) → S (elim o as (λ _. State) [
        | None ↦ with_stage st t x (Threw 0)
        | Some store ↦ if all_fit s false store (root_values st.store p) (parameters_of s method) then after_roots s (with_store st store) t x service method (root_values st.store p)
            else after_raise s (with_store st store) t (record x { frames = [] }) copy_exception
      ])
      by None = stage_only s old t st x (Threw 0) h
      by (Some store) = fitted store (all_fit s false store (root_values st.store p) (parameters_of s method))

  -- ---- an answer is resumed

  pub value_only : (st : State) (x : Thread) (p : Parcel) → S st → S (after_value s st t x p)
  unfolding after_value
  value_only st x p h = by (with_nodes st.store p)
    where
      fitted : (store : Store) (b : Bool) → S (if b then after_result s (with_store st store) t x (slice_get (root_values st.store p) 0) else after_raise s (with_store st store) t x copy_exception)
      fitted store true = result_only (with_store st store) x (slice_get (root_values st.store p) 0) (store_only s old t st store h)
      fitted store false = raise_only s old t (with_store st store) x copy_exception (store_only s old t st store h)

      by : (o : Option Store) → S (elim o as (λ _. State) [
        | None ↦ after_throw s st t x 0
        | Some store ↦ if all_fit s false store (root_values st.store p) (expected_types s x) then after_result s (with_store st store) t x (slice_get (root_values st.store p) 0) else after_raise s (with_store st store) t x copy_exception
      ])
      by None = throw_only s old t st x 0 h
      by (Some store) = fitted store (all_fit s false store (root_values st.store p) (expected_types s x))

  pub thrown_only : (st : State) (x : Thread) (p : Parcel) → S st → S (after_thrown s st t x p)
  unfolding after_thrown
  thrown_only st x p h = by (with_nodes st.store p)
    where
      found : (store : Store) (o : Option ℕ) → S (elim o as (λ _. State) [ Some r ↦ after_throw s (with_store st store) t x r | None ↦ after_raise s (with_store st store) t x copy_exception ])
      found store (Some r) = throw_only s old t (with_store st store) x r (store_only s old t st store h)
      found store None = raise_only s old t (with_store st store) x copy_exception (store_only s old t st store h)

      by : (o : Option Store) → S (elim o as (λ _. State) [
        | None ↦ after_throw s st t x 0
        | Some store ↦ elim (thrown_root s store (root_values st.store p)) as (λ _. State) [ Some r ↦ after_throw s (with_store st store) t x r | None ↦ after_raise s (with_store st store) t x copy_exception ]
      ])
      by None = throw_only s old t st x 0 h
      by (Some store) = found store (thrown_root s store (root_values st.store p))

  pub resume_only : (st : State) (x : Thread) (r : Reply) → S st → S (after_resume s st t x r)
  unfolding after_resume
  resume_only st x (reply.Value p) h = value_only st x p h
  resume_only st x (reply.Thrown p) h = thrown_only st x p h
  resume_only st x reply.CopyFailed h = raise_only s old t st x copy_exception h
  resume_only st x _ h = raise_only s old t st x ended_exception h

-- ---- an act with its reply

-- that runs, there are n threads more, and those other than t are the same, or go on
pub record ActsAs (t : ℕ) (old new : State) (runs : Option ℕ) (n : ℕ) : Type 0 where
  pub running : new.running ≡ runs
  pub count : length new.threads ≡ length old.threads + n
  pub others : (k : ℕ) (y : Thread) → k ≢ t → thread_at new k ≡ Some y → (thread_at old k ≡ Some y) ⊎ (y.stage ≡ Going)

-- what changes thread t alone, after another ran
acts_only : (t : ℕ) (old mid new : State) → mid.threads ≡ old.threads → ChangesOnly t mid new → ActsAs t old new mid.running 0
unfolding thread_at
acts_only t old mid new q h =
    record {
      running = h.running;
      count = omega (arith, h.count, ap (λ (xs : List Thread). length xs) q);
      others = λ k y n e. inl (ap (λ (xs : List Thread). slice_get xs k) (sym q) ∙ sym (h.others k n) ∙ e);
    }

-- at rest it is the same, but nothing runs
rests_as : (t : ℕ) (old new : State) (runs : Option ℕ) (n : ℕ) → ActsAs t old new runs n → ActsAs t old (at_rest new) None n
unfolding at_rest thread_at
rests_as t old new runs n h = record { running = refl; count = h.count; others = h.others }

-- an item of a list with equal ones behind it
with_equal : {X : Type 0} (xs : List X) (n : ℕ) (v : X) (k : ℕ) (y : X) → slice_get (xs ++ replicate n v) k ≡ Some y → (slice_get xs k ≡ Some y) ⊎ (y ≡ v)
with_equal [] zero v k y h = cc
with_equal [] (suc n) v zero y h = inr cc
with_equal [] (suc n) v (suc k) y h = with_equal [] n v k y h
with_equal (x ∷ xs) n v zero y h = inl h
with_equal (x ∷ xs) n v (suc k) y h = with_equal xs n v k y h

idle_going : (y : Thread) → y ≡ idle_thread → y.stage ≡ Going
unfolding idle_thread
idle_going y q = ap (λ (x : Thread). x.stage) q

module _ (s : System) where
  exports_as : (st new : State) (t r : ℕ) (service : ServiceId) (iface : ClassId) (n : ℕ) → ChangesOnly t (with_export st r service iface n) new → ActsAs t st new st.running n
  unfolding with_export thread_at
  exports_as st new t r service iface n h = record { running = h.running; count = omega (arith, h.count, length-append st.threads (replicate n idle_thread), length-replicate n idle_thread); others = others }
    where
      others : (k : ℕ) (y : Thread) → k ≢ t → slice_get new.threads k ≡ Some y → (slice_get st.threads k ≡ Some y) ⊎ (y.stage ≡ Going)
      others k y q e = elim (with_equal st.threads n idle_thread k y (sym (h.others k q) ∙ e)) [ inl x ↦ inl x | inr x ↦ inr (idle_going y x) ]

  ends_as : (st : State) (t : ℕ) (x : Thread) → ActsAs t st (after_end st t x) None 0
  unfolding after_end
  ends_as st t x = rests_as t st _ st.running 0 (acts_only t st st _ refl (thread_only s st t st _ (changes_none t st)))

  -- the threads after an act with its reply
  pub acts_as : (st : State) (t : ℕ) (x : Thread) (a : Act) (r : Reply) → ActsAs t st (after_act s st t x a r) (running_after a r t st.running) (length (new_threads a r))
  unfolding after_act new_threads with_running_thread with_less_fuel thread_at
  acts_as st t x (act.Take c) (reply.Job service method p) =
      acts_only t st (with_running_thread st t) _ refl (take_only s (with_running_thread st t) t (with_running_thread st t) (record x { call = Some c; stage = Going }) service method p (changes_none t (with_running_thread st t)))
  acts_as st t x (act.Resume c) r = acts_only t st (with_running_thread st t) _ refl (resume_only s (with_running_thread st t) t (with_running_thread st t) x r (changes_none t (with_running_thread st t)))
  acts_as st t x (act.Go n) r = acts_only t st (with_running_thread st t) _ refl (changes_none t (with_running_thread st t))
  acts_as st t x (act.Call service method p) (reply.Queued c) = rests_as t st (with_less_fuel st) st.running 0 (acts_only t st (with_less_fuel st) _ refl (changes_none t (with_less_fuel st)))
  acts_as st t x (act.Export iface n) (reply.Service service c) =
      let z = exports_as (with_less_fuel st) (after_reply s (with_export (with_less_fuel st) (exported_object x) service iface n) t x (reply.Service service c)) t (exported_object x) service iface n
      (reply_only s (with_export (with_less_fuel st) (exported_object x) service iface n) t (with_export (with_less_fuel st) (exported_object x) service iface n) x (reply.Service service c) (changes_none t (with_export (with_less_fuel st) (exported_object x) service iface n))) in
      record { running = z.running; count = omega (arith, z.count, length-replicate n service); others = z.others }
  acts_as st t x act.Yield r = rests_as t st _ st.running 0 (acts_only t st (with_less_fuel st) _ refl (result_only s (with_less_fuel st) t (with_less_fuel st) x None (changes_none t (with_less_fuel st))))
  acts_as st t x (act.Return c p) r = ends_as st t x
  acts_as st t x (act.Throw c p) r = ends_as st t x
  acts_as st t x (act.EndThread c) r = ends_as st t x
  acts_as st t x (act.Exit code) r = ends_as st t x
  acts_as st t x (act.End why) r = ends_as st t x
  acts_as st t x a r = acts_only t st (with_less_fuel st) _ refl (reply_only s (with_less_fuel st) t (with_less_fuel st) x r (changes_none t (with_less_fuel st)))

  -- ---- a thread that stops

  ended_going : (st : State) (t : ℕ) (x y : Thread) → thread_at st t ≡ Some x → thread_at (after_end st t x) t ≡ Some y → y.stage ≡ Going
  unfolding after_end at_rest with_thread thread_at
  ended_going st t x y h e = ap (λ (z : Thread). z.stage) (get_set st.threads t (record x { call = None; frames = []; stage = Going }) x y h e)

  -- a frame at its result is within its limit, where it was before
  result_within : (f : Frame) → IsWithin s f → IsWithin s (frame_behind s (with_result None (drop (taken_at s f) f.stack.values)) f)
  unfolding frame_behind with_values with_result stack_limit
  result_within f h = drop_within (stack_limit s f) (taken_at s f) f.stack.values h

  not_overfull : (f : Frame) (fs : List Frame) → IsWithin s f → is_overfull s (f ∷ fs) ≡ false
  unfolding is_overfull passes
  not_overfull f fs h = by (stack_limit s f) (depth_of f.stack.values) h
    where
      by : (most depth : ℕ) → depth ≤ most → nat_lt most depth ≡ false
      by most depth h = grind (arith, nat_tests)

  -- thread t of the state, where it is there, goes on
  abbrev Goes : ℕ → State → Type 0
  Goes t st = (y : Thread) → thread_at st t ≡ Some y → y.stage ≡ Going

  stays_going : (st : State) (t : ℕ) (x : Thread) → thread_at st t ≡ Some x → x.stage ≡ Going → Goes t st
  stays_going st t x h g y e = let q : Some x ≡ Some y = sym h ∙ e in let z : x ≡ y = cc in ap (λ (u : Thread). u.stage) (sym z) ∙ g

  framed_going : (st : State) (t : ℕ) (x : Thread) (f : Frame) (fs : List Frame) → thread_at st t ≡ Some x → IsWithin s f → Goes t (with_frames s st t x (f ∷ fs))
  unfolding with_frames with_thread thread_at
  framed_going st t x f fs h w y e =
      ap (λ (z : Thread). z.stage) (get_set st.threads t _ x y h e) ∙ ap (λ (b : Bool). if b then Bad else Going) (not_overfull f fs w)

  resulted_going : (st : State) (t : ℕ) (x : Thread) → AllByRecursion (IsWithin s) x.frames → x.stage ≡ Going → thread_at st t ≡ Some x → Goes t (after_result s st t x None)
  unfolding after_result with_frames
  resulted_going st t x w g h = by x.frames refl w
    where
      by : (fs : List Frame) → x.frames ≡ fs → AllByRecursion (IsWithin s) fs → Goes t (after_result s st t x None)
      by [] q i = rw q (stays_going st t x h g)
      by (f ∷ fs) q i = rw q (framed_going st t x (frame_behind s (with_result None (drop (taken_at s f) f.stack.values)) f) fs h (result_within f i.0))

  -- a thread that an act makes stop goes on
  pub stopped_going : (st : State) (t : ℕ) (x : Thread) (a : Act) (r : Reply) → stops a r ≡ true → HasStacksWithin s x → (pauses a ≡ true → x.stage ≡ Going) → thread_at st t ≡ Some x → Goes t (after_act s st t x a r)
  unfolding after_act with_less_fuel at_rest thread_at
  stopped_going st t x (act.Call service method p) (reply.Queued c) q w g h = stays_going st t x h (g refl)
  stopped_going st t x act.Yield r q w g h = resulted_going (with_less_fuel st) t x (w.going (g refl)) (g refl) h
  stopped_going st t x (act.Return c p) r q w g h = λ y e. ended_going st t x y h e
  stopped_going st t x (act.Throw c p) r q w g h = λ y e. ended_going st t x y h e
  stopped_going st t x (act.EndThread c) r q w g h = λ y e. ended_going st t x y h e
  stopped_going st t x (act.Exit code) r q w g h = λ y e. ended_going st t x y h e
  stopped_going st t x (act.End why) r q w g h = λ y e. ended_going st t x y h e
  stopped_going st t x _ r q w g h = cc

  -- ---- what a thread asks for

  ending_ends : (st : State) (x : Thread) (g : Stage) → pauses (ending_act st x g) ≡ false
  unfolding ending_act answer_act
  ending_ends st x Going = refl
  ending_ends st x (Returned v) = by x.call
    where
      answered : (c : CallId) (o : Option Parcel) → pauses (elim o as (λ _. Act) [ Some p ↦ act.Return c p | None ↦ act.Throw c empty_parcel ]) ≡ false
      answered c (Some p) = refl
      answered c None = refl

      by : (o : Option CallId) → pauses (elim o as (λ _. Act) [ None ↦ act.EndThread None | Some c ↦ answer_act st c (λ p. act.Return c p) (result_roots v) ]) ≡ false
      by None = refl
      by (Some c) = answered c (packed st.store.objects st.store.exports (result_roots v))
  ending_ends st x (Threw r) = by x.call
    where
      answered : (c : CallId) (o : Option Parcel) → pauses (elim o as (λ _. Act) [ Some p ↦ act.Throw c p | None ↦ act.Throw c empty_parcel ]) ≡ false
      answered c (Some p) = refl
      answered c None = refl

      by : (o : Option CallId) → pauses (elim o as (λ _. Act) [ None ↦ act.EndThread (option_map (λ c. record { 0 = c }) (class_of_object st.store r)) | Some c ↦ answer_act st c (λ p. act.Throw c p) (value.Ref r ∷ []) ]) ≡ false
      by None = refl
      by (Some c) = answered c (packed st.store.objects st.store.exports (value.Ref r ∷ []))
  ending_ends st x Bad = refl

  -- a thread that asks for a call or a yield goes on
  pub pausing_going : (st : State) (t : ℕ) (x : Thread) (a : Act) → thread_at st t ≡ Some x → step s st t ≡ Ask a → pauses a ≡ true → x.stage ≡ Going
  unfolding step stage_step
  pausing_going st t x a h e p = by x.stage refl (sym here ∙ e)
    where
      here : step s st t ≡ stage_step s st t x x.stage
      here = ap (λ (o : Option Thread). elim o as (λ _. StepOutcome) [ None ↦ ends_by_bad_code | Some y ↦ stage_step s st t y y.stage ]) h

      other : (g : Stage) → Ask (ending_act st x g) ≡ Ask a → x.stage ≡ Going
      other g q = let z : ending_act st x g ≡ a = cc in let w = sym (ending_ends st x g) ∙ ap pauses z ∙ p in cc

      by : (g : Stage) → x.stage ≡ g → stage_step s st t x g ≡ Ask a → x.stage ≡ Going
      by Going q w = q
      by (Returned v) q w = other (Returned v) w
      by (Threw r) q w = other (Threw r) w
      by Bad q w = other Bad w
