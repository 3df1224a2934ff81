-- What an entry makes of the calls that the threads of a domain serve.
use Rattle.std.proofs.Common.{◌≡◌, refl, ◌∙◌, ap, ℕ, Bool, true, false, List, [], ◌∷◌, ◌++◌, replicate, Option, Some, None, slice_get}
use Rattle.std.specs.Prelude.{if◌then◌else◌, slice_set}
use Rattle.std.proofs.lemmas.List.{map-append}
use Rattle.class_grammar.specs.Flags.{is_abstract}
use Rattle.jx_base.specs.declared.act.Act.{Act}
use Rattle.jx_base.specs.declared.act.Act.TheVariants as act
use Rattle.jx_base.specs.declared.act.Entry.{Entry}
use Rattle.jx_base.specs.declared.act.Reply.{Reply}
use Rattle.jx_base.specs.declared.act.Reply.TheVariants as reply
use Rattle.jx_base.specs.declared.frame.Frame.{Frame}
use Rattle.jx_base.specs.declared.ids.CallId.{CallId}
use Rattle.jx_base.specs.declared.ids.ClassId.{ClassId}
use Rattle.jx_base.specs.declared.ids.MethodId.{MethodId}
use Rattle.jx_base.specs.declared.ids.ServiceId.{ServiceId}
use Rattle.jx_base.specs.declared.program.Method.{Method}
use Rattle.jx_base.specs.declared.program.System.{System}
use Rattle.jx_base.specs.declared.program.Template.{Template}
use Rattle.jx_base.specs.declared.value.Parcel.{Parcel}
use Rattle.jx_base.specs.declared.value.Value.{Value}
use Rattle.jx_base.specs.declared.value.Value.TheVariants as value
use Rattle.jx_base.proofs.BasicLaws.{get_left}
use Rattle.program_model.specs.BuiltIn.{copy_exception, ended_exception}
use Rattle.program_model.specs.Lookup.{is_built_in, method_at}
use Rattle.machine_model.specs.AfterEntry.{after_act, after_built_in, after_end, after_entry, after_reply, after_result, after_resume, after_roots, after_selection, after_split, after_take, after_thrown, after_value, exception_of, expected_types, exported_object, parameters_of, root_values, selected_at, thrown_root, with_export, with_nodes, with_running_thread}
use Rattle.machine_model.specs.BuiltInMethods.{BuiltInOutcome, Gives, HasNoRoom, Performs, Raises, Unfit, built_in_outcome}
use Rattle.machine_model.specs.MachineThreads.{after_begin, after_raise, after_throw, at_rest, idle_thread, thread_at, with_frames, with_less_fuel, with_stage, with_store}
use Rattle.machine_model.specs.ObjectRows.{all_fit}
use Rattle.machine_model.specs.Start.{start_of}
use Rattle.machine_model.specs.State.{Bad, Going, Returned, State, Store, Thread, Threw, new_object}
use Rattle.machine_laws.proofs.Lists.{map_replicate}
use Rattle.std.proofs.lemmas.Option.{slice_get_within}
use Rattle.machine_laws.proofs.KeptCalls.{Puts, begin_puts, call_of, calls_of, finish_puts, frames_puts, raise_puts, stage_puts, stays, thread_puts, throw_puts}

-- the calls of a domain's threads after an act of thread t
abbrev pub calls_after : ℕ → Act → Reply → List (Option CallId) → List (Option CallId)
calls_after t (act.Take c) (reply.Job service method p) cs = slice_set cs t (Some c)
calls_after t (act.Export iface n) (reply.Service service c) cs = cs ++ replicate n None
calls_after t (act.Return c p) r cs = slice_set cs t None
calls_after t (act.Throw c p) r cs = slice_set cs t None
calls_after t (act.EndThread k) r cs = slice_set cs t None
calls_after t (act.Exit code) r cs = slice_set cs t None
calls_after t (act.End why) r cs = slice_set cs t None
calls_after t a r cs = cs

module _ (s : System) where
  -- ---- replies

  -- thread t of the state is that one
  abbrev IsAt : State → ℕ → Thread → Type 0
  IsAt st t x = slice_get st.threads t ≡ Some x

  throw_stays : (st : State) (t : ℕ) (x : Thread) (r : ℕ) → IsAt st t x → calls_of (after_throw s st t x r) ≡ calls_of st
  throw_stays st t x r h = stays st (after_throw s st t x r) t x h (throw_puts s st t x r)

  raise_stays : (st : State) (t : ℕ) (x : Thread) (c : ℕ) → IsAt st t x → calls_of (after_raise s st t x c) ≡ calls_of st
  raise_stays st t x c h = stays st (after_raise s st t x c) t x h (raise_puts s st t x c)

  frames_stay : (st : State) (t : ℕ) (x y : Thread) (fs : List Frame) → IsAt st t x → y.call ≡ x.call → calls_of (with_frames s st t y fs) ≡ calls_of st
  frames_stay st t x y fs h e = stays st (with_frames s st t y fs) t x h (frames_puts s st t y fs ∙ ap (λ c. slice_set (calls_of st) t c) e)

  result_stays : (st : State) (t : ℕ) (x : Thread) (v : Option Value) → IsAt st t x → calls_of (after_result s st t x v) ≡ calls_of st
  unfolding after_result
  result_stays st t x v h = by x.frames refl
    where
      by : (fs : List Frame) → x.frames ≡ fs → calls_of (after_result s st t x v) ≡ calls_of st
      by [] e = rw e refl
      by (f ∷ fs) e = rw e (frames_stay st t x _ _ h refl)

  split_stays : (st : State) (t : ℕ) (x : Thread) (halves : List Value) → IsAt st t x → calls_of (after_split s st t x halves) ≡ calls_of st
  unfolding after_split with_store
  split_stays st t x halves h = by (new_object st.store _ halves)
    where
      by : (o : Option (Store × ℕ)) → calls_of (elim o as (λ _. State) [ None ↦ after_throw s st t x 0 | Some y ↦ after_result s (with_store st y.0) t x (Some (value.Ref y.1)) ]) ≡ calls_of st
      by None = throw_stays st t x 0 h
      by (Some y) = result_stays (with_store st y.0) t x (Some (value.Ref y.1)) h

  reply_stays : (st : State) (t : ℕ) (x : Thread) (r : Reply) → IsAt st t x → calls_of (after_reply s st t x r) ≡ calls_of st
  unfolding after_reply
  reply_stays st t x (reply.Service service c) h = result_stays st t x (Some (value.Portal service c)) h
  reply_stays st t x reply.NoName h = result_stays st t x (Some value.Null) h
  reply_stays st t x (reply.Number n) h = result_stays st t x (Some (value.Int n)) h
  reply_stays st t x (reply.Made m g) h = result_stays st t x (Some (value.Mem m)) h
  reply_stays st t x (reply.Object m) h = result_stays st t x (Some (value.Mem m)) h
  reply_stays st t x (reply.Pair a b) h = split_stays st t x (value.Mem a ∷ value.Mem b ∷ []) h
  reply_stays st t x (reply.Domain d g) h = result_stays st t x _ h
  reply_stays st t x (reply.Refused r) h = raise_stays st t x (exception_of r) h
  reply_stays st t x _ h = result_stays st t x None h

  -- ---- a call is taken

  native_puts : (st : State) (t : ℕ) (x : Thread) (o : BuiltInOutcome) → Puts t x.call st (after_built_in s st t x o)
  unfolding after_built_in with_store
  native_puts st t x (Gives store v) = stage_puts s (with_store st store) t x (Returned v)
  native_puts st t x (Raises c) = raise_puts s st t (record x { frames = [] }) c
  native_puts st t x HasNoRoom = stage_puts s st t x (Threw 0)
  native_puts st t x (Performs a) = stage_puts s st t x Bad
  native_puts st t x Unfit = stage_puts s st t x Bad

  selection_puts : (st : State) (t : ℕ) (x : Thread) (m : ℕ) (args : List Value) → Puts t x.call st (after_selection s st t x m args)
  unfolding after_selection
  selection_puts st t x m args = by (method_at s m)
    where
      here : (k : Method) (a b : Bool) → Puts t x.call st (if a then with_stage st t x Bad else if b then after_built_in s st t x (built_in_outcome s st.store k args) else after_begin s st t x m args)
      here k true b = stage_puts s st t x Bad
      here k false true = native_puts st t x (built_in_outcome s st.store k args)
      here k false false = begin_puts s st t x m args

      by : (o : Option Method) → Puts t x.call st (elim o as (λ _. State) [
        | None ↦ with_stage st t x Bad
        | Some k ↦ if is_abstract k.flags then with_stage st t x Bad else if is_built_in k.class.0 then after_built_in s st t x (built_in_outcome s st.store k args) else after_begin s st t x m args
      ])
      by None = stage_puts s st t x Bad
      by (Some k) = here k (is_abstract k.flags) (is_built_in k.class.0)

  roots_puts : (st : State) (t : ℕ) (x : Thread) (service : ServiceId) (method : MethodId) (roots : List Value) → Puts t x.call st (after_roots s st t x service method roots)
  unfolding after_roots
  roots_puts st t x service method roots = by (selected_at s st.store service method)
    where
      by : (o : Option (ℕ × ℕ)) → Puts t x.call st (elim o as (λ _. State) [ None ↦ with_stage st t x Bad | Some y ↦ after_selection s st t x y.0 (value.Ref y.1 ∷ roots) ])
      by None = stage_puts s st t x Bad
      by (Some y) = selection_puts st t x y.0 (value.Ref y.1 ∷ roots)

  take_puts : (st : State) (t : ℕ) (x : Thread) (service : ServiceId) (method : MethodId) (p : Parcel) → Puts t x.call st (after_take s st t x service method p)
  unfolding after_take with_store
  take_puts st t x service method p = by (with_nodes st.store p)
    where
      fitted : (store : Store) (b : Bool) → Puts t x.call st (if b then after_roots s (with_store st store) t x service method (root_values st.store p) else after_raise s (with_store st store) t (record x { frames = [] }) copy_exception)
      fitted store true = roots_puts (with_store st store) t x service method (root_values st.store p)
      fitted store false = raise_puts s (with_store st store) t (record x { frames = [] }) copy_exception

      by : (o : Option Store) → Puts t x.call st (elim o as (λ _. State) [
        | None ↦ with_stage st t x (Threw 0)
        | Some store ↦ if all_fit s false store (root_values st.store p) (parameters_of s method) then after_roots s (with_store st store) t x service method (root_values st.store p)
            else after_raise s (with_store st store) t (record x { frames = [] }) copy_exception
      ])
      by None = stage_puts s st t x (Threw 0)
      by (Some store) = fitted store (all_fit s false store (root_values st.store p) (parameters_of s method))

  -- ---- an answer is resumed

  value_stays : (st : State) (t : ℕ) (x : Thread) (p : Parcel) → IsAt st t x → calls_of (after_value s st t x p) ≡ calls_of st
  unfolding after_value with_store
  value_stays st t x p h = by (with_nodes st.store p)
    where
      fitted : (store : Store) (b : Bool) → calls_of (if b then after_result s (with_store st store) t x (slice_get (root_values st.store p) 0) else after_raise s (with_store st store) t x copy_exception) ≡ calls_of st
      fitted store true = result_stays (with_store st store) t x (slice_get (root_values st.store p) 0) h
      fitted store false = raise_stays (with_store st store) t x copy_exception h

      by : (o : Option Store) → calls_of (elim o as (λ _. State) [
        | None ↦ after_throw s st t x 0
        | Some store ↦ if all_fit s false store (root_values st.store p) (expected_types s x) then after_result s (with_store st store) t x (slice_get (root_values st.store p) 0) else after_raise s (with_store st store) t x copy_exception
      ]) ≡ calls_of st
      by None = throw_stays st t x 0 h
      by (Some store) = fitted store (all_fit s false store (root_values st.store p) (expected_types s x))

  thrown_stays : (st : State) (t : ℕ) (x : Thread) (p : Parcel) → IsAt st t x → calls_of (after_thrown s st t x p) ≡ calls_of st
  unfolding after_thrown with_store
  thrown_stays st t x p h = by (with_nodes st.store p)
    where
      found : (store : Store) (o : Option ℕ) → calls_of (elim o as (λ _. State) [ Some r ↦ after_throw s (with_store st store) t x r | None ↦ after_raise s (with_store st store) t x copy_exception ]) ≡ calls_of st
      found store (Some r) = throw_stays (with_store st store) t x r h
      found store None = raise_stays (with_store st store) t x copy_exception h

      by : (o : Option Store) → calls_of (elim o as (λ _. State) [
        | None ↦ after_throw s st t x 0
        | Some store ↦ elim (thrown_root s store (root_values st.store p)) as (λ _. State) [ Some r ↦ after_throw s (with_store st store) t x r | None ↦ after_raise s (with_store st store) t x copy_exception ]
      ]) ≡ calls_of st
      by None = throw_stays st t x 0 h
      by (Some store) = found store (thrown_root s store (root_values st.store p))

  resume_stays : (st : State) (t : ℕ) (x : Thread) (r : Reply) → IsAt st t x → calls_of (after_resume s st t x r) ≡ calls_of st
  unfolding after_resume
  resume_stays st t x (reply.Value p) h = value_stays st t x p h
  resume_stays st t x (reply.Thrown p) h = thrown_stays st t x p h
  resume_stays st t x reply.CopyFailed h = raise_stays st t x copy_exception h
  resume_stays st t x _ h = raise_stays st t x ended_exception h

  -- ---- acts and entries

  end_puts : (st : State) (t : ℕ) (x : Thread) → Puts t None st (after_end st t x)
  unfolding after_end at_rest
  end_puts st t x = thread_puts s st t (record x { call = None; frames = []; stage = Going })

  -- an export adds threads that serve none
  export_calls : (st : State) (r : ℕ) (service : ServiceId) (iface : ClassId) (n : ℕ) → calls_of (with_export st r service iface n) ≡ calls_of st ++ replicate n None
  unfolding with_export idle_thread
  export_calls st r service iface n = map-append call_of st.threads (replicate n idle_thread) ∙ ap (λ cs. calls_of st ++ cs) (map_replicate call_of n idle_thread)

  -- the thread is there behind them too
  export_at : (st : State) (r : ℕ) (service : ServiceId) (iface : ClassId) (n t : ℕ) (x : Thread) → IsAt st t x → IsAt (with_export st r service iface n) t x
  unfolding with_export
  export_at st r service iface n t x h = get_left st.threads (replicate n idle_thread) t (slice_get_within st.threads t x h) ∙ h

  -- what an act of thread t makes of the calls
  pub act_calls : (st : State) (t : ℕ) (x : Thread) (a : Act) (r : Reply) → IsAt st t x → calls_of (after_act s st t x a r) ≡ calls_after t a r (calls_of st)
  unfolding after_act with_less_fuel with_running_thread at_rest
  act_calls st t x (act.Take c) (reply.Job service method p) h = take_puts (with_running_thread st t) t (record x { call = Some c; stage = Going }) service method p
  act_calls st t x (act.Resume c) r h = resume_stays (with_running_thread st t) t x r h
  act_calls st t x (act.Go n) r h = refl
  act_calls st t x (act.Call service method p) (reply.Queued c) h = refl
  act_calls st t x (act.Export iface n) (reply.Service service c) h =
      reply_stays (with_export (with_less_fuel st) (exported_object x) service iface n) t x (reply.Service service c) (export_at (with_less_fuel st) (exported_object x) service iface n t x h)
      ∙ export_calls (with_less_fuel st) (exported_object x) service iface n
  act_calls st t x act.Yield r h = result_stays (with_less_fuel st) t x None h
  act_calls st t x (act.Return c p) r h = end_puts st t x
  act_calls st t x (act.Throw c p) r h = end_puts st t x
  act_calls st t x (act.EndThread k) r h = end_puts st t x
  act_calls st t x (act.Exit code) r h = end_puts st t x
  act_calls st t x (act.End why) r h = end_puts st t x
  act_calls st t x a r h = reply_stays (with_less_fuel st) t x r h

  -- what an entry makes of them
  pub entry_calls : (st : State) (e : Entry) (x : Thread) → thread_at st e.thread.0 ≡ Some x → calls_of (after_entry s st e) ≡ calls_after e.thread.0 e.act e.reply (calls_of st)
  unfolding after_entry thread_at
  entry_calls st e x h =
      ap (λ (o : Option Thread). calls_of (elim o as (λ _. State) [ None ↦ st | Some y ↦ after_act s st e.thread.0 y e.act e.reply ])) h
      ∙ act_calls st e.thread.0 x e.act e.reply h

  -- at the start there is one thread, which serves none
  pub start_calls : (t : Template) → calls_of (start_of s t) ≡ None ∷ []
  unfolding start_of idle_thread
  start_calls t = finish_puts s _ 0 _ None
