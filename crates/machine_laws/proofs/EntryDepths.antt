-- Each entry of a domain keeps the stacks of its threads within their limits.
use Rattle.std.proofs.Common.{◌≡◌, refl, subst, ℕ, Bool, true, false, List, [], ◌∷◌, drop, replicate, Option, Some, None, slice_get}
use Rattle.std.specs.Prelude.{if◌then◌else◌}
use Rattle.class_grammar.specs.Flags.{is_abstract}
use Rattle.jx_base.specs.declared.act.Act.{Act}
use Rattle.jx_base.specs.declared.act.Act.TheVariants as act
use Rattle.jx_base.specs.declared.act.Entry.{Entry}
use Rattle.jx_base.specs.declared.act.Reply.{Reply}
use Rattle.jx_base.specs.declared.act.Reply.TheVariants as reply
use Rattle.jx_base.specs.declared.frame.Frame.{Frame}
use Rattle.jx_base.specs.declared.ids.ClassId.{ClassId}
use Rattle.jx_base.specs.declared.ids.MethodId.{MethodId}
use Rattle.jx_base.specs.declared.ids.ServiceId.{ServiceId}
use Rattle.jx_base.specs.declared.program.Method.{Method}
use Rattle.jx_base.specs.declared.program.System.{System}
use Rattle.jx_base.specs.declared.value.Parcel.{Parcel}
use Rattle.jx_base.specs.declared.value.Value.{Value}
use Rattle.jx_base.specs.declared.value.Value.TheVariants as value
use Rattle.machine_model.specs.AfterEntry.{taken_at, after_result, after_split, exception_of, after_reply, with_nodes, root_values, after_built_in, after_selection, selected_at, after_roots, parameters_of, after_take, expected_types, after_value, thrown_root, after_thrown, after_resume, exported_object, with_export, after_end, with_running_thread, after_act, after_entry}
use Rattle.machine_model.specs.BuiltInMethods.{BuiltInOutcome, Gives, Performs, Raises, HasNoRoom, Unfit, built_in_outcome}
use Rattle.machine_model.specs.MachineThreads.{thread_at, with_store, with_less_fuel, at_rest, idle_thread, with_stage, after_throw, after_raise, after_begin}
use Rattle.machine_model.specs.ObjectRows.{all_fit, with_result}
use Rattle.machine_model.specs.State.{Store, Going, Returned, Threw, Bad, Thread, State, new_object, frame_behind}
use Rattle.program_model.specs.BuiltIn.{copy_exception, ended_exception}
use Rattle.program_model.specs.Lookup.{method_at, is_built_in}
use Rattle.machine_laws.specs.Depths.{HasStacksWithin, HaveStacksWithin}
use Rattle.machine_laws.proofs.Lists.{all_append, all_get, all_replicate}
use Rattle.machine_laws.proofs.StepDepths.{Fs, thread_within, store_within, fuel_within, frames_within, stage_within, throw_within, raise_within, begin_within}

module _ (s : System) where
  pub rest_within : (st : State) → HaveStacksWithin s st → HaveStacksWithin s (at_rest st)
  unfolding at_rest
  rest_within st h = h

  pub running_within : (st : State) (t : ℕ) → HaveStacksWithin s st → HaveStacksWithin s (with_running_thread st t)
  unfolding with_running_thread
  running_within st t h = h

  pub result_within : (st : State) (t : ℕ) (x : Thread) (v : Option Value) → HaveStacksWithin s st → Fs s (drop 1 x.frames) → HaveStacksWithin s (after_result s st t x v)
  unfolding after_result
  result_within st t x v h i = by x.frames refl
    where
      by : (fs : List Frame) → x.frames ≡ fs → HaveStacksWithin s (after_result s st t x v)
      by [] e = rw e h
      by (f ∷ fs) e = rw e (frames_within s st t _ (frame_behind s (with_result v (drop (taken_at s f) f.stack.values)) f) fs h (subst (λ (xs : List Frame). Fs s (drop 1 xs)) e i))

  pub split_within : (st : State) (t : ℕ) (x : Thread) (halves : List Value) → HaveStacksWithin s st → Fs s (drop 1 x.frames) → HaveStacksWithin s (after_split s st t x halves)
  unfolding after_split
  split_within st t x halves h i = by (new_object st.store _ halves)
    where
      by : (o : Option (Store × ℕ)) → HaveStacksWithin s (elim o as (λ _. State) [ None ↦ after_throw s st t x 0 | Some y ↦ after_result s (with_store st y.0) t x (Some (value.Ref y.1)) ])
      by None = throw_within s st t x 0 h i
      by (Some y) = result_within (with_store st y.0) t x (Some (value.Ref y.1)) (store_within s st y.0 h) i

  pub reply_within : (st : State) (t : ℕ) (x : Thread) (r : Reply) → HaveStacksWithin s st → Fs s (drop 1 x.frames) → HaveStacksWithin s (after_reply s st t x r)
  unfolding after_reply
  reply_within st t x (reply.Service service c) h i = result_within st t x (Some (value.Portal service c)) h i
  reply_within st t x reply.NoName h i = result_within st t x (Some value.Null) h i
  reply_within st t x (reply.Number n) h i = result_within st t x (Some (value.Int n)) h i
  reply_within st t x (reply.Made m g) h i = result_within st t x (Some (value.Mem m)) h i
  reply_within st t x (reply.Object m) h i = result_within st t x (Some (value.Mem m)) h i
  reply_within st t x (reply.Pair a b) h i = split_within st t x (value.Mem a ∷ value.Mem b ∷ []) h i
  reply_within st t x (reply.Domain d g) h i = result_within st t x _ h i
  reply_within st t x (reply.Refused r) h i = raise_within s st t x (exception_of r) h i
  reply_within st t x _ h i = result_within st t x None h i

  pub native_within : (st : State) (t : ℕ) (x : Thread) (o : BuiltInOutcome) → HaveStacksWithin s st → HaveStacksWithin s (after_built_in s st t x o)
  unfolding after_built_in
  native_within st t x (Gives store v) h = stage_within s (with_store st store) t x (Returned v) (store_within s st store h)
  native_within st t x (Raises c) h = raise_within s st t (record x { frames = [] }) c h tt
  native_within st t x HasNoRoom h = stage_within s st t x (Threw 0) h
  native_within st t x (Performs a) h = stage_within s st t x Bad h
  native_within st t x Unfit h = stage_within s st t x Bad h

  pub selection_within : (st : State) (t : ℕ) (x : Thread) (m : ℕ) (args : List Value) → HaveStacksWithin s st → HaveStacksWithin s (after_selection s st t x m args)
  unfolding after_selection
  selection_within st t x m args h = by (method_at s m)
    where
      here : (k : Method) (a b : Bool) → HaveStacksWithin s (if a then with_stage st t x Bad else if b then after_built_in s st t x (built_in_outcome s st.store k args) else after_begin s st t x m args)
      here k true b = stage_within s st t x Bad h
      here k false true = native_within st t x (built_in_outcome s st.store k args) h
      here k false false = begin_within s st t x m args h

      by : (o : Option Method) → HaveStacksWithin s (elim o as (λ _. State) [
        | None ↦ with_stage st t x Bad
        | Some k ↦ if is_abstract k.flags then with_stage st t x Bad else if is_built_in k.class.0 then after_built_in s st t x (built_in_outcome s st.store k args) else after_begin s st t x m args
      ])
      by None = stage_within s st t x Bad h
      by (Some k) = here k (is_abstract k.flags) (is_built_in k.class.0)

  pub roots_within : (st : State) (t : ℕ) (x : Thread) (service : ServiceId) (method : MethodId) (roots : List Value) → HaveStacksWithin s st → HaveStacksWithin s (after_roots s st t x service method roots)
  unfolding after_roots
  roots_within st t x service method roots h = by (selected_at s st.store service method)
    where
      by : (o : Option (ℕ × ℕ)) → HaveStacksWithin s (elim o as (λ _. State) [ None ↦ with_stage st t x Bad | Some y ↦ after_selection s st t x y.0 (value.Ref y.1 ∷ roots) ])
      by None = stage_within s st t x Bad h
      by (Some y) = selection_within st t x y.0 (value.Ref y.1 ∷ roots) h

  pub take_within : (st : State) (t : ℕ) (x : Thread) (service : ServiceId) (method : MethodId) (p : Parcel) → HaveStacksWithin s st → HaveStacksWithin s (after_take s st t x service method p)
  unfolding after_take
  take_within st t x service method p h = by (with_nodes st.store p)
    where
      fitted : (store : Store) (b : Bool) → HaveStacksWithin s (if b then after_roots s (with_store st store) t x service method (root_values st.store p) else after_raise s (with_store st store) t (record x { frames = [] }) copy_exception)
      fitted store true = roots_within (with_store st store) t x service method (root_values st.store p) (store_within s st store h)
      fitted store false = raise_within s (with_store st store) t (record x { frames = [] }) copy_exception (store_within s st store h) tt

      by : (o : Option Store) → HaveStacksWithin s (elim o as (λ _. State) [
        | None ↦ with_stage st t x (Threw 0)
        | Some store ↦ if all_fit s false store (root_values st.store p) (parameters_of s method) then after_roots s (with_store st store) t x service method (root_values st.store p)
            else after_raise s (with_store st store) t (record x { frames = [] }) copy_exception
      ])
      by None = stage_within s st t x (Threw 0) h
      by (Some store) = fitted store (all_fit s false store (root_values st.store p) (parameters_of s method))

  pub value_within : (st : State) (t : ℕ) (x : Thread) (p : Parcel) → HaveStacksWithin s st → Fs s (drop 1 x.frames) → HaveStacksWithin s (after_value s st t x p)
  unfolding after_value
  value_within st t x p h i = by (with_nodes st.store p)
    where
      fitted : (store : Store) (b : Bool) → HaveStacksWithin s (if b then after_result s (with_store st store) t x (slice_get (root_values st.store p) 0) else after_raise s (with_store st store) t x copy_exception)
      fitted store true = result_within (with_store st store) t x (slice_get (root_values st.store p) 0) (store_within s st store h) i
      fitted store false = raise_within s (with_store st store) t x copy_exception (store_within s st store h) i

      by : (o : Option Store) → HaveStacksWithin s (elim o as (λ _. State) [
        | None ↦ after_throw s st t x 0
        | Some store ↦ if all_fit s false store (root_values st.store p) (expected_types s x) then after_result s (with_store st store) t x (slice_get (root_values st.store p) 0) else after_raise s (with_store st store) t x copy_exception
      ])
      by None = throw_within s st t x 0 h i
      by (Some store) = fitted store (all_fit s false store (root_values st.store p) (expected_types s x))

  pub thrown_within : (st : State) (t : ℕ) (x : Thread) (p : Parcel) → HaveStacksWithin s st → Fs s (drop 1 x.frames) → HaveStacksWithin s (after_thrown s st t x p)
  unfolding after_thrown
  thrown_within st t x p h i = by (with_nodes st.store p)
    where
      found : (store : Store) (o : Option ℕ) → HaveStacksWithin s (elim o as (λ _. State) [ Some r ↦ after_throw s (with_store st store) t x r | None ↦ after_raise s (with_store st store) t x copy_exception ])
      found store (Some r) = throw_within s (with_store st store) t x r (store_within s st store h) i
      found store None = raise_within s (with_store st store) t x copy_exception (store_within s st store h) i

      by : (o : Option Store) → HaveStacksWithin s (elim o as (λ _. State) [
        | None ↦ after_throw s st t x 0
        | Some store ↦ elim (thrown_root s store (root_values st.store p)) as (λ _. State) [ Some r ↦ after_throw s (with_store st store) t x r | None ↦ after_raise s (with_store st store) t x copy_exception ]
      ])
      by None = throw_within s st t x 0 h i
      by (Some store) = found store (thrown_root s store (root_values st.store p))

  pub resume_within : (st : State) (t : ℕ) (x : Thread) (r : Reply) → HaveStacksWithin s st → Fs s (drop 1 x.frames) → HaveStacksWithin s (after_resume s st t x r)
  unfolding after_resume
  resume_within st t x (reply.Value p) h i = value_within st t x p h i
  resume_within st t x (reply.Thrown p) h i = thrown_within st t x p h i
  resume_within st t x reply.CopyFailed h i = raise_within s st t x copy_exception h i
  resume_within st t x _ h i = raise_within s st t x ended_exception h i

  pub export_within : (st : State) (r : ℕ) (service : ServiceId) (iface : ClassId) (n : ℕ) → HaveStacksWithin s st → HaveStacksWithin s (with_export st r service iface n)
  unfolding with_export idle_thread
  export_within st r service iface n h = all_append (HasStacksWithin s) st.threads (replicate n idle_thread) h (all_replicate (HasStacksWithin s) n idle_thread (record { below = tt; going = λ e. tt }))

  pub end_within : (st : State) (t : ℕ) (x : Thread) → HaveStacksWithin s st → HaveStacksWithin s (after_end st t x)
  unfolding after_end
  end_within st t x h = rest_within _ (thread_within s st t (record x { call = None; frames = []; stage = Going }) h (record { below = tt; going = λ e. tt }))

  pub act_within : (st : State) (t : ℕ) (x : Thread) (a : Act) (r : Reply) → HaveStacksWithin s st → Fs s (drop 1 x.frames) → HaveStacksWithin s (after_act s st t x a r)
  unfolding after_act
  act_within st t x (act.Take c) (reply.Job service method p) h i =
      take_within (with_running_thread st t) t (record x { call = Some c; stage = Going }) service method p (running_within st t h)
  act_within st t x (act.Resume c) r h i = resume_within (with_running_thread st t) t x r (running_within st t h) i
  act_within st t x (act.Go n) r h i = running_within st t h
  act_within st t x (act.Call service method p) (reply.Queued c) h i = rest_within (with_less_fuel st) (fuel_within s st h)
  act_within st t x (act.Export iface n) (reply.Service service c) h i =
      reply_within (with_export (with_less_fuel st) (exported_object x) service iface n) t x (reply.Service service c) (export_within (with_less_fuel st) (exported_object x) service iface n (fuel_within s st h)) i
  act_within st t x act.Yield r h i = rest_within (after_result s (with_less_fuel st) t x None) (result_within (with_less_fuel st) t x None (fuel_within s st h) i)
  act_within st t x (act.Return c p) r h i = end_within st t x h
  act_within st t x (act.Throw c p) r h i = end_within st t x h
  act_within st t x (act.EndThread c) r h i = end_within st t x h
  act_within st t x (act.Exit code) r h i = end_within st t x h
  act_within st t x (act.End why) r h i = end_within st t x h
  act_within st t x a r h i = reply_within (with_less_fuel st) t x r (fuel_within s st h) i

  -- an entry keeps them within their limits
  pub entry_within : (st : State) (e : Entry) → HaveStacksWithin s st → HaveStacksWithin s (after_entry s st e)
  unfolding after_entry thread_at
  entry_within st e h = by (slice_get st.threads e.thread.0) refl
    where
      by : (o : Option Thread) → slice_get st.threads e.thread.0 ≡ o → HaveStacksWithin s (elim o as (λ _. State) [ None ↦ st | Some x ↦ after_act s st e.thread.0 x e.act e.reply ])
      by None q = h
      by (Some x) q = act_within st e.thread.0 x e.act e.reply h (all_get (HasStacksWithin s) st.threads e.thread.0 x q h).below
