-- Each entry of a domain keeps its state one of values.
use Rattle.std.proofs.Common.{◌≡◌, refl, sym, ◌∙◌, ap, subst, ℕ, ◌<◌, pos, Bool, true, false, ◌&&◌, ◌||◌, List, [], ◌∷◌, ◌++◌, drop, replicate, Option, Some, None, is_some, arith, ◌==◌, inr, slice_get}
use Rattle.std.specs.Prelude.{if◌then◌else◌, codes, nat_lt, find}
use Rattle.std.specs.List.{AllByRecursion}
use Rattle.std.proofs.lemmas.Bool.Decides.{nat_tests}
use Rattle.class_grammar.specs.Flags.{is_abstract}
use Rattle.jx_base.specs.declared.act.Act.{Act}
use Rattle.jx_base.specs.declared.act.Act.TheVariants as act
use Rattle.jx_base.specs.declared.act.Reply.{Reply}
use Rattle.jx_base.specs.declared.act.Reply.TheVariants as reply
use Rattle.jx_base.specs.declared.act.Refusal.{Refusal}
use Rattle.jx_base.specs.declared.act.Refusal.TheVariants as refusal
use Rattle.jx_base.specs.declared.act.Entry.{Entry}
use Rattle.jx_base.specs.declared.frame.Frame.{Frame}
use Rattle.jx_base.specs.declared.ids.ClassId.{ClassId}
use Rattle.jx_base.specs.declared.ids.MethodId.{MethodId}
use Rattle.jx_base.specs.declared.ids.ServiceId.{ServiceId}
use Rattle.jx_base.specs.declared.program.Method.{Method}
use Rattle.jx_base.specs.declared.program.Selector.{Selector}
use Rattle.jx_base.specs.declared.program.System.{System}
use Rattle.jx_base.specs.declared.value.Parcel.{Parcel}
use Rattle.jx_base.specs.declared.value.Value.{Value}
use Rattle.jx_base.specs.declared.value.Value.TheVariants as value
use Rattle.program_model.specs.Types.{signature_of, parameter_types}
use Rattle.program_model.specs.BuiltIn.{built_in_count, built_in_table, throwable_class, copy_exception, ended_exception, opened_built_in}
use Rattle.machine_model.specs.BuiltInMethods.{BuiltInOutcome, Gives, Performs, Raises, HasNoRoom, Unfit, built_in_outcome, unit_of}
use Rattle.jx_base.specs.Histories.{Past}
use Rattle.program_model.specs.Lookup.{class_named, method_at, selector_at, selected_method, is_built_in, is_below, shape_fits, object_fits, Shape, IntShape, LongShape, NullShape, ObjectShape, PortalShape, Unknown}
use Rattle.machine_model.specs.ObjectRows.{all_fit, fits_class, with_result}
use Rattle.machine_model.specs.State.{Store, Going, Returned, Threw, Bad, Thread, State, class_of_object, shape_of, new_object, frame_behind, with_values}
use Rattle.machine_model.specs.MachineThreads.{thread_at, with_thread, with_store, with_less_fuel, with_stage, at_rest, idle_thread, after_throw, after_raise, after_begin}
use Rattle.machine_model.specs.AfterEntry.{taken_at, after_result, after_split, exception_of, after_reply, with_nodes, root_values, service_object, after_built_in, after_selection, selected_at, after_roots, parameters_of, after_take, expected_types, after_value, thrown_root, after_thrown, after_resume, object_of_value, exported_object, with_export, after_end, with_running_thread, after_act, after_entry}
use Rattle.jx_model.specs.WellMade.{IsClass, IsPortalIn}
use Rattle.program_model.specs.Ranges.{IsId}
use Rattle.jx_base.specs.declared.ids.ObjectId.{ObjectId}
use Rattle.machine_laws.specs.Handed.{IsHanded, IsReplyIn, IsExportedIn}
use Rattle.machine_laws.specs.Values.{IsValueIn, IsValueInSome, IsObject, IsStoreIn, IsExportIn, IsFrameIn, IsThreadIn, IsStateIn}
use Rattle.machine_model.specs.Conditions.{local_count}
use Rattle.machine_model.specs.State.{stack_limit}
use Rattle.machine_laws.specs.Sound.{IsSound}
use Rattle.machine_laws.proofs.Lists.{all_append, all_drop, all_get, all_found, all_replicate}
use Rattle.machine_laws.proofs.NumericValues.{then_some, mapped_some, built_in_class}
use Rattle.machine_laws.proofs.Natives.{IsNativeIn, named_class}
use Rattle.machine_laws.proofs.ObjectValues.{any_native, NativeFits, selected_is, IsArrayClass, array_class_of}
use Rattle.machine_laws.proofs.StateValues.{bare, set_thread, set_store, less_fuel, later_frames, set_frames, set_stage, throw_in, raise_in, begin_in, Fs}
use Rattle.machine_laws.proofs.Stores.{IsLater, AreCellsOf, new_object_in, with_same_objects, grows_to, threads_grow}
use Rattle.machine_laws.proofs.Unpacking.{IsUnpacked, unpacked_in}
use Rattle.std.specs.Option.{option_and_then, option_map, unwrap_or}

pub loosely : (b c : Bool) → (b || false) ≡ true → (b || c) ≡ true
loosely true c h = refl
loosely false c h = cc

-- what fits a type fits it loosely
pub loosen : (s : System) (v : Shape) (t : List ℕ) → shape_fits s false v t ≡ true → shape_fits s true v t ≡ true
unfolding shape_fits
loosen s (IntShape n) t h = h
loosen s LongShape t h = h
loosen s NullShape t h = h
loosen s Unknown t h = h
loosen s (ObjectShape c) t h = loosely (object_fits s (ObjectShape c) t) _ h
loosen s (PortalShape c) t h = loosely (object_fits s (PortalShape c) t) _ h

pub all_loosen : (s : System) (store : Store) (vs : List Value) (ts : List (List ℕ)) → all_fit s false store vs ts ≡ true → all_fit s true store vs ts ≡ true
unfolding all_fit
all_loosen s store [] [] h = refl
all_loosen s store [] (t ∷ ts) h = h
all_loosen s store (v ∷ vs) [] h = h
all_loosen s store (v ∷ vs) (t ∷ ts) h = by (shape_fits s false (shape_of store v) t) refl h (loosen s (shape_of store v) t) (all_loosen s store vs ts)
  where
    by : (b : Bool) → shape_fits s false (shape_of store v) t ≡ b → (b && all_fit s false store vs ts) ≡ true → (shape_fits s false (shape_of store v) t ≡ true → shape_fits s true (shape_of store v) t ≡ true) →
        (all_fit s false store vs ts ≡ true → all_fit s true store vs ts ≡ true) → (shape_fits s true (shape_of store v) t && all_fit s true store vs ts) ≡ true
    by true e h f g = rw (f e) (g h)
    by false e h f g = cc

module _ (s : System) (past : Past) (z : IsSound s) where
  pub exception : (c : ℕ) → c < built_in_count → is_some (slice_get built_in_table c) ≡ true → IsClass s c
  exception c l e = built_in_class s c z l e

  pub copy_class : IsClass s copy_exception
  unfolding opened_built_in
  copy_class = exception 21 (omega arith) refl

  pub ended_class : IsClass s ended_exception
  unfolding opened_built_in
  ended_class = exception 22 (omega arith) refl

  pub refusal_class : (r : Refusal) → IsClass s (exception_of r)
  unfolding exception_of opened_built_in
  refusal_class refusal.NotHeld = exception 24 (omega arith) refl
  refusal_class refusal.Revoked = exception 23 (omega arith) refl
  refusal_class refusal.Range = exception 25 (omega arith) refl
  refusal_class refusal.Unfit = exception 21 (omega arith) refl
  refusal_class refusal.Gone = exception 22 (omega arith) refl
  refusal_class _ = exception 26 (omega arith) refl

  pub with_result_in : (store : Store) (v : Option Value) (stack : List Value) → IsValueInSome past store v → AllByRecursion (IsValueIn past store) stack → AllByRecursion (IsValueIn past store) (with_result v stack)
  unfolding with_result
  with_result_in store None stack i k = k
  with_result_in store (Some v) stack i k = (i, k)

  -- ---- results

  pub result_in : (st : State) (t : ℕ) (x : Thread) (v : Option Value) → IsStateIn s past st → Fs s past z st.store x.frames → IsValueInSome past st.store v → IsStateIn s past (after_result s st t x v)
  unfolding after_result frame_behind with_values local_count stack_limit
  result_in st t x v h i k = by x.frames refl
    where
      by : (fs : List Frame) → x.frames ≡ fs → IsStateIn s past (after_result s st t x v)
      by [] e = rw e h
      by (f ∷ fs) e =
          let j : Fs s past z st.store (f ∷ fs) = subst (Fs s past z st.store) e i in
          rw e (set_frames s past z st t _ _ h (record { method = j.0.method; count = j.0.count; room = j.0.room; place = z.goes_on f (frame_behind s (with_result v (drop (taken_at s f) f.stack.values)) f) j.0.place refl refl; locals = j.0.locals; stack = with_result_in st.store v (drop (taken_at s f) f.stack.values) k (all_drop (IsValueIn past st.store) (taken_at s f) f.stack.values j.0.stack) }, j.1))

  -- a class by its name, or java/lang/Object
  pub class_or_object : (name : List ℕ) → IsClass s (unwrap_or (class_named s name) 0)
  unfolding opened_built_in
  class_or_object name = by (class_named s name) refl
    where
      by : (o : Option ℕ) → class_named s name ≡ o → IsClass s (unwrap_or o 0)
      by None e = exception 0 (omega arith) refl
      by (Some c) e = named_class s name c e

  pub memory_array : IsArrayClass s (unwrap_or (class_named s (codes "[Ljx/Memory;")) 0)
  memory_array = by (class_named s (codes "[Ljx/Memory;")) refl z.memories
    where
      by : (o : Option ℕ) → class_named s (codes "[Ljx/Memory;") ≡ o → is_some o ≡ true → IsArrayClass s (unwrap_or o 0)
      by None e q = cc
      by (Some c) e q = array_class_of s (codes "Ljx/Memory;") c z e

  pub split_in : (st : State) (t : ℕ) (x : Thread) (halves : List Value) → IsStateIn s past st → Fs s past z st.store x.frames → ((c : ℕ) → IsArrayClass s c → AreCellsOf s past st.store c halves) → IsStateIn s past (after_split s st t x halves)
  unfolding after_split with_store
  split_in st t x halves h i k = by (new_object st.store (unwrap_or (class_named s (codes "[Ljx/Memory;")) 0) halves) refl
    where
      c : ℕ
      c = unwrap_or (class_named s (codes "[Ljx/Memory;")) 0

      by : (o : Option (Store × ℕ)) → new_object st.store c halves ≡ o →
          IsStateIn s past (elim o as (λ _. State) [ None ↦ after_throw s st t x 0 | Some y ↦ after_result s (with_store st y.0) t x (Some (value.Ref y.1)) ])
      by None e = throw_in s past z st t x 0 h i h.store.first
      by (Some y) e =
          let m = new_object_in s past st.store c halves y h.store (class_or_object (codes "[Ljx/Memory;")) (k c memory_array) e in
          let l : IsLater s past st.store y.0 = record { grown = m.grown; store = m.store } in
          result_in (with_store st y.0) t x (Some (value.Ref y.1)) (set_store s past z st y.0 h l) (later_frames s past z st.store y.0 l x.frames i) (ap is_some m.object)

  -- two memory objects may stand in any object
  pub memory_cells : (store : Store) (a b : ObjectId) (c : ℕ) → IsId a.0 → IsId b.0 → IsArrayClass s c → AreCellsOf s past store c (value.Mem a ∷ value.Mem b ∷ [])
  unfolding unit_of
  memory_cells store a b c i j n = record { count = n.any 2; values = (i, (j, tt)); units = λ e. absurd (n.other e); text = λ e. (tt, (tt, tt)) }

  pub reply_in : (st : State) (t : ℕ) (x : Thread) (r : Reply) → IsStateIn s past st → Fs s past z st.store x.frames → IsReplyIn s past r → IsStateIn s past (after_reply s st t x r)
  unfolding after_reply
  reply_in st t x (reply.Service service c) h i k = result_in st t x (Some (value.Portal service c)) h i k
  reply_in st t x reply.NoName h i k = result_in st t x (Some value.Null) h i tt
  reply_in st t x (reply.Number n) h i k = result_in st t x (Some (value.Int n)) h i k
  reply_in st t x (reply.Made m g) h i k = result_in st t x (Some (value.Mem m)) h i k
  reply_in st t x (reply.Object m) h i k = result_in st t x (Some (value.Mem m)) h i k
  reply_in st t x (reply.Pair a b) h i k = split_in st t x (value.Mem a ∷ value.Mem b ∷ []) h i (λ c n. memory_cells st.store a b c k.0 k.1 n)
  reply_in st t x (reply.Domain d g) h i k = result_in st t x (Some (value.Int (pos d.0))) h i k
  reply_in st t x (reply.Refused r) h i k = raise_in s past z st t x (exception_of r) h i (refusal_class r)
  reply_in st t x _ h i k = result_in st t x None h i tt

  -- ---- a call is taken

  pub native_in : (st : State) (t : ℕ) (x : Thread) (o : BuiltInOutcome) → IsStateIn s past st → IsNativeIn s past st.store o → IsStateIn s past (after_built_in s st t x o)
  unfolding after_built_in with_store
  native_in st t x (Gives store v) h k = set_stage s past z (with_store st store) t x (Returned v) (set_store s past z st store h k.0) k.1
  native_in st t x (Raises c) h k = raise_in s past z st t (record x { frames = [] }) c h tt k
  native_in st t x HasNoRoom h k = set_stage s past z st t x (Threw 0) h h.store.first
  native_in st t x (Performs a) h k = set_stage s past z st t x Bad h tt
  native_in st t x Unfit h k = set_stage s past z st t x Bad h tt

  -- the object of a service
  pub service_in : (store : Store) (k : ServiceId) (r : ℕ) → IsStoreIn s past store → service_object store k ≡ Some r → IsObject store r
  unfolding service_object
  service_in store k r h e =
      let x = mapped_some (λ x. x.object) (find (λ x. x.service.0 == k.0) store.exports) r e in
      subst (IsObject store) x.2 (all_found (IsExportIn past store) (λ x. x.service.0 == k.0) store.exports x.0 x.1 h.exports).object

  -- the object, its class and the method that is selected
  pub record IsSelected (store : Store) (selector m r : ℕ) : Type 0 where
    pub object : IsObject store r
    pub class : ℕ
    pub of : class_of_object store r ≡ Some class
    pub method : selected_method s class selector ≡ Some m

  pub selected_in : (store : Store) (k : ServiceId) (method : MethodId) (y : ℕ × ℕ) → IsStoreIn s past store → selected_at s store k method ≡ Some y → IsSelected store method.0 y.0 y.1
  unfolding selected_at
  selected_in store k method y h e =
      let a = then_some (service_object store k) (λ r. option_and_then (λ c. option_map (λ m. (m, r)) (selected_method s c method.0)) (class_of_object store r)) y e in
      let b = then_some (class_of_object store a.0) (λ c. option_map (λ m. (m, a.0)) (selected_method s c method.0)) y a.2 in
      let d = mapped_some (λ m. (m, a.0)) (selected_method s b.0 method.0) y b.2 in
      subst (λ (y : ℕ × ℕ). IsSelected store method.0 y.0 y.1) d.2 (record { object = service_in store k a.0 h a.1; class = b.0; of = b.1; method = d.1 })

  -- the roots fit the parameters of the selector
  pub native_fits : (store : Store) (h : IsStoreIn s past store) (method : MethodId) (m r : ℕ) (roots : List Value) (k : Method) → IsSelected store method.0 m r → method_at s m ≡ Some k → all_fit s false store roots (parameters_of s method) ≡ true →
      NativeFits s past (bare s past z store) z tt h k (value.Ref r ∷ roots)
  unfolding parameters_of parameter_types
  native_fits store h method m r roots k w e f l i y q =
      let t = selected_is s w.class method.0 m k w.method e in
      let u : selector_at s method.0 ≡ Some y = ap (selector_at s) (sym t.1) ∙ q in
      inr (record {
        object = value.Ref r;
        others = roots;
        is = refl;
        fit = all_loosen s store roots (parameter_types y.descriptor) (subst (λ (o : Option Selector). all_fit s false store roots (elim o as (λ _. List (List ℕ)) [ None ↦ [] | Some y ↦ (signature_of y.descriptor).parameters ]) ≡ true) u f);
        below = λ n a is of.
            let v : r ≡ n = cc in
            let b : Some w.class ≡ Some a = sym w.of ∙ ap (class_of_object store) v ∙ of in
            let d : w.class ≡ a = cc in
            subst (λ (c : ℕ). is_below s c k.class.0 ≡ true) d t.0;
      })

  pub selection_in : (st : State) (t : ℕ) (x : Thread) (m : ℕ) (args : List Value) → (h : IsStateIn s past st) → AllByRecursion (IsValueIn past st.store) args →
      ((k : Method) → method_at s m ≡ Some k → NativeFits s past (bare s past z st.store) z tt h.store k args) → IsStateIn s past (after_selection s st t x m args)
  unfolding after_selection is_built_in
  selection_in st t x m args h i f = by (method_at s m) refl
    where
      here : (k : Method) → method_at s m ≡ Some k → (a b : Bool) → nat_lt k.class.0 built_in_count ≡ b →
          IsStateIn s past (if a then with_stage st t x Bad else if b then after_built_in s st t x (built_in_outcome s st.store k args) else after_begin s st t x m args)
      here k e true b q = set_stage s past z st t x Bad h tt
      here k e false true q = native_in st t x (built_in_outcome s st.store k args) h (any_native s past (bare s past z st.store) z tt h.store k args i (grind (arith, nat_tests, q)) (f k e))
      here k e false false q = begin_in s past z st t x m args h i

      by : (o : Option Method) → method_at s m ≡ o → IsStateIn s past (elim o as (λ _. State) [
        | None ↦ with_stage st t x Bad
        | Some k ↦ if is_abstract k.flags then with_stage st t x Bad else if nat_lt k.class.0 built_in_count then after_built_in s st t x (built_in_outcome s st.store k args) else after_begin s st t x m args
      ])
      by None e = set_stage s past z st t x Bad h tt
      by (Some k) e = here k e (is_abstract k.flags) (nat_lt k.class.0 built_in_count) refl

  pub roots_in : (st : State) (t : ℕ) (x : Thread) (service : ServiceId) (method : MethodId) (roots : List Value) → IsStateIn s past st → AllByRecursion (IsValueIn past st.store) roots → all_fit s false st.store roots (parameters_of s method) ≡ true →
      IsStateIn s past (after_roots s st t x service method roots)
  unfolding after_roots
  roots_in st t x service method roots h i f = by (selected_at s st.store service method) refl
    where
      by : (o : Option (ℕ × ℕ)) → selected_at s st.store service method ≡ o → IsStateIn s past (elim o as (λ _. State) [ None ↦ with_stage st t x Bad | Some y ↦ after_selection s st t x y.0 (value.Ref y.1 ∷ roots) ])
      by None e = set_stage s past z st t x Bad h tt
      by (Some y) e =
          let w = selected_in st.store service method y h.store e in
          selection_in st t x y.0 (value.Ref y.1 ∷ roots) h (w.object, i) (λ k q. native_fits st.store h.store method y.0 y.1 roots k w q f)

  pub take_in : (st : State) (t : ℕ) (x : Thread) (service : ServiceId) (method : MethodId) (p : Parcel) → IsStateIn s past st → IsHanded s past p → IsStateIn s past (after_take s st t x service method p)
  unfolding after_take with_store
  take_in st t x service method p h i = by (with_nodes st.store p) refl
    where
      fitted : (store : Store) → IsUnpacked s past st.store p h.store i store → (b : Bool) → all_fit s false store (root_values st.store p) (parameters_of s method) ≡ b →
          IsStateIn s past (if b then after_roots s (with_store st store) t x service method (root_values st.store p) else after_raise s (with_store st store) t (record x { frames = [] }) copy_exception)
      fitted store u true e = roots_in (with_store st store) t x service method (root_values st.store p) (set_store s past z st store h u.later) u.roots e
      fitted store u false e = raise_in s past z (with_store st store) t (record x { frames = [] }) copy_exception (set_store s past z st store h u.later) tt copy_class

      by : (o : Option Store) → with_nodes st.store p ≡ o → IsStateIn s past (elim o as (λ _. State) [
        | None ↦ with_stage st t x (Threw 0)
        | Some store ↦ if all_fit s false store (root_values st.store p) (parameters_of s method) then after_roots s (with_store st store) t x service method (root_values st.store p)
            else after_raise s (with_store st store) t (record x { frames = [] }) copy_exception
      ])
      by None e = set_stage s past z st t x (Threw 0) h h.store.first
      by (Some store) e = fitted store (unpacked_in s past st.store p h.store i store e) (all_fit s false store (root_values st.store p) (parameters_of s method)) refl

  -- ---- an answer is resumed

  pub first_value : (store : Store) (vs : List Value) → AllByRecursion (IsValueIn past store) vs → IsValueInSome past store (slice_get vs 0)
  first_value store [] i = tt
  first_value store (v ∷ vs) i = i.0

  pub value_in : (st : State) (t : ℕ) (x : Thread) (p : Parcel) → IsStateIn s past st → Fs s past z st.store x.frames → IsHanded s past p → IsStateIn s past (after_value s st t x p)
  unfolding after_value with_store
  value_in st t x p h j i = by (with_nodes st.store p) refl
    where
      fitted : (store : Store) → IsUnpacked s past st.store p h.store i store → (b : Bool) →
          IsStateIn s past (if b then after_result s (with_store st store) t x (slice_get (root_values st.store p) 0) else after_raise s (with_store st store) t x copy_exception)
      fitted store u true = result_in (with_store st store) t x (slice_get (root_values st.store p) 0) (set_store s past z st store h u.later) (later_frames s past z st.store store u.later x.frames j) (first_value store (root_values st.store p) u.roots)
      fitted store u false = raise_in s past z (with_store st store) t x copy_exception (set_store s past z st store h u.later) (later_frames s past z st.store store u.later x.frames j) copy_class

      by : (o : Option Store) → with_nodes st.store p ≡ o → IsStateIn s past (elim o as (λ _. State) [
        | None ↦ after_throw s st t x 0
        | Some store ↦ if all_fit s false store (root_values st.store p) (expected_types s x) then after_result s (with_store st store) t x (slice_get (root_values st.store p) 0) else after_raise s (with_store st store) t x copy_exception
      ])
      by None e = throw_in s past z st t x 0 h j h.store.first
      by (Some store) e = fitted store (unpacked_in s past st.store p h.store i store e) (all_fit s false store (root_values st.store p) (expected_types s x))

  pub thrown_object : (store : Store) (vs : List Value) (r : ℕ) → AllByRecursion (IsValueIn past store) vs → thrown_root s store vs ≡ Some r → IsObject store r
  unfolding thrown_root
  thrown_object store (value.Ref n ∷ []) r i e = by (fits_class s store (value.Ref n) throwable_class) e
    where
      by : (b : Bool) → (if b then Some n else None) ≡ Some r → IsObject store r
      by true e = let q : n ≡ r = cc in subst (IsObject store) q i.0
      by false e = cc
  thrown_object store _ r i e = cc

  pub thrown_in : (st : State) (t : ℕ) (x : Thread) (p : Parcel) → IsStateIn s past st → Fs s past z st.store x.frames → IsHanded s past p → IsStateIn s past (after_thrown s st t x p)
  unfolding after_thrown with_store
  thrown_in st t x p h j i = by (with_nodes st.store p) refl
    where
      found : (store : Store) → IsUnpacked s past st.store p h.store i store → (o : Option ℕ) → thrown_root s store (root_values st.store p) ≡ o →
          IsStateIn s past (elim o as (λ _. State) [ Some r ↦ after_throw s (with_store st store) t x r | None ↦ after_raise s (with_store st store) t x copy_exception ])
      found store u (Some r) e = throw_in s past z (with_store st store) t x r (set_store s past z st store h u.later) (later_frames s past z st.store store u.later x.frames j) (thrown_object store (root_values st.store p) r u.roots e)
      found store u None e = raise_in s past z (with_store st store) t x copy_exception (set_store s past z st store h u.later) (later_frames s past z st.store store u.later x.frames j) copy_class

      by : (o : Option Store) → with_nodes st.store p ≡ o → IsStateIn s past (elim o as (λ _. State) [
        | None ↦ after_throw s st t x 0
        | Some store ↦ elim (thrown_root s store (root_values st.store p)) as (λ _. State) [ Some r ↦ after_throw s (with_store st store) t x r | None ↦ after_raise s (with_store st store) t x copy_exception ]
      ])
      by None e = throw_in s past z st t x 0 h j h.store.first
      by (Some store) e = found store (unpacked_in s past st.store p h.store i store e) (thrown_root s store (root_values st.store p)) refl

  pub resume_in : (st : State) (t : ℕ) (x : Thread) (r : Reply) → IsStateIn s past st → Fs s past z st.store x.frames → IsReplyIn s past r → IsStateIn s past (after_resume s st t x r)
  unfolding after_resume
  resume_in st t x (reply.Value p) h j i = value_in st t x p h j i
  resume_in st t x (reply.Thrown p) h j i = thrown_in st t x p h j i
  resume_in st t x reply.CopyFailed h j i = raise_in s past z st t x copy_exception h j copy_class
  resume_in st t x _ h j i = raise_in s past z st t x ended_exception h j ended_class

  -- ---- an export

  pub value_object : (store : Store) (v : Value) → IsStoreIn s past store → IsValueIn past store v → IsObject store (object_of_value v)
  unfolding object_of_value
  value_object store (value.Ref r) h i = i
  value_object store _ h i = h.first

  pub exported_in : (store : Store) (x : Thread) → IsStoreIn s past store → Fs s past z store x.frames → IsObject store (exported_object x)
  unfolding exported_object
  exported_in store x h i = by (option_and_then (λ f. option_map object_of_value (slice_get f.stack.values 2)) (slice_get x.frames 0)) refl
    where
      by : (o : Option ℕ) → option_and_then (λ f. option_map object_of_value (slice_get f.stack.values 2)) (slice_get x.frames 0) ≡ o → IsObject store (unwrap_or o 0)
      by None e = h.first
      by (Some r) e =
          let f = then_some (slice_get x.frames 0) (λ f. option_map object_of_value (slice_get f.stack.values 2)) r e in
          let v = mapped_some object_of_value (slice_get f.0.stack.values 2) r f.2 in
          subst (IsObject store) v.2 (value_object store v.0 h (all_get (IsValueIn past store) f.0.stack.values 2 v.0 v.1 (all_get (IsFrameIn s past store) x.frames 0 f.0 f.1 i).stack))

  -- the store with an export more
  abbrev store_of : Store → ℕ → ServiceId → ClassId → Store
  store_of store r service iface = record store { exports = store.exports ++ record { object = r; service = service; iface = iface } ∷ [] }

  pub export_later : (store : Store) (r : ℕ) (service : ServiceId) (iface : ClassId) → IsStoreIn s past store → IsObject store r → IsPortalIn past service.0 iface → IsLater s past store (store_of store r service iface)
  export_later store r service iface h o e =
      with_same_objects s past store (store_of store r service iface) refl h h.room refl h.statics h.literals (all_append (IsExportIn past store) store.exports (record { object = r; service = service; iface = iface } ∷ []) h.exports (record { object = o; known = e }, tt))

  pub export_in : (st : State) (r : ℕ) (service : ServiceId) (iface : ClassId) (n : ℕ) → IsStateIn s past st → IsObject st.store r → IsPortalIn past service.0 iface → IsStateIn s past (with_export st r service iface n)
  unfolding with_export idle_thread
  export_in st r service iface n h o e =
      let l = export_later st.store r service iface h.store o e in
      let new : Store = store_of st.store r service iface in
      record {
        store = l.store;
        threads = all_append (IsThreadIn s past new) st.threads (replicate n idle_thread)
            (threads_grow s past st.store past new (grows_to past st.store new l.grown) st.threads h.threads)
            (all_replicate (IsThreadIn s past new) n idle_thread (record { frames = tt; stage = tt }));
      }

  pub export_reply_in : (st : State) (t : ℕ) (x : Thread) (iface : ClassId) (n : ℕ) (service : ServiceId) (c : ClassId) → IsStateIn s past st → Fs s past z st.store x.frames → IsPortalIn past service.0 c → IsPortalIn past service.0 iface →
      IsStateIn s past (after_reply s (with_export (with_less_fuel st) (exported_object x) service iface n) t x (reply.Service service c))
  unfolding with_export with_less_fuel
  export_reply_in st t x iface n service c h j i e =
      let l = export_later st.store (exported_object x) service iface h.store (exported_in st.store x h.store j) e in
      reply_in (with_export (with_less_fuel st) (exported_object x) service iface n) t x (reply.Service service c)
      (export_in (with_less_fuel st) (exported_object x) service iface n (less_fuel s past z st h) (exported_in st.store x h.store j) e)
      (later_frames s past z st.store (store_of st.store (exported_object x) service iface) l x.frames j) i

  -- ---- entries

  pub rest_in : (st : State) → IsStateIn s past st → IsStateIn s past (at_rest st)
  unfolding at_rest
  rest_in st h = record { store = h.store; threads = h.threads }

  pub running_in : (st : State) (t : ℕ) → IsStateIn s past st → IsStateIn s past (with_running_thread st t)
  unfolding with_running_thread
  running_in st t h = record { store = h.store; threads = h.threads }

  pub end_in : (st : State) (t : ℕ) (x : Thread) → IsStateIn s past st → IsStateIn s past (after_end st t x)
  unfolding after_end
  end_in st t x h = rest_in (with_thread st t (record x { call = None; frames = []; stage = Going })) (set_thread s past z st t (record x { call = None; frames = []; stage = Going }) h (record { frames = tt; stage = tt }))

  pub plain_in : (st : State) (t : ℕ) (x : Thread) (r : Reply) → IsStateIn s past st → Fs s past z st.store x.frames → IsReplyIn s past r → IsStateIn s past (after_reply s (with_less_fuel st) t x r)
  unfolding with_less_fuel
  plain_in st t x r h j i = reply_in (with_less_fuel st) t x r (less_fuel s past z st h) j i

  pub act_in : (st : State) (t : ℕ) (x : Thread) (a : Act) (r : Reply) → IsStateIn s past st → Fs s past z st.store x.frames → IsReplyIn s past r → IsExportedIn past a r → IsStateIn s past (after_act s st t x a r)
  unfolding after_act with_running_thread with_less_fuel
  act_in st t x (act.Take c) (reply.Job service method p) h j i e = take_in (with_running_thread st t) t (record x { call = Some c; stage = Going }) service method p (running_in st t h) i
  act_in st t x (act.Resume c) r h j i e = resume_in (with_running_thread st t) t x r (running_in st t h) j i
  act_in st t x (act.Go k) r h j i e = running_in st t h
  act_in st t x (act.Call service method p) (reply.Queued c) h j i e = rest_in (with_less_fuel st) (less_fuel s past z st h)
  act_in st t x (act.Export iface n) (reply.Service service c) h j i e = export_reply_in st t x iface n service c h j i e
  act_in st t x act.Yield r h j i e = rest_in (after_result s (with_less_fuel st) t x None) (result_in (with_less_fuel st) t x None (less_fuel s past z st h) j tt)
  act_in st t x (act.Return c p) r h j i e = end_in st t x h
  act_in st t x (act.Throw c p) r h j i e = end_in st t x h
  act_in st t x (act.EndThread c) r h j i e = end_in st t x h
  act_in st t x (act.Exit code) r h j i e = end_in st t x h
  act_in st t x (act.End why) r h j i e = end_in st t x h
  act_in st t x a r h j i e = plain_in st t x r h j i

  -- an entry keeps the state one of values
  pub entry_in : (st : State) (e : Entry) → IsStateIn s past st → IsReplyIn s past e.reply → IsExportedIn past e.act e.reply → IsStateIn s past (after_entry s st e)
  unfolding after_entry thread_at
  entry_in st e h i k = by (slice_get st.threads e.thread.0) refl
    where
      by : (o : Option Thread) → slice_get st.threads e.thread.0 ≡ o → IsStateIn s past (elim o as (λ _. State) [ None ↦ st | Some x ↦ after_act s st e.thread.0 x e.act e.reply ])
      by None q = h
      by (Some x) q = act_in st e.thread.0 x e.act e.reply h (all_get (IsThreadIn s past st.store) st.threads e.thread.0 x q h.threads).frames i k
