-- What the method that a call selects makes of its thread.
use Rattle.std.proofs.Common.{◌≡◌, ◌∙◌, refl, sym, ap, subst, ℕ, ◌<◌, ◌≤◌, true, false, List, [], ◌∷◌, Option, Some, None, arith, inr}
use Rattle.std.specs.Prelude.{IfSome, nat_lt}
use Rattle.std.specs.List.{All, AllByRecursion}
use Rattle.std.proofs.lemmas.Bool.Decides.{nat_tests}
use Rattle.std.proofs.lemmas.List.Elements.{All-cons}
use Rattle.class_grammar.specs.Flags.{is_abstract}
use Rattle.jx_base.specs.declared.act.Act.{Act}
use Rattle.jx_base.specs.declared.frame.Frame.{Frame}
use Rattle.jx_base.specs.declared.ids.MethodId.{MethodId}
use Rattle.jx_base.specs.declared.program.Method.{Method}
use Rattle.jx_base.specs.declared.program.Selector.{Selector}
use Rattle.jx_base.specs.declared.program.System.{System}
use Rattle.jx_base.specs.declared.value.Value.{Value}
use Rattle.jx_base.specs.declared.value.Value.TheVariants as value
use Rattle.jx_base.specs.Histories.{Past}
use Rattle.machine_laws.proofs.Cores.{each_of, object_below}
use Rattle.machine_laws.proofs.EntryValues.{IsSelected, all_loosen}
use Rattle.machine_laws.proofs.ObjectValues.{selected_is}
use Rattle.machine_laws.specs.Called.{IsCallOf}
use Rattle.machine_laws.specs.Sound.{IsSound}
use Rattle.machine_laws.specs.Values.{IsValueIn}
use Rattle.machine_model.specs.AfterEntry.{after_built_in, after_selection, parameters_of}
use Rattle.machine_model.specs.BuiltInMethods.{BuiltInOutcome, built_in_outcome}
use Rattle.machine_model.specs.BuiltInMethods as outcome
use Rattle.machine_model.specs.Conditions.{IsHeldBy}
use Rattle.machine_model.specs.MachineThreads.{after_begin, after_raise, with_stage, with_store}
use Rattle.machine_model.specs.ObjectRows.{all_fit}
use Rattle.machine_model.specs.State.{Bad, Core, Returned, State, Store, Thread, Threw, class_of_object}
use Rattle.program_model.specs.BuiltIn.{built_in_count}
use Rattle.program_model.specs.Lookup.{is_below, is_built_in, method_at, selector_at}
use Rattle.program_model.specs.Types.{parameter_types, signature_of}
use Rattle.machine_replies.proofs.Left.{own_store}
use Rattle.machine_replies.specs.Leaving.{Comes}
use Rattle.machine_replies.specs.declared.stage.Stage.{Stage as OneStage}
use Rattle.machine_replies.specs.declared.stage.Stage.TheVariants as stage
use Rattle.machine_calls.proofs.Coming.{comes_as, comes_bad, comes_on, comes_returned, comes_threw}

one_held : (past : Past) (store : Store) (v : Value) → IsValueIn past store v → IsHeldBy store v
one_held past store (value.Ref r) i = object_below store r i
one_held past store (value.Int n) i = tt
one_held past store (value.Long n) i = tt
one_held past store value.Null i = tt
one_held past store (value.Portal k c) i = tt
one_held past store (value.Mem m) i = tt

-- ---- a built-in method

module _ (s : System) (st : State) (t : ℕ) (x : Thread) where
  gives_out : (store : Store) (v : Option Value) → after_built_in s st t x (outcome.Gives store v) ≡ with_stage (with_store st store) t x (Returned v)
  unfolding after_built_in
  gives_out store v = refl

  raises_out : (c : ℕ) → x.frames ≡ [] → after_built_in s st t x (outcome.Raises c) ≡ after_raise s st t x c
  unfolding after_built_in
  raises_out c e = ap (λ (fs : List Frame). after_raise s st t (record x { frames = fs }) c) (sym e)

  no_room_out : after_built_in s st t x outcome.HasNoRoom ≡ with_stage st t x (Threw 0)
  unfolding after_built_in
  no_room_out = refl

  performs_out : (a : Act) → after_built_in s st t x (outcome.Performs a) ≡ with_stage st t x Bad
  unfolding after_built_in
  performs_out a = refl

  unfit_out : after_built_in s st t x outcome.Unfit ≡ with_stage st t x Bad
  unfolding after_built_in
  unfit_out = refl

module _ (s : System) (old mid : Core) (o : BuiltInOutcome) (empty : old.frames ≡ []) (same : mid.frames ≡ old.frames) where
  -- it gives a result
  pub result_comes : (v : Option Value) → o ≡ outcome.Gives mid.store v → Comes old mid (stage.Returned v) (λ st t x. after_built_in s st t x o)
  result_comes v e = comes_returned old mid _ v (same ∙ empty) (λ st t x h. ap (after_built_in s st t x) e ∙ gives_out s st t x mid.store v)

  -- it raises an exception
  pub exception_comes : (new : Core) (c : ℕ) (g : OneStage) → o ≡ outcome.Raises c → mid.store ≡ old.store → Comes mid new g (λ st t x. after_raise s st t x c) → Comes old new g (λ st t x. after_built_in s st t x o)
  exception_comes new c g e q raised =
      comes_on old mid new _ _ g same raised (λ st t x h.
      ap (after_built_in s st t x) e ∙ raises_out s st t x c (h.frames ∙ empty) ∙ ap (λ (S : State). after_raise s S t x c) (own_store st t x mid.store (h.store ∙ sym q)))

  -- it has no room for its object
  pub no_room_comes : o ≡ outcome.HasNoRoom → mid.store ≡ old.store → Comes old mid (stage.Threw 0) (λ st t x. after_built_in s st t x o)
  no_room_comes e q = comes_threw old mid _ 0 (same ∙ empty) q (λ st t x h. ap (after_built_in s st t x) e ∙ no_room_out s st t x)

  -- it performs an act, or takes no such arguments
  pub act_comes : (a : Act) → o ≡ outcome.Performs a → Comes old mid stage.Bad (λ st t x. after_built_in s st t x o)
  act_comes a e = comes_bad old mid _ (λ st t x h. ap (after_built_in s st t x) e ∙ performs_out s st t x a)

  pub unfit_comes : o ≡ outcome.Unfit → Comes old mid stage.Bad (λ st t x. after_built_in s st t x o)
  unfit_comes e = comes_bad old mid _ (λ st t x h. ap (after_built_in s st t x) e ∙ unfit_out s st t x)

-- ---- the method of a place

module _ (s : System) (st : State) (t : ℕ) (x : Thread) (m : ℕ) (args : List Value) where
  none_out : method_at s m ≡ None → after_selection s st t x m args ≡ with_stage st t x Bad
  unfolding after_selection
  none_out e = rw (e, after_selection) refl

  module _ (k : Method) (at : method_at s m ≡ Some k) where
    abstract_out : is_abstract k.flags ≡ true → after_selection s st t x m args ≡ with_stage st t x Bad
    unfolding after_selection
    abstract_out e = rw (at, e, after_selection) refl

    built_in_out : is_abstract k.flags ≡ false → k.class.0 < built_in_count → after_selection s st t x m args ≡ after_built_in s st t x (built_in_outcome s st.store k args)
    unfolding after_selection is_built_in
    built_in_out e l = let f : nat_lt k.class.0 built_in_count ≡ true = grind (arith, nat_tests, l) in rw (at, e, f, after_selection) refl

    entered_out : is_abstract k.flags ≡ false → built_in_count ≤ k.class.0 → after_selection s st t x m args ≡ after_begin s st t x m args
    unfolding after_selection is_built_in
    entered_out e l = let f : nat_lt k.class.0 built_in_count ≡ false = grind (arith, nat_tests, l) in rw (at, e, f, after_selection) refl

module _ (s : System) (old new : Core) (m : ℕ) (args : List Value) where
  pub none_comes : method_at s m ≡ None → Comes old new stage.Bad (λ st t x. after_selection s st t x m args)
  none_comes e = comes_bad old new _ (λ st t x h. none_out s st t x m args e)

  module _ (k : Method) (at : method_at s m ≡ Some k) where
    pub abstract_comes : is_abstract k.flags ≡ true → Comes old new stage.Bad (λ st t x. after_selection s st t x m args)
    abstract_comes e = comes_bad old new _ (λ st t x h. abstract_out s st t x m args k at e)

    pub built_in_comes : (g : OneStage) → is_abstract k.flags ≡ false → k.class.0 < built_in_count → Comes old new g (λ st t x. after_built_in s st t x (built_in_outcome s old.store k args))
        → Comes old new g (λ st t x. after_selection s st t x m args)
    built_in_comes g e l c = comes_as old new _ g _ c (λ st t x h. built_in_out s st t x m args k at e l ∙ ap (λ (o : Store). after_built_in s st t x (built_in_outcome s o k args)) h.store)

    pub begun_comes : (g : OneStage) → is_abstract k.flags ≡ false → built_in_count ≤ k.class.0 → Comes old new g (λ st t x. after_begin s st t x m args) → Comes old new g (λ st t x. after_selection s st t x m args)
    begun_comes g e l c = comes_as old new _ g _ c (λ st t x h. entered_out s st t x m args k at e l)

-- ---- the method that is selected

pub if_some : {A : Type 0} (o : Option A) (P : A → Type 0) → ((x : A) → o ≡ Some x → P x) → IfSome o P
if_some None P f = tt
if_some (Some x) P f = f x refl

module _ (s : System) (past : Past) (z : IsSound s) (store : Store) (method : MethodId) (m r : ℕ) (roots : List Value) (w : IsSelected s past z store method.0 m r) where
  -- the object and the roots are the arguments of a call of it
  pub selected_call : (k : Method) → all_fit s false store roots (parameters_of s method) ≡ true → method_at s m ≡ Some k → IsCallOf s store k (value.Ref r ∷ roots)
  unfolding parameters_of parameter_types
  selected_call k f e y q =
      let t = selected_is s w.class method.0 m k w.method e in
      let u : selector_at s method.0 ≡ Some y = ap (selector_at s) (sym t.1) ∙ q in
      inr (record {
        object = value.Ref r;
        others = roots;
        is = refl;
        fit = all_loosen s store roots (parameter_types y.descriptor) (subst (λ (o : Option Selector). all_fit s false store roots (elim o as (λ _. List (List ℕ)) [ None ↦ [] | Some y ↦ (signature_of y.descriptor).parameters ]) ≡ true) u f);
        below = λ n a is of.
            let v : r ≡ n = cc in
            let b : Some w.class ≡ Some a = sym w.of ∙ ap (class_of_object store) v ∙ of in
            let d : w.class ≡ a = cc in
            subst (λ (c : ℕ). is_below s c k.class.0 ≡ true) d t.0;
      })

  -- they are objects that there are
  pub selected_held : AllByRecursion (IsValueIn past store) roots → All (IsHeldBy store) (value.Ref r ∷ roots)
  selected_held i = All-cons (IsHeldBy store) (value.Ref r) roots (object_below store r w.object) (each_of (IsValueIn past store) (IsHeldBy store) (one_held past store) roots i)
