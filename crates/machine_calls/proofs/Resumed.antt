-- What an answer leaves of its thread.
use Rattle.std.proofs.Common.{◌≡◌, ◌∙◌, refl, sym, ap, ℕ, true, false, List, [], ◌∷◌, Option, Some, None, slice_get}
use Rattle.jx_base.specs.declared.frame.Frame.{Frame}
use Rattle.jx_base.specs.declared.program.System.{System}
use Rattle.jx_base.specs.declared.value.Parcel.{Parcel}
use Rattle.jx_base.specs.declared.value.Value.{Value}
use Rattle.machine_model.specs.AfterEntry.{after_result, after_thrown, after_value, expected_types, result_types, root_values, thrown_root, with_nodes}
use Rattle.machine_model.specs.MachineThreads.{after_raise, after_throw, with_store}
use Rattle.machine_model.specs.ObjectRows.{all_fit}
use Rattle.machine_model.specs.State.{Core, State, Store, Thread}
use Rattle.program_model.specs.BuiltIn.{copy_exception}
use Rattle.machine_replies.proofs.Left.{own_store}
use Rattle.machine_replies.specs.Leaving.{Comes, HasCoreOf, Leaves}
use Rattle.machine_replies.specs.Sites.{expected_first}
use Rattle.machine_replies.specs.declared.stage.Stage.{Stage as OneStage}
use Rattle.machine_calls.proofs.Coming.{comes_on, leaves_on}

module _ (s : System) (st : State) (t : ℕ) (x : Thread) (p : Parcel) where
  value_none : with_nodes st.store p ≡ None → after_value s st t x p ≡ after_throw s st t x 0
  unfolding after_value
  value_none e = rw (e, after_value) refl

  thrown_none : with_nodes st.store p ≡ None → after_thrown s st t x p ≡ after_throw s st t x 0
  unfolding after_thrown
  thrown_none e = rw (e, after_thrown) refl

  module _ (store : Store) (e : with_nodes st.store p ≡ Some store) where
    value_fits : all_fit s false store (root_values st.store p) (expected_types s x) ≡ true → after_value s st t x p ≡ after_result s (with_store st store) t x (slice_get (root_values st.store p) 0)
    unfolding after_value
    value_fits f = rw (e, f, after_value) refl

    value_unfit : all_fit s false store (root_values st.store p) (expected_types s x) ≡ false → after_value s st t x p ≡ after_raise s (with_store st store) t x copy_exception
    unfolding after_value
    value_unfit f = rw (e, f, after_value) refl

    thrown_some : (r : ℕ) → thrown_root s store (root_values st.store p) ≡ Some r → after_thrown s st t x p ≡ after_throw s (with_store st store) t x r
    unfolding after_thrown
    thrown_some r f = rw (e, f, after_thrown) refl

    thrown_unfit : thrown_root s store (root_values st.store p) ≡ None → after_thrown s st t x p ≡ after_raise s (with_store st store) t x copy_exception
    unfolding after_thrown
    thrown_unfit f = rw (e, f, after_thrown) refl

-- the types that a result fits are those of the thread's first frame
expected_is : (s : System) (x : Thread) → expected_types s x ≡ expected_first s x.frames
unfolding expected_types
expected_is s x = by x.frames
  where
    by : (fs : List Frame) → (elim (slice_get fs 0) as (λ _. List (List ℕ)) [ None ↦ [] | Some f ↦ result_types s f ]) ≡ expected_first s fs
    by [] = refl
    by (f ∷ fs) = refl

module _ (s : System) (old mid new : Core) (p : Parcel) (same : mid.frames ≡ old.frames) where
  -- the nodes have no room
  module _ (g : OneStage) (none : with_nodes old.store p ≡ None) (store : mid.store ≡ old.store) (thrown : Comes mid new g (λ st t x. after_throw s st t x 0)) where
    none_in : (st : State) (x : Thread) → HasCoreOf old st x → with_nodes st.store p ≡ None
    none_in st x h = ap (λ (k : Store). with_nodes k p) h.store ∙ none

    thrown_in : (st : State) (t : ℕ) (x : Thread) → HasCoreOf old st x → after_throw s st t x 0 ≡ after_throw s (with_store st mid.store) t x 0
    thrown_in st t x h = ap (λ (S : State). after_throw s S t x 0) (own_store st t x mid.store (h.store ∙ sym store))

    pub value_unroomed : Comes old new g (λ st t x. after_value s st t x p)
    value_unroomed = comes_on old mid new _ _ g same thrown (λ st t x h. value_none s st t x p (none_in st x h) ∙ thrown_in st t x h)

    pub thrown_unroomed : Comes old new g (λ st t x. after_thrown s st t x p)
    thrown_unroomed = comes_on old mid new _ _ g same thrown (λ st t x h. thrown_none s st t x p (none_in st x h) ∙ thrown_in st t x h)

  -- they are new objects
  module _ (nodes : with_nodes old.store p ≡ Some mid.store) (roots : List Value) (values : roots ≡ root_values old.store p) where
    some_in : (st : State) (x : Thread) → HasCoreOf old st x → with_nodes st.store p ≡ Some mid.store
    some_in st x h = ap (λ (k : Store). with_nodes k p) h.store ∙ nodes

    roots_in : (st : State) (x : Thread) → HasCoreOf old st x → root_values st.store p ≡ roots
    roots_in st x h = ap (λ (k : Store). root_values k p) h.store ∙ sym values

    fit_in : (st : State) (x : Thread) → HasCoreOf old st x → all_fit s false mid.store (root_values st.store p) (expected_types s x) ≡ all_fit s false mid.store roots (expected_first s mid.frames)
    fit_in st x h =
        ap (λ (vs : List Value). all_fit s false mid.store vs (expected_types s x)) (roots_in st x h)
        ∙ ap (all_fit s false mid.store roots) (expected_is s x ∙ ap (expected_first s) (h.frames ∙ sym same))

    root_in : (st : State) (x : Thread) → HasCoreOf old st x → thrown_root s mid.store (root_values st.store p) ≡ thrown_root s mid.store roots
    root_in st x h = ap (thrown_root s mid.store) (roots_in st x h)

    -- the result fits
    pub value_given : (v : Option Value) (o : Option OneStage) → v ≡ slice_get roots 0 → all_fit s false mid.store roots (expected_first s mid.frames) ≡ true
        → Leaves mid new o (λ st t x. after_result s st t x v) → Leaves old new o (λ st t x. after_value s st t x p)
    value_given v o first fit given =
        leaves_on old mid new _ _ o same given (λ st t x h.
        value_fits s st t x p mid.store (some_in st x h) (fit_in st x h ∙ fit)
        ∙ ap (λ (w : Option Value). after_result s (with_store st mid.store) t x w) (ap (λ (vs : List Value). slice_get vs 0) (roots_in st x h) ∙ sym first))

    pub value_raised : (g : OneStage) → all_fit s false mid.store roots (expected_first s mid.frames) ≡ false
        → Comes mid new g (λ st t x. after_raise s st t x copy_exception) → Comes old new g (λ st t x. after_value s st t x p)
    value_raised g fit raised = comes_on old mid new _ _ g same raised (λ st t x h. value_unfit s st t x p mid.store (some_in st x h) (fit_in st x h ∙ fit))

    -- the root is thrown
    pub root_thrown : (r : ℕ) (g : OneStage) → thrown_root s mid.store roots ≡ Some r → Comes mid new g (λ st t x. after_throw s st t x r) → Comes old new g (λ st t x. after_thrown s st t x p)
    root_thrown r g e thrown = comes_on old mid new _ _ g same thrown (λ st t x h. thrown_some s st t x p mid.store (some_in st x h) r (root_in st x h ∙ e))

    pub root_raised : (g : OneStage) → thrown_root s mid.store roots ≡ None → Comes mid new g (λ st t x. after_raise s st t x copy_exception) → Comes old new g (λ st t x. after_thrown s st t x p)
    root_raised g e raised = comes_on old mid new _ _ g same raised (λ st t x h. thrown_unfit s st t x p mid.store (some_in st x h) (root_in st x h ∙ e))
