-- What a call that is taken makes of its thread.
use Rattle.std.proofs.Common.{◌≡◌, ◌∙◌, refl, sym, ap, ℕ, true, false, List, [], ◌∷◌, Some, None}
use Rattle.jx_base.specs.declared.ids.MethodId.{MethodId}
use Rattle.jx_base.specs.declared.ids.ServiceId.{ServiceId}
use Rattle.jx_base.specs.declared.program.System.{System}
use Rattle.jx_base.specs.declared.value.Parcel.{Parcel}
use Rattle.jx_base.specs.declared.value.Value.{Value}
use Rattle.jx_base.specs.declared.value.Value.TheVariants as value
use Rattle.machine_model.specs.AfterEntry.{after_built_in, after_roots, after_selection, after_take, parameters_of, root_values, selected_at, with_nodes}
use Rattle.machine_model.specs.MachineThreads.{after_begin, after_raise, with_frames, with_stage, with_store}
use Rattle.machine_model.specs.ObjectRows.{all_fit}
use Rattle.machine_model.specs.State.{Bad, Core, State, Store, Thread, Threw}
use Rattle.program_model.specs.BuiltIn.{copy_exception}
use Rattle.machine_replies.specs.Leaving.{Comes, HasCoreOf}
use Rattle.machine_replies.specs.declared.stage.Stage.{Stage as OneStage}
use Rattle.machine_replies.specs.declared.stage.Stage.TheVariants as stage
use Rattle.machine_calls.proofs.Coming.{comes_as, comes_bad, comes_bare, comes_threw}

module _ (s : System) (service : ServiceId) (method : MethodId) where
  module _ (st : State) (t : ℕ) (x : Thread) (p : Parcel) where
    take_none : with_nodes st.store p ≡ None → after_take s st t x service method p ≡ with_stage st t x (Threw 0)
    unfolding after_take
    take_none e = rw (e, after_take) refl

    module _ (store : Store) (e : with_nodes st.store p ≡ Some store) where
      take_fits : all_fit s false store (root_values st.store p) (parameters_of s method) ≡ true → after_take s st t x service method p ≡ after_roots s (with_store st store) t x service method (root_values st.store p)
      unfolding after_take
      take_fits f = rw (e, f, after_take) refl

      take_unfit : all_fit s false store (root_values st.store p) (parameters_of s method) ≡ false → after_take s st t x service method p ≡ after_raise s (with_store st store) t (record x { frames = [] }) copy_exception
      unfolding after_take
      take_unfit f = rw (e, f, after_take) refl

  module _ (st : State) (t : ℕ) (x : Thread) (roots : List Value) where
    -- the thread's frames go
    roots_bare : after_roots s st t x service method roots ≡ after_roots s st t (record x { frames = [] }) service method roots
    unfolding after_roots after_selection after_built_in after_begin with_stage with_frames
    roots_bare = refl

    roots_none : selected_at s st.store service method ≡ None → after_roots s st t x service method roots ≡ with_stage st t x Bad
    unfolding after_roots
    roots_none e = rw (e, after_roots) refl

    roots_selected : (y : ℕ × ℕ) → selected_at s st.store service method ≡ Some y → after_roots s st t x service method roots ≡ after_selection s st t x y.0 (value.Ref y.1 ∷ roots)
    unfolding after_roots
    roots_selected y e = rw (e, after_roots) refl

  -- ---- the method begins

  module _ (old new : Core) (roots : List Value) where
    pub none_selected : selected_at s old.store service method ≡ None → Comes old new stage.Bad (λ st t x. after_roots s st t x service method roots)
    none_selected e = comes_bad old new _ (λ st t x h. roots_none st t x roots (ap (λ (k : Store). selected_at s k service method) h.store ∙ e))

    pub selected_begins : (y : ℕ × ℕ) (g : OneStage) → selected_at s old.store service method ≡ Some y → Comes old new g (λ st t x. after_selection s st t x y.0 (value.Ref y.1 ∷ roots))
        → Comes old new g (λ st t x. after_roots s st t x service method roots)
    selected_begins y g e c = comes_as old new _ g _ c (λ st t x h. roots_selected st t x roots y (ap (λ (k : Store). selected_at s k service method) h.store ∙ e))

  -- ---- the parcel is unpacked

  module _ (old : Core) (p : Parcel) where
    -- it has no room
    pub take_unroomed : (new : Core) → with_nodes old.store p ≡ None → new.store ≡ old.store → new.frames ≡ [] → Comes old new (stage.Threw 0) (λ st t x. after_take s st t x service method p)
    take_unroomed new none store empty = comes_threw old new _ 0 empty store (λ st t x h. take_none st t x p (ap (λ (k : Store). with_nodes k p) h.store ∙ none))

    module _ (mid new : Core) (empty : mid.frames ≡ []) (nodes : with_nodes old.store p ≡ Some mid.store) (roots : List Value) (values : roots ≡ root_values old.store p) (g : OneStage) where
      some_in : (st : State) (x : Thread) → HasCoreOf old st x → with_nodes st.store p ≡ Some mid.store
      some_in st x h = ap (λ (k : Store). with_nodes k p) h.store ∙ nodes

      roots_in : (st : State) (x : Thread) → HasCoreOf old st x → root_values st.store p ≡ roots
      roots_in st x h = ap (λ (k : Store). root_values k p) h.store ∙ sym values

      fit_in : (st : State) (x : Thread) → HasCoreOf old st x → all_fit s false mid.store (root_values st.store p) (parameters_of s method) ≡ all_fit s false mid.store roots (parameters_of s method)
      fit_in st x h = ap (λ (vs : List Value). all_fit s false mid.store vs (parameters_of s method)) (roots_in st x h)

      -- the roots do not fit
      pub take_raised : all_fit s false mid.store roots (parameters_of s method) ≡ false → Comes mid new g (λ st t x. after_raise s st t x copy_exception) → Comes old new g (λ st t x. after_take s st t x service method p)
      take_raised fit raised = comes_bare old mid new _ _ g empty raised (λ st t x h. take_unfit st t x p mid.store (some_in st x h) (fit_in st x h ∙ fit))

      -- they do
      pub take_begun : all_fit s false mid.store roots (parameters_of s method) ≡ true → Comes mid new g (λ st t x. after_roots s st t x service method roots) → Comes old new g (λ st t x. after_take s st t x service method p)
      take_begun fit begun =
          comes_bare old mid new _ _ g empty begun (λ st t x h.
          take_fits st t x p mid.store (some_in st x h) (fit_in st x h ∙ fit)
          ∙ ap (after_roots s (with_store st mid.store) t x service method) (roots_in st x h)
          ∙ roots_bare (with_store st mid.store) t x roots)
