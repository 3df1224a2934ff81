-- What a thread has come to, where its state had another store or other frames before.
use Rattle.std.proofs.Common.{◌≡◌, ◌∙◌, refl, sym, subst, ℕ, List, [], Option, Some, None}
use Rattle.jx_base.specs.declared.frame.Frame.{Frame}
use Rattle.machine_model.specs.MachineThreads.{with_stage, with_store}
use Rattle.machine_model.specs.State.{Bad, Core, Returned, State, Store, Thread, Threw}
use Rattle.machine_replies.specs.Leaving.{Comes, HasCome, HasCoreOf, Leaves, LeavesAs}
use Rattle.machine_replies.specs.declared.stage.Stage.{Stage as OneStage}
use Rattle.machine_replies.specs.declared.stage.Stage.TheVariants as stage
use Rattle.jx_base.specs.declared.value.Value.{Value}
use Rattle.machine_replies.proofs.Left.{stage_left}

module _ (st : State) (t : ℕ) (x : Thread) (new : Core) where
  come_stored : (store : Store) (g : OneStage) (after : State) → HasCome (with_store st store) t x new g after → HasCome st t x new g after
  unfolding with_store
  come_stored store stage.Going after h = h
  come_stored store (stage.Returned v) after h = h
  come_stored store (stage.Threw r) after h = h
  come_stored store stage.Bad after h = h

  come_framed : (fs : List Frame) (g : OneStage) (after : State) → HasCome st t (record x { frames = fs }) new g after → HasCome st t x new g after
  come_framed fs stage.Going after h = h
  come_framed fs (stage.Returned v) after h = h
  come_framed fs (stage.Threw r) after h = h
  come_framed fs stage.Bad after h = h

  left_stored : (store : Store) (o : Option OneStage) (after : State) → LeavesAs (with_store st store) t x new o after → LeavesAs st t x new o after
  unfolding with_store
  left_stored store None after h = h
  left_stored store (Some g) after h = come_stored store g after h

-- states before and after
abbrev pub Change : Type 0
Change = State → ℕ → Thread → State

module _ (old mid new : Core) (f h : Change) where
  stored_core : mid.frames ≡ old.frames → (st : State) (t : ℕ) (x : Thread) → HasCoreOf old st x → HasCoreOf mid (with_store st mid.store) x
  unfolding with_store
  stored_core e st t x k = record { store = refl; frames = k.frames ∙ sym e }

  bare_core : mid.frames ≡ [] → (st : State) (x : Thread) → HasCoreOf mid (with_store st mid.store) (record x { frames = [] })
  unfolding with_store
  bare_core e st x = record { store = refl; frames = sym e }

  -- the thread's frames stayed
  pub comes_on : (g : OneStage) → mid.frames ≡ old.frames → Comes mid new g f → ((st : State) (t : ℕ) (x : Thread) → HasCoreOf old st x → h st t x ≡ f (with_store st mid.store) t x) → Comes old new g h
  comes_on g e c i st t x k = subst (HasCome st t x new g) (sym (i st t x k)) (come_stored st t x new mid.store g _ (c (with_store st mid.store) t x (stored_core e st t x k)))

  pub leaves_on : (o : Option OneStage) → mid.frames ≡ old.frames → Leaves mid new o f → ((st : State) (t : ℕ) (x : Thread) → HasCoreOf old st x → h st t x ≡ f (with_store st mid.store) t x) → Leaves old new o h
  leaves_on o e c i st t x k = subst (LeavesAs st t x new o) (sym (i st t x k)) (left_stored st t x new mid.store o _ (c (with_store st mid.store) t x (stored_core e st t x k)))

  -- they went
  pub comes_bare : (g : OneStage) → mid.frames ≡ [] → Comes mid new g f → ((st : State) (t : ℕ) (x : Thread) → HasCoreOf old st x → h st t x ≡ f (with_store st mid.store) t (record x { frames = [] })) → Comes old new g h
  comes_bare g e c i st t x k =
      subst (HasCome st t x new g) (sym (i st t x k))
      (come_framed st t x new [] g _ (come_stored st t (record x { frames = [] }) new mid.store g _ (c (with_store st mid.store) t (record x { frames = [] }) (bare_core e st x))))

module _ (old new : Core) (h : Change) where
  -- the same change
  pub comes_as : (g : OneStage) (f : Change) → Comes old new g f → ((st : State) (t : ℕ) (x : Thread) → HasCoreOf old st x → h st t x ≡ f st t x) → Comes old new g h
  comes_as g f c i st t x k = subst (HasCome st t x new g) (sym (i st t x k)) (c st t x k)

  pub comes_bad : ((st : State) (t : ℕ) (x : Thread) → HasCoreOf old st x → h st t x ≡ with_stage st t x Bad) → Comes old new stage.Bad h
  comes_bad i st t x k =
      let other : Core = record { frames = []; store = st.store } in
      (other, i st t x k ∙ stage_left st t x other Bad refl refl)

  -- without frames
  pub comes_returned : (v : Option Value) → new.frames ≡ [] → ((st : State) (t : ℕ) (x : Thread) → HasCoreOf old st x → h st t x ≡ with_stage (with_store st new.store) t x (Returned v)) → Comes old new (stage.Returned v) h
  unfolding with_store
  comes_returned v e i st t x k = (i st t x k ∙ stage_left (with_store st new.store) t x new (Returned v) refl e, e)

  pub comes_threw : (r : ℕ) → new.frames ≡ [] → new.store ≡ old.store → ((st : State) (t : ℕ) (x : Thread) → HasCoreOf old st x → h st t x ≡ with_stage st t x (Threw r)) → Comes old new (stage.Threw r) h
  comes_threw r e q i st t x k = (i st t x k ∙ stage_left st t x new (Threw r) (k.store ∙ sym q) e, e)
