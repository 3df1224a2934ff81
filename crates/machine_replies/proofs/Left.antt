-- The state that a core leaves, in every state that had the core before.
use Rattle.std.proofs.Common.{◌≡◌, ◌∙◌, refl, sym, ap, ℕ, Bool, List, [], Option, Some, None}
use Rattle.std.specs.Prelude.{if◌then◌else◌}
use Rattle.jx_base.specs.declared.frame.Frame.{Frame}
use Rattle.jx_base.specs.declared.program.System.{System}
use Rattle.machine_model.specs.MachineThreads.{with_frames, with_stage, with_store, with_thread}
use Rattle.machine_model.specs.State.{Core, Stage, Store, Thread, State, Going, Bad, is_overfull}
use Rattle.machine_replies.specs.Leaving.{HasCoreOf, LeavesAs, left_as}
use Rattle.machine_replies.specs.declared.stage.Stage.{Stage as OneStage}
use Rattle.machine_replies.specs.declared.stage.Stage.TheVariants as stage

module _ (st : State) (t : ℕ) (x : Thread) where
  -- a state has its store
  pub own_store : (store : Store) → st.store ≡ store → st ≡ with_store st store
  unfolding with_store
  own_store store e = ap (λ (k : Store). record st { store = k }) e

  -- the thread's frames and stage in a state with the core's store
  pub left_is : (new : Core) (fs : List Frame) (g : Stage) → st.store ≡ new.store → fs ≡ new.frames → with_thread st t (record x { frames = fs; stage = g }) ≡ left_as st t x new g
  left_is new fs g e f =
      ap (λ (S : State). with_thread S t (record x { frames = fs; stage = g })) (own_store new.store e)
      ∙ ap (λ (gs : List Frame). with_thread (with_store st new.store) t (record x { frames = gs; stage = g })) f

  pub frames_left : (s : System) (new : Core) (fs : List Frame) (b : Bool) → is_overfull s fs ≡ b → st.store ≡ new.store → fs ≡ new.frames → with_frames s st t x fs ≡ left_as st t x new (if b then Bad else Going)
  unfolding with_frames
  frames_left s new fs b o e f = ap (λ (b : Bool). with_thread st t (record x { frames = fs; stage = if b then Bad else Going })) o ∙ left_is new fs (if b then Bad else Going) e f

  pub stage_left : (new : Core) (g : Stage) → st.store ≡ new.store → new.frames ≡ [] → with_stage st t x g ≡ left_as st t x new g
  unfolding with_stage
  stage_left new g e f = left_is new [] g e (sym f)

  -- where the store was put in first
  pub stored : (store : Store) (new : Core) (answer : Option OneStage) (after : State) → LeavesAs (with_store st store) t x new answer after → LeavesAs st t x new answer after
  unfolding with_store
  stored store new None after h = h
  stored store new (Some stage.Going) after h = h
  stored store new (Some (stage.Returned v)) after h = h
  stored store new (Some (stage.Threw r)) after h = h
  stored store new (Some stage.Bad) after h = h

  pub has_stored : (old mid : Core) → mid.frames ≡ old.frames → HasCoreOf old st x → HasCoreOf mid (with_store st mid.store) x
  unfolding with_store
  has_stored old mid e h = record { store = refl; frames = h.frames ∙ sym e }
