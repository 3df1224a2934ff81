-- What a thrown object leaves of its thread.
use Rattle.std.proofs.Common.{◌≡◌, ◌∙◌, refl, sym, ap, subst, ℕ, true, false, List, [], ◌∷◌, Some}
use Rattle.jx_base.specs.declared.frame.Frame.{Frame}
use Rattle.jx_base.specs.declared.program.System.{System}
use Rattle.jx_base.specs.Basics.{passes}
use Rattle.interp_frames.specs.Throwing.{IsCaught}
use Rattle.machine_model.specs.MachineThreads.{after_raise, after_throw, with_frames, with_stage, with_store}
use Rattle.machine_model.specs.State.{Core, Store, Thread, State, Threw, is_overfull, new_exception}
use Rattle.machine_steps.specs.Stepping.{catching}
use Rattle.machine_replies.specs.Leaving.{Comes, HasCome, HasCoreOf}
use Rattle.machine_replies.specs.declared.stage.Stage.{Stage as OneStage}
use Rattle.machine_replies.specs.declared.stage.Stage.TheVariants as stage
use Rattle.machine_replies.proofs.Left.{frames_left, has_stored, stage_left, stored}

module _ (s : System) (st : State) (t : ℕ) (x : Thread) (r : ℕ) where
  none_out : catching s st.store r x.frames ≡ [] → after_throw s st t x r ≡ with_stage st t x (Threw r)
  unfolding after_throw
  none_out e = rw e refl

  some_out : (f : Frame) (fs : List Frame) → catching s st.store r x.frames ≡ f ∷ fs → after_throw s st t x r ≡ with_frames s st t x (f ∷ fs)
  unfolding after_throw
  some_out f fs e = rw e refl

none_overfull : (s : System) → is_overfull s [] ≡ false
unfolding is_overfull passes
none_overfull s = refl

module _ (s : System) (old new : Core) (r : ℕ) where
  -- the frames from the one on that catches the object, in a state that has the core
  same_frames : (st : State) (x : Thread) → HasCoreOf old st x → catching s st.store r x.frames ≡ catching s old.store r old.frames
  same_frames st x h = ap (λ (k : Store). catching s k r x.frames) h.store ∙ ap (catching s old.store r) h.frames

  -- a frame catches it
  pub here_out : new.store ≡ old.store → IsCaught s new.frames (catching s old.store r old.frames) → Comes old new stage.Going (λ st t x. after_throw s st t x r)
  here_out store c st t x h = by (catching s old.store r old.frames) refl
    where
      by : (fs : List Frame) → catching s old.store r old.frames ≡ fs → HasCome st t x new stage.Going (after_throw s st t x r)
      by [] e = absurd (c.some e)
      by (f ∷ fs) e =
          some_out s st t x r f fs (same_frames st x h ∙ e)
          ∙ frames_left st t x s new (f ∷ fs) false (ap (is_overfull s) (sym e) ∙ c.fits) (h.store ∙ sym store) (sym e ∙ sym c.frames)

  -- the one that does has no room for it
  pub overfull_out : is_overfull s (catching s old.store r old.frames) ≡ true → Comes old new stage.Bad (λ st t x. after_throw s st t x r)
  overfull_out o st t x h = by (catching s old.store r old.frames) refl
    where
      by : (fs : List Frame) → catching s old.store r old.frames ≡ fs → HasCome st t x new stage.Bad (after_throw s st t x r)
      by [] e = let q : false ≡ true = sym (none_overfull s) ∙ ap (is_overfull s) (sym e) ∙ o in cc
      by (f ∷ fs) e =
          let other : Core = record { frames = f ∷ fs; store = st.store } in
          (other, some_out s st t x r f fs (same_frames st x h ∙ e) ∙ frames_left st t x s other (f ∷ fs) true (ap (is_overfull s) (sym e) ∙ o) refl refl)

  -- none does
  pub nowhere_out : new.store ≡ old.store → (catching s old.store r old.frames ≡ []) × (new.frames ≡ []) → Comes old new (stage.Threw r) (λ st t x. after_throw s st t x r)
  nowhere_out store c st t x h = (none_out s st t x r (same_frames st x h ∙ c.0) ∙ stage_left st t x new (Threw r) (h.store ∙ sym store) c.1, c.1)

-- a class is raised
pub raised_out : (s : System) (old mid new : Core) (c r : ℕ) (answer : OneStage) → new_exception s old.store c ≡ (mid.store, r) → mid.frames ≡ old.frames
    → Comes mid new answer (λ st t x. after_throw s st t x r) → Comes old new answer (λ st t x. after_raise s st t x c)
unfolding after_raise
raised_out s old mid new c r answer made frames thrown st t x h =
    let same : new_exception s st.store c ≡ (mid.store, r) = ap (λ (k : Store). new_exception s k c) h.store ∙ made in
    let after : after_raise s st t x c ≡ after_throw s (with_store st mid.store) t x r = ap (λ (e : Store × ℕ). after_throw s (with_store st e.0) t x e.1) same in
    subst (HasCome st t x new answer) (sym after) (stored st t x mid.store new (Some answer) _ (thrown (with_store st mid.store) t x (has_stored st t x old mid frames h)))
