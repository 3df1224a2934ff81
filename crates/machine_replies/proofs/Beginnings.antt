-- What a method that begins leaves of its thread.
use Rattle.std.proofs.Common.{◌≡◌, ◌∙◌, refl, sym, ap, subst, ℕ, Bool, true, false, List, [], ◌∷◌, Option, Some, None}
use Rattle.jx_base.specs.declared.frame.Frame.{Frame}
use Rattle.jx_base.specs.declared.program.System.{System}
use Rattle.jx_base.specs.declared.value.Value.{Value}
use Rattle.interp_frames.specs.Beginnings.{HasNoPlace, IsGoing}
use Rattle.machine_model.specs.MachineThreads.{after_begin, after_raise, with_frames, with_stage}
use Rattle.machine_model.specs.State.{Core, Thread, State, Bad, frame_of, is_overfull, is_overflow}
use Rattle.program_model.specs.BuiltIn.{stack_overflow_error}
use Rattle.machine_replies.specs.Leaving.{Comes, HasCome}
use Rattle.machine_replies.specs.declared.stage.Stage.{Stage as OneStage}
use Rattle.machine_replies.specs.declared.stage.Stage.TheVariants as stage
use Rattle.machine_replies.proofs.Left.{frames_left, stage_left}

module _ (s : System) (m : ℕ) (arguments : List Value) where
  module _ (st : State) (t : ℕ) (x : Thread) where
    -- how it begins, by whether its frame fills too many slots, and by that frame
    begun : (b : Bool) (o : Option Frame) → is_overflow s m [] ≡ b → frame_of s m arguments ≡ o → after_begin s st t x m arguments ≡ elim b as (λ _. State) [
      | true ↦ after_raise s st t (record x { frames = [] }) stack_overflow_error
      | false ↦ elim o as (λ _. State) [ None ↦ with_stage st t x Bad | Some f ↦ with_frames s st t x (f ∷ []) ]
    ]
    unfolding after_begin
    begun b o e f =
        ap (λ (b : Bool). elim b as (λ _. State) [
          | true ↦ after_raise s st t (record x { frames = [] }) stack_overflow_error
          | false ↦ elim (frame_of s m arguments) as (λ _. State) [ None ↦ with_stage st t x Bad | Some f ↦ with_frames s st t x (f ∷ []) ]
        ]) e
        ∙ ap (λ (o : Option Frame). elim b as (λ _. State) [
          | true ↦ after_raise s st t (record x { frames = [] }) stack_overflow_error
          | false ↦ elim o as (λ _. State) [ None ↦ with_stage st t x Bad | Some f ↦ with_frames s st t x (f ∷ []) ]
        ]) f

    overflow_out : is_overflow s m [] ≡ true → x.frames ≡ [] → after_begin s st t x m arguments ≡ after_raise s st t x stack_overflow_error
    overflow_out e f = begun true (frame_of s m arguments) e refl ∙ ap (λ (fs : List Frame). after_raise s st t (record x { frames = fs }) stack_overflow_error) (sym f)

  module _ (old new : Core) where
    -- its frame is there
    pub going_out : IsGoing s m arguments old new → Comes old new stage.Going (λ st t x. after_begin s st t x m arguments)
    going_out g st t x h =
        begun st t x false (Some g.frame) g.within g.first
        ∙ frames_left st t x s new (g.frame ∷ []) false (ap (is_overfull s) (sym g.frames) ∙ g.fits) (h.store ∙ sym g.store) (sym g.frames)

    -- it has no place
    pub no_place_out : HasNoPlace s m arguments old new → Comes old new stage.Bad (λ st t x. after_begin s st t x m arguments)
    no_place_out g st t x h =
        let other : Core = record { frames = []; store = st.store } in
        (other, begun st t x false None g.within g.none ∙ stage_left st t x other Bad refl refl)

  -- its frame would fill too many slots
  pub overflow_raises : (old mid new : Core) (answer : OneStage) → old.frames ≡ [] → (is_overflow s m [] ≡ true) × (mid ≡ old)
      → Comes mid new answer (λ st t x. after_raise s st t x stack_overflow_error) → Comes old new answer (λ st t x. after_begin s st t x m arguments)
  overflow_raises old mid new answer empty o raised st t x h =
      let here = subst (λ (k : Core). Comes k new answer (λ st t x. after_raise s st t x stack_overflow_error)) o.1 raised in
      subst (HasCome st t x new answer) (sym (overflow_out st t x o.0 (h.frames ∙ empty))) (here st t x h)
