-- What the result of a call leaves of its thread.
use Rattle.std.proofs.Common.{◌≡◌, ◌∙◌, refl, sym, ap, subst, ℕ, Bool, true, false, List, [], ◌∷◌, drop, Option, Some, None}
use Rattle.std.specs.Prelude.{if◌then◌else◌, nat_lt, not}
use Rattle.std.specs.List.{All}
use Rattle.jx_base.specs.declared.frame.Frame.{Frame}
use Rattle.jx_base.specs.declared.program.System.{System}
use Rattle.jx_base.specs.declared.value.Value.{Value}
use Rattle.interp_core.specs.Cores.{running_stack}
use Rattle.interp_core.specs.Steps.{Leaves as StepLeaves}
use Rattle.interp_core.specs.declared.step.ObjStep.{ObjStep}
use Rattle.interp_core.specs.declared.step.ObjStep.TheVariants as step
use Rattle.interp_core.proofs.Leavings.{fits_none, head_frame, leaves_next, running_is}
use Rattle.machine_model.specs.AfterEntry.{after_result, taken_at}
use Rattle.machine_model.specs.Conditions.{IsFrameOf}
use Rattle.machine_model.specs.MachineThreads.{with_frames}
use Rattle.machine_model.specs.NumericRows.{Stack, depth_of}
use Rattle.machine_model.specs.ObjectRows.{BadCode, Next, ObjectOutcome, leaves, next_unless_overfull, with_result}
use Rattle.machine_model.specs.State.{Core, Thread, State, frame_behind, is_overfull, stack_limit, with_running}
use Rattle.machine_replies.specs.Leaving.{HasCoreOf, Leaves, LeavesAs}
use Rattle.machine_replies.specs.Sites.{taken_first}
use Rattle.machine_replies.specs.declared.stage.Stage.TheVariants as stage
use Rattle.machine_replies.proofs.Left.{frames_left, own_store}

-- the stack behind a call that takes so many values
abbrev pub stack_behind : Core → ℕ → Option Value → Stack
stack_behind core n v = with_result v (drop n (running_stack core))

module _ (s : System) (core new : Core) (v : Option Value) where
  framed_out : (st : State) (t : ℕ) (x : Thread) (f : Frame) (callers : List Frame) → x.frames ≡ f ∷ callers
      → after_result s st t x v ≡ with_frames s st t x (frame_behind s (with_result v (drop (taken_at s f) f.stack.values)) f ∷ callers)
  unfolding after_result
  framed_out st t x f callers e = rw e refl

  empty_out : (st : State) (t : ℕ) (x : Thread) → x.frames ≡ [] → after_result s st t x v ≡ st
  unfolding after_result
  empty_out st t x e = rw e refl

  -- a thread without frames is as it was
  pub idle_out : core.frames ≡ [] → new ≡ core → Leaves core new None (λ st t x. after_result s st t x v)
  idle_out e same st t x h =
      (empty_out st t x (h.frames ∙ e) ∙ own_store st t x new.store (h.store ∙ ap (λ (k : Core). k.store) (sym same)), ap (λ (k : Core). k.frames) same ∙ sym h.frames)

  module _ (n : ℕ) (taken : n ≡ taken_first s core.frames) where
    -- the frames behind the call
    behind : Frame → List Frame → List Frame
    behind f callers = frame_behind s (stack_behind core n v) f ∷ callers

    row_is : (f : Frame) (callers : List Frame) → core.frames ≡ f ∷ callers → leaves s core core.store (stack_behind core n v) ≡ next_unless_overfull s core.store (behind f callers)
    unfolding leaves with_running behind
    row_is f callers e = ap (λ (fs : List Frame). next_unless_overfull s core.store (with_running (frame_behind s (stack_behind core n v)) fs)) e

    over : (fs : List Frame) (b : Bool) → is_overfull s fs ≡ b → next_unless_overfull s core.store fs ≡ (if b then BadCode else Next (record { frames = fs; store = core.store }))
    unfolding next_unless_overfull
    over fs b e = ap (λ (b : Bool). if b then BadCode else Next (record { frames = fs; store = core.store })) e

    behind_out : (st : State) (t : ℕ) (x : Thread) (f : Frame) (callers : List Frame) → HasCoreOf core st x → core.frames ≡ f ∷ callers → after_result s st t x v ≡ with_frames s st t x (behind f callers)
    unfolding behind
    behind_out st t x f callers h e =
        let count : taken_at s f ≡ n = sym (taken ∙ ap (taken_first s) e) in
        let stack : f.stack.values ≡ running_stack core = sym (running_is core callers f e) in
        framed_out st t x f callers (h.frames ∙ e)
        ∙ ap (λ (k : ℕ). with_frames s st t x (frame_behind s (with_result v (drop k f.stack.values)) f ∷ callers)) count
        ∙ ap (λ (k : Stack). with_frames s st t x (frame_behind s (with_result v (drop n k)) f ∷ callers)) stack

    -- it goes on behind the call
    pub next_left : (f : Frame) (callers : List Frame) → core.frames ≡ f ∷ callers → leaves s core core.store (stack_behind core n v) ≡ Next new → Leaves core new (Some stage.Going) (λ st t x. after_result s st t x v)
    next_left f callers e row st t x h = by (is_overfull s (behind f callers)) refl
      where
        by : (b : Bool) → is_overfull s (behind f callers) ≡ b → LeavesAs st t x new (Some stage.Going) (after_result s st t x v)
        by true o = let q : BadCode ≡ Next new = sym (row_is f callers e ∙ over (behind f callers) true o) ∙ row in cc
        by false o =
            let q : Next (record { frames = behind f callers; store = core.store }) ≡ Next new = sym (row_is f callers e ∙ over (behind f callers) false o) ∙ row in
            let same : record { frames = behind f callers; store = core.store } ≡ new = cc in
            behind_out st t x f callers h e
            ∙ frames_left st t x s new (behind f callers) false o (h.store ∙ ap (λ (k : Core). k.store) same) (ap (λ (k : Core). k.frames) same)

    -- its stack would be too deep
    pub bad_left : (f : Frame) (callers : List Frame) → core.frames ≡ f ∷ callers → leaves s core core.store (stack_behind core n v) ≡ BadCode → Leaves core new (Some stage.Bad) (λ st t x. after_result s st t x v)
    bad_left f callers e row st t x h = by (is_overfull s (behind f callers)) refl
      where
        by : (b : Bool) → is_overfull s (behind f callers) ≡ b → LeavesAs st t x new (Some stage.Bad) (after_result s st t x v)
        by false o = let q : Next (record { frames = behind f callers; store = core.store }) ≡ BadCode = sym (row_is f callers e ∙ over (behind f callers) false o) ∙ row in cc
        by true o =
            let other : Core = record { frames = behind f callers; store = st.store } in
            (other, behind_out st t x f callers h e ∙ frames_left st t x s other (behind f callers) true o refl refl)

  -- without a result it is never too deep
  pub none_fits : (n : ℕ) (f : Frame) (callers : List Frame) → core.frames ≡ f ∷ callers → All (IsFrameOf s) core.frames → v ≡ None → leaves s core core.store (stack_behind core n v) ≡ BadCode → ⊥
  none_fits n f callers e all none row =
      let fits = fits_none (stack_limit s f) n f.stack.values v none (head_frame s core.frames callers f e all).depth in
      let fits_too : true ≡ not (nat_lt (stack_limit s f) (depth_of (stack_behind core n v))) = subst (λ (k : Stack). true ≡ not (nat_lt (stack_limit s f) (depth_of (with_result v (drop n k))))) (sym (running_is core callers f e)) fits in
      let next = leaves_next s core f _ callers _ (stack_behind core n v) e fits_too refl refl in
      let q : BadCode ≡ Next _ = sym row ∙ next in cc

-- ---- what the step that leaves its call answers

-- it goes on
pub next_row : (a : ObjStep) (new : Core) (r : ObjectOutcome) → a ≡ step.Next → StepLeaves a new r → r ≡ Next new
next_row a new r e h = subst (λ (a : ObjStep). StepLeaves a new r) e h

-- it does not
pub other_row : (a : ObjStep) (new : Core) (r : ObjectOutcome) → (a ≡ step.Next → ⊥) → StepLeaves a new r → r ≡ BadCode
other_row step.Next new r n h = absurd (n refl)
other_row step.BadCode new r n h = h
other_row (step.Raise c) new r n h = absurd h
other_row (step.Raised x) new r n h = absurd h
other_row (step.Ask a) new r n h = absurd h
other_row (step.Finish v) new r n h = absurd h
other_row step.NotMine new r n h = absurd h
