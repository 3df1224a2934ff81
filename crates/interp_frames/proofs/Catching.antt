-- The frames that a thrown object leaves.
use Rattle.std.proofs.Common.{◌≡◌, ℕ, true, false, List, [], ◌∷◌, Option, Some, None, refl, sym, ap, ◌∙◌, arith}
use Rattle.std.specs.Prelude.{nat_lt}
use Rattle.std.proofs.lemmas.Bool.Decides.{nat_tests}
use Rattle.jx_base.specs.declared.frame.Frame.{Frame}
use Rattle.jx_base.specs.declared.program.System.{System}
use Rattle.jx_base.specs.Basics.{passes}
use Rattle.machine_model.specs.NumericRows.{depth_of, slots_of}
use Rattle.machine_model.specs.State.{frames_at_handler, handler_in, is_overfull, stack_limit, with_values}
use Rattle.interp_frames.specs.Throwing.{IsCaught, at_handler}

module _ (s : System) (thrown r : ℕ) where
  -- none is left to catch it
  pub none_left : (frames : List Frame) → frames ≡ [] → frames_at_handler s thrown r frames ≡ []
  unfolding frames_at_handler
  none_left frames e = rw e refl

  -- a frame that has no handler goes
  pub passed : (frames callers : List Frame) (f : Frame) → frames ≡ f ∷ callers → handler_in s thrown f ≡ None → frames_at_handler s thrown r frames ≡ frames_at_handler s thrown r callers
  unfolding frames_at_handler
  passed frames callers f e h =
      ap (frames_at_handler s thrown r) e
      ∙ ap (λ (o : Option ℕ). elim o as (λ _. List Frame) [ Some pc ↦ at_handler pc r f ∷ callers | None ↦ frames_at_handler s thrown r callers ]) h

  -- a frame that has one is there
  pub at_first : (frames callers : List Frame) (f : Frame) (pc : ℕ) → frames ≡ f ∷ callers → handler_in s thrown f ≡ Some pc → frames_at_handler s thrown r frames ≡ at_handler pc r f ∷ callers
  unfolding frames_at_handler
  at_first frames callers f pc e h =
      ap (frames_at_handler s thrown r) e
      ∙ ap (λ (o : Option ℕ). elim o as (λ _. List Frame) [ Some pc ↦ at_handler pc r f ∷ callers | None ↦ frames_at_handler s thrown r callers ]) h

module _ (s : System) (r pc : ℕ) (f : Frame) (callers : List Frame) where
  -- the object takes one slot
  one_slot : is_overfull s (at_handler pc r f ∷ callers) ≡ nat_lt (stack_limit s f) 1
  unfolding is_overfull passes depth_of slots_of with_values stack_limit
  one_slot = refl

  below_one : (n : ℕ) → nat_lt 0 n ≡ true → nat_lt n 1 ≡ false
  below_one n e = grind (arith, nat_tests, e)

  not_below_one : (n : ℕ) → nat_lt 0 n ≡ false → nat_lt n 1 ≡ true
  not_below_one n e = grind (arith, nat_tests, e)

  pub has_place : nat_lt 0 (stack_limit s f) ≡ true → is_overfull s (at_handler pc r f ∷ callers) ≡ false
  has_place e = one_slot ∙ below_one (stack_limit s f) e

  pub is_full : nat_lt 0 (stack_limit s f) ≡ false → is_overfull s (at_handler pc r f ∷ callers) ≡ true
  is_full e = one_slot ∙ not_below_one (stack_limit s f) e

  -- the frame that catches it is the running one
  pub caught_here : (after new : List Frame) (g : Frame) → after ≡ at_handler pc r f ∷ callers → g ≡ at_handler pc r f → new ≡ g ∷ callers → nat_lt 0 (stack_limit s f) ≡ true → IsCaught s new after
  caught_here after new g e is n room = record {
    frames = n ∙ ap (λ (x : Frame). x ∷ callers) is ∙ sym e;
    some = λ none. some_frame (sym e ∙ none);
    fits = ap (is_overfull s) e ∙ has_place room;
  }
    where
      some_frame : at_handler pc r f ∷ callers ≡ [] → ⊥
      some_frame e = cc
