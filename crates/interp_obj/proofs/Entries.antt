-- Methods that are entered, and built-in ones that are run.
use Rattle.std.proofs.Common.{◌≡◌, ℕ, ◌<◌, Bool, true, false, List, [], ◌∷◌, ◌++◌, drop, reverse, replicate, Option, Some, None, refl, sym, ap, ◌∙◌, subst, arith}
use Rattle.std.specs.Prelude.{nat_lt, find, if◌then◌else◌}
use Rattle.std.specs.Option.{option_and_then, option_map}
use Rattle.jx_base.specs.Basics.{passes}
use Rattle.jx_base.specs.declared.act.Act.{Act}
use Rattle.jx_base.specs.declared.frame.Frame.{Frame}
use Rattle.jx_base.specs.declared.ids.ClassId.{ClassId}
use Rattle.jx_base.specs.declared.program.Method.{Method}
use Rattle.jx_base.specs.declared.program.Selector.{Selector}
use Rattle.jx_base.specs.declared.program.System.{System}
use Rattle.jx_base.specs.declared.value.Value.{Value}
use Rattle.machine_laws.proofs.NumericValues.{then_some, mapped_some}
use Rattle.machine_laws.specs.Sound.{IsSound}
use Rattle.machine_model.specs.BuiltInMethods.{BuiltInMethod, BuiltInOutcome, Unfit, built_in_outcome, effects_of, is_of}
use Rattle.machine_model.specs.BuiltInMethods as native
use Rattle.machine_model.specs.NumericRows.{Stack, depth_of}
use Rattle.machine_model.specs.ObjectRows.{BadCode, Next, ObjectOutcome, Raise, Raised, Taken, built_in_row, enter_row, given, leaves, next_unless_overfull, with_result}
use Rattle.machine_model.specs.State.{Core, Store, code_of, frame_of, frame_with, is_overflow, is_overfull, locals_with, stack_limit, with_running, with_values}
use Rattle.program_model.specs.BuiltIn.{built_in_count, opened_built_in, portal_class, stack_overflow_error}
use Rattle.program_model.specs.Lookup.{is_interface, selector_at}
use Rattle.interp_core.specs.declared.step.ObjStep.{ObjStep}
use Rattle.interp_core.specs.declared.step.ObjStep.TheVariants as step
use Rattle.interp_core.specs.Cores.{running_stack}
use Rattle.interp_core.specs.Steps.{Gives, Leaves}
use Rattle.interp_core.proofs.Leavings.{last_first, running_is}
use Rattle.interp_obj.specs.Calls.{with_running_stack}

-- ---- the caller's stack

pub taken_frames : (core : Core) (frames front new : List Frame) (f g : Frame) (n : ℕ) → core.frames ≡ reverse frames → frames ≡ front ++ f ∷ [] → new ≡ front ++ g ∷ []
    → g ≡ record f { stack = record f.stack { values = drop n f.stack.values } }
    → record { frames = reverse new; store = core.store } ≡ with_running_stack core (drop n (running_stack core))
unfolding with_running with_values
taken_frames core frames front new f g n i e h w =
    let callers = reverse front in
    let old : core.frames ≡ f ∷ callers = i ∙ last_first frames front f e in
    let stack = running_is core callers f old in
    ap (λ (fs : List Frame). record { frames = fs; store = core.store })
    (last_first new front g h ∙ ap (λ (g : Frame). g ∷ callers) w
    ∙ ap (λ (k : Stack). with_values (drop n k) f ∷ callers) (sym stack)
    ∙ ap (with_running (with_values (drop n (running_stack core)))) (sym old))

pub none_taken : (core : Core) (frames : List Frame) (stack : Stack) → core.frames ≡ [] → frames ≡ [] → record { frames = reverse frames; store = core.store } ≡ with_running_stack core stack
unfolding with_running
none_taken core frames stack e h =
    ap (λ (fs : List Frame). record { frames = fs; store = core.store }) (ap reverse h ∙ ap (with_running (with_values stack)) (sym e))

-- ---- a frame is entered

module _ (s : System) (core : Core) (m : ℕ) (x : Taken) where
  pub overflows : is_overflow s m core.frames ≡ true → enter_row s core m x ≡ Raise 17
  unfolding enter_row stack_overflow_error
  overflows e =
      ap (λ (b : Bool). if b then Raise stack_overflow_error
      else given (frame_of s m x.arguments) (λ f. next_unless_overfull s core.store (f ∷ with_running (with_values x.below) core.frames))) e

  by_frame : is_overflow s m core.frames ≡ false
      → enter_row s core m x ≡ given (frame_of s m x.arguments) (λ f. next_unless_overfull s core.store (f ∷ with_running (with_values x.below) core.frames))
  unfolding enter_row
  by_frame e =
      ap (λ (b : Bool). if b then Raise stack_overflow_error
      else given (frame_of s m x.arguments) (λ f. next_unless_overfull s core.store (f ∷ with_running (with_values x.below) core.frames))) e

  pub no_frame : is_overflow s m core.frames ≡ false → frame_of s m x.arguments ≡ None → enter_row s core m x ≡ BadCode
  unfolding given
  no_frame e h =
      by_frame e ∙ ap (λ (o : Option Frame). given o (λ f. next_unless_overfull s core.store (f ∷ with_running (with_values x.below) core.frames))) h

  -- the stack of a new frame is empty
  empty_first : (f : Frame) → frame_of s m x.arguments ≡ Some f → f.stack.values ≡ []
  unfolding frame_of frame_with
  empty_first f e =
      let c = then_some (code_of s m) (λ c. option_map (frame_with m c) (locals_with (replicate c.max_locals None) 0 x.arguments)) f e in
      let l = mapped_some (frame_with m c.0) (locals_with (replicate c.0.max_locals None) 0 x.arguments) f c.2 in
      ap (λ (f : Frame). f.stack.values) (sym l.2)

  fits_empty : (f : Frame) (callers : List Frame) → f.stack.values ≡ [] → next_unless_overfull s core.store (f ∷ callers) ≡ Next (record { frames = f ∷ callers; store = core.store })
  unfolding next_unless_overfull is_overfull passes depth_of
  fits_empty f callers e =
      let deep : nat_lt (stack_limit s f) (depth_of f.stack.values) ≡ false = ap (λ (k : Stack). nat_lt (stack_limit s f) (depth_of k)) e ∙ none (stack_limit s f) in
      ap (λ (b : Bool). if b then BadCode else Next (record { frames = f ∷ callers; store = core.store })) deep
    where
      none : (n : ℕ) → nat_lt n 0 ≡ false
      none n = grind arith

  pub entered : (f : Frame) → is_overflow s m core.frames ≡ false → frame_of s m x.arguments ≡ Some f
      → enter_row s core m x ≡ Next (record { frames = f ∷ with_running (with_values x.below) core.frames; store = core.store })
  unfolding given
  entered f e h =
      by_frame e ∙ ap (λ (o : Option Frame). given o (λ f. next_unless_overfull s core.store (f ∷ with_running (with_values x.below) core.frames))) h
      ∙ fits_empty f (with_running (with_values x.below) core.frames) (empty_first f h)

-- the new frame above those of the caller
pub above_caller : (old mid : Core) (f : Frame) (frames new : List Frame) (stack : Stack) → mid ≡ with_running_stack old stack → mid.frames ≡ reverse frames → new ≡ frames ++ f ∷ []
    → ◌≡◌ {A = Core} (record { frames = f ∷ with_running (with_values stack) old.frames; store = old.store }) (record { frames = reverse new; store = mid.store })
above_caller old mid f frames new stack e h p =
    sym (ap (λ (fs : List Frame). record { frames = fs; store = mid.store }) (last_first new frames f p ∙ ap (λ (fs : List Frame). f ∷ fs) (sym h))
    ∙ ap (λ (c : Core). record { frames = f ∷ c.frames; store = c.store }) e)

-- ---- built-in methods

no_effects : (x : Selector) (m : BuiltInMethod) → find (is_of x) (effects_of portal_class) ≡ Some m → ⊥
unfolding effects_of opened_built_in
no_effects x m e = cc

-- the one interface that is built in declares no method
pub interface_unfit : (s : System) (store : Store) (k : Method) (args : List Value) → IsSound s → k.class.0 < built_in_count → is_interface s k.class.0 ≡ true
    → built_in_outcome s store k args ≡ Unfit
unfolding built_in_outcome
interface_unfit s store k args z l i = by (option_and_then (λ x. find (is_of x) (effects_of k.class.0)) (selector_at s k.selector.0)) refl
  where
    e : k.class.0 ≡ portal_class
    e = z.interfaces k.class.0 l i

    by : (o : Option BuiltInMethod) → option_and_then (λ x. find (is_of x) (effects_of k.class.0)) (selector_at s k.selector.0) ≡ o
        → elim o as (λ _. BuiltInOutcome) [ None ↦ Unfit | Some b ↦ b.effect s store args ] ≡ Unfit
    by None w = refl
    by (Some m) w =
        let x = then_some (selector_at s k.selector.0) (λ x. find (is_of x) (effects_of k.class.0)) m w in
        absurd (no_effects x.0 m (subst (λ (n : ℕ). find (is_of x.0) (effects_of n) ≡ Some m) e x.2))

pub unfit_is_bad : (s : System) (core : Core) (below : Stack) (o : BuiltInOutcome) → o ≡ Unfit → built_in_row s core below o ≡ BadCode
unfolding built_in_row
unfit_is_bad s core below o e = ap (built_in_row s core below) e

same_core : (old mid : Core) → mid.frames ≡ old.frames → mid.store ≡ old.store → mid ≡ old
same_core old mid e h = ap (λ (fs : List Frame). record { frames = fs; store = mid.store }) e ∙ ap (λ (k : Store). record { frames = old.frames; store = k }) h

pub leaves_gives : (x : ObjStep) (old new : Core) (r : ObjectOutcome) → Leaves x new r → Gives x old new r
leaves_gives step.Next old new r h = h
leaves_gives step.BadCode old new r h = h
leaves_gives (step.Raise c) old new r h = absurd h
leaves_gives (step.Raised n) old new r h = absurd h
leaves_gives (step.Ask a) old new r h = absurd h
leaves_gives (step.Finish v) old new r h = absurd h
leaves_gives step.NotMine old new r h = absurd h

module _ (s : System) (old mid : Core) (n : ℕ) (o : BuiltInOutcome) (same : mid.frames ≡ old.frames) where
  pub result_left : (x : ObjStep) (new : Core) (v : Option Value) → o ≡ native.Gives mid.store v → Leaves x new (leaves s mid mid.store (with_result v (drop n (running_stack mid))))
      → Gives x old new (built_in_row s old (drop n (running_stack old)) o)
  unfolding built_in_row leaves running_stack
  result_left x new v e h =
      let row : leaves s mid mid.store (with_result v (drop n (running_stack mid))) ≡ built_in_row s old (drop n (running_stack old)) o =
      ap (λ (fs : List Frame). leaves s (record { frames = fs; store = old.store }) mid.store (with_result v (drop n (running_stack (record { frames = fs; store = old.store }))))) same
      ∙ sym (ap (built_in_row s old (drop n (running_stack old))) e) in
      leaves_gives x old new (built_in_row s old (drop n (running_stack old)) o) (subst (Leaves x new) row h)

  pub act_asked : (a : Act) → o ≡ native.Performs a → mid.store ≡ old.store → Gives (step.Ask a) old mid (built_in_row s old (drop n (running_stack old)) o)
  unfolding built_in_row
  act_asked a e h = (ap (built_in_row s old (drop n (running_stack old))) e, same_core old mid same h)

  pub class_raised : (c : ClassId) → o ≡ native.Raises c.0 → mid.store ≡ old.store → Gives (step.Raise c) old mid (built_in_row s old (drop n (running_stack old)) o)
  unfolding built_in_row
  class_raised c e h = (ap (built_in_row s old (drop n (running_stack old))) e, same_core old mid same h)

  pub no_room : o ≡ native.HasNoRoom → mid.store ≡ old.store → Gives (step.Raised 0) old mid (built_in_row s old (drop n (running_stack old)) o)
  unfolding built_in_row
  no_room e h = ap (built_in_row s old (drop n (running_stack old))) e ∙ ap (Raised 0) (sym (same_core old mid same h))
