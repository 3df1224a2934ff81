-- Returns from methods.
use Rattle.std.proofs.Common.{◌≡◌, ℕ, Bool, true, false, List, [], ◌∷◌, length, drop, reverse, Option, Some, None, refl, sym, ap, ◌∙◌, arith, ◌<◌}
use Rattle.std.specs.Prelude.{slice_get, if◌then◌else◌}
use Rattle.std.specs.Option.{option_and_then, option_map}
use Rattle.std.proofs.lemmas.List.{length-reverse}
use Rattle.jx_base.specs.declared.frame.Frame.{Frame}
use Rattle.jx_base.specs.declared.program.System.{System}
use Rattle.jx_base.specs.declared.row.Kind.{Kind}
use Rattle.jx_base.specs.declared.value.Value.{Value}
use Rattle.machine_model.specs.NumericRows.{Stack, as_kind}
use Rattle.machine_model.specs.ObjectRows.{BadCode, given, leaves, result_of, return_row, return_value_row, return_void_row, with_result}
use Rattle.machine_model.specs.State.{Core, shape_of, with_running}
use Rattle.program_model.specs.Lookup.{selector_of_method, shape_fits}
use Rattle.program_model.specs.Types.{is_void, result_type}
use Rattle.interp_core.specs.Cores.{running_stack}

-- the type of the result of the running frame's method
pub result_is : (s : System) (frames : List Frame)
    → result_of s frames ≡ option_and_then (λ f. option_map (λ y. result_type y.descriptor) (selector_of_method s f.method)) (slice_get frames 0)
unfolding result_of result_type
result_is s [] = refl
result_is s (f ∷ frames) = refl

-- ---- the frame below

pub goes_on_below : (s : System) (core : Core) (f : Frame) (frames : List Frame) (v : Option Value) → core.frames ≡ f ∷ frames → (frames ≡ [] → ⊥)
    → leaves s (record { frames = frames; store = core.store }) core.store (with_result v (drop 0 (running_stack (record { frames = frames; store = core.store })))) ≡ return_row s core v
unfolding return_row leaves with_running running_stack
goes_on_below s core f [] v e n = absurd (n refl)
goes_on_below s core f (g ∷ frames) v e n = rw e refl

pub none_below : (frames : List Frame) → reverse frames ≡ [] → 0 < length frames → ⊥
none_below frames e l = omega (arith, l, sym (length-reverse frames) ∙ ap length e)

-- ---- what fits

module _ (s : System) (core : Core) (k : Kind) (stack : Stack) (v : Value) where
  value_top : slice_get stack 0 ≡ Some v
      → return_value_row s core k stack ≡ given (as_kind k v) (λ x. given (result_of s core.frames) (λ type.
      if shape_fits s true (shape_of core.store x) type then return_row s core (Some x) else BadCode))
  unfolding return_value_row
  value_top e = by stack e
    where
      by : (stack : Stack) → slice_get stack 0 ≡ Some v
          → return_value_row s core k stack ≡ given (as_kind k v) (λ x. given (result_of s core.frames) (λ type.
          if shape_fits s true (shape_of core.store x) type then return_row s core (Some x) else BadCode))
      by [] e = cc
      by (w ∷ rest) e = let q : w ≡ v = cc in
          ap (λ (v : Value). given (as_kind k v) (λ x. given (result_of s core.frames) (λ type. if shape_fits s true (shape_of core.store x) type then return_row s core (Some x) else BadCode))) q

  pub other_kind : slice_get stack 0 ≡ Some v → as_kind k v ≡ None → return_value_row s core k stack ≡ BadCode
  unfolding given
  other_kind e f = value_top e ∙ rw f refl

  pub no_type : (x : Value) → slice_get stack 0 ≡ Some v → as_kind k v ≡ Some x → result_of s core.frames ≡ None → return_value_row s core k stack ≡ BadCode
  unfolding given
  no_type x e f g = value_top e ∙ rw f (rw g refl)

  value_typed : (x : Value) (type : List ℕ) (b : Bool) → slice_get stack 0 ≡ Some v → as_kind k v ≡ Some x → result_of s core.frames ≡ Some type
      → shape_fits s true (shape_of core.store x) type ≡ b → return_value_row s core k stack ≡ (if b then return_row s core (Some x) else BadCode)
  unfolding given
  value_typed x type b e f g h = value_top e ∙ rw f (rw g (rw h refl))

  pub value_fit : (x : Value) (type : List ℕ) → slice_get stack 0 ≡ Some v → as_kind k v ≡ Some x → result_of s core.frames ≡ Some type
      → shape_fits s true (shape_of core.store x) type ≡ true → return_value_row s core k stack ≡ return_row s core (Some x)
  value_fit x type e f g h = value_typed x type true e f g h

  pub value_unfit : (x : Value) (type : List ℕ) → slice_get stack 0 ≡ Some v → as_kind k v ≡ Some x → result_of s core.frames ≡ Some type
      → shape_fits s true (shape_of core.store x) type ≡ false → return_value_row s core k stack ≡ BadCode
  value_unfit x type e f g h = value_typed x type false e f g h

pub no_value : (s : System) (core : Core) (k : Kind) (stack : Stack) → slice_get stack 0 ≡ None → return_value_row s core k stack ≡ BadCode
unfolding return_value_row
no_value s core k [] e = refl
no_value s core k (v ∷ stack) e = cc

module _ (s : System) (core : Core) where
  pub void_untyped : result_of s core.frames ≡ None → return_void_row s core ≡ BadCode
  unfolding return_void_row given
  void_untyped e = rw e refl

  void_typed : (type : List ℕ) (b : Bool) → result_of s core.frames ≡ Some type → is_void type ≡ b → return_void_row s core ≡ (if b then return_row s core None else BadCode)
  unfolding return_void_row given
  void_typed type b e f = rw e (rw f refl)

  pub void_fit : (type : List ℕ) → result_of s core.frames ≡ Some type → is_void type ≡ true → return_void_row s core ≡ return_row s core None
  void_fit type e f = void_typed type true e f

  pub void_unfit : (type : List ℕ) → result_of s core.frames ≡ Some type → is_void type ≡ false → return_void_row s core ≡ BadCode
  void_unfit type e f = void_typed type false e f
