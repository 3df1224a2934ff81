-- The values of a core refer to objects that there are.
use Rattle.std.proofs.Common.{◌≡◌, ℕ, List, [], ◌∷◌, ◌++◌, length, take, reverse, refl, sym, subst}
use Rattle.std.specs.Prelude.{flat_map}
use Rattle.std.specs.List.{All, AllByRecursion}
use Rattle.std.proofs.lemmas.List.Elements.{All-from_recursion, recursion_from_All, All-weaker}
use Rattle.jx_base.specs.declared.frame.Frame.{Frame}
use Rattle.jx_base.specs.declared.value.Value.{Value}
use Rattle.jx_base.specs.declared.value.Value.TheVariants as value
use Rattle.machine_laws.proofs.Lists.{all_left, all_right, all_reverse, all_take}
use Rattle.machine_model.specs.Conditions.{IsHeldBy, core_values, frame_values, store_values}
use Rattle.machine_model.specs.State.{Store, Core}
use Rattle.program_model.specs.Parcels.{HeapObject}
use Rattle.param_copy.specs.Copies.{AreClosed, IsPlaced}
use Rattle.interp_core.specs.Cores.{running_stack}

one_placed : (store : Store) (v : Value) → IsHeldBy store v → IsPlaced (length store.objects) v
one_placed store (value.Ref r) h = h
one_placed store (value.Int n) h = tt
one_placed store (value.Long n) h = tt
one_placed store value.Null h = tt
one_placed store (value.Portal k c) h = tt
one_placed store (value.Mem m) h = tt

pub roots_placed : (store : Store) (vs : List Value) → All (IsHeldBy store) vs → All (IsPlaced (length store.objects)) vs
roots_placed store vs h = All-weaker (IsHeldBy store) (IsPlaced (length store.objects)) (one_placed store) vs h

-- the cells of each object
cells_placed : (store : Store) (objects : List HeapObject) → AllByRecursion (IsHeldBy store) (flat_map (λ o. o.cells) objects)
    → AllByRecursion (λ o. All (IsPlaced (length store.objects)) o.cells) objects
cells_placed store [] h = tt
cells_placed store (o ∷ objects) h =
    let rest = flat_map (λ o. o.cells) objects in (
      roots_placed store o.cells (All-from_recursion (IsHeldBy store) o.cells (all_left (IsHeldBy store) o.cells rest h)),
      cells_placed store objects (all_right (IsHeldBy store) o.cells rest h),
    )

in_store : (core : Core) → All (IsHeldBy core.store) (core_values core) → AllByRecursion (IsHeldBy core.store) (store_values core.store)
unfolding core_values
in_store core h =
    all_right (IsHeldBy core.store) (flat_map frame_values core.frames) (store_values core.store) (recursion_from_All (IsHeldBy core.store) (core_values core) h)

pub objects_closed : (core : Core) → All (IsHeldBy core.store) (core_values core) → AreClosed core.store.objects
unfolding store_values
objects_closed core h =
    let objects = core.store.objects in
    All-from_recursion (λ o. All (IsPlaced (length objects)) o.cells) objects
    (cells_placed core.store objects (all_left (IsHeldBy core.store) (flat_map (λ o. o.cells) objects) core.store.statics (in_store core h)))

-- ---- the running frame's stack

of_first : (store : Store) (frames : List Frame) (rest : List Value) (f : Frame) (callers : List Frame) → frames ≡ f ∷ callers
    → AllByRecursion (IsHeldBy store) (flat_map frame_values frames ++ rest) → AllByRecursion (IsHeldBy store) f.stack.values
unfolding frame_values
of_first store frames rest f callers e h =
    let P = IsHeldBy store in
    let all : AllByRecursion P (flat_map frame_values (f ∷ callers)) =
    all_left P (flat_map frame_values (f ∷ callers)) rest (subst (λ (fs : List Frame). AllByRecursion P (flat_map frame_values fs ++ rest)) e h) in
    all_right P _ f.stack.values (all_left P (frame_values f) (flat_map frame_values callers) all)

pub stack_held : (core : Core) → All (IsHeldBy core.store) (core_values core) → AllByRecursion (IsHeldBy core.store) (running_stack core)
unfolding running_stack core_values
stack_held core h = by core.frames refl
  where
    by : (frames : List Frame) → core.frames ≡ frames → AllByRecursion (IsHeldBy core.store) (running_stack core)
    by [] e = rw e tt
    by (f ∷ callers) e = rw e (of_first core.store core.frames (store_values core.store) f callers e (recursion_from_All (IsHeldBy core.store) (core_values core) h))

-- the values that are taken off the stack
pub arguments_held : (core : Core) (n : ℕ) (vs : List Value) → All (IsHeldBy core.store) (core_values core) → vs ≡ reverse (take n (running_stack core))
    → All (IsHeldBy core.store) vs
arguments_held core n vs h e =
    let P = IsHeldBy core.store in
    All-from_recursion P vs
    (subst (AllByRecursion P) (sym e) (all_reverse P (take n (running_stack core)) (all_take P n (running_stack core) (stack_held core h))))
