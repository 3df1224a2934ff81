-- Where a row on objects throws an object the frames are as they were, and where the last frame returns none is left.
use Rattle.std.proofs.Common.{◌≡◌, refl, ℕ, ℤ, pos, negsuc, Bool, true, false, List, [], ◌∷◌, length, Option, Some, None, reverse, take, drop}
use Rattle.std.specs.Prelude.{not, nat_lt, if◌then◌else◌, map, slice_get}
use Rattle.jx_base.specs.Basics.{not_below_zero}
use Rattle.class_grammar.specs.Flags.{is_abstract}
use Rattle.jx_base.specs.declared.act.Act.TheVariants as act
use Rattle.jx_base.specs.declared.class_file.Instr.{Instr}
use Rattle.jx_base.specs.declared.frame.Frame.{Frame}
use Rattle.jx_base.specs.declared.ids.ServiceId.{ServiceId}
use Rattle.jx_base.specs.declared.program.Method.{Method}
use Rattle.jx_base.specs.declared.program.Resolved.{Resolved}
use Rattle.jx_base.specs.declared.program.Resolved.TheVariants as resolved
use Rattle.jx_base.specs.declared.program.System.{System}
use Rattle.jx_base.specs.declared.row.Element.{Element}
use Rattle.jx_base.specs.declared.row.Invocation.{Invocation}
use Rattle.jx_base.specs.declared.row.Invocation.TheVariants as invocation
use Rattle.jx_base.specs.declared.row.Kind.{Kind}
use Rattle.jx_base.specs.declared.row.Row.{Row}
use Rattle.jx_base.specs.declared.row.Row.TheVariants as row
use Rattle.jx_base.specs.declared.value.Parcel.{Parcel}
use Rattle.jx_base.specs.declared.value.Value.{Value}
use Rattle.jx_base.specs.declared.value.Value.TheVariants as value
use Rattle.machine_model.specs.BuiltInMethods.{BuiltInOutcome, Gives, HasNoRoom, Performs, Raises, Unfit, built_in_outcome, text_cells}
use Rattle.machine_model.specs.NumericRows.{Stack, is_null}
use Rattle.machine_model.specs.ObjectRows.{Making, ObjectOutcome, Taken, at_index, built_in_row, check_row, class_row, component_for, component_of, constant_row, constant_used_row, enter_row, field_type, fits_class, fitting_value, get_field_row, get_static_row, given, has_negative, instance_row, ints_of, invoke_at, invoke_on, invoke_row, is_object_of, kind_of, leaves, leaves_new, length_row, literal_of, load_row, with_literal, multi_array_row, name_of_class, nested_arrays, new_array_row, new_row, next_unless_overfull, object_row, object_row_in, place_in, plain_row, portal_row, put_field_row, put_static_row, result_of, return_row, return_value_row, return_void_row, run_row, selected_row, store_in, store_row, taken_arguments, text_row, throw_row, type_of, uses_constant, with_object}
use Rattle.machine_model.specs.ObjectRows as outcome
use Rattle.machine_model.specs.State.{Core, Store, cells_of, class_of_frame, frame_of, is_overflow, is_overfull, kept_value, new_object, shape_of, with_cell, with_running, with_values}
use Rattle.program_model.specs.BuiltIn.{array_index_exception, array_store_exception, class_cast_exception, copy_exception, negative_size_exception, null_pointer_exception, stack_overflow_error, string_class, throwable_class}
use Rattle.program_model.specs.Instructions.{index_operand}
use Rattle.program_model.specs.Lookup.{constant_at, is_built_in, shape_fits, shape_fits_class}
use Rattle.program_model.specs.Parcels.{packed}
use Rattle.program_model.specs.Types.{element_type, is_void}
use Rattle.std.specs.Option.{option_map}
use Rattle.class_grammar.specs.Opcodes.{row_at}

-- the frames that the outcome of a row leaves
abbrev pub LeavesIn : Core → ObjectOutcome → Type 0
LeavesIn core (outcome.Raised r new) = new.frames ≡ core.frames
LeavesIn core (outcome.Finish v new) = new.frames ≡ []
LeavesIn core _ = Unit {0}

next_in : (s : System) (core : Core) (store : Store) (frames : List Frame) → LeavesIn core (next_unless_overfull s store frames)
unfolding next_unless_overfull
next_in s core store frames = by (is_overfull s frames)
  where
    by : (b : Bool) → LeavesIn core (if b then outcome.BadCode else outcome.Next (record { frames = frames; store = store }))
    by true = tt
    by false = tt

module _ (s : System) (core : Core) where
  -- the same of this core
  abbrev pub LeavesFrames : ObjectOutcome → Type 0
  LeavesFrames o = LeavesIn core o

  given_frames : {A : Type 0} (o : Option A) (go : A → ObjectOutcome) → ((x : A) → LeavesFrames (go x)) → LeavesFrames (given o go)
  unfolding given
  given_frames None go h = tt
  given_frames (Some x) go h = h x

  next_frames : (store : Store) (frames : List Frame) → LeavesFrames (next_unless_overfull s store frames)
  next_frames store frames = next_in s core store frames

  leaves_frames : (store : Store) (stack : Stack) → LeavesFrames (leaves s core store stack)
  unfolding leaves
  leaves_frames store stack = next_frames store _

  new_frames : (stack : Stack) (x : Option (Store × ℕ)) → LeavesFrames (leaves_new s core stack x)
  unfolding leaves_new
  new_frames stack None = refl
  new_frames stack (Some x) = leaves_frames x.0 _

  -- ---- constants and arrays

  text_frames : (text : List ℕ) (stack : Stack) → LeavesFrames (text_row s core text stack)
  unfolding text_row
  text_frames text stack = by (literal_of core.store.literals text)
    where
      by : (o : Option ℕ) → LeavesFrames (elim o as (λ _. ObjectOutcome) [
        | Some r ↦ leaves s core core.store (value.Ref r ∷ stack)
        | None ↦ leaves_new s core stack (option_map (with_literal text) (new_object core.store string_class (text_cells text)))
      ])
      by (Some r) = leaves_frames core.store _
      by None = new_frames stack _

  constant_frames : (x : Resolved) (stack : Stack) → LeavesFrames (constant_row s core x stack)
  unfolding constant_row
  constant_frames (resolved.Int n) stack = leaves_frames core.store _
  constant_frames (resolved.Str text) stack = text_frames text stack
  constant_frames _ stack = tt

  at_frames : (store : Store) (r : ℕ) (i : ℤ) (go : ℕ → ObjectOutcome) → ((k : ℕ) → LeavesFrames (go k)) → LeavesFrames (at_index store r i go)
  unfolding at_index
  at_frames store r i go h = by (place_in i (length (cells_of store r)))
    where
      by : (o : Option ℕ) → LeavesFrames (elim o as (λ _. ObjectOutcome) [ None ↦ outcome.Raise array_index_exception | Some k ↦ go k ])
      by None = tt
      by (Some k) = h k

  load_frames : (e : Element) (stack : Stack) → LeavesFrames (load_row s core e stack)
  unfolding load_row
  load_frames e (value.Int i ∷ value.Null ∷ rest) = tt
  load_frames e (value.Int i ∷ value.Ref r ∷ rest) = given_frames _ _ (λ type. at_frames core.store r i _ (λ k. given_frames _ _ (λ v. leaves_frames core.store _)))
  load_frames e _ = tt

  store_in_frames : (e : Element) (v : Value) (i : ℤ) (r : ℕ) (rest : Stack) → LeavesFrames (store_in s core e v i r rest)
  unfolding store_in
  store_in_frames e v i r rest = given_frames _ _ (λ type. at_frames core.store r i _ (λ k. by type k (shape_fits s false (shape_of core.store v) type)))
    where
      by : (type : List ℕ) (k : ℕ) (b : Bool) → LeavesFrames (if b then leaves s core (with_cell core.store r k (kept_value type v)) rest else outcome.Raise array_store_exception)
      by type k true = leaves_frames _ _
      by type k false = tt

  store_frames : (e : Element) (stack : Stack) → LeavesFrames (store_row s core e stack)
  unfolding store_row
  store_frames e (v ∷ value.Int i ∷ value.Null ∷ rest) = given_frames _ _ (λ x. tt)
  store_frames e (v ∷ value.Int i ∷ value.Ref r ∷ rest) = given_frames _ _ (λ x. store_in_frames e x i r rest)
  store_frames e _ = tt

  length_frames : (stack : Stack) → LeavesFrames (length_row s core stack)
  unfolding length_row
  length_frames (value.Null ∷ rest) = tt
  length_frames (value.Ref r ∷ rest) = given_frames _ _ (λ type. leaves_frames core.store _)
  length_frames _ = tt

  new_array_frames : (type : List ℕ) (stack : Stack) → LeavesFrames (new_array_row s core type stack)
  unfolding new_array_row
  new_array_frames type (value.Int (pos n) ∷ rest) = given_frames _ _ (λ c. new_frames rest _)
  new_array_frames type (value.Int (negsuc n) ∷ rest) = tt
  new_array_frames type _ = tt

  multi_frames : (type : List ℕ) (dimensions : ℕ) (stack : Stack) → LeavesFrames (multi_array_row s core type dimensions stack)
  unfolding multi_array_row
  multi_frames type dimensions stack = by (nat_lt (length stack) dimensions)
    where
      made : (store : Store) (o : Option ℕ) → LeavesFrames (elim o as (λ _. ObjectOutcome) [
        | None ↦ outcome.Raised 0 (record core { store = store })
        | Some r ↦ leaves s core store (value.Ref r ∷ drop dimensions stack)
      ])
      made store None = refl
      made store (Some r) = leaves_frames store _

      checked : (lengths : List ℤ) (b : Bool) → LeavesFrames (if b then outcome.Raise negative_size_exception else
          elim (nested_arrays s (map not_below_zero lengths) type core.store).array as (λ _. ObjectOutcome) [
            | None ↦ outcome.Raised 0 (record core { store = (nested_arrays s (map not_below_zero lengths) type core.store).store })
            | Some r ↦ leaves s core (nested_arrays s (map not_below_zero lengths) type core.store).store (value.Ref r ∷ drop dimensions stack)
          ])
      checked lengths true = tt
      checked lengths false = made (nested_arrays s (map not_below_zero lengths) type core.store).store (nested_arrays s (map not_below_zero lengths) type core.store).array

      by : (b : Bool) → LeavesFrames (if b then outcome.BadCode else given (ints_of (reverse (take dimensions stack))) (λ lengths.
          if has_negative lengths then outcome.Raise negative_size_exception else
          elim (nested_arrays s (map not_below_zero lengths) type core.store).array as (λ _. ObjectOutcome) [
            | None ↦ outcome.Raised 0 (record core { store = (nested_arrays s (map not_below_zero lengths) type core.store).store })
            | Some r ↦ leaves s core (nested_arrays s (map not_below_zero lengths) type core.store).store (value.Ref r ∷ drop dimensions stack)
          ]))
      by true = tt
      by false = given_frames _ _ (λ lengths. checked lengths (has_negative lengths))

  -- ---- fields and classes

  get_field_frames : (c i : ℕ) (stack : Stack) → LeavesFrames (get_field_row s core c i stack)
  unfolding get_field_row
  get_field_frames c i (value.Null ∷ rest) = tt
  get_field_frames c i (value.Ref r ∷ rest) = by (is_object_of s core.store c r)
    where
      by : (b : Bool) → LeavesFrames (if b then given (slice_get (cells_of core.store r) i) (λ v. leaves s core core.store (v ∷ rest)) else outcome.BadCode)
      by true = given_frames _ _ (λ v. leaves_frames core.store _)
      by false = tt
  get_field_frames c i _ = tt

  put_into_frames : (c i : ℕ) (rest : Stack) (x : Value) (r : ℕ) (b : Bool) → LeavesFrames (if b then leaves s core (with_cell core.store r i x) rest else outcome.BadCode)
  put_into_frames c i rest x r true = leaves_frames _ rest
  put_into_frames c i rest x r false = tt

  put_field_frames : (c i : ℕ) (stack : Stack) → LeavesFrames (put_field_row s core c i stack)
  unfolding put_field_row
  put_field_frames c i (v ∷ value.Null ∷ rest) = given_frames _ _ (λ x. tt)
  put_field_frames c i (v ∷ value.Ref r ∷ rest) = given_frames _ _ (λ x. put_into_frames c i rest x r (is_object_of s core.store c r))
  put_field_frames c i (v ∷ value.Int n ∷ rest) = given_frames _ _ (λ x. tt)
  put_field_frames c i (v ∷ value.Long n ∷ rest) = given_frames _ _ (λ x. tt)
  put_field_frames c i (v ∷ value.Portal n k ∷ rest) = given_frames _ _ (λ x. tt)
  put_field_frames c i (v ∷ value.Mem n ∷ rest) = given_frames _ _ (λ x. tt)
  put_field_frames c i (v ∷ []) = tt
  put_field_frames c i [] = tt

  get_static_frames : (i : ℕ) (stack : Stack) → LeavesFrames (get_static_row s core i stack)
  unfolding get_static_row
  get_static_frames i stack = given_frames _ _ (λ v. leaves_frames core.store _)

  put_static_frames : (i : ℕ) (stack : Stack) → LeavesFrames (put_static_row s core i stack)
  unfolding put_static_row
  put_static_frames i [] = tt
  put_static_frames i (v ∷ rest) = given_frames _ _ (λ x. leaves_frames _ rest)

  check_frames : (c : ℕ) (stack : Stack) → LeavesFrames (check_row s core c stack)
  unfolding check_row
  check_frames c [] = tt
  check_frames c (v ∷ rest) = given_frames _ _ (λ x. by x (fits_class s core.store x c))
    where
      by : (x : Value) (b : Bool) → LeavesFrames (if b then leaves s core core.store (x ∷ rest) else outcome.Raise class_cast_exception)
      by x true = leaves_frames core.store _
      by x false = tt

  instance_frames : (c : ℕ) (stack : Stack) → LeavesFrames (instance_row s core c stack)
  unfolding instance_row
  instance_frames c [] = tt
  instance_frames c (v ∷ rest) = given_frames _ _ (λ x. leaves_frames core.store _)

  throw_frames : (stack : Stack) → LeavesFrames (throw_row s core stack)
  unfolding throw_row
  throw_frames (value.Null ∷ rest) = tt
  throw_frames (value.Ref r ∷ rest) = by (is_object_of s core.store throwable_class r)
    where
      by : (b : Bool) → LeavesFrames (if b then outcome.Raised r core else outcome.BadCode)
      by true = refl
      by false = tt
  throw_frames _ = tt

  class_frames : (r : Row) (i : Instr) (c : ℕ) (stack : Stack) → LeavesFrames (class_row s core r i c stack)
  unfolding class_row new_row
  class_frames row.New i c stack = new_frames stack _
  class_frames row.NewReferenceArray i c stack = given_frames _ _ (λ type. new_array_frames type stack)
  class_frames row.NewMultiArray i c stack = given_frames _ _ (λ type. multi_frames type (index_operand i 1) stack)
  class_frames row.CheckCast i c stack = check_frames c stack
  class_frames row.InstanceOf i c stack = instance_frames c stack
  class_frames _ i c stack = tt

  -- ---- calls

  built_in_frames : (below : Stack) (o : BuiltInOutcome) → LeavesFrames (built_in_row s core below o)
  unfolding built_in_row
  built_in_frames below (Gives store v) = leaves_frames store _
  built_in_frames below (Performs a) = tt
  built_in_frames below (Raises c) = tt
  built_in_frames below HasNoRoom = refl
  built_in_frames below Unfit = tt

  enter_frames : (m : ℕ) (x : Taken) → LeavesFrames (enter_row s core m x)
  unfolding enter_row
  enter_frames m x = by (is_overflow s m core.frames)
    where
      by : (b : Bool) → LeavesFrames (if b then outcome.Raise stack_overflow_error
          else given (frame_of s m x.arguments) (λ f. next_unless_overfull s core.store (f ∷ with_running (with_values x.below) core.frames)))
      by true = tt
      by false = given_frames _ _ (λ f. next_frames core.store _)

  run_frames : (m : ℕ) (x : Taken) → LeavesFrames (run_row s core m x)
  unfolding run_row
  run_frames m x = given_frames _ _ (λ k. by k (is_abstract k.flags) (is_built_in k.class.0))
    where
      by : (k : Method) (a b : Bool) → LeavesFrames (if a then outcome.BadCode else if b then built_in_row s core x.below (built_in_outcome s core.store k x.arguments) else enter_row s core m x)
      by k true b = tt
      by k false true = built_in_frames x.below _
      by k false false = enter_frames m x

  portal_frames : (service : ServiceId) (k : Method) (args : List Value) → LeavesFrames (portal_row core service k args)
  unfolding portal_row
  portal_frames service k args = by (packed core.store.objects core.store.exports args)
    where
      by : (o : Option Parcel) → LeavesFrames (elim o as (λ _. ObjectOutcome) [ None ↦ outcome.Raise copy_exception | Some p ↦ outcome.Ask (act.Call service k.selector p) ])
      by None = tt
      by (Some p) = tt

  selected_frames : (k : Method) (o : Value) (x : Taken) → LeavesFrames (selected_row s core k o x)
  unfolding selected_row
  selected_frames k o x = given_frames _ _ (λ m. run_frames m x)

  at_object_frames : (kind : Invocation) (m : ℕ) (k : Method) (o : Value) (x : Taken) → LeavesFrames (invoke_at s core kind m k o x)
  unfolding invoke_at
  at_object_frames invocation.Special m k o x = run_frames m x
  at_object_frames invocation.Interface m k (value.Portal service iface) x = portal_frames service k _
  at_object_frames invocation.Interface m k (value.Int n) x = selected_frames k (value.Int n) x
  at_object_frames invocation.Interface m k (value.Long n) x = selected_frames k (value.Long n) x
  at_object_frames invocation.Interface m k value.Null x = selected_frames k value.Null x
  at_object_frames invocation.Interface m k (value.Ref n) x = selected_frames k (value.Ref n) x
  at_object_frames invocation.Interface m k (value.Mem n) x = selected_frames k (value.Mem n) x
  at_object_frames invocation.Virtual m k o x = selected_frames k o x
  at_object_frames invocation.Static m k o x = selected_frames k o x

  on_object_frames : (kind : Invocation) (m : ℕ) (k : Method) (o : Value) (x : Taken) → LeavesFrames (invoke_on s core kind m k o x)
  unfolding invoke_on
  on_object_frames kind m k o x = by (shape_fits_class s true (shape_of core.store o) k.class.0) (is_null o)
    where
      by : (a b : Bool) → LeavesFrames (if not a then outcome.BadCode else if b then outcome.Raise null_pointer_exception else invoke_at s core kind m k o x)
      by false b = tt
      by true true = tt
      by true false = at_object_frames kind m k o x

  with_object_frames : (kind : Invocation) (m : ℕ) (k : Method) (x : Taken) → LeavesFrames (given (with_object x) (λ y. invoke_on s core kind m k y.0 y.1))
  with_object_frames kind m k x = given_frames (with_object x) (λ y. invoke_on s core kind m k y.0 y.1) (λ y. on_object_frames kind m k y.0 y.1)

  invoke_frames : (kind : Invocation) (m : ℕ) (stack : Stack) → LeavesFrames (invoke_row s core kind m stack)
  unfolding invoke_row
  invoke_frames invocation.Static m stack = given_frames _ _ (λ k. given_frames _ _ (λ y. given_frames _ _ (λ x. run_frames m x)))
  invoke_frames invocation.Special m stack = given_frames _ _ (λ k. given_frames _ _ (λ y. given_frames _ _ (λ x. with_object_frames invocation.Special m k x)))
  invoke_frames invocation.Virtual m stack = given_frames _ _ (λ k. given_frames _ _ (λ y. given_frames _ _ (λ x. with_object_frames invocation.Virtual m k x)))
  invoke_frames invocation.Interface m stack = given_frames _ _ (λ k. given_frames _ _ (λ y. given_frames _ _ (λ x. with_object_frames invocation.Interface m k x)))

  -- ---- returns

  return_frames : (v : Option Value) → LeavesFrames (return_row s core v)
  unfolding return_row
  return_frames v = by core.frames refl
    where
      by : (frames : List Frame) → core.frames ≡ frames → LeavesFrames (return_row s core v)
      by [] e = rw e tt
      by (f ∷ []) e = rw e refl
      by (f ∷ g ∷ frames) e = rw e (next_in s (record { frames = f ∷ g ∷ frames; store = core.store }) core.store _)

  return_value_frames : (k : Kind) (stack : Stack) → LeavesFrames (return_value_row s core k stack)
  unfolding return_value_row
  return_value_frames k [] = tt
  return_value_frames k (v ∷ rest) = given_frames _ _ (λ x. given_frames _ _ (λ type. by x (shape_fits s true (shape_of core.store x) type)))
    where
      by : (x : Value) (b : Bool) → LeavesFrames (if b then return_row s core (Some x) else outcome.BadCode)
      by x true = return_frames (Some x)
      by x false = tt

  return_void_frames : LeavesFrames (return_void_row s core)
  unfolding return_void_row
  return_void_frames = given_frames _ _ (λ type. by (is_void type))
    where
      by : (b : Bool) → LeavesFrames (if b then return_row s core None else outcome.BadCode)
      by true = return_frames None
      by false = tt

  -- ---- the rows

  used_frames : (r : Row) (i : Instr) (x : Resolved) (stack : Stack) → LeavesFrames (constant_used_row s core r i x stack)
  unfolding constant_used_row
  used_frames row.PushConstant i x stack = constant_frames x stack
  used_frames row.GetStatic i (resolved.Static c n) stack = get_static_frames n stack
  used_frames row.PutStatic i (resolved.Static c n) stack = put_static_frames n stack
  used_frames row.GetField i (resolved.Instance c n) stack = get_field_frames c.0 n stack
  used_frames row.PutField i (resolved.Instance c n) stack = put_field_frames c.0 n stack
  used_frames (row.Invoke kind) i (resolved.Method m) stack = invoke_frames kind m stack
  used_frames r i (resolved.Class c) stack = class_frames r i c.0 stack
  used_frames r i _ stack = tt

  plain_frames : (r : Row) (i : Instr) (stack : Stack) → LeavesFrames (plain_row s core r i stack)
  unfolding plain_row
  plain_frames (row.LoadElement e) i stack = load_frames e stack
  plain_frames (row.StoreElement e) i stack = store_frames e stack
  plain_frames row.NewArray i stack = new_array_frames (element_type (index_operand i 0)) stack
  plain_frames row.ArrayLength i stack = length_frames stack
  plain_frames row.Throw i stack = throw_frames stack
  plain_frames (row.Return k) i stack = return_value_frames k stack
  plain_frames row.ReturnVoid i stack = return_void_frames
  plain_frames _ i stack = tt

  row_frames : (f : Frame) (i : Instr) → LeavesFrames (object_row_in s core f i)
  unfolding object_row_in
  row_frames f i = by (uses_constant (row_at i.opcode))
    where
      by : (b : Bool) → LeavesFrames (elim b as (λ _. ObjectOutcome) [
        | true ↦ given (constant_at s (class_of_frame s f) (index_operand i 0)) (λ x. constant_used_row s core (row_at i.opcode) i x f.stack.values)
        | false ↦ plain_row s core (row_at i.opcode) i f.stack.values
      ])
      by true = given_frames _ _ (λ x. used_frames (row_at i.opcode) i x f.stack.values)
      by false = plain_frames (row_at i.opcode) i f.stack.values

  pub object_frames : (i : Instr) → LeavesFrames (object_row s core i)
  unfolding object_row
  object_frames i = by core.frames
    where
      by : (fs : List Frame) → LeavesFrames (elim fs as (λ _. ObjectOutcome) [ [] ↦ outcome.BadCode | f ∷ frames ↦ object_row_in s core f i ])
      by [] = tt
      by (f ∷ fs) = row_frames f i
