-- The rows on objects and calls have an outcome of their own.
use Rattle.std.proofs.Common.{◌≡◌, ◌≢◌, refl, subst, ℕ, ℤ, pos, negsuc, Bool, true, false, List, [], ◌∷◌, length, Option, Some, None, reverse, take, drop}
use Rattle.std.specs.Prelude.{not, nat_lt, if◌then◌else◌, map, slice_get}
use Rattle.jx_base.specs.Basics.{not_below_zero}
use Rattle.class_grammar.specs.Flags.{is_abstract}
use Rattle.jx_base.specs.declared.act.Act.TheVariants as act
use Rattle.jx_base.specs.declared.class_file.Instr.{Instr}
use Rattle.jx_base.specs.declared.frame.Frame.{Frame}
use Rattle.jx_base.specs.declared.ids.ServiceId.{ServiceId}
use Rattle.jx_base.specs.declared.program.Method.{Method}
use Rattle.jx_base.specs.declared.program.Resolved.{Resolved}
use Rattle.jx_base.specs.declared.program.Resolved.TheVariants as resolved
use Rattle.jx_base.specs.declared.program.System.{System}
use Rattle.jx_base.specs.declared.row.Element.{Element}
use Rattle.jx_base.specs.declared.row.Invocation.{Invocation}
use Rattle.jx_base.specs.declared.row.Invocation.TheVariants as invocation
use Rattle.jx_base.specs.declared.row.Kind.{Kind}
use Rattle.jx_base.specs.declared.row.Row.{Row}
use Rattle.jx_base.specs.declared.row.Row.TheVariants as row
use Rattle.jx_base.specs.declared.value.Parcel.{Parcel}
use Rattle.jx_base.specs.declared.value.Value.{Value}
use Rattle.jx_base.specs.declared.value.Value.TheVariants as value
use Rattle.machine_model.specs.BuiltInMethods.{BuiltInOutcome, Gives, HasNoRoom, Performs, Raises, Unfit, built_in_outcome, text_cells}
use Rattle.machine_model.specs.NumericRows.{Stack, is_null}
use Rattle.machine_model.specs.ObjectRows.{Making, ObjectOutcome, Taken, at_index, built_in_row, check_row, class_row, component_for, component_of, constant_row, constant_used_row, enter_row, field_type, fits_class, fitting_value, get_field_row, get_static_row, given, has_negative, instance_row, ints_of, invoke_at, invoke_on, invoke_row, is_object_of, kind_of, leaves, leaves_new, length_row, literal_of, load_row, with_literal, multi_array_row, name_of_class, nested_arrays, new_array_row, new_row, next_unless_overfull, object_row_in, place_in, plain_row, portal_row, put_field_row, put_static_row, result_of, return_row, return_value_row, return_void_row, run_row, selected_row, store_in, store_row, taken_arguments, text_row, throw_row, type_of, uses_constant, with_object}
use Rattle.machine_model.specs.ObjectRows as outcome
use Rattle.machine_model.specs.State.{Core, Store, cells_of, frame_of, is_overflow, is_overfull, kept_value, new_object, shape_of, with_cell, with_running, with_values}
use Rattle.program_model.specs.BuiltIn.{array_index_exception, array_store_exception, class_cast_exception, copy_exception, negative_size_exception, null_pointer_exception, stack_overflow_error, string_class, throwable_class}
use Rattle.program_model.specs.Instructions.{index_operand}
use Rattle.program_model.specs.Lookup.{is_built_in, shape_fits, shape_fits_class}
use Rattle.program_model.specs.Parcels.{packed}
use Rattle.program_model.specs.Types.{element_type, is_void}
use Rattle.std.specs.Option.{option_map}
use Rattle.interp_num.specs.Steps.{is_numeric}
use Rattle.interp_obj.specs.ObjectSteps.{is_object_row}

-- an outcome of its own
abbrev IsMine : ObjectOutcome → Type 0
IsMine outcome.NotMine = ⊥
IsMine _ = Unit {0}

given_mine : {A : Type 0} (o : Option A) (go : A → ObjectOutcome) → ((x : A) → IsMine (go x)) → IsMine (given o go)
unfolding given
given_mine None go h = tt
given_mine (Some x) go h = h x

module _ (s : System) (core : Core) where
  next_mine : (store : Store) (frames : List Frame) → IsMine (next_unless_overfull s store frames)
  unfolding next_unless_overfull
  next_mine store frames = by (is_overfull s frames)
    where
      by : (b : Bool) → IsMine (if b then outcome.BadCode else outcome.Next (record { frames = frames; store = store }))
      by true = tt
      by false = tt

  leaves_mine : (store : Store) (stack : Stack) → IsMine (leaves s core store stack)
  unfolding leaves
  leaves_mine store stack = next_mine store _

  new_mine : (stack : Stack) (x : Option (Store × ℕ)) → IsMine (leaves_new s core stack x)
  unfolding leaves_new
  new_mine stack None = tt
  new_mine stack (Some x) = leaves_mine x.0 _

  -- ---- constants and arrays

  text_mine : (text : List ℕ) (stack : Stack) → IsMine (text_row s core text stack)
  unfolding text_row
  text_mine text stack = by (literal_of core.store.literals text)
    where
      by : (o : Option ℕ) → IsMine (elim o as (λ _. ObjectOutcome) [
        | Some r ↦ leaves s core core.store (value.Ref r ∷ stack)
        | None ↦ leaves_new s core stack (option_map (with_literal text) (new_object core.store string_class (text_cells text)))
      ])
      by (Some r) = leaves_mine core.store _
      by None = new_mine stack _

  constant_mine : (x : Resolved) (stack : Stack) → IsMine (constant_row s core x stack)
  unfolding constant_row
  constant_mine (resolved.Int n) stack = leaves_mine core.store _
  constant_mine (resolved.Str text) stack = text_mine text stack
  constant_mine _ stack = tt

  at_mine : (store : Store) (r : ℕ) (i : ℤ) (go : ℕ → ObjectOutcome) → ((k : ℕ) → IsMine (go k)) → IsMine (at_index store r i go)
  unfolding at_index
  at_mine store r i go h = by (place_in i (length (cells_of store r)))
    where
      by : (o : Option ℕ) → IsMine (elim o as (λ _. ObjectOutcome) [ None ↦ outcome.Raise array_index_exception | Some k ↦ go k ])
      by None = tt
      by (Some k) = h k

  load_mine : (e : Element) (stack : Stack) → IsMine (load_row s core e stack)
  unfolding load_row
  load_mine e (value.Int i ∷ value.Null ∷ rest) = tt
  load_mine e (value.Int i ∷ value.Ref r ∷ rest) = given_mine _ _ (λ type. at_mine core.store r i _ (λ k. given_mine _ _ (λ v. leaves_mine core.store _)))
  load_mine e _ = tt

  store_in_mine : (e : Element) (v : Value) (i : ℤ) (r : ℕ) (rest : Stack) → IsMine (store_in s core e v i r rest)
  unfolding store_in
  store_in_mine e v i r rest = given_mine _ _ (λ type. at_mine core.store r i _ (λ k. by type k (shape_fits s false (shape_of core.store v) type)))
    where
      by : (type : List ℕ) (k : ℕ) (b : Bool) → IsMine (if b then leaves s core (with_cell core.store r k (kept_value type v)) rest else outcome.Raise array_store_exception)
      by type k true = leaves_mine _ _
      by type k false = tt

  store_mine : (e : Element) (stack : Stack) → IsMine (store_row s core e stack)
  unfolding store_row
  store_mine e (v ∷ value.Int i ∷ value.Null ∷ rest) = given_mine _ _ (λ x. tt)
  store_mine e (v ∷ value.Int i ∷ value.Ref r ∷ rest) = given_mine _ _ (λ x. store_in_mine e x i r rest)
  store_mine e _ = tt

  length_mine : (stack : Stack) → IsMine (length_row s core stack)
  unfolding length_row
  length_mine (value.Null ∷ rest) = tt
  length_mine (value.Ref r ∷ rest) = given_mine _ _ (λ type. leaves_mine core.store _)
  length_mine _ = tt

  new_array_mine : (type : List ℕ) (stack : Stack) → IsMine (new_array_row s core type stack)
  unfolding new_array_row
  new_array_mine type (value.Int (pos n) ∷ rest) = given_mine _ _ (λ c. new_mine rest _)
  new_array_mine type (value.Int (negsuc n) ∷ rest) = tt
  new_array_mine type _ = tt

  multi_mine : (type : List ℕ) (dimensions : ℕ) (stack : Stack) → IsMine (multi_array_row s core type dimensions stack)
  unfolding multi_array_row
  multi_mine type dimensions stack = by (nat_lt (length stack) dimensions)
    where
      made : (store : Store) (o : Option ℕ) → IsMine (elim o as (λ _. ObjectOutcome) [
        | None ↦ outcome.Raised 0 (record core { store = store })
        | Some r ↦ leaves s core store (value.Ref r ∷ drop dimensions stack)
      ])
      made store None = tt
      made store (Some r) = leaves_mine store _

      checked : (lengths : List ℤ) (b : Bool) → IsMine (if b then outcome.Raise negative_size_exception else
          elim (nested_arrays s (map not_below_zero lengths) type core.store).array as (λ _. ObjectOutcome) [
            | None ↦ outcome.Raised 0 (record core { store = (nested_arrays s (map not_below_zero lengths) type core.store).store })
            | Some r ↦ leaves s core (nested_arrays s (map not_below_zero lengths) type core.store).store (value.Ref r ∷ drop dimensions stack)
          ])
      checked lengths true = tt
      checked lengths false = made (nested_arrays s (map not_below_zero lengths) type core.store).store (nested_arrays s (map not_below_zero lengths) type core.store).array

      by : (b : Bool) → IsMine (if b then outcome.BadCode else given (ints_of (reverse (take dimensions stack))) (λ lengths.
          if has_negative lengths then outcome.Raise negative_size_exception else
          elim (nested_arrays s (map not_below_zero lengths) type core.store).array as (λ _. ObjectOutcome) [
            | None ↦ outcome.Raised 0 (record core { store = (nested_arrays s (map not_below_zero lengths) type core.store).store })
            | Some r ↦ leaves s core (nested_arrays s (map not_below_zero lengths) type core.store).store (value.Ref r ∷ drop dimensions stack)
          ]))
      by true = tt
      by false = given_mine _ _ (λ lengths. checked lengths (has_negative lengths))

  -- ---- fields and classes

  get_field_mine : (c i : ℕ) (stack : Stack) → IsMine (get_field_row s core c i stack)
  unfolding get_field_row
  get_field_mine c i (value.Null ∷ rest) = tt
  get_field_mine c i (value.Ref r ∷ rest) = by (is_object_of s core.store c r)
    where
      by : (b : Bool) → IsMine (if b then given (slice_get (cells_of core.store r) i) (λ v. leaves s core core.store (v ∷ rest)) else outcome.BadCode)
      by true = given_mine _ _ (λ v. leaves_mine core.store _)
      by false = tt
  get_field_mine c i _ = tt

  put_into_mine : (c i : ℕ) (rest : Stack) (x : Value) (r : ℕ) (b : Bool) → IsMine (if b then leaves s core (with_cell core.store r i x) rest else outcome.BadCode)
  put_into_mine c i rest x r true = leaves_mine _ rest
  put_into_mine c i rest x r false = tt

  put_field_mine : (c i : ℕ) (stack : Stack) → IsMine (put_field_row s core c i stack)
  unfolding put_field_row
  put_field_mine c i (v ∷ value.Null ∷ rest) = given_mine _ _ (λ x. tt)
  put_field_mine c i (v ∷ value.Ref r ∷ rest) = given_mine _ _ (λ x. put_into_mine c i rest x r (is_object_of s core.store c r))
  put_field_mine c i (v ∷ value.Int n ∷ rest) = given_mine _ _ (λ x. tt)
  put_field_mine c i (v ∷ value.Long n ∷ rest) = given_mine _ _ (λ x. tt)
  put_field_mine c i (v ∷ value.Portal n k ∷ rest) = given_mine _ _ (λ x. tt)
  put_field_mine c i (v ∷ value.Mem n ∷ rest) = given_mine _ _ (λ x. tt)
  put_field_mine c i (v ∷ []) = tt
  put_field_mine c i [] = tt

  get_static_mine : (i : ℕ) (stack : Stack) → IsMine (get_static_row s core i stack)
  unfolding get_static_row
  get_static_mine i stack = given_mine _ _ (λ v. leaves_mine core.store _)

  put_static_mine : (i : ℕ) (stack : Stack) → IsMine (put_static_row s core i stack)
  unfolding put_static_row
  put_static_mine i [] = tt
  put_static_mine i (v ∷ rest) = given_mine _ _ (λ x. leaves_mine _ rest)

  check_mine : (c : ℕ) (stack : Stack) → IsMine (check_row s core c stack)
  unfolding check_row
  check_mine c [] = tt
  check_mine c (v ∷ rest) = given_mine _ _ (λ x. by x (fits_class s core.store x c))
    where
      by : (x : Value) (b : Bool) → IsMine (if b then leaves s core core.store (x ∷ rest) else outcome.Raise class_cast_exception)
      by x true = leaves_mine core.store _
      by x false = tt

  instance_mine : (c : ℕ) (stack : Stack) → IsMine (instance_row s core c stack)
  unfolding instance_row
  instance_mine c [] = tt
  instance_mine c (v ∷ rest) = given_mine _ _ (λ x. leaves_mine core.store _)

  throw_mine : (stack : Stack) → IsMine (throw_row s core stack)
  unfolding throw_row
  throw_mine (value.Null ∷ rest) = tt
  throw_mine (value.Ref r ∷ rest) = by (is_object_of s core.store throwable_class r)
    where
      by : (b : Bool) → IsMine (if b then outcome.Raised r core else outcome.BadCode)
      by true = tt
      by false = tt
  throw_mine _ = tt

  class_mine : (r : Row) (i : Instr) (c : ℕ) (stack : Stack) → IsMine (class_row s core r i c stack)
  unfolding class_row new_row
  class_mine row.New i c stack = new_mine stack _
  class_mine row.NewReferenceArray i c stack = given_mine _ _ (λ type. new_array_mine type stack)
  class_mine row.NewMultiArray i c stack = given_mine _ _ (λ type. multi_mine type (index_operand i 1) stack)
  class_mine row.CheckCast i c stack = check_mine c stack
  class_mine row.InstanceOf i c stack = instance_mine c stack
  class_mine _ i c stack = tt

  -- ---- calls

  built_in_mine : (below : Stack) (o : BuiltInOutcome) → IsMine (built_in_row s core below o)
  unfolding built_in_row
  built_in_mine below (Gives store v) = leaves_mine store _
  built_in_mine below (Performs a) = tt
  built_in_mine below (Raises c) = tt
  built_in_mine below HasNoRoom = tt
  built_in_mine below Unfit = tt

  enter_mine : (m : ℕ) (x : Taken) → IsMine (enter_row s core m x)
  unfolding enter_row
  enter_mine m x = by (is_overflow s m core.frames)
    where
      by : (b : Bool) → IsMine (if b then outcome.Raise stack_overflow_error
          else given (frame_of s m x.arguments) (λ f. next_unless_overfull s core.store (f ∷ with_running (with_values x.below) core.frames)))
      by true = tt
      by false = given_mine _ _ (λ f. next_mine core.store _)

  run_mine : (m : ℕ) (x : Taken) → IsMine (run_row s core m x)
  unfolding run_row
  run_mine m x = given_mine _ _ (λ k. by k (is_abstract k.flags) (is_built_in k.class.0))
    where
      by : (k : Method) (a b : Bool) → IsMine (if a then outcome.BadCode else if b then built_in_row s core x.below (built_in_outcome s core.store k x.arguments) else enter_row s core m x)
      by k true b = tt
      by k false true = built_in_mine x.below _
      by k false false = enter_mine m x

  portal_mine : (service : ServiceId) (k : Method) (args : List Value) → IsMine (portal_row core service k args)
  unfolding portal_row
  portal_mine service k args = by (packed core.store.objects core.store.exports args)
    where
      by : (o : Option Parcel) → IsMine (elim o as (λ _. ObjectOutcome) [ None ↦ outcome.Raise copy_exception | Some p ↦ outcome.Ask (act.Call service k.selector p) ])
      by None = tt
      by (Some p) = tt

  selected_mine : (k : Method) (o : Value) (x : Taken) → IsMine (selected_row s core k o x)
  unfolding selected_row
  selected_mine k o x = given_mine _ _ (λ m. run_mine m x)

  at_object_mine : (kind : Invocation) (m : ℕ) (k : Method) (o : Value) (x : Taken) → IsMine (invoke_at s core kind m k o x)
  unfolding invoke_at
  at_object_mine invocation.Special m k o x = run_mine m x
  at_object_mine invocation.Interface m k (value.Portal service iface) x = portal_mine service k _
  at_object_mine invocation.Interface m k (value.Int n) x = selected_mine k (value.Int n) x
  at_object_mine invocation.Interface m k (value.Long n) x = selected_mine k (value.Long n) x
  at_object_mine invocation.Interface m k value.Null x = selected_mine k value.Null x
  at_object_mine invocation.Interface m k (value.Ref n) x = selected_mine k (value.Ref n) x
  at_object_mine invocation.Interface m k (value.Mem n) x = selected_mine k (value.Mem n) x
  at_object_mine invocation.Virtual m k o x = selected_mine k o x
  at_object_mine invocation.Static m k o x = selected_mine k o x

  on_object_mine : (kind : Invocation) (m : ℕ) (k : Method) (o : Value) (x : Taken) → IsMine (invoke_on s core kind m k o x)
  unfolding invoke_on
  on_object_mine kind m k o x = by (shape_fits_class s true (shape_of core.store o) k.class.0) (is_null o)
    where
      by : (a b : Bool) → IsMine (if not a then outcome.BadCode else if b then outcome.Raise null_pointer_exception else invoke_at s core kind m k o x)
      by false b = tt
      by true true = tt
      by true false = at_object_mine kind m k o x

  with_object_mine : (kind : Invocation) (m : ℕ) (k : Method) (x : Taken) → IsMine (given (with_object x) (λ y. invoke_on s core kind m k y.0 y.1))
  with_object_mine kind m k x = given_mine (with_object x) (λ y. invoke_on s core kind m k y.0 y.1) (λ y. on_object_mine kind m k y.0 y.1)

  invoke_mine : (kind : Invocation) (m : ℕ) (stack : Stack) → IsMine (invoke_row s core kind m stack)
  unfolding invoke_row
  invoke_mine invocation.Static m stack = given_mine _ _ (λ k. given_mine _ _ (λ y. given_mine _ _ (λ x. run_mine m x)))
  invoke_mine invocation.Special m stack = given_mine _ _ (λ k. given_mine _ _ (λ y. given_mine _ _ (λ x. with_object_mine invocation.Special m k x)))
  invoke_mine invocation.Virtual m stack = given_mine _ _ (λ k. given_mine _ _ (λ y. given_mine _ _ (λ x. with_object_mine invocation.Virtual m k x)))
  invoke_mine invocation.Interface m stack = given_mine _ _ (λ k. given_mine _ _ (λ y. given_mine _ _ (λ x. with_object_mine invocation.Interface m k x)))

  -- ---- returns

  return_mine : (v : Option Value) → IsMine (return_row s core v)
  unfolding return_row
  return_mine v = by core.frames refl
    where
      by : (frames : List Frame) → core.frames ≡ frames → IsMine (return_row s core v)
      by [] e = rw e tt
      by (f ∷ []) e = rw e tt
      by (f ∷ g ∷ frames) e = rw e (next_mine core.store _)

  return_value_mine : (k : Kind) (stack : Stack) → IsMine (return_value_row s core k stack)
  unfolding return_value_row
  return_value_mine k [] = tt
  return_value_mine k (v ∷ rest) = given_mine _ _ (λ x. given_mine _ _ (λ type. by x (shape_fits s true (shape_of core.store x) type)))
    where
      by : (x : Value) (b : Bool) → IsMine (if b then return_row s core (Some x) else outcome.BadCode)
      by x true = return_mine (Some x)
      by x false = tt

  return_void_mine : IsMine (return_void_row s core)
  unfolding return_void_row
  return_void_mine = given_mine _ _ (λ type. by (is_void type))
    where
      by : (b : Bool) → IsMine (if b then return_row s core None else outcome.BadCode)
      by true = return_mine None
      by false = tt

  -- ---- the rows

  used_mine : (r : Row) (i : Instr) (x : Resolved) (stack : Stack) → IsMine (constant_used_row s core r i x stack)
  unfolding constant_used_row
  used_mine row.PushConstant i x stack = constant_mine x stack
  used_mine row.GetStatic i (resolved.Static c n) stack = get_static_mine n stack
  used_mine row.PutStatic i (resolved.Static c n) stack = put_static_mine n stack
  used_mine row.GetField i (resolved.Instance c n) stack = get_field_mine c.0 n stack
  used_mine row.PutField i (resolved.Instance c n) stack = put_field_mine c.0 n stack
  used_mine (row.Invoke kind) i (resolved.Method m) stack = invoke_mine kind m stack
  used_mine r i (resolved.Class c) stack = class_mine r i c.0 stack
  used_mine r i _ stack = tt

  plain_mine : (r : Row) (i : Instr) (stack : Stack) → is_object_row r ≡ true → uses_constant r ≡ false → IsMine (plain_row s core r i stack)
  unfolding plain_row is_object_row uses_constant
  plain_mine (row.LoadElement e) i stack h u = load_mine e stack
  plain_mine (row.StoreElement e) i stack h u = store_mine e stack
  plain_mine row.NewArray i stack h u = new_array_mine (element_type (index_operand i 0)) stack
  plain_mine row.ArrayLength i stack h u = length_mine stack
  plain_mine row.Throw i stack h u = throw_mine stack
  plain_mine (row.Return k) i stack h u = return_value_mine k stack
  plain_mine row.ReturnVoid i stack h u = return_void_mine
  plain_mine _ i stack h u = cc

pub not_mine : (s : System) (core : Core) (r : Row) (i : Instr) (stack : Stack) → plain_row s core r i stack ≡ outcome.NotMine → uses_constant r ≡ false → is_object_row r ≡ false
not_mine s core r i stack e u = by (is_object_row r) refl
  where
    by : (b : Bool) → is_object_row r ≡ b → b ≡ false
    by false h = refl
    by true h = absurd (subst IsMine e (plain_mine s core r i stack h u))

pub used_not_mine : (s : System) (core : Core) (r : Row) (i : Instr) (x : Resolved) (stack : Stack) → constant_used_row s core r i x stack ≡ outcome.NotMine → ⊥
used_not_mine s core r i x stack e = subst IsMine e (used_mine s core r i x stack)

pub other_rows : (s : System) (core : Core) (r : Row) (i : Instr) (stack : Stack) → is_object_row r ≡ false → plain_row s core r i stack ≡ outcome.NotMine
unfolding plain_row is_object_row
other_rows s core (row.LoadElement e) i stack h = cc
other_rows s core (row.StoreElement e) i stack h = cc
other_rows s core row.NewArray i stack h = cc
other_rows s core row.ArrayLength i stack h = cc
other_rows s core row.Throw i stack h = cc
other_rows s core (row.Return k) i stack h = cc
other_rows s core row.ReturnVoid i stack h = cc
other_rows s core _ i stack h = refl

pub constant_rows : (r : Row) → uses_constant r ≡ true → is_object_row r ≡ true
unfolding uses_constant is_object_row
constant_rows row.PushConstant u = refl
constant_rows row.GetStatic u = refl
constant_rows row.PutStatic u = refl
constant_rows row.GetField u = refl
constant_rows row.PutField u = refl
constant_rows (row.Invoke kind) u = refl
constant_rows row.New u = refl
constant_rows row.NewReferenceArray u = refl
constant_rows row.NewMultiArray u = refl
constant_rows row.CheckCast u = refl
constant_rows row.InstanceOf u = refl
constant_rows _ u = cc

-- each row but Missing is one on numbers or one on objects
pub either_rows : (r : Row) → r ≢ row.Missing → is_numeric r ≡ not (is_object_row r)
unfolding is_numeric is_object_row
either_rows row.Missing h = absurd (h refl)
either_rows _ h = refl
