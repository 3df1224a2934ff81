-- The rows on objects ask for acts of instructions.
use Rattle.std.proofs.Common.{◌≡◌, refl, ℕ, ℤ, pos, negsuc, Bool, true, false, not, List, [], ◌∷◌, length, drop, map, Option, Some, None}
use Rattle.std.specs.Prelude.{nat_lt, if◌then◌else◌}
use Rattle.std.specs.Option.{option_map}
use Rattle.class_grammar.specs.Flags.{is_abstract}
use Rattle.class_grammar.specs.Opcodes.{row_at}
use Rattle.jx_base.specs.Basics.{not_below_zero}
use Rattle.jx_base.specs.declared.act.Act.TheVariants as act
use Rattle.jx_base.specs.declared.class_file.Instr.{Instr}
use Rattle.jx_base.specs.declared.frame.Frame.{Frame}
use Rattle.jx_base.specs.declared.ids.ServiceId.{ServiceId}
use Rattle.jx_base.specs.declared.program.Method.{Method}
use Rattle.jx_base.specs.declared.program.Resolved.{Resolved}
use Rattle.jx_base.specs.declared.program.Resolved.TheVariants as resolved
use Rattle.jx_base.specs.declared.program.System.{System}
use Rattle.jx_base.specs.declared.row.Element.{Element}
use Rattle.jx_base.specs.declared.row.Invocation.{Invocation}
use Rattle.jx_base.specs.declared.row.Invocation.TheVariants as invocation
use Rattle.jx_base.specs.declared.row.Kind.{Kind}
use Rattle.jx_base.specs.declared.row.Row.{Row}
use Rattle.jx_base.specs.declared.row.Row.TheVariants as row
use Rattle.jx_base.specs.declared.value.Parcel.{Parcel}
use Rattle.jx_base.specs.declared.value.Value.{Value}
use Rattle.jx_base.specs.declared.value.Value.TheVariants as value
use Rattle.machine_model.specs.BuiltInMethods.{BuiltInOutcome, Gives, HasNoRoom, Performs, Raises, Unfit, text_cells}
use Rattle.machine_model.specs.NumericRows.{Stack, is_null}
use Rattle.machine_model.specs.ObjectRows.{Making, ObjectOutcome, Taken, at_index, built_in_row, check_row, class_row, constant_row, constant_used_row, enter_row, fits_class, get_field_row, get_static_row, given, has_negative, instance_row, invoke_at, invoke_on, invoke_row, is_object_of, leaves, leaves_new, length_row, literal_of, load_row, multi_array_row, nested_arrays, new_array_row, new_row, next_unless_overfull, object_row, object_row_in, place_in, plain_row, portal_row, put_field_row, put_static_row, return_row, return_value_row, return_void_row, run_row, selected_row, store_in, store_row, text_row, throw_row, uses_constant, with_literal, with_object}
use Rattle.machine_model.specs.ObjectRows.{ObjectOutcome as object}
use Rattle.machine_model.specs.State.{Core, Store, cells_of, class_of_frame, is_overflow, is_overfull, new_object, shape_of}
use Rattle.program_model.specs.BuiltIn.{array_index_exception, copy_exception, string_class, throwable_class}
use Rattle.program_model.specs.Instructions.{index_operand}
use Rattle.program_model.specs.Lookup.{constant_at, is_built_in, shape_fits, shape_fits_class}
use Rattle.program_model.specs.Parcels.{packed}
use Rattle.program_model.specs.Types.{is_void}
use Rattle.machine_laws.proofs.BuiltInActs.{PerformsOfCode, built_in_of}
use Rattle.machine_laws.proofs.CodeActs.{IsInstructionAct}

-- what it asks for is an act of an instruction
abbrev pub AsksOfCode : ObjectOutcome → Type 0
AsksOfCode (object.Ask a) = IsInstructionAct a
AsksOfCode _ = Unit {0}

-- what comes of a test, and of a value that is there
if_asks : (b : Bool) (x y : ObjectOutcome) → AsksOfCode x → AsksOfCode y → AsksOfCode (if b then x else y)
if_asks true x y i j = i
if_asks false x y i j = j

given_asks : {A : Type 0} (o : Option A) (go : A → ObjectOutcome) → ((x : A) → AsksOfCode (go x)) → AsksOfCode (given o go)
unfolding given
given_asks None go f = tt
given_asks (Some x) go f = f x

module _ (s : System) (core : Core) where
  next_asks : (store : Store) (fs : List Frame) → AsksOfCode (next_unless_overfull s store fs)
  unfolding next_unless_overfull
  next_asks store fs = if_asks (is_overfull s fs) _ _ tt tt

  leaves_asks : (store : Store) (stack : Stack) → AsksOfCode (leaves s core store stack)
  unfolding leaves
  leaves_asks store stack = next_asks store _

  leaves_new_asks : (stack : Stack) (o : Option (Store × ℕ)) → AsksOfCode (leaves_new s core stack o)
  unfolding leaves_new
  leaves_new_asks stack None = tt
  leaves_new_asks stack (Some x) = leaves_asks x.0 (value.Ref x.1 ∷ stack)

  -- ---- constants, arrays, fields and classes

  constant_asks : (x : Resolved) (stack : Stack) → AsksOfCode (constant_row s core x stack)
  unfolding constant_row text_row
  constant_asks (resolved.Int n) stack = leaves_asks core.store (value.Int n ∷ stack)
  constant_asks (resolved.Str text) stack = by (literal_of core.store.literals text)
    where
      by : (o : Option ℕ) → AsksOfCode (elim o as (λ _. ObjectOutcome) [ Some r ↦ leaves s core core.store (value.Ref r ∷ stack) | None ↦ leaves_new s core stack (option_map (with_literal text) (new_object core.store string_class (text_cells text))) ])
      by (Some r) = leaves_asks core.store (value.Ref r ∷ stack)
      by None = leaves_new_asks stack _
  constant_asks _ stack = tt

  at_index_asks : (r : ℕ) (i : ℤ) (go : ℕ → ObjectOutcome) → ((k : ℕ) → AsksOfCode (go k)) → AsksOfCode (at_index core.store r i go)
  unfolding at_index
  at_index_asks r i go f = by (place_in i (length (cells_of core.store r)))
    where
      by : (o : Option ℕ) → AsksOfCode (elim o as (λ _. ObjectOutcome) [ None ↦ object.Raise array_index_exception | Some k ↦ go k ])
      by None = tt
      by (Some k) = f k

  load_asks : (e : Element) (stack : Stack) → AsksOfCode (load_row s core e stack)
  unfolding load_row
  load_asks e (value.Int i ∷ value.Null ∷ rest) = tt
  load_asks e (value.Int i ∷ value.Ref r ∷ rest) = given_asks _ _ (λ type. at_index_asks r i _ (λ n. given_asks _ _ (λ v. leaves_asks core.store (v ∷ rest))))
  load_asks e _ = tt

  store_asks : (e : Element) (stack : Stack) → AsksOfCode (store_row s core e stack)
  unfolding store_row store_in
  store_asks e (v ∷ value.Int i ∷ value.Null ∷ rest) = given_asks _ _ (λ x. tt)
  store_asks e (v ∷ value.Int i ∷ value.Ref r ∷ rest) = given_asks _ _ (λ x. given_asks _ _ (λ type. at_index_asks r i _ (λ n. if_asks (shape_fits s false (shape_of core.store x) type) _ _ (leaves_asks _ rest) tt)))
  store_asks e _ = tt

  length_asks : (stack : Stack) → AsksOfCode (length_row s core stack)
  unfolding length_row
  length_asks (value.Null ∷ rest) = tt
  length_asks (value.Ref r ∷ rest) = given_asks _ _ (λ type. leaves_asks core.store _)
  length_asks _ = tt

  new_array_asks : (type : List ℕ) (stack : Stack) → AsksOfCode (new_array_row s core type stack)
  unfolding new_array_row
  new_array_asks type (value.Int (pos n) ∷ rest) = given_asks _ _ (λ c. leaves_new_asks rest _)
  new_array_asks type (value.Int (negsuc n) ∷ rest) = tt
  new_array_asks type _ = tt

  made_asks : (x : Making) (stack : Stack) → AsksOfCode (elim x.array as (λ _. ObjectOutcome) [ None ↦ object.Raised 0 (record core { store = x.store }) | Some r ↦ leaves s core x.store (value.Ref r ∷ stack) ])
  made_asks x stack = by x.array
    where
      by : (o : Option ℕ) → AsksOfCode (elim o as (λ _. ObjectOutcome) [ None ↦ object.Raised 0 (record core { store = x.store }) | Some r ↦ leaves s core x.store (value.Ref r ∷ stack) ])
      by None = tt
      by (Some r) = leaves_asks x.store (value.Ref r ∷ stack)

  multi_asks : (type : List ℕ) (dimensions : ℕ) (stack : Stack) → AsksOfCode (multi_array_row s core type dimensions stack)
  unfolding multi_array_row
  multi_asks type dimensions stack = if_asks (nat_lt (length stack) dimensions) _ _ tt (given_asks _ _ (λ lengths. if_asks (has_negative lengths) _ _ tt (made_asks (nested_arrays s (map not_below_zero lengths) type core.store) (drop dimensions stack))))

  get_field_asks : (c i : ℕ) (stack : Stack) → AsksOfCode (get_field_row s core c i stack)
  unfolding get_field_row
  get_field_asks c i (value.Null ∷ rest) = tt
  get_field_asks c i (value.Ref r ∷ rest) = if_asks (is_object_of s core.store c r) _ _ (given_asks _ _ (λ v. leaves_asks core.store (v ∷ rest))) tt
  get_field_asks c i _ = tt

  put_field_asks : (c i : ℕ) (stack : Stack) → AsksOfCode (put_field_row s core c i stack)
  unfolding put_field_row
  put_field_asks c i [] = tt
  put_field_asks c i (v ∷ []) = tt
  put_field_asks c i (v ∷ value.Null ∷ rest) = given_asks _ _ (λ x. tt)
  put_field_asks c i (v ∷ value.Ref r ∷ rest) = given_asks _ _ (λ x. if_asks (is_object_of s core.store c r) _ _ (leaves_asks _ rest) tt)
  put_field_asks c i (v ∷ value.Int n ∷ rest) = given_asks _ _ (λ x. tt)
  put_field_asks c i (v ∷ value.Long n ∷ rest) = given_asks _ _ (λ x. tt)
  put_field_asks c i (v ∷ value.Portal n e ∷ rest) = given_asks _ _ (λ x. tt)
  put_field_asks c i (v ∷ value.Mem n ∷ rest) = given_asks _ _ (λ x. tt)

  put_static_asks : (i : ℕ) (stack : Stack) → AsksOfCode (put_static_row s core i stack)
  unfolding put_static_row
  put_static_asks i [] = tt
  put_static_asks i (v ∷ rest) = given_asks _ _ (λ x. leaves_asks _ rest)

  check_asks : (c : ℕ) (stack : Stack) → AsksOfCode (check_row s core c stack)
  unfolding check_row
  check_asks c [] = tt
  check_asks c (v ∷ rest) = given_asks _ _ (λ x. if_asks (fits_class s core.store x c) _ _ (leaves_asks core.store (x ∷ rest)) tt)

  instance_asks : (c : ℕ) (stack : Stack) → AsksOfCode (instance_row s core c stack)
  unfolding instance_row
  instance_asks c [] = tt
  instance_asks c (v ∷ rest) = given_asks _ _ (λ x. leaves_asks core.store _)

  throw_asks : (stack : Stack) → AsksOfCode (throw_row s core stack)
  unfolding throw_row
  throw_asks (value.Null ∷ rest) = tt
  throw_asks (value.Ref r ∷ rest) = if_asks (is_object_of s core.store throwable_class r) _ _ tt tt
  throw_asks _ = tt

  class_asks : (r : Row) (i : Instr) (c : ℕ) (stack : Stack) → AsksOfCode (class_row s core r i c stack)
  unfolding class_row new_row
  class_asks row.New i c stack = leaves_new_asks stack _
  class_asks row.NewReferenceArray i c stack = given_asks _ _ (λ type. new_array_asks type stack)
  class_asks row.NewMultiArray i c stack = given_asks _ _ (λ type. multi_asks type _ stack)
  class_asks row.CheckCast i c stack = check_asks c stack
  class_asks row.InstanceOf i c stack = instance_asks c stack
  class_asks _ i c stack = tt

  -- ---- calls

  native_asks : (stack : Stack) (o : BuiltInOutcome) → PerformsOfCode o → AsksOfCode (built_in_row s core stack o)
  unfolding built_in_row
  native_asks stack (Gives store v) h = leaves_asks store _
  native_asks stack (Performs a) h = h
  native_asks stack (Raises c) h = tt
  native_asks stack HasNoRoom h = tt
  native_asks stack Unfit h = tt

  enter_asks : (m : ℕ) (x : Taken) → AsksOfCode (enter_row s core m x)
  unfolding enter_row
  enter_asks m x = if_asks (is_overflow s m core.frames) _ _ tt (given_asks _ _ (λ f. next_asks core.store _))

  run_asks : (m : ℕ) (x : Taken) → AsksOfCode (run_row s core m x)
  unfolding run_row
  run_asks m x = given_asks _ _ (λ k. if_asks (is_abstract k.flags) _ _ tt (if_asks (is_built_in k.class.0) _ _ (native_asks x.below _ (built_in_of s core.store k x.arguments)) (enter_asks m x)))

  portal_asks : (service : ServiceId) (k : Method) (args : List Value) → AsksOfCode (portal_row core service k args)
  unfolding portal_row
  portal_asks service k args = by (packed core.store.objects core.store.exports args)
    where
      by : (o : Option Parcel) → AsksOfCode (elim o as (λ _. ObjectOutcome) [ None ↦ object.Raise copy_exception | Some p ↦ object.Ask (act.Call service k.selector p) ])
      by None = tt
      by (Some p) = tt

  selected_asks : (k : Method) (o : Value) (x : Taken) → AsksOfCode (selected_row s core k o x)
  unfolding selected_row
  selected_asks k o x = given_asks _ _ (λ m. run_asks m x)

  at_object_asks : (kind : Invocation) (m : ℕ) (k : Method) (o : Value) (x : Taken) → AsksOfCode (invoke_at s core kind m k o x)
  unfolding invoke_at
  at_object_asks invocation.Special m k o x = run_asks m x
  at_object_asks invocation.Interface m k (value.Portal service iface) x = portal_asks service k _
  at_object_asks invocation.Interface m k (value.Int n) x = selected_asks k (value.Int n) x
  at_object_asks invocation.Interface m k (value.Long n) x = selected_asks k (value.Long n) x
  at_object_asks invocation.Interface m k value.Null x = selected_asks k value.Null x
  at_object_asks invocation.Interface m k (value.Ref n) x = selected_asks k (value.Ref n) x
  at_object_asks invocation.Interface m k (value.Mem n) x = selected_asks k (value.Mem n) x
  at_object_asks invocation.Virtual m k o x = selected_asks k o x
  at_object_asks invocation.Static m k o x = selected_asks k o x

  on_object_asks : (kind : Invocation) (m : ℕ) (k : Method) (o : Value) (x : Taken) → AsksOfCode (invoke_on s core kind m k o x)
  unfolding invoke_on
  on_object_asks kind m k o x = if_asks (not (shape_fits_class s true (shape_of core.store o) k.class.0)) _ _ tt (if_asks (is_null o) _ _ tt (at_object_asks kind m k o x))

  with_object_asks : (kind : Invocation) (m : ℕ) (k : Method) (x : Taken) → AsksOfCode (given (with_object x) (λ w. invoke_on s core kind m k w.0 w.1))
  with_object_asks kind m k x = given_asks _ _ (λ w. on_object_asks kind m k w.0 w.1)

  invoke_asks : (kind : Invocation) (m : ℕ) (stack : Stack) → AsksOfCode (invoke_row s core kind m stack)
  unfolding invoke_row
  invoke_asks invocation.Static m stack = given_asks _ _ (λ k. given_asks _ _ (λ y. given_asks _ _ (λ x. run_asks m x)))
  invoke_asks invocation.Special m stack = given_asks _ _ (λ k. given_asks _ _ (λ y. given_asks _ _ (λ x. with_object_asks invocation.Special m k x)))
  invoke_asks invocation.Virtual m stack = given_asks _ _ (λ k. given_asks _ _ (λ y. given_asks _ _ (λ x. with_object_asks invocation.Virtual m k x)))
  invoke_asks invocation.Interface m stack = given_asks _ _ (λ k. given_asks _ _ (λ y. given_asks _ _ (λ x. with_object_asks invocation.Interface m k x)))

  -- ---- returns

  return_asks : (v : Option Value) → AsksOfCode (return_row s core v)
  unfolding return_row
  return_asks v = by core.frames refl
    where
      by : (fs : List Frame) → core.frames ≡ fs → AsksOfCode (return_row s core v)
      by [] e = rw e tt
      by (f ∷ []) e = rw e tt
      by (f ∷ g ∷ fs) e = rw e (next_asks core.store _)

  return_value_asks : (k : Kind) (stack : Stack) → AsksOfCode (return_value_row s core k stack)
  unfolding return_value_row
  return_value_asks k [] = tt
  return_value_asks k (v ∷ rest) = given_asks _ _ (λ x. given_asks _ _ (λ type. if_asks (shape_fits s true (shape_of core.store x) type) _ _ (return_asks (Some x)) tt))

  return_void_asks : AsksOfCode (return_void_row s core)
  unfolding return_void_row
  return_void_asks = given_asks _ _ (λ type. if_asks (is_void type) _ _ (return_asks None) tt)

  -- ---- all rows

  used_asks : (r : Row) (i : Instr) (x : Resolved) (stack : Stack) → AsksOfCode (constant_used_row s core r i x stack)
  unfolding constant_used_row get_static_row
  used_asks row.PushConstant i x stack = constant_asks x stack
  used_asks row.GetStatic i (resolved.Static c n) stack = given_asks _ _ (λ v. leaves_asks core.store (v ∷ stack))
  used_asks row.PutStatic i (resolved.Static c n) stack = put_static_asks n stack
  used_asks row.GetField i (resolved.Instance c n) stack = get_field_asks c.0 n stack
  used_asks row.PutField i (resolved.Instance c n) stack = put_field_asks c.0 n stack
  used_asks (row.Invoke kind) i (resolved.Method m) stack = invoke_asks kind m stack
  used_asks r i (resolved.Class c) stack = class_asks r i c.0 stack
  used_asks r i _ stack = tt

  plain_asks : (r : Row) (i : Instr) (stack : Stack) → AsksOfCode (plain_row s core r i stack)
  unfolding plain_row
  plain_asks (row.LoadElement e) i stack = load_asks e stack
  plain_asks (row.StoreElement e) i stack = store_asks e stack
  plain_asks row.NewArray i stack = new_array_asks _ stack
  plain_asks row.ArrayLength i stack = length_asks stack
  plain_asks row.Throw i stack = throw_asks stack
  plain_asks (row.Return k) i stack = return_value_asks k stack
  plain_asks row.ReturnVoid i stack = return_void_asks
  plain_asks _ i stack = tt

  row_asks : (f : Frame) (i : Instr) → AsksOfCode (object_row_in s core f i)
  unfolding object_row_in
  row_asks f i = by (uses_constant (row_at i.opcode))
    where
      by : (b : Bool) → AsksOfCode (elim b as (λ _. ObjectOutcome) [
        | true ↦ given (constant_at s (class_of_frame s f) (index_operand i 0)) (λ x. constant_used_row s core (row_at i.opcode) i x f.stack.values)
        | false ↦ plain_row s core (row_at i.opcode) i f.stack.values
      ])
      by true = given_asks _ _ (λ x. used_asks (row_at i.opcode) i x f.stack.values)
      by false = plain_asks (row_at i.opcode) i f.stack.values

  -- an instruction on objects asks for such an act
  pub object_asks : (i : Instr) → AsksOfCode (object_row s core i)
  unfolding object_row
  object_asks i = by core.frames
    where
      by : (fs : List Frame) → AsksOfCode (elim fs as (λ _. ObjectOutcome) [ [] ↦ object.BadCode | f ∷ frames ↦ object_row_in s core f i ])
      by [] = tt
      by (f ∷ fs) = row_asks f i
