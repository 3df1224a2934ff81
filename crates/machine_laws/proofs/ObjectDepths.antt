-- The rows on objects leave stacks within their limits.
use Rattle.std.proofs.Common.{◌≡◌, ℕ, ◌≤◌, ℤ, pos, negsuc, Bool, true, false, not, List, [], ◌∷◌, length, take, drop, reverse, map, Option, Some, None, refl, sym, subst, arith}
use Rattle.std.specs.Prelude.{nat_lt, if◌then◌else◌}
use Rattle.std.specs.List.{AllByRecursion}
use Rattle.std.specs.Option.{option_map}
use Rattle.std.proofs.lemmas.Bool.Decides.{nat_tests}
use Rattle.class_grammar.specs.Flags.{is_abstract}
use Rattle.class_grammar.specs.Opcodes.{row_at}
use Rattle.jx_base.specs.Basics.{passes, not_below_zero}
use Rattle.jx_base.specs.declared.act.Act.TheVariants as act
use Rattle.jx_base.specs.declared.class_file.Instr.{Instr}
use Rattle.jx_base.specs.declared.frame.Frame.{Frame}
use Rattle.jx_base.specs.declared.ids.ServiceId.{ServiceId}
use Rattle.jx_base.specs.declared.program.Method.{Method}
use Rattle.jx_base.specs.declared.program.Resolved.{Resolved}
use Rattle.jx_base.specs.declared.program.Resolved.TheVariants as resolved
use Rattle.jx_base.specs.declared.program.System.{System}
use Rattle.jx_base.specs.declared.row.Element.{Element}
use Rattle.jx_base.specs.declared.row.Invocation.{Invocation}
use Rattle.jx_base.specs.declared.row.Invocation.TheVariants as invocation
use Rattle.jx_base.specs.declared.row.Kind.{Kind}
use Rattle.jx_base.specs.declared.row.Row.{Row}
use Rattle.jx_base.specs.declared.row.Row.TheVariants as row
use Rattle.jx_base.specs.declared.value.Parcel.{Parcel}
use Rattle.jx_base.specs.declared.value.Value.{Value}
use Rattle.jx_base.specs.declared.value.Value.TheVariants as value
use Rattle.machine_model.specs.BuiltInMethods.{BuiltInOutcome, Gives, Performs, Raises, HasNoRoom, Unfit}
use Rattle.machine_model.specs.NumericRows.{Stack, depth_of, is_null}
use Rattle.machine_model.specs.ObjectRows.{ObjectOutcome, given, next_unless_overfull, leaves, leaves_new, literal_of, with_literal, text_row, constant_row, place_in, at_index, load_row, store_in, store_row, length_row, new_array_row, Making, nested_arrays, has_negative, multi_array_row, is_object_of, get_field_row, put_field_row, get_static_row, put_static_row, new_row, fits_class, check_row, instance_row, throw_row, Taken, all_fit, taken_arguments, with_object, with_result, built_in_row, enter_row, run_row, portal_row, selected_row, invoke_at, invoke_on, invoke_row, return_row, return_value_row, return_void_row, class_row, constant_used_row, plain_row, uses_constant, object_row_in, object_row}
use Rattle.machine_model.specs.ObjectRows.{ObjectOutcome as object}
use Rattle.machine_model.specs.State.{Store, Core, cells_of, new_object, shape_of, stack_limit, class_of_frame, with_values, frame_behind, with_running, is_overfull, frame_of, frame_with, is_overflow, locals_with, code_of}
use Rattle.program_model.specs.BuiltIn.{string_class, throwable_class, array_index_exception, copy_exception}
use Rattle.program_model.specs.Instructions.{index_operand}
use Rattle.program_model.specs.Lookup.{constant_at, is_built_in, shape_fits, shape_fits_class}
use Rattle.program_model.specs.Parcels.{packed}
use Rattle.program_model.specs.Types.{is_void}
use Rattle.machine_model.specs.BuiltInMethods.{text_cells}
use Rattle.machine_laws.specs.Depths.{IsWithin}
use Rattle.machine_laws.proofs.NumericDepths.{drop_within}
use Rattle.machine_laws.proofs.NumericValues.{then_some, mapped_some}

-- the stacks of the frames that a row leaves are within their limits
abbrev pub LeavesFramesWithin : System → ObjectOutcome → Type 0
LeavesFramesWithin s (object.Next core) = AllByRecursion (IsWithin s) core.frames
LeavesFramesWithin s (object.Raised r core) = AllByRecursion (IsWithin s) core.frames
LeavesFramesWithin s _ = Unit {0}

-- the running frame's stack is within its limit where it isn't overfull
pub first_within : (s : System) (f : Frame) (fs : List Frame) → is_overfull s (f ∷ fs) ≡ false → IsWithin s f
unfolding is_overfull passes
first_within s f fs e = grind (arith, nat_tests, e)

-- a new frame has an empty stack
pub frame_within : (s : System) (m : ℕ) (args : List Value) (f : Frame) → frame_of s m args ≡ Some f → IsWithin s f
unfolding frame_of frame_with depth_of
frame_within s m args f e =
    let c = then_some (code_of s m) (λ c. option_map (frame_with m c) (locals_with _ 0 args)) f e in
    let l = mapped_some (frame_with m c.0) (locals_with _ 0 args) f c.2 in
    subst (IsWithin s) l.2 (omega arith)

module _ (s : System) (core : Core) (most : ℕ) (h : AllByRecursion (IsWithin s) core.frames)
    (below : (stack : Stack) → depth_of stack ≤ most → AllByRecursion (IsWithin s) (with_running (with_values stack) core.frames)) where
  -- the outcome's frames are within their limits
  abbrev Within : ObjectOutcome → Type 0
  Within o = LeavesFramesWithin s o

  given_within : {A : Type 0} (o : Option A) (go : A → ObjectOutcome) → ((x : A) → o ≡ Some x → Within (go x)) → Within (given o go)
  unfolding given
  given_within None go f = tt
  given_within (Some x) go f = f x refl

  next_within : (store : Store) (f : Frame) (fs : List Frame) → AllByRecursion (IsWithin s) fs → Within (next_unless_overfull s store (f ∷ fs))
  unfolding next_unless_overfull
  next_within store f fs i = by (is_overfull s (f ∷ fs)) refl
    where
      by : (b : Bool) → is_overfull s (f ∷ fs) ≡ b → Within (if b then object.BadCode else object.Next (record { frames = f ∷ fs; store = store }))
      by true e = tt
      by false e = (first_within s f fs e, i)

  leaves_within : (store : Store) (stack : Stack) → Within (leaves s core store stack)
  unfolding leaves with_running next_unless_overfull is_overfull passes
  leaves_within store stack = by core.frames h
    where
      by : (fs : List Frame) → AllByRecursion (IsWithin s) fs → Within (next_unless_overfull s store (with_running (frame_behind s stack) fs))
      by [] i = tt
      by (f ∷ fs) i = next_within store (frame_behind s stack f) fs i.1

  leaves_new_within : (stack : Stack) (o : Option (Store × ℕ)) → Within (leaves_new s core stack o)
  unfolding leaves_new
  leaves_new_within stack None = h
  leaves_new_within stack (Some x) = leaves_within x.0 (value.Ref x.1 ∷ stack)

  -- ---- constants, arrays, fields and classes

  constant_within : (x : Resolved) (stack : Stack) → Within (constant_row s core x stack)
  unfolding constant_row text_row
  constant_within (resolved.Int n) stack = leaves_within core.store (value.Int n ∷ stack)
  constant_within (resolved.Str text) stack = by (literal_of core.store.literals text)
    where
      by : (o : Option ℕ) → Within (elim o as (λ _. ObjectOutcome) [ Some r ↦ leaves s core core.store (value.Ref r ∷ stack) | None ↦ leaves_new s core stack (option_map (with_literal text) (new_object core.store string_class (text_cells text))) ])
      by (Some r) = leaves_within core.store (value.Ref r ∷ stack)
      by None = leaves_new_within stack _
  constant_within _ stack = tt

  at_index_within : (r : ℕ) (i : ℤ) (go : ℕ → ObjectOutcome) → ((k : ℕ) → Within (go k)) → Within (at_index core.store r i go)
  unfolding at_index
  at_index_within r i go f = by (place_in i (length (cells_of core.store r)))
    where
      by : (o : Option ℕ) → Within (elim o as (λ _. ObjectOutcome) [ None ↦ object.Raise array_index_exception | Some k ↦ go k ])
      by None = tt
      by (Some k) = f k

  load_within : (e : Element) (stack : Stack) → Within (load_row s core e stack)
  unfolding load_row
  load_within e (value.Int i ∷ value.Null ∷ rest) = tt
  load_within e (value.Int i ∷ value.Ref r ∷ rest) = given_within _ _ (λ type q. at_index_within r i _ (λ n. given_within _ _ (λ v w. leaves_within core.store (v ∷ rest))))
  load_within e _ = tt

  -- what goes on where a test passes
  if_within : (b : Bool) (x y : ObjectOutcome) → Within x → Within y → Within (if b then x else y)
  if_within true x y i j = i
  if_within false x y i j = j

  store_within : (e : Element) (stack : Stack) → Within (store_row s core e stack)
  unfolding store_row store_in
  store_within e (v ∷ value.Int i ∷ value.Null ∷ rest) = given_within _ _ (λ x q. tt)
  store_within e (v ∷ value.Int i ∷ value.Ref r ∷ rest) = given_within _ _ (λ x q. given_within _ _ (λ type w. at_index_within r i _ (λ n. if_within (shape_fits s false (shape_of core.store x) type) _ _ (leaves_within _ rest) tt)))
  store_within e _ = tt

  length_within : (stack : Stack) → Within (length_row s core stack)
  unfolding length_row
  length_within (value.Null ∷ rest) = tt
  length_within (value.Ref r ∷ rest) = given_within _ _ (λ type q. leaves_within core.store _)
  length_within _ = tt

  new_array_within : (type : List ℕ) (stack : Stack) → Within (new_array_row s core type stack)
  unfolding new_array_row
  new_array_within type (value.Int (pos n) ∷ rest) = given_within _ _ (λ c q. leaves_new_within rest _)
  new_array_within type (value.Int (negsuc n) ∷ rest) = tt
  new_array_within type _ = tt

  made_within : (x : Making) (stack : Stack) → Within (elim x.array as (λ _. ObjectOutcome) [ None ↦ object.Raised 0 (record core { store = x.store }) | Some r ↦ leaves s core x.store (value.Ref r ∷ stack) ])
  made_within x stack = by x.array
    where
      by : (o : Option ℕ) → Within (elim o as (λ _. ObjectOutcome) [ None ↦ object.Raised 0 (record core { store = x.store }) | Some r ↦ leaves s core x.store (value.Ref r ∷ stack) ])
      by None = h
      by (Some r) = leaves_within x.store (value.Ref r ∷ stack)

  multi_within : (type : List ℕ) (dimensions : ℕ) (stack : Stack) → Within (multi_array_row s core type dimensions stack)
  unfolding multi_array_row
  multi_within type dimensions stack = if_within (nat_lt (length stack) dimensions) _ _ tt (given_within _ _ (λ lengths q. if_within (has_negative lengths) _ _ tt (made_within (nested_arrays s (map not_below_zero lengths) type core.store) (drop dimensions stack))))

  get_field_within : (c i : ℕ) (stack : Stack) → Within (get_field_row s core c i stack)
  unfolding get_field_row
  get_field_within c i (value.Null ∷ rest) = tt
  get_field_within c i (value.Ref r ∷ rest) = if_within (is_object_of s core.store c r) _ _ (given_within _ _ (λ v w. leaves_within core.store (v ∷ rest))) tt
  get_field_within c i _ = tt

  put_field_within : (c i : ℕ) (stack : Stack) → Within (put_field_row s core c i stack)
  unfolding put_field_row
  put_field_within c i [] = tt
  put_field_within c i (v ∷ []) = tt
  put_field_within c i (v ∷ value.Null ∷ rest) = given_within _ _ (λ x q. tt)
  put_field_within c i (v ∷ value.Ref r ∷ rest) = given_within _ _ (λ x q. if_within (is_object_of s core.store c r) _ _ (leaves_within _ rest) tt)
  put_field_within c i (v ∷ value.Int n ∷ rest) = given_within _ _ (λ x q. tt)
  put_field_within c i (v ∷ value.Long n ∷ rest) = given_within _ _ (λ x q. tt)
  put_field_within c i (v ∷ value.Portal n e ∷ rest) = given_within _ _ (λ x q. tt)
  put_field_within c i (v ∷ value.Mem n ∷ rest) = given_within _ _ (λ x q. tt)

  put_static_within : (i : ℕ) (stack : Stack) → Within (put_static_row s core i stack)
  unfolding put_static_row
  put_static_within i [] = tt
  put_static_within i (v ∷ rest) = given_within _ _ (λ x q. leaves_within _ rest)

  check_within : (c : ℕ) (stack : Stack) → Within (check_row s core c stack)
  unfolding check_row
  check_within c [] = tt
  check_within c (v ∷ rest) = given_within _ _ (λ x q. if_within (fits_class s core.store x c) _ _ (leaves_within core.store (x ∷ rest)) tt)

  instance_within : (c : ℕ) (stack : Stack) → Within (instance_row s core c stack)
  unfolding instance_row
  instance_within c [] = tt
  instance_within c (v ∷ rest) = given_within _ _ (λ x q. leaves_within core.store _)

  throw_within : (stack : Stack) → Within (throw_row s core stack)
  unfolding throw_row
  throw_within (value.Null ∷ rest) = tt
  throw_within (value.Ref r ∷ rest) = if_within (is_object_of s core.store throwable_class r) _ _ h tt
  throw_within _ = tt

  class_within : (r : Row) (i : Instr) (c : ℕ) (stack : Stack) → Within (class_row s core r i c stack)
  unfolding class_row new_row
  class_within row.New i c stack = leaves_new_within stack _
  class_within row.NewReferenceArray i c stack = given_within _ _ (λ type q. new_array_within type stack)
  class_within row.NewMultiArray i c stack = given_within _ _ (λ type q. multi_within type _ stack)
  class_within row.CheckCast i c stack = check_within c stack
  class_within row.InstanceOf i c stack = instance_within c stack
  class_within _ i c stack = tt

  -- ---- calls

  native_within : (stack : Stack) (o : BuiltInOutcome) → Within (built_in_row s core stack o)
  unfolding built_in_row
  native_within stack (Gives store v) = leaves_within store _
  native_within stack (Performs a) = tt
  native_within stack (Raises c) = tt
  native_within stack HasNoRoom = h
  native_within stack Unfit = tt

  enter_within : (m : ℕ) (x : Taken) → depth_of x.below ≤ most → Within (enter_row s core m x)
  unfolding enter_row
  enter_within m x i = if_within (is_overflow s m core.frames) _ _ tt (given_within _ _ (λ f e. next_within core.store f _ (below x.below i)))

  run_within : (m : ℕ) (x : Taken) → depth_of x.below ≤ most → Within (run_row s core m x)
  unfolding run_row
  run_within m x i = given_within _ _ (λ k e. if_within (is_abstract k.flags) _ _ tt (if_within (is_built_in k.class.0) _ _ (native_within x.below _) (enter_within m x i)))

  portal_within : (service : ServiceId) (k : Method) (args : List Value) → Within (portal_row core service k args)
  unfolding portal_row
  portal_within service k args = by (packed core.store.objects core.store.exports args)
    where
      by : (o : Option Parcel) → Within (elim o as (λ _. ObjectOutcome) [ None ↦ object.Raise copy_exception | Some p ↦ object.Ask (act.Call service k.selector p) ])
      by None = tt
      by (Some p) = tt

  selected_within : (k : Method) (o : Value) (x : Taken) → depth_of x.below ≤ most → Within (selected_row s core k o x)
  unfolding selected_row
  selected_within k o x i = given_within _ _ (λ m q. run_within m x i)

  at_object_within : (kind : Invocation) (m : ℕ) (k : Method) (o : Value) (x : Taken) → depth_of x.below ≤ most → Within (invoke_at s core kind m k o x)
  unfolding invoke_at
  at_object_within invocation.Special m k o x i = run_within m x i
  at_object_within invocation.Interface m k (value.Portal service iface) x i = portal_within service k _
  at_object_within invocation.Interface m k (value.Int n) x i = selected_within k (value.Int n) x i
  at_object_within invocation.Interface m k (value.Long n) x i = selected_within k (value.Long n) x i
  at_object_within invocation.Interface m k value.Null x i = selected_within k value.Null x i
  at_object_within invocation.Interface m k (value.Ref n) x i = selected_within k (value.Ref n) x i
  at_object_within invocation.Interface m k (value.Mem n) x i = selected_within k (value.Mem n) x i
  at_object_within invocation.Virtual m k o x i = selected_within k o x i
  at_object_within invocation.Static m k o x i = selected_within k o x i

  on_object_within : (kind : Invocation) (m : ℕ) (k : Method) (o : Value) (x : Taken) → depth_of x.below ≤ most → Within (invoke_on s core kind m k o x)
  unfolding invoke_on
  on_object_within kind m k o x i = if_within (not (shape_fits_class s true (shape_of core.store o) k.class.0)) _ _ tt (if_within (is_null o) _ _ tt (at_object_within kind m k o x i))

  with_object_within : (kind : Invocation) (m : ℕ) (k : Method) (x : Taken) → depth_of x.below ≤ most → Within (given (with_object x) (λ w. invoke_on s core kind m k w.0 w.1))
  unfolding with_object
  with_object_within kind m k x i = by x.below refl
    where
      by : (bs : Stack) → x.below ≡ bs → Within (given (with_object x) (λ w. invoke_on s core kind m k w.0 w.1))
      by [] w = rw w (given_within None (λ w. invoke_on s core kind m k w.0 w.1) (λ v u. cc))
      by (o ∷ stack) w = rw w (given_within (Some (o, record { arguments = o ∷ x.arguments; below = stack })) (λ w. invoke_on s core kind m k w.0 w.1) (λ v u.
          let r : (o, record { arguments = o ∷ x.arguments; below = stack }) ≡ v = cc in
          subst (λ (v : Value × Taken). Within (invoke_on s core kind m k v.0 v.1)) r
          (on_object_within kind m k o (record { arguments = o ∷ x.arguments; below = stack }) (drop_within most 1 (o ∷ stack) (subst (λ (st : Stack). depth_of st ≤ most) w i)))))

  taken_within : (types : List (List ℕ)) (stack : Stack) (x : Taken) → depth_of stack ≤ most → taken_arguments s core types stack ≡ Some x → depth_of x.below ≤ most
  unfolding taken_arguments
  taken_within types stack x i e = by (all_fit s true core.store (reverse (take (length types) stack)) types) e
    where
      there : Taken
      there = record { arguments = reverse (take (length types) stack); below = drop (length types) stack }

      by : (b : Bool) → (if b then Some there else None) ≡ Some x → depth_of x.below ≤ most
      by true e = let q : there ≡ x = cc in subst (λ (x : Taken). depth_of x.below ≤ most) q (drop_within most (length types) stack i)
      by false e = cc

  invoke_within : (kind : Invocation) (m : ℕ) (stack : Stack) → depth_of stack ≤ most → Within (invoke_row s core kind m stack)
  unfolding invoke_row
  invoke_within invocation.Static m stack i = given_within _ _ (λ k e. given_within _ _ (λ y q. given_within _ _ (λ x w. run_within m x (taken_within _ stack x i w))))
  invoke_within invocation.Special m stack i = given_within _ _ (λ k e. given_within _ _ (λ y q. given_within _ _ (λ x w. with_object_within invocation.Special m k x (taken_within _ stack x i w))))
  invoke_within invocation.Virtual m stack i = given_within _ _ (λ k e. given_within _ _ (λ y q. given_within _ _ (λ x w. with_object_within invocation.Virtual m k x (taken_within _ stack x i w))))
  invoke_within invocation.Interface m stack i = given_within _ _ (λ k e. given_within _ _ (λ y q. given_within _ _ (λ x w. with_object_within invocation.Interface m k x (taken_within _ stack x i w))))

  -- ---- returns

  return_within : (v : Option Value) → Within (return_row s core v)
  unfolding return_row
  return_within v = by core.frames refl
    where
      by : (fs : List Frame) → core.frames ≡ fs → Within (return_row s core v)
      by [] e = rw e tt
      by (f ∷ []) e = rw e tt
      by (f ∷ g ∷ fs) e =
          let k : AllByRecursion (IsWithin s) (f ∷ g ∷ fs) = subst (AllByRecursion (IsWithin s)) e h in
          rw e (next_within core.store (frame_behind s (with_result v g.stack.values) g) fs k.1.1)

  return_value_within : (k : Kind) (stack : Stack) → Within (return_value_row s core k stack)
  unfolding return_value_row
  return_value_within k [] = tt
  return_value_within k (v ∷ rest) = given_within _ _ (λ x q. given_within _ _ (λ type w. if_within (shape_fits s true (shape_of core.store x) type) _ _ (return_within (Some x)) tt))

  return_void_within : Within (return_void_row s core)
  unfolding return_void_row
  return_void_within = given_within _ _ (λ type w. if_within (is_void type) _ _ (return_within None) tt)

  -- ---- all rows

  used_within : (r : Row) (i : Instr) (x : Resolved) (stack : Stack) → depth_of stack ≤ most → Within (constant_used_row s core r i x stack)
  unfolding constant_used_row get_static_row
  used_within row.PushConstant i x stack d = constant_within x stack
  used_within row.GetStatic i (resolved.Static c n) stack d = given_within _ _ (λ v q. leaves_within core.store (v ∷ stack))
  used_within row.PutStatic i (resolved.Static c n) stack d = put_static_within n stack
  used_within row.GetField i (resolved.Instance c n) stack d = get_field_within c.0 n stack
  used_within row.PutField i (resolved.Instance c n) stack d = put_field_within c.0 n stack
  used_within (row.Invoke kind) i (resolved.Method m) stack d = invoke_within kind m stack d
  used_within r i (resolved.Class c) stack d = class_within r i c.0 stack
  used_within r i _ stack d = tt

  plain_within : (r : Row) (i : Instr) (stack : Stack) → Within (plain_row s core r i stack)
  unfolding plain_row
  plain_within (row.LoadElement e) i stack = load_within e stack
  plain_within (row.StoreElement e) i stack = store_within e stack
  plain_within row.NewArray i stack = new_array_within _ stack
  plain_within row.ArrayLength i stack = length_within stack
  plain_within row.Throw i stack = throw_within stack
  plain_within (row.Return k) i stack = return_value_within k stack
  plain_within row.ReturnVoid i stack = return_void_within
  plain_within _ i stack = tt

  row_within : (f : Frame) (i : Instr) → depth_of f.stack.values ≤ most → Within (object_row_in s core f i)
  unfolding object_row_in
  row_within f i d = by (uses_constant (row_at i.opcode))
    where
      by : (b : Bool) → Within (elim b as (λ _. ObjectOutcome) [
        | true ↦ given (constant_at s (class_of_frame s f) (index_operand i 0)) (λ x. constant_used_row s core (row_at i.opcode) i x f.stack.values)
        | false ↦ plain_row s core (row_at i.opcode) i f.stack.values
      ])
      by true = given_within _ _ (λ x q. used_within (row_at i.opcode) i x f.stack.values d)
      by false = plain_within (row_at i.opcode) i f.stack.values

-- an instruction on objects leaves stacks within their limits
pub object_within : (s : System) (core : Core) (i : Instr) → AllByRecursion (IsWithin s) core.frames → LeavesFramesWithin s (object_row s core i)
unfolding object_row with_running with_values stack_limit
object_within s core i h = by core.frames refl h
  where
    by : (fs : List Frame) → core.frames ≡ fs → AllByRecursion (IsWithin s) fs → LeavesFramesWithin s (elim fs as (λ _. ObjectOutcome) [ [] ↦ object.BadCode | f ∷ frames ↦ object_row_in s core f i ])
    by [] e k = tt
    by (f ∷ fs) e k = row_within s core (stack_limit s f) h (λ stack d. subst (λ (xs : List Frame). AllByRecursion (IsWithin s) (with_running (with_values stack) xs)) (sym e) (d, k.1)) f i k.0
