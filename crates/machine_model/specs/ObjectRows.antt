-- The rows on constants of text, arrays, fields, classes, calls and exceptions.
use Rattle.std.specs.Prelude.{ℕ, zero, suc, ◌+◌, ℤ, pos, negsuc, int_lt, Bool, true, false, ◌&&◌, ◌||◌, not, List, [], ◌∷◌, ◌++◌, length, reverse, take, drop, Option, Some, None, nat_lt, if◌then◌else◌, map, find, slice_get, slice_set, codes}
use Rattle.std.specs.List.{list_any}
use Rattle.std.specs.Str.{bytes_eq}
use Rattle.jx_base.specs.declared.act.Act.{Act}
use Rattle.jx_base.specs.declared.act.Act.TheVariants as act
use Rattle.jx_base.specs.declared.value.Value.{Value}
use Rattle.jx_base.specs.declared.value.Value.TheVariants as value
use Rattle.jx_base.specs.declared.ids.ServiceId.{ServiceId}
use Rattle.jx_base.specs.declared.class_file.Instr.{Instr}
use Rattle.jx_base.specs.declared.program.System.{System}
use Rattle.jx_base.specs.declared.frame.Frame.{Frame}
use Rattle.jx_base.specs.declared.program.Method.{Method}
use Rattle.jx_base.specs.declared.program.Resolved.{Resolved}
use Rattle.jx_base.specs.declared.program.Resolved.TheVariants as resolved
use Rattle.jx_base.specs.declared.row.Row.{Row}
use Rattle.jx_base.specs.declared.row.Row.TheVariants as row
use Rattle.jx_base.specs.declared.row.Kind.{Kind}
use Rattle.jx_base.specs.declared.row.Kind.TheVariants as kind
use Rattle.jx_base.specs.declared.row.Element.{Element}
use Rattle.jx_base.specs.declared.row.Element.TheVariants as element
use Rattle.jx_base.specs.declared.row.Invocation.{Invocation}
use Rattle.jx_base.specs.declared.row.Invocation.TheVariants as invocation
use Rattle.jx_base.specs.Basics.{passes, not_below_zero}
use Rattle.program_model.specs.Types.{signature_of, is_void, is_reference_type, element_type}
use Rattle.program_model.specs.BuiltIn.{string_class, throwable_class, null_pointer_exception, array_index_exception, negative_size_exception, class_cast_exception, array_store_exception, stack_overflow_error, copy_exception}
use Rattle.class_grammar.specs.Opcodes.{row_at}
use Rattle.program_model.specs.Instructions.{index_operand}
use Rattle.class_grammar.specs.Flags.{is_abstract}
use Rattle.program_model.specs.Lookup.{class_at, class_named, method_at, selector_of_method, selected_method, class_fits, is_built_in, shape_fits, shape_fits_class, type_of_class, constant_at}
use Rattle.program_model.specs.Parcels.{packed}
use Rattle.machine_model.specs.NumericRows.{Stack, as_kind, is_null}
use Rattle.machine_model.specs.State.{Store, Core, class_of_object, shape_of, class_of_shape, default_of, kept_value, new_object, new_array, default_cells, cells_of, with_cell, static_types, class_of_frame, with_values, frame_behind, with_running, is_overfull, frame_of, is_overflow}
use Rattle.machine_model.specs.BuiltInMethods.{BuiltInOutcome, built_in_outcome, text_cells, int_of_bool}
use Rattle.machine_model.specs.BuiltInMethods.{BuiltInOutcome as built_in}
use Rattle.std.specs.Option.{option_and_then, option_map}

-- what an object row makes of the core. `Raise` has the class of an exception that the machine makes, `Raised` an object that is thrown; after a `Finish` no frame is left
pub data ObjectOutcome : Type 0 where
  Next : Core → ObjectOutcome
  Raise : ℕ → ObjectOutcome
  Raised : ℕ → Core → ObjectOutcome
  Ask : Act → ObjectOutcome
  Finish : Option Value → Core → ObjectOutcome
  BadCode : ObjectOutcome
  NotMine : ObjectOutcome

-- ---- outcomes

-- bad code where there is none
unfoldable pub given : {A : Type 0} → Option A → (A → ObjectOutcome) → ObjectOutcome
given None go = BadCode
given (Some x) go = go x

-- these frames, unless the running one's stack is deeper than it may be
unfoldable pub next_unless_overfull : System → Store → List Frame → ObjectOutcome
next_unless_overfull s store frames = if is_overfull s frames then BadCode else Next (record { frames = frames; store = store })

-- the running frame goes on behind its instruction with that store and stack
unfoldable pub leaves : System → Core → Store → Stack → ObjectOutcome
leaves s core store stack = next_unless_overfull s store (with_running (frame_behind s stack) core.frames)

-- a new object is pushed; where there was no room for it object 0 is thrown
unfoldable pub leaves_new : System → Core → Stack → Option (Store × ℕ) → ObjectOutcome
leaves_new s core stack None = Raised 0 core
leaves_new s core stack (Some x) = leaves s core x.0 (value.Ref x.1 ∷ stack)

-- ---- constants

-- the String object that ldc made of a text
unfoldable pub literal_of : List (List ℕ × ℕ) → List ℕ → Option ℕ
literal_of literals text = option_map (λ x. x.1) (find (λ x. bytes_eq x.0 text) literals)

-- the store that knows one text more
unfoldable pub with_literal : List ℕ → Store × ℕ → Store × ℕ
with_literal text x = (record x.0 { literals = x.0.literals ++ (text, x.1) ∷ [] }, x.1)

-- the String object of a text, which is made at its first use
unfoldable pub text_row : System → Core → List ℕ → Stack → ObjectOutcome
text_row s core text stack = elim (literal_of core.store.literals text) [
  | Some r ↦ leaves s core core.store (value.Ref r ∷ stack)
  | None ↦ leaves_new s core stack (option_map (with_literal text) (new_object core.store string_class (text_cells text)))
]

-- an Integer or a text is pushed
unfoldable pub constant_row : System → Core → Resolved → Stack → ObjectOutcome
constant_row s core (resolved.Int n) stack = leaves s core core.store (value.Int n ∷ stack)
constant_row s core (resolved.Str text) stack = text_row s core text stack
constant_row s core _ stack = BadCode

-- ---- arrays

-- whether arrays of that component hold such elements
unfoldable pub is_element_type : Element → List ℕ → Bool
is_element_type element.Int type = bytes_eq type (codes "I")
is_element_type element.Long type = bytes_eq type (codes "J")
is_element_type element.Reference type = is_reference_type type
is_element_type element.Byte type = bytes_eq type (codes "B") || bytes_eq type (codes "Z")
is_element_type element.Char type = bytes_eq type (codes "C")
is_element_type element.Short type = bytes_eq type (codes "S")

-- the kind of value that such an element is
unfoldable pub kind_of : Element → Kind
kind_of element.Long = kind.Long
kind_of element.Reference = kind.Reference
kind_of _ = kind.Int

-- the type of an array object's elements
unfoldable pub component_of : System → Store → ℕ → Option (List ℕ)
component_of s store r = option_and_then (λ k. k.component) (option_and_then (class_at s) (class_of_object store r))

-- the component of an array object that holds such elements
unfoldable pub component_for : System → Store → Element → ℕ → Option (List ℕ)
component_for s store e r = option_and_then (λ type. if is_element_type e type then Some type else None) (component_of s store r)

-- an index as a place among so many
unfoldable pub place_in : ℤ → ℕ → Option ℕ
place_in (pos i) n = if nat_lt i n then Some i else None
place_in (negsuc i) n = None

-- with the place that an index of the array object is, or the exception of a bad index
unfoldable pub at_index : Store → ℕ → ℤ → (ℕ → ObjectOutcome) → ObjectOutcome
at_index store r i go = elim (place_in i (length (cells_of store r))) [ None ↦ Raise array_index_exception | Some k ↦ go k ]

-- an index and an array are taken, an element is pushed
unfoldable pub load_row : System → Core → Element → Stack → ObjectOutcome
load_row s core e (value.Int i ∷ value.Null ∷ rest) = Raise null_pointer_exception
load_row s core e (value.Int i ∷ value.Ref r ∷ rest) =
    given (component_for s core.store e r) (λ type. at_index core.store r i (λ k.
    given (slice_get (cells_of core.store r) k) (λ v. leaves s core core.store (v ∷ rest))))
load_row s core e _ = BadCode

-- a value is stored at an index of an array object, if it fits the elements
unfoldable pub store_in : System → Core → Element → Value → ℤ → ℕ → Stack → ObjectOutcome
store_in s core e v i r rest =
    given (component_for s core.store e r) (λ type. at_index core.store r i (λ k.
    if shape_fits s false (shape_of core.store v) type
    then leaves s core (with_cell core.store r k (kept_value type v)) rest
    else Raise array_store_exception))

-- a value, an index and an array are taken
unfoldable pub store_row : System → Core → Element → Stack → ObjectOutcome
store_row s core e (v ∷ value.Int i ∷ value.Null ∷ rest) = given (as_kind (kind_of e) v) (λ x. Raise null_pointer_exception)
store_row s core e (v ∷ value.Int i ∷ value.Ref r ∷ rest) = given (as_kind (kind_of e) v) (λ x. store_in s core e x i r rest)
store_row s core e _ = BadCode

-- the length of an array
unfoldable pub length_row : System → Core → Stack → ObjectOutcome
length_row s core (value.Null ∷ rest) = Raise null_pointer_exception
length_row s core (value.Ref r ∷ rest) =
    given (component_of s core.store r) (λ type. leaves s core core.store (value.Int (pos (length (cells_of core.store r))) ∷ rest))
length_row s core _ = BadCode

-- a length is taken, an array of elements of the type is pushed
unfoldable pub new_array_row : System → Core → List ℕ → Stack → ObjectOutcome
new_array_row s core type (value.Int (pos n) ∷ rest) =
    given (class_named s (91 ∷ type)) (λ c. leaves_new s core rest (new_array core.store c n (default_of type)))
new_array_row s core type (value.Int (negsuc n) ∷ rest) = Raise negative_size_exception
new_array_row s core type _ = BadCode

-- ---- arrays of arrays

-- what making an array of arrays comes to: the store, and the array where there was room for all
pub record Making : Type 0 where
  pub store : Store
  pub array : Option ℕ

-- an array that was made alone
unfoldable pub making_of : Store → Option (Store × ℕ) → Making
making_of store None = record { store = store; array = None }
making_of store (Some x) = record { store = x.0; array = Some x.1 }

-- the elements from place i on, so many, each made whole before the next one is; the first without room ends it
unfoldable pub with_elements : (Store → Making) → ℕ → ℕ → ℕ → Store → Making
with_elements make r i zero store = record { store = store; array = Some r }
with_elements make r i (suc n) store =
    let x : Making = make store in
    elim x.array [ None ↦ x | Some e ↦ with_elements make r (i + 1) n (with_cell x.store r i (value.Ref e)) ]

-- the elements of an array that was made, n of them
unfoldable pub with_all_elements : (Store → Making) → ℕ → Making → Making
with_all_elements make n x = elim x.array [ None ↦ x | Some r ↦ with_elements make r 0 n x.store ]

-- an array of the class of that name, with these lengths of its dimensions; the elements of the last one have their default
unfoldable pub nested_arrays : System → List ℕ → List ℕ → Store → Making
nested_arrays s [] name store = record { store = store; array = None }
nested_arrays s (n ∷ lengths) name store =
    let x : Making = making_of store (option_and_then (λ c. new_array store c n (default_of (drop 1 name))) (class_named s name)) in
    elim lengths [ [] ↦ x | m ∷ more ↦ with_all_elements (nested_arrays s lengths (drop 1 name)) n x ]

-- the ints of these values
unfoldable pub ints_of : List Value → Option (List ℤ)
ints_of [] = Some []
ints_of (value.Int n ∷ vs) = option_map (λ ns. n ∷ ns) (ints_of vs)
ints_of _ = None

-- whether one is below 0
unfoldable pub has_negative : List ℤ → Bool
has_negative ns = list_any (λ n. int_lt n (pos 0)) ns

-- as many lengths as dimensions are taken, the last one on top; the array is pushed, with parts made where there is no room for all
unfoldable pub multi_array_row : System → Core → List ℕ → ℕ → Stack → ObjectOutcome
multi_array_row s core type dimensions stack =
    if nat_lt (length stack) dimensions then BadCode
    else given (ints_of (reverse (take dimensions stack))) (λ lengths.
    if has_negative lengths then Raise negative_size_exception
    else let x : Making = nested_arrays s (map not_below_zero lengths) type core.store in
    elim x.array [
      | None ↦ Raised 0 (record core { store = x.store })
      | Some r ↦ leaves s core x.store (value.Ref r ∷ drop dimensions stack)
    ])

-- ---- fields

-- the type of the field at a place of class c's layout
unfoldable pub field_type : System → ℕ → ℕ → Option (List ℕ)
field_type s c i = option_and_then (λ k. option_map (λ f. f.descriptor) (slice_get k.fields i)) (class_at s c)

-- whether the object is of class c or below it
unfoldable pub is_object_of : System → Store → ℕ → ℕ → Bool
is_object_of s store c r = passes (λ a. class_fits s a c) (class_of_object store r)

-- an object is taken, its field is pushed
unfoldable pub get_field_row : System → Core → ℕ → ℕ → Stack → ObjectOutcome
get_field_row s core c i (value.Null ∷ rest) = Raise null_pointer_exception
get_field_row s core c i (value.Ref r ∷ rest) =
    if is_object_of s core.store c r
    then given (slice_get (cells_of core.store r) i) (λ v. leaves s core core.store (v ∷ rest))
    else BadCode
get_field_row s core c i _ = BadCode

-- the value, where it fits the declared type loosely, as the field keeps it
unfoldable pub fitting_value : System → Store → Value → List ℕ → Option Value
fitting_value s store v type = if shape_fits s true (shape_of store v) type then Some (kept_value type v) else None

-- a value and an object are taken
unfoldable pub put_field_row : System → Core → ℕ → ℕ → Stack → ObjectOutcome
put_field_row s core c i (v ∷ o ∷ rest) = given (option_and_then (fitting_value s core.store v) (field_type s c i)) (λ x. into x o)
  where
    into : Value → Value → ObjectOutcome
    into x value.Null = Raise null_pointer_exception
    into x (value.Ref r) = if is_object_of s core.store c r then leaves s core (with_cell core.store r i x) rest else BadCode
    into x _ = BadCode
put_field_row s core c i _ = BadCode

-- a static field is pushed
unfoldable pub get_static_row : System → Core → ℕ → Stack → ObjectOutcome
get_static_row s core i stack = given (slice_get core.store.statics i) (λ v. leaves s core core.store (v ∷ stack))

-- a value is taken for a static field
unfoldable pub put_static_row : System → Core → ℕ → Stack → ObjectOutcome
put_static_row s core i [] = BadCode
put_static_row s core i (v ∷ rest) =
    given (option_and_then (fitting_value s core.store v) (slice_get (static_types s) i)) (λ x.
    leaves s core (record core.store { statics = slice_set core.store.statics i x }) rest)

-- ---- classes

-- a new object with the default of each field
unfoldable pub new_row : System → Core → ℕ → Stack → ObjectOutcome
new_row s core c stack = leaves_new s core stack (new_object core.store c (default_cells s c))

-- whether the value fits the class, by the rules that hold everywhere
unfoldable pub fits_class : System → Store → Value → ℕ → Bool
fits_class s store v c = shape_fits_class s false (shape_of store v) c

-- the value stays where it fits the class
unfoldable pub check_row : System → Core → ℕ → Stack → ObjectOutcome
check_row s core c [] = BadCode
check_row s core c (v ∷ rest) =
    given (as_kind kind.Reference v) (λ x.
    if fits_class s core.store x c then leaves s core core.store (x ∷ rest) else Raise class_cast_exception)

-- 1 where the value is not null and fits the class, else 0
unfoldable pub instance_row : System → Core → ℕ → Stack → ObjectOutcome
instance_row s core c [] = BadCode
instance_row s core c (v ∷ rest) =
    given (as_kind kind.Reference v) (λ x.
    leaves s core core.store (int_of_bool (not (is_null x) && fits_class s core.store x c) ∷ rest))

-- an object of a Throwable class is thrown
unfoldable pub throw_row : System → Core → Stack → ObjectOutcome
throw_row s core (value.Null ∷ rest) = Raise null_pointer_exception
throw_row s core (value.Ref r ∷ rest) = if is_object_of s core.store throwable_class r then Raised r core else BadCode
throw_row s core _ = BadCode

-- ---- calls

-- what a call takes: its arguments, the object first where there is one, and the stack below them
pub record Taken : Type 0 where
  pub arguments : List Value
  pub below : Stack

-- whether each value fits its declared type, loosely or not, and there are as many
unfoldable pub all_fit : System → Bool → Store → List Value → List (List ℕ) → Bool
all_fit s loose store [] [] = true
all_fit s loose store (v ∷ vs) (t ∷ ts) = shape_fits s loose (shape_of store v) t && all_fit s loose store vs ts
all_fit s loose store _ _ = false

-- the arguments of these types on the top, the last one first
unfoldable pub taken_arguments : System → Core → List (List ℕ) → Stack → Option Taken
taken_arguments s core types stack =
    let arguments : List Value = reverse (take (length types) stack) in
    if all_fit s true core.store arguments types then Some (record { arguments = arguments; below = drop (length types) stack }) else None

-- with the object below the arguments
unfoldable pub with_object : Taken → Option (Value × Taken)
with_object x = onto x.below
  where
    onto : Stack → Option (Value × Taken)
    onto [] = None
    onto (o ∷ below) = Some (o, record { arguments = o ∷ x.arguments; below = below })

-- a result goes onto a stack, if there is one
unfoldable pub with_result : Option Value → Stack → Stack
with_result None stack = stack
with_result (Some v) stack = v ∷ stack

-- a built-in method has no frame
unfoldable pub built_in_row : System → Core → Stack → BuiltInOutcome → ObjectOutcome
built_in_row s core below (built_in.Gives store v) = leaves s core store (with_result v below)
built_in_row s core below (built_in.Performs a) = Ask a
built_in_row s core below (built_in.Raises c) = Raise c
built_in_row s core below built_in.HasNoRoom = Raised 0 core
built_in_row s core below built_in.Unfit = BadCode

-- a frame more, above the caller's, which stays at its call with what is below the arguments
unfoldable pub enter_row : System → Core → ℕ → Taken → ObjectOutcome
enter_row s core m x =
    if is_overflow s m core.frames then Raise stack_overflow_error
    else given (frame_of s m x.arguments) (λ f. next_unless_overfull s core.store (f ∷ with_running (with_values x.below) core.frames))

-- the method runs with these arguments
unfoldable pub run_row : System → Core → ℕ → Taken → ObjectOutcome
run_row s core m x =
    given (method_at s m) (λ k.
    if is_abstract k.flags then BadCode
    else if is_built_in k.class.0 then built_in_row s core x.below (built_in_outcome s core.store k x.arguments) else enter_row s core m x)

-- the call through a portal, with its arguments packed
unfoldable pub portal_row : Core → ServiceId → Method → List Value → ObjectOutcome
portal_row core service m arguments =
    elim (packed core.store.objects core.store.exports arguments) [
      | None ↦ Raise copy_exception
      | Some p ↦ Ask (act.Call service m.selector p)
    ]

-- the method of that selector that the object's class gives runs
unfoldable pub selected_row : System → Core → Method → Value → Taken → ObjectOutcome
selected_row s core k o x =
    given (option_and_then (λ c. selected_method s c k.selector.0) (class_of_shape (shape_of core.store o))) (λ m. run_row s core m x)

-- the method found runs, or the one selected, or a call goes through a portal
unfoldable pub invoke_at : System → Core → Invocation → ℕ → Method → Value → Taken → ObjectOutcome
invoke_at s core invocation.Special m k o x = run_row s core m x
invoke_at s core invocation.Interface m k (value.Portal service iface) x = portal_row core service k (drop 1 x.arguments)
invoke_at s core kind m k o x = selected_row s core k o x

-- on an object that fits the class that declares the method, loosely as any argument does
unfoldable pub invoke_on : System → Core → Invocation → ℕ → Method → Value → Taken → ObjectOutcome
invoke_on s core kind m k o x =
    if not (shape_fits_class s true (shape_of core.store o) k.class.0) then BadCode
    else if is_null o then Raise null_pointer_exception else invoke_at s core kind m k o x

-- the call of the method that linking found
unfoldable pub invoke_row : System → Core → Invocation → ℕ → Stack → ObjectOutcome
invoke_row s core kind m stack =
    given (method_at s m) (λ k. given (selector_of_method s m) (λ y.
    given (taken_arguments s core (signature_of y.descriptor).parameters stack) (by_kind kind k)))
  where
    by_kind : Invocation → Method → Taken → ObjectOutcome
    by_kind invocation.Static k x = run_row s core m x
    by_kind other k x = given (with_object x) (λ y. invoke_on s core other m k y.0 y.1)

-- ---- returns

-- the type of the result of the running frame's method
unfoldable pub result_of : System → List Frame → Option (List ℕ)
result_of s [] = None
result_of s (f ∷ frames) = option_map (λ y. (signature_of y.descriptor).result) (selector_of_method s f.method)

-- the running frame goes; the one below goes on behind its call, with the result
unfoldable pub return_row : System → Core → Option Value → ObjectOutcome
return_row s core v = from core.frames
  where
    from : List Frame → ObjectOutcome
    from [] = BadCode
    from (f ∷ []) = Finish v (record core { frames = [] })
    from (f ∷ g ∷ frames) = next_unless_overfull s core.store (frame_behind s (with_result v g.stack.values) g ∷ frames)

-- a value of that kind is returned, where it fits the result loosely
unfoldable pub return_value_row : System → Core → Kind → Stack → ObjectOutcome
return_value_row s core k [] = BadCode
return_value_row s core k (v ∷ rest) =
    given (as_kind k v) (λ x. given (result_of s core.frames) (λ type.
    if shape_fits s true (shape_of core.store x) type then return_row s core (Some x) else BadCode))

-- nothing is returned
unfoldable pub return_void_row : System → Core → ObjectOutcome
return_void_row s core = given (result_of s core.frames) (λ type. if is_void type then return_row s core None else BadCode)

-- ---- the rows

-- the name of that class
unfoldable pub name_of_class : System → ℕ → Option (List ℕ)
name_of_class s c = option_map (λ k. k.name) (class_at s c)

-- the type of that class
unfoldable pub type_of : System → ℕ → Option (List ℕ)
type_of s c = option_map type_of_class (class_at s c)

-- the rows of classes and arrays, at the class that the constant is
unfoldable pub class_row : System → Core → Row → Instr → ℕ → Stack → ObjectOutcome
class_row s core row.New i c stack = new_row s core c stack
class_row s core row.NewReferenceArray i c stack = given (type_of s c) (λ type. new_array_row s core type stack)
class_row s core row.NewMultiArray i c stack = given (name_of_class s c) (λ type. multi_array_row s core type (index_operand i 1) stack)
class_row s core row.CheckCast i c stack = check_row s core c stack
class_row s core row.InstanceOf i c stack = instance_row s core c stack
class_row s core _ i c stack = BadCode

-- the rows that use a constant
unfoldable pub constant_used_row : System → Core → Row → Instr → Resolved → Stack → ObjectOutcome
constant_used_row s core row.PushConstant i x stack = constant_row s core x stack
constant_used_row s core row.GetStatic i (resolved.Static c k) stack = get_static_row s core k stack
constant_used_row s core row.PutStatic i (resolved.Static c k) stack = put_static_row s core k stack
constant_used_row s core row.GetField i (resolved.Instance c k) stack = get_field_row s core c.0 k stack
constant_used_row s core row.PutField i (resolved.Instance c k) stack = put_field_row s core c.0 k stack
constant_used_row s core (row.Invoke kind) i (resolved.Method m) stack = invoke_row s core kind m stack
constant_used_row s core r i (resolved.Class c) stack = class_row s core r i c.0 stack
constant_used_row s core r i x stack = BadCode

-- the rows that use no constant
unfoldable pub plain_row : System → Core → Row → Instr → Stack → ObjectOutcome
plain_row s core (row.LoadElement e) i stack = load_row s core e stack
plain_row s core (row.StoreElement e) i stack = store_row s core e stack
plain_row s core row.NewArray i stack = new_array_row s core (element_type (index_operand i 0)) stack
plain_row s core row.ArrayLength i stack = length_row s core stack
plain_row s core row.Throw i stack = throw_row s core stack
plain_row s core (row.Return k) i stack = return_value_row s core k stack
plain_row s core row.ReturnVoid i stack = return_void_row s core
plain_row s core _ i stack = NotMine

-- whether the row uses the constant of its first operand
unfoldable pub uses_constant : Row → Bool
uses_constant row.PushConstant = true
uses_constant row.GetStatic = true
uses_constant row.PutStatic = true
uses_constant row.GetField = true
uses_constant row.PutField = true
uses_constant (row.Invoke kind) = true
uses_constant row.New = true
uses_constant row.NewReferenceArray = true
uses_constant row.NewMultiArray = true
uses_constant row.CheckCast = true
uses_constant row.InstanceOf = true
uses_constant _ = false

-- what an instruction does to the core, at its running frame
unfoldable pub object_row_in : System → Core → Frame → Instr → ObjectOutcome
object_row_in s core f i =
    let r : Row = row_at i.opcode in
    elim (uses_constant r) [
      | true ↦ given (constant_at s (class_of_frame s f) (index_operand i 0)) (λ x. constant_used_row s core r i x f.stack.values)
      | false ↦ plain_row s core r i f.stack.values
    ]

-- what an instruction does to the core
unfoldable pub object_row : System → Core → Instr → ObjectOutcome
object_row s core i = elim core.frames [ [] ↦ BadCode | f ∷ frames ↦ object_row_in s core f i ]

-- what a computed case opens
unfoldable pub opened_object_rows : Unit {0}
unfolding given next_unless_overfull leaves leaves_new literal_of with_literal text_row constant_row is_element_type kind_of component_of component_for place_in at_index load_row store_in store_row length_row new_array_row making_of with_elements with_all_elements nested_arrays ints_of has_negative multi_array_row field_type is_object_of get_field_row fitting_value put_field_row get_static_row put_static_row new_row fits_class check_row instance_row throw_row all_fit taken_arguments with_object with_result built_in_row enter_row run_row portal_row selected_row invoke_at invoke_on invoke_row result_of return_row return_value_row return_void_row name_of_class type_of class_row constant_used_row plain_row uses_constant object_row_in object_row
opened_object_rows = tt
