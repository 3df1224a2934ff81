-- What the built-in methods do.
use Rattle.std.specs.Prelude.{ℕ, ◌%◌, ℤ, pos, negsuc, ◌+ℤ◌, ◌*ℤ◌, int_le, Bool, false, ◌&&◌, List, [], ◌∷◌, ◌++◌, length, Option, Some, None, ◌==◌, nat_le, if◌then◌else◌, map, find, slice_get, codes}
use Rattle.std.specs.Str.{bytes_eq}
use Rattle.std.specs.Fmt.{signed_decimal}
use Rattle.std.specs.Int.{w32, cast_unsigned, int_wrap}
use Rattle.jx_base.specs.declared.act.Act.{Act}
use Rattle.jx_base.specs.declared.act.Act.TheVariants as act
use Rattle.jx_base.specs.declared.ids.ObjectId.{ObjectId}
use Rattle.jx_base.specs.declared.program.Method.{Method}
use Rattle.jx_base.specs.declared.program.Selector.{Selector}
use Rattle.jx_base.specs.declared.program.System.{System}
use Rattle.jx_base.specs.declared.value.Value.{Value}
use Rattle.jx_base.specs.declared.value.Value.TheVariants as value
use Rattle.jx_base.specs.Basics.{passes, not_below_zero}
use Rattle.program_model.specs.Types.{cut_to_type}
use Rattle.program_model.specs.BuiltIn.{object_class, string_class, builder_class, throwable_class, portal_class, zero_class, memory_class, null_pointer_exception, string_index_exception, range_exception, class_cast_exception}
use Rattle.program_model.specs.Lookup.{class_named, is_interface, is_below, selector_at}
use Rattle.machine_model.specs.NumericRows.{is_same}
use Rattle.machine_model.specs.State.{Store, class_of_object, cells_of, with_cell, new_object}
use Rattle.program_model.specs.Limits.{text_limit, thread_limit}
use Rattle.program_model.specs.Ranges.{is_service_name}
use Rattle.std.specs.Option.{option_and_then}

-- what a built-in method comes to: a result, an act, an exception of a class, object 0 for want of room, or values that no linked call passes
pub data BuiltInOutcome : Type 0 where
  Gives : Store → Option Value → BuiltInOutcome
  Performs : Act → BuiltInOutcome
  Raises : ℕ → BuiltInOutcome
  HasNoRoom : BuiltInOutcome
  Unfit : BuiltInOutcome

-- what a built-in method does with the store and its arguments, the object first
abbrev pub Effect : Type 0
Effect = System → Store → List Value → BuiltInOutcome

-- ---- words

-- true as 1, false as 0
unfoldable pub int_of_bool : Bool → Value
int_of_bool b = if b then value.Int (pos 1) else value.Int (pos 0)

-- a result that leaves the store as it is
unfoldable pub result_value : Store → Value → BuiltInOutcome
result_value store v = Gives store (Some v)

-- the act, or the exception where the test fails
unfoldable pub act_if : Bool → ℕ → Act → BuiltInOutcome
act_if test exception a = if test then Performs a else Raises exception

-- the unit that a cell holds
unfoldable pub unit_of : Value → ℕ
unit_of (value.Int n) = not_below_zero n
unit_of _ = 0

-- the units of a String object
unfoldable pub text_of : Store → ℕ → List ℕ
text_of store r = map unit_of (cells_of store r)

-- the cells of a String object of these units
unfoldable pub text_cells : List ℕ → List Value
text_cells units = map (λ u. value.Int (pos u)) units

-- a new String object, where it has room
unfoldable pub with_new_text : Store → List ℕ → (Store → ℕ → BuiltInOutcome) → BuiltInOutcome
with_new_text store units go = elim (new_object store string_class (text_cells units)) [ None ↦ HasNoRoom | Some x ↦ go x.0 x.1 ]

-- a text that an act may carry
unfoldable pub is_short : List ℕ → Bool
is_short units = nat_le (length units) text_limit

-- ---- java/lang/Object and Throwable

-- a constructor that does nothing
unfoldable pub constructor : Effect
constructor s store args = Gives store None

-- whether both are the same object
unfoldable pub identity_test : Effect
identity_test s store (a ∷ b ∷ []) = result_value store (int_of_bool (is_same a b))
identity_test s store _ = Unfit

-- the message is set
unfoldable pub message_constructor : Effect
message_constructor s store (value.Ref r ∷ v ∷ []) = Gives (with_cell store r 0 v) None
message_constructor s store _ = Unfit

-- the first cell: of a Throwable its message, of a StringBuilder its String
unfoldable pub first_cell : Effect
first_cell s store (value.Ref r ∷ []) = Gives store (slice_get (cells_of store r) 0)
first_cell s store _ = Unfit

-- ---- java/lang/String

-- how many units it has
unfoldable pub text_length : Effect
text_length s store (value.Ref r ∷ []) = result_value store (value.Int (pos (length (text_of store r))))
text_length s store _ = Unfit

-- the unit at a place
unfoldable pub unit_at : Store → List ℕ → ℤ → BuiltInOutcome
unit_at store units (pos i) = elim (slice_get units i) [ None ↦ Raises string_index_exception | Some u ↦ result_value store (value.Int (pos u)) ]
unit_at store units (negsuc i) = Raises string_index_exception

-- charAt
unfoldable pub text_unit : Effect
text_unit s store (value.Ref r ∷ value.Int i ∷ []) = unit_at store (text_of store r) i
text_unit s store _ = Unfit

-- whether the value is a String of these units
unfoldable pub is_text : Store → List ℕ → Value → Bool
is_text store units (value.Ref r) = passes (λ c. c == string_class) (class_of_object store r) && bytes_eq units (text_of store r)
is_text store units _ = false

-- whether the other object is a String of the same units
unfoldable pub text_test : Effect
text_test s store (value.Ref r ∷ v ∷ []) = result_value store (int_of_bool (is_text store (text_of store r) v))
text_test s store _ = Unfit

-- the units as a number, each one added to 31 times what stands before it; it wraps
unfoldable pub hash_of : ℤ → List ℕ → ℤ
hash_of hash [] = hash
hash_of hash (u ∷ units) = hash_of (int_wrap w32 (pos 31 *ℤ hash +ℤ pos u)) units

-- hashCode
unfoldable pub text_hash : Effect
text_hash s store (value.Ref r ∷ []) = result_value store (value.Int (hash_of (pos 0) (text_of store r)))
text_hash s store _ = Unfit

-- both texts in a new String
unfoldable pub text_concatenation : Effect
text_concatenation s store (value.Ref r ∷ value.Null ∷ []) = Raises null_pointer_exception
text_concatenation s store (value.Ref r ∷ value.Ref o ∷ []) =
    with_new_text store (text_of store r ++ text_of store o) (λ new x. result_value new (value.Ref x))
text_concatenation s store _ = Unfit

-- ---- java/lang/StringBuilder

-- an empty String becomes its text
unfoldable pub builder_constructor : Effect
builder_constructor s store (value.Ref b ∷ []) = with_new_text store [] (λ new x. Gives (with_cell new b 0 (value.Ref x)) None)
builder_constructor s store _ = Unfit

-- what is appended: a text, or null
unfoldable pub appended_text : Store → Value → List ℕ
appended_text store (value.Ref r) = text_of store r
appended_text store _ = codes "null"

-- a number
unfoldable pub appended_number : Store → Value → List ℕ
appended_number store (value.Int n) = signed_decimal n
appended_number store (value.Long n) = signed_decimal n
appended_number store _ = []

-- a unit, of the int's low 16 bits
unfoldable pub appended_unit : Store → Value → List ℕ
appended_unit store (value.Int n) = not_below_zero (cut_to_type (codes "C") n) ∷ []
appended_unit store _ = []

-- true or false, by the int's lowest bit
unfoldable pub appended_bool : Store → Value → List ℕ
appended_bool store (value.Int n) = if int_le (pos 1) (cut_to_type (codes "Z") n) then codes "true" else codes "false"
appended_bool store _ = []

-- the text with more behind it in a new String; a builder without a text is null
unfoldable pub append_of : (Store → Value → List ℕ) → Effect
append_of more s store (value.Ref b ∷ v ∷ []) = onto (slice_get (cells_of store b) 0)
  where
    onto : Option Value → BuiltInOutcome
    onto (Some (value.Ref r)) =
        with_new_text store (text_of store r ++ more store v) (λ new x. result_value (with_cell new b 0 (value.Ref x)) (value.Ref b))
    onto _ = Raises null_pointer_exception
append_of more s store _ = Unfit

-- ---- jx/Zero

-- the act of a short text
unfoldable pub text_act : (List ℕ → Act) → Effect
text_act f s store (value.Null ∷ []) = Raises null_pointer_exception
text_act f s store (value.Ref r ∷ []) = act_if (is_short (text_of store r)) range_exception (f (text_of store r))
text_act f s store _ = Unfit

-- the act of an int
unfoldable pub int_act : (ℤ → Act) → Effect
int_act f s store (value.Int n ∷ []) = Performs (f n)
int_act f s store _ = Unfit

-- the thread yields
unfoldable pub pause : Effect
pause s store args = Performs act.Yield

-- a name is looked up
unfoldable pub lookup : Effect
lookup s store (value.Null ∷ []) = Raises null_pointer_exception
lookup s store (value.Ref r ∷ []) = act_if (is_service_name (text_of store r)) range_exception (act.Lookup (text_of store r))
lookup s store _ = Unfit

-- a portal is bound; anything else that is passed for one is no portal
unfoldable pub bind : Effect
bind s store (value.Null ∷ p ∷ []) = Raises null_pointer_exception
bind s store (value.Ref r ∷ value.Null ∷ []) = Raises null_pointer_exception
bind s store (value.Ref r ∷ p ∷ []) = if is_service_name (text_of store r) then named p else Raises range_exception
  where
    named : Value → BuiltInOutcome
    named (value.Portal service iface) = Performs (act.Bind (text_of store r) service)
    named _ = Raises class_cast_exception
bind s store _ = Unfit

-- the interface of that name, where the class implements it
unfoldable pub interface_named : System → ℕ → List ℕ → Option ℕ
interface_named s c name = option_and_then (λ i. if is_interface s i && is_below s c i then Some i else None) (class_named s name)

-- the export of an object under the interface of that name; a portal or a memory object can't be exported
unfoldable pub export_of : System → Store → Value → List ℕ → ℤ → BuiltInOutcome
export_of s store (value.Ref r) name threads =
    elim (option_and_then (λ c. interface_named s c name) (class_of_object store r)) [
      | None ↦ Raises class_cast_exception
      | Some i ↦ Performs (act.Export (record { 0 = i }) (not_below_zero threads))
    ]
export_of s store _ name threads = Raises class_cast_exception

-- 1 to 8 threads
unfoldable pub is_thread_count : ℤ → Bool
is_thread_count n = int_le (pos 1) n && int_le n (pos thread_limit)

-- an object, the name of an interface and a count of threads
unfoldable pub export : Effect
export s store (value.Null ∷ n ∷ k ∷ []) = Raises null_pointer_exception
export s store (o ∷ value.Null ∷ k ∷ []) = Raises null_pointer_exception
export s store (o ∷ value.Ref r ∷ value.Int k ∷ []) =
    if is_short (text_of store r) && is_thread_count k then export_of s store o (text_of store r) k else Raises range_exception
export s store _ = Unfit

-- ---- jx/Memory

-- the act on a memory object
unfoldable pub memory_act : (ObjectId → Act) → Effect
memory_act f s store (value.Mem m ∷ []) = Performs (f m)
memory_act f s store _ = Unfit

-- the act on a memory object and an int
unfoldable pub memory_int_act : (ObjectId → ℤ → Act) → Effect
memory_int_act f s store (value.Mem m ∷ value.Int at ∷ []) = Performs (f m at)
memory_int_act f s store _ = Unfit

-- the act on a memory object and two ints
unfoldable pub memory_ints_act : (ObjectId → ℤ → ℤ → Act) → Effect
memory_ints_act f s store (value.Mem m ∷ value.Int at ∷ value.Int n ∷ []) = Performs (f m at n)
memory_ints_act f s store _ = Unfit

-- the byte is the int's low 8 bits
unfoldable pub fill : Effect
fill s store (value.Mem m ∷ value.Int at ∷ value.Int count ∷ value.Int byte ∷ []) =
    Performs (act.Fill m at count (cast_unsigned w32 byte % 256))
fill s store _ = Unfit

-- the target stands between its places in both objects
unfoldable pub copy : Effect
copy s store (value.Mem m ∷ value.Int at ∷ value.Null ∷ value.Int to ∷ value.Int n ∷ []) = Raises null_pointer_exception
copy s store (value.Mem m ∷ value.Int at ∷ value.Mem k ∷ value.Int to ∷ value.Int n ∷ []) = Performs (act.Copy m at k to n)
copy s store _ = Unfit

-- ---- the list

-- a built-in method: the class that declares it, its name, its descriptor and what it does
pub record BuiltInMethod : Type 0 where
  pub class : ℕ
  pub name : List ℕ
  pub descriptor : List ℕ
  pub effect : Effect

-- a method of a class
unfoldable pub built_in_method : ℕ → List ℕ → List ℕ → Effect → BuiltInMethod
built_in_method class name descriptor effect = record { class = class; name = name; descriptor = descriptor; effect = effect }

-- the methods of java/lang/Object
unfoldable pub object_effects : List BuiltInMethod
object_effects =
    built_in_method object_class (codes "<init>") (codes "()V") constructor
    ∷ built_in_method object_class (codes "equals") (codes "(Ljava/lang/Object;)Z") identity_test ∷ []

-- the methods of java/lang/String
unfoldable pub string_effects : List BuiltInMethod
string_effects =
    built_in_method string_class (codes "length") (codes "()I") text_length
    ∷ built_in_method string_class (codes "charAt") (codes "(I)C") text_unit
    ∷ built_in_method string_class (codes "equals") (codes "(Ljava/lang/Object;)Z") text_test
    ∷ built_in_method string_class (codes "hashCode") (codes "()I") text_hash
    ∷ built_in_method string_class (codes "concat") (codes "(Ljava/lang/String;)Ljava/lang/String;") text_concatenation ∷ []

-- the methods of java/lang/StringBuilder
unfoldable pub builder_effects : List BuiltInMethod
builder_effects =
    built_in_method builder_class (codes "<init>") (codes "()V") builder_constructor
    ∷ built_in_method builder_class (codes "append") (codes "(Ljava/lang/String;)Ljava/lang/StringBuilder;") (append_of appended_text)
    ∷ built_in_method builder_class (codes "append") (codes "(I)Ljava/lang/StringBuilder;") (append_of appended_number)
    ∷ built_in_method builder_class (codes "append") (codes "(J)Ljava/lang/StringBuilder;") (append_of appended_number)
    ∷ built_in_method builder_class (codes "append") (codes "(C)Ljava/lang/StringBuilder;") (append_of appended_unit)
    ∷ built_in_method builder_class (codes "append") (codes "(Z)Ljava/lang/StringBuilder;") (append_of appended_bool)
    ∷ built_in_method builder_class (codes "toString") (codes "()Ljava/lang/String;") first_cell ∷ []

-- the two constructors of a Throwable class
unfoldable pub constructor_effects : ℕ → List BuiltInMethod
constructor_effects c =
    built_in_method c (codes "<init>") (codes "()V") constructor
    ∷ built_in_method c (codes "<init>") (codes "(Ljava/lang/String;)V") message_constructor ∷ []

-- the method that java/lang/Throwable has besides
unfoldable pub message_effects : List BuiltInMethod
message_effects = built_in_method throwable_class (codes "getMessage") (codes "()Ljava/lang/String;") first_cell ∷ []

-- the methods of jx/Zero
unfoldable pub zero_effects : List BuiltInMethod
zero_effects =
    built_in_method zero_class (codes "print") (codes "(Ljava/lang/String;)V") (text_act (λ t. act.Print t))
    ∷ built_in_method zero_class (codes "export") (codes "(Ljava/lang/Object;Ljava/lang/String;I)Ljx/Portal;") export
    ∷ built_in_method zero_class (codes "bind") (codes "(Ljava/lang/String;Ljx/Portal;)V") bind
    ∷ built_in_method zero_class (codes "lookup") (codes "(Ljava/lang/String;)Ljx/Portal;") lookup
    ∷ built_in_method zero_class (codes "alloc") (codes "(I)Ljx/Memory;") (int_act (λ n. act.Alloc n))
    ∷ built_in_method zero_class (codes "spawn") (codes "(Ljava/lang/String;)I") (text_act (λ t. act.Spawn t))
    ∷ built_in_method zero_class (codes "kill") (codes "(I)V") (int_act (λ n. act.Kill n))
    ∷ built_in_method zero_class (codes "exit") (codes "(I)V") (int_act (λ n. act.Exit n))
    ∷ built_in_method zero_class (codes "pause") (codes "()V") pause ∷ []

-- the methods of jx/Memory
unfoldable pub memory_effects : List BuiltInMethod
memory_effects =
    built_in_method memory_class (codes "size") (codes "()I") (memory_act (λ m. act.Size m))
    ∷ built_in_method memory_class (codes "get8") (codes "(I)I") (memory_int_act (λ m at. act.Get m at 1))
    ∷ built_in_method memory_class (codes "get16") (codes "(I)I") (memory_int_act (λ m at. act.Get m at 2))
    ∷ built_in_method memory_class (codes "get32") (codes "(I)I") (memory_int_act (λ m at. act.Get m at 4))
    ∷ built_in_method memory_class (codes "set8") (codes "(II)V") (memory_ints_act (λ m at v. act.Set m at 1 v))
    ∷ built_in_method memory_class (codes "set16") (codes "(II)V") (memory_ints_act (λ m at v. act.Set m at 2 v))
    ∷ built_in_method memory_class (codes "set32") (codes "(II)V") (memory_ints_act (λ m at v. act.Set m at 4 v))
    ∷ built_in_method memory_class (codes "fill") (codes "(III)V") fill
    ∷ built_in_method memory_class (codes "copy") (codes "(ILjx/Memory;II)V") copy
    ∷ built_in_method memory_class (codes "sub") (codes "(II)Ljx/Memory;") (memory_ints_act (λ m at n. act.Sub m at n))
    ∷ built_in_method memory_class (codes "split") (codes "(I)[Ljx/Memory;") (memory_int_act (λ m at. act.Split m at))
    ∷ built_in_method memory_class (codes "revoke") (codes "()Ljx/Memory;") (memory_act (λ m. act.Revoke m))
    ∷ built_in_method memory_class (codes "drop") (codes "()V") (memory_act (λ m. act.Release m)) ∷ []

-- the built-in methods of a class
unfoldable pub effects_of : ℕ → List BuiltInMethod
effects_of c =
    if c == object_class then object_effects
    else if c == string_class then string_effects
    else if c == builder_class then builder_effects
    else if c == throwable_class then constructor_effects c ++ message_effects
    else if c == portal_class then []
    else if c == zero_class then zero_effects
    else if c == memory_class then memory_effects else constructor_effects c

-- whether it is the method of that selector
unfoldable pub is_of : Selector → BuiltInMethod → Bool
is_of x m = bytes_eq m.name x.name && bytes_eq m.descriptor x.descriptor

-- what a built-in method of the system does with these arguments
unfoldable pub built_in_outcome : System → Store → Method → List Value → BuiltInOutcome
built_in_outcome s store m args =
    elim (option_and_then (λ x. find (is_of x) (effects_of m.class.0)) (selector_at s m.selector.0)) [
      | None ↦ Unfit
      | Some b ↦ b.effect s store args
    ]

-- what a computed case opens
unfoldable pub opened_built_in_methods : Unit {0}
unfolding int_of_bool result_value act_if unit_of text_of text_cells with_new_text is_short constructor identity_test message_constructor first_cell text_length unit_at text_unit is_text text_test hash_of text_hash text_concatenation builder_constructor appended_text appended_number appended_unit appended_bool append_of text_act int_act pause lookup bind interface_named export_of is_thread_count export memory_act memory_int_act memory_ints_act fill copy built_in_method object_effects string_effects builder_effects constructor_effects message_effects zero_effects memory_effects effects_of is_of built_in_outcome
opened_built_in_methods = tt
