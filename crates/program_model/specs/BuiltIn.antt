-- The built-in classes: their places, which are their numbers in every system, and the table of them.
use Rattle.std.specs.Prelude.{ℕ, List, [], ◌∷◌, ◌++◌, Option, Some, None, codes}
use Rattle.jx_base.specs.declared.ids.ClassId.{ClassId}
use Rattle.jx_base.specs.declared.program.Class.{Class}
use Rattle.jx_base.specs.declared.program.Declared.{Declared}
use Rattle.jx_base.specs.declared.program.Field.{Field}

-- ---- places

-- java/lang/Object
unfoldable pub object_class : ℕ
object_class = 0

-- java/lang/String
unfoldable pub string_class : ℕ
string_class = 1

-- java/lang/StringBuilder
unfoldable pub builder_class : ℕ
builder_class = 2

-- java/lang/Throwable
unfoldable pub throwable_class : ℕ
throwable_class = 3

-- java/lang/Exception
unfoldable pub exception_class : ℕ
exception_class = 4

-- java/lang/RuntimeException
unfoldable pub runtime_exception : ℕ
runtime_exception = 5

-- java/lang/ArithmeticException
unfoldable pub arithmetic_exception : ℕ
arithmetic_exception = 6

-- java/lang/NullPointerException
unfoldable pub null_pointer_exception : ℕ
null_pointer_exception = 7

-- java/lang/IndexOutOfBoundsException
unfoldable pub index_exception : ℕ
index_exception = 8

-- java/lang/ArrayIndexOutOfBoundsException
unfoldable pub array_index_exception : ℕ
array_index_exception = 9

-- java/lang/StringIndexOutOfBoundsException
unfoldable pub string_index_exception : ℕ
string_index_exception = 10

-- java/lang/NegativeArraySizeException
unfoldable pub negative_size_exception : ℕ
negative_size_exception = 11

-- java/lang/ClassCastException
unfoldable pub class_cast_exception : ℕ
class_cast_exception = 12

-- java/lang/ArrayStoreException
unfoldable pub array_store_exception : ℕ
array_store_exception = 13

-- java/lang/Error
unfoldable pub error_class : ℕ
error_class = 14

-- java/lang/VirtualMachineError
unfoldable pub machine_error : ℕ
machine_error = 15

-- java/lang/OutOfMemoryError
unfoldable pub out_of_memory_error : ℕ
out_of_memory_error = 16

-- java/lang/StackOverflowError
unfoldable pub stack_overflow_error : ℕ
stack_overflow_error = 17

-- jx/Portal
unfoldable pub portal_class : ℕ
portal_class = 18

-- jx/Zero
unfoldable pub zero_class : ℕ
zero_class = 19

-- jx/Memory
unfoldable pub memory_class : ℕ
memory_class = 20

-- jx/CopyException
unfoldable pub copy_exception : ℕ
copy_exception = 21

-- jx/EndedException
unfoldable pub ended_exception : ℕ
ended_exception = 22

-- jx/RevokedException
unfoldable pub revoked_exception : ℕ
revoked_exception = 23

-- jx/DroppedException
unfoldable pub dropped_exception : ℕ
dropped_exception = 24

-- jx/RangeException
unfoldable pub range_exception : ℕ
range_exception = 25

-- jx/RefusedException
unfoldable pub refused_exception : ℕ
refused_exception = 26

-- how many built-in classes there are
unfoldable pub built_in_count : ℕ
built_in_count = 27

-- ---- the table

-- a public method
unfoldable pub method : List ℕ → List ℕ → Declared
method name descriptor = record { flags = 0x0001; selector = record { name = name; descriptor = descriptor } }

-- a public static method
unfoldable pub static_method : List ℕ → List ℕ → Declared
static_method name descriptor = record { flags = 0x0009; selector = record { name = name; descriptor = descriptor } }

-- a field of type String, of the class at that place
unfoldable pub text_field : ℕ → List ℕ → Field
text_field owner name = record { owner = record { 0 = owner }; name = name; descriptor = codes "Ljava/lang/String;" }

-- a built-in class
unfoldable pub built_in_class : List ℕ → Option ClassId → List Field → List Declared → Class
built_in_class name parent fields methods =
    record {
      name = name;
      parent = parent;
      interfaces = [];
      component = None;
      fields = fields;
      statics = [];
      methods = methods;
      flags = 0x0021;
      constants = [];
    }

-- a built-in class below another one
unfoldable pub class_below : ℕ → List ℕ → List Field → List Declared → Class
class_below parent name fields methods = built_in_class name (Some (record { 0 = parent })) fields methods

-- the two constructors of a Throwable class
unfoldable pub constructors : List Declared
constructors = method (codes "<init>") (codes "()V") ∷ method (codes "<init>") (codes "(Ljava/lang/String;)V") ∷ []

-- a Throwable class below another one
unfoldable pub throwable_below : ℕ → List ℕ → Class
throwable_below parent name = class_below parent name (text_field throwable_class (codes "message") ∷ []) constructors

-- an array class
unfoldable pub array_class : List ℕ → Class
array_class component = record (class_below object_class (91 ∷ component) [] []) { component = Some component; flags = 0 }

-- the methods of java/lang/Object
unfoldable pub object_methods : List Declared
object_methods = method (codes "<init>") (codes "()V") ∷ method (codes "equals") (codes "(Ljava/lang/Object;)Z") ∷ []

-- the methods of java/lang/String
unfoldable pub string_methods : List Declared
string_methods =
    method (codes "length") (codes "()I")
    ∷ method (codes "charAt") (codes "(I)C")
    ∷ method (codes "equals") (codes "(Ljava/lang/Object;)Z")
    ∷ method (codes "hashCode") (codes "()I")
    ∷ method (codes "concat") (codes "(Ljava/lang/String;)Ljava/lang/String;") ∷ []

-- the methods of java/lang/StringBuilder
unfoldable pub builder_methods : List Declared
builder_methods =
    method (codes "<init>") (codes "()V")
    ∷ method (codes "append") (codes "(Ljava/lang/String;)Ljava/lang/StringBuilder;")
    ∷ method (codes "append") (codes "(I)Ljava/lang/StringBuilder;")
    ∷ method (codes "append") (codes "(J)Ljava/lang/StringBuilder;")
    ∷ method (codes "append") (codes "(C)Ljava/lang/StringBuilder;")
    ∷ method (codes "append") (codes "(Z)Ljava/lang/StringBuilder;")
    ∷ method (codes "toString") (codes "()Ljava/lang/String;") ∷ []

-- the methods of jx/Zero
unfoldable pub zero_methods : List Declared
zero_methods =
    static_method (codes "print") (codes "(Ljava/lang/String;)V")
    ∷ static_method (codes "export") (codes "(Ljava/lang/Object;Ljava/lang/String;I)Ljx/Portal;")
    ∷ static_method (codes "bind") (codes "(Ljava/lang/String;Ljx/Portal;)V")
    ∷ static_method (codes "lookup") (codes "(Ljava/lang/String;)Ljx/Portal;")
    ∷ static_method (codes "alloc") (codes "(I)Ljx/Memory;")
    ∷ static_method (codes "spawn") (codes "(Ljava/lang/String;)I")
    ∷ static_method (codes "kill") (codes "(I)V")
    ∷ static_method (codes "exit") (codes "(I)V")
    ∷ static_method (codes "pause") (codes "()V") ∷ []

-- the methods of jx/Memory
unfoldable pub memory_methods : List Declared
memory_methods =
    method (codes "size") (codes "()I")
    ∷ method (codes "get8") (codes "(I)I")
    ∷ method (codes "get16") (codes "(I)I")
    ∷ method (codes "get32") (codes "(I)I")
    ∷ method (codes "set8") (codes "(II)V")
    ∷ method (codes "set16") (codes "(II)V")
    ∷ method (codes "set32") (codes "(II)V")
    ∷ method (codes "fill") (codes "(III)V")
    ∷ method (codes "copy") (codes "(ILjx/Memory;II)V")
    ∷ method (codes "sub") (codes "(II)Ljx/Memory;")
    ∷ method (codes "split") (codes "(I)[Ljx/Memory;")
    ∷ method (codes "revoke") (codes "()Ljx/Memory;")
    ∷ method (codes "drop") (codes "()V") ∷ []

-- java/lang/Throwable
unfoldable pub throwable_itself : Class
throwable_itself =
    record (throwable_below object_class (codes "java/lang/Throwable")) {
      methods = constructors ++ method (codes "getMessage") (codes "()Ljava/lang/String;") ∷ [];
    }

-- objects and texts
unfoldable pub plain_classes : List Class
plain_classes =
    built_in_class (codes "java/lang/Object") None [] object_methods
    ∷ class_below object_class (codes "java/lang/String") [] string_methods
    ∷ class_below object_class (codes "java/lang/StringBuilder") (text_field builder_class (codes "text") ∷ []) builder_methods ∷ []

-- what java/lang has to throw
unfoldable pub language_throwables : List Class
language_throwables =
    throwable_itself
    ∷ throwable_below throwable_class (codes "java/lang/Exception")
    ∷ throwable_below exception_class (codes "java/lang/RuntimeException")
    ∷ throwable_below runtime_exception (codes "java/lang/ArithmeticException")
    ∷ throwable_below runtime_exception (codes "java/lang/NullPointerException")
    ∷ throwable_below runtime_exception (codes "java/lang/IndexOutOfBoundsException")
    ∷ throwable_below index_exception (codes "java/lang/ArrayIndexOutOfBoundsException")
    ∷ throwable_below index_exception (codes "java/lang/StringIndexOutOfBoundsException")
    ∷ throwable_below runtime_exception (codes "java/lang/NegativeArraySizeException")
    ∷ throwable_below runtime_exception (codes "java/lang/ClassCastException")
    ∷ throwable_below runtime_exception (codes "java/lang/ArrayStoreException")
    ∷ throwable_below throwable_class (codes "java/lang/Error")
    ∷ throwable_below error_class (codes "java/lang/VirtualMachineError")
    ∷ throwable_below machine_error (codes "java/lang/OutOfMemoryError")
    ∷ throwable_below machine_error (codes "java/lang/StackOverflowError") ∷ []

-- portals, the calls of the nucleus, and memory objects
unfoldable pub nucleus_classes : List Class
nucleus_classes =
    record (class_below object_class (codes "jx/Portal") [] []) { flags = 0x0601 }
    ∷ class_below object_class (codes "jx/Zero") [] zero_methods
    ∷ class_below object_class (codes "jx/Memory") [] memory_methods ∷ []

-- the exceptions that tell of the nucleus
unfoldable pub nucleus_exceptions : List Class
nucleus_exceptions =
    throwable_below runtime_exception (codes "jx/CopyException")
    ∷ throwable_below runtime_exception (codes "jx/EndedException")
    ∷ throwable_below runtime_exception (codes "jx/RevokedException")
    ∷ throwable_below runtime_exception (codes "jx/DroppedException")
    ∷ throwable_below runtime_exception (codes "jx/RangeException")
    ∷ throwable_below runtime_exception (codes "jx/RefusedException") ∷ []

-- all classes of objects that can be thrown
unfoldable pub throwable_classes : List Class
throwable_classes = language_throwables ++ nucleus_exceptions

-- all built-in classes, in the order of their places
unfoldable pub built_in_table : List Class
built_in_table = plain_classes ++ language_throwables ++ nucleus_classes ++ nucleus_exceptions

-- what a computed case opens
unfoldable pub opened_built_in : Unit {0}
unfolding object_class string_class builder_class throwable_class exception_class runtime_exception arithmetic_exception null_pointer_exception index_exception array_index_exception string_index_exception negative_size_exception class_cast_exception array_store_exception error_class machine_error out_of_memory_error stack_overflow_error portal_class zero_class memory_class copy_exception ended_exception revoked_exception dropped_exception range_exception refused_exception built_in_count method static_method text_field built_in_class class_below constructors throwable_below array_class object_methods string_methods builder_methods zero_methods memory_methods throwable_itself plain_classes language_throwables nucleus_classes nucleus_exceptions throwable_classes built_in_table
opened_built_in = tt
